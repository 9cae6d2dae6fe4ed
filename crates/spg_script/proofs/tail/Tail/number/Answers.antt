use Rattle.std.proofs.Common.{◌≡◌, ◌≤◌, length, drop, sym, ap, rules, arith, length-append, length-drop}
use Rattle.std.specs.Fmt.{decimal}
use Rattle.std.proofs.lemmas.Fmt.{length-decimal-le}
use Rattle.spg_script.proofs.tail.Tail.number.Goals as goal

pub write_digits-self-inside-requires : goal.write_digits-self-inside-requires
write_digits-self-inside-requires c =
    let short : length (decimal c.args.n) ≤ 20 = search (rules, length-decimal-le 20) in
    let begun : length c.args.self.now ≡ length (drop c.self.inside.begin c.self.inside.bytes) = sym (ap length c.self.view_is) in
    grind (arith, short, begun, length-drop)

pub returns-clause-short : goal.returns-clause-short
returns-clause-short c =
    let short : length (decimal c.args.n) ≤ 20 = search (rules, length-decimal-le 20) in
    grind (arith, short, c.write_digits-self-inside.ensures.written, length-append)
