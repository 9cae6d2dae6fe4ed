use Rattle.std.proofs.Common.{◌+◌, refl, ◌∙◌, arith}
use Rattle.std.proofs.lemmas.List.{take_rest}
use Rattle.spg_script.proofs.PrintLemmas.{all_plain, one_escaped}
use Rattle.spg_script.proofs.spelling.push_run.Goals as goal

pub returns-then-plain-bytes-clause-added : goal.returns-then-plain-bytes-clause-added
returns-then-plain-bytes-clause-added c =
    let plain = c.plain_before-plain.result in
    rw (take_rest c.args.bytes.now plain) (all_plain c.args.bytes.now c.args.text.now plain c.plain_before-plain.ensures.value c.extend.new.self c.in_ok-extend.ensures.ok)

pub returns-clause-added : goal.returns-clause-added
returns-clause-added c =
    let plain = c.plain_before-plain.result in
    rw (take_rest c.args.bytes.now (plain + 1))
    (one_escaped c.args.bytes.now c.args.text.now plain c.plain_before-plain.ensures.value c.extend.new.self c.extend-2.new.self c.in_ok-extend.ensures.ok (omega (arith, c.if-plain-bytes.false))
    (c.in_ok-extend-2.ensures.ok ∙ rw (c.hex_digit.ensures, c.hex_digit-2.ensures) refl))
