use Rattle.std.proofs.Common.{arith}
use Rattle.std.proofs.lemmas.List.{take_rest}
use Rattle.spg_script.proofs.TextLemmas.{reads_on, too_long}
use Rattle.spg_script.proofs.texts.push_plain.Goals as goal

pub returns-then-plain-len-clause-none : goal.returns-then-plain-len-clause-none
returns-then-plain-len-clause-none c = too_long c.args.text.now c.args.bytes.now c.plain_before-plain.result c.plain_before-plain.ensures.value (omega (arith, c.if-plain-len.true, c.len.ensures))

pub returns-clause-some : goal.returns-clause-some
returns-clause-some c =
    let plain = c.plain_before-plain.result in
    rw (take_rest c.args.bytes.now plain)
    (reads_on c.args.text.now c.args.bytes.now plain c.plain_before-plain.ensures.value c.plain_before-plain.ensures.within c.requires (omega (arith, c.if-plain-len.false, c.len.ensures)) c.extend.new.self c.in_ok-extend.ensures.ok)
