use Rattle.std.proofs.Common.{sym, arith}
use Rattle.spg_script.proofs.Values.{too_long}
use Rattle.spg_script.proofs.numbers.number.Goals as goal

pub returns-in_default : goal.returns-in_default
returns-in_default c = sym (too_long c.args.bytes.now (omega (arith, c.if-bytes-gt-MOST_DIGITS.true)))
