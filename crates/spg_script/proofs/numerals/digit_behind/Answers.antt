use Rattle.std.proofs.Common.{refl}
use Rattle.std.proofs.lemmas.Fmt.{decimal_digit}
use Rattle.spg_script.proofs.numerals.digit_behind.Goals as goal

pub returns : goal.returns
returns c = rw (decimal_digit c.args.digit c.requires) refl
