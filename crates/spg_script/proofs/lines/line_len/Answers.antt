use Rattle.std.proofs.Common.{sym, subst}
use Rattle.memchr.specs.Find.{IsFirstByte, is_byte}
use Rattle.spg_script.proofs.Searches.{found_at, not_found}
use Rattle.spg_script.proofs.lines.line_len.Goals as goal

pub returns-in-Some-clause-value : goal.returns-in-Some-clause-value
returns-in-Some-clause-value c = sym (found_at 10 c.args.bytes.now c.in-Some.at (subst (IsFirstByte (is_byte 10) c.args.bytes.now) c.in-Some.is c.memchr.ensures))

pub returns-in-None-clause-value : goal.returns-in-None-clause-value
returns-in-None-clause-value c = sym (not_found 10 c.args.bytes.now (subst (IsFirstByte (is_byte 10) c.args.bytes.now) c.in-None.is c.memchr.ensures))
