use Rattle.std.proofs.Common.{sym}
use Rattle.spg_inserts.proofs.Searches.{no_opening}
use Rattle.spg_inserts.proofs.inserts.opening_key.Goals as goal

pub returns-in_default : goal.returns-in_default
returns-in_default g c = sym (no_opening c.args.event.now 0 c.in_default.not-OpenInsert).1
