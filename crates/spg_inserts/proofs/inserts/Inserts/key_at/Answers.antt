use Rattle.std.proofs.Common.{sym, ◌∙◌}
use Rattle.spg_inserts.proofs.Keys.{key_none}
use Rattle.spg_inserts.proofs.Searches.{found_key}
use Rattle.spg_inserts.proofs.inserts.Inserts.key_at.Goals as goal

pub returns-in-Some : goal.returns-in-Some
returns-in-Some g c = c.opened_with.ensures ∙ found_key c.args.self.now c.args.row c.args.to c.in-Some.at c.in-Some.ensures.some

pub returns-in-None : goal.returns-in-None
returns-in-None g c = sym (key_none c.args.row c.args.self.now c.args.to c.in-None.ensures.none)
