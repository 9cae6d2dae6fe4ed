use Rattle.std.proofs.Common.{ap, sym, ◌∙◌}
use Rattle.spg_rows.specs.Rows.{state_of}
use Rattle.spg_seats.specs.Slots.{kept_key}
use Rattle.spg_core.proofs.Slots.{past_is}
use Rattle.spg_core.proofs.kept.Kept.rows.Goals as goal

pub returns-clause-states : goal.returns-clause-states
returns-clause-states g c = λ row. c.self.invariant.0.tells.states row ∙ ap (state_of row) (sym (past_is c.self.inside c.args.self.now c.self.view_is 0))

pub returns-clause-keys : goal.returns-clause-keys
returns-clause-keys g c = λ row. c.self.invariant.0.tells.keys row ∙ ap (kept_key row) (sym (past_is c.self.inside c.args.self.now c.self.view_is 0))
