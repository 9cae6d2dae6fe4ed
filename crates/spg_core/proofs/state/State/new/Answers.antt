use Rattle.spg_core.proofs.Classed.{new_classed}
use Rattle.spg_core.proofs.state.State.new.Goals as goal

pub returns-clause-new : goal.returns-clause-new
returns-clause-new g c = new_classed c.args.class c.args.limit c.in_ok-new.field-0 c.in_ok-new.ensures
