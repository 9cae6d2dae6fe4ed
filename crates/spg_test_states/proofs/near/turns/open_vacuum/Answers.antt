use Rattle.std.proofs.Common.{refl}
use Rattle.spg_rows.specs.declared.event.Event.TheVariants.{OpenVacuum}
use Rattle.spg_test_states.proofs.Others.{logs}
use Rattle.spg_test_states.proofs.near.turns.open_vacuum.Goals as goal

pub returns-in-Ok : goal.returns-in-Ok
returns-in-Ok g c = logs g.O.OpClass.meaning c.args.by c.args.state.now c.open_vacuum.new.self (OpenVacuum c.args.by) _ refl c.in-Ok.ensures.ok.0
