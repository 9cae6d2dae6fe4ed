use Rattle.std.proofs.Common.{refl}
use Rattle.spg_app.proofs.Standbys.{mirrored_ended}
use Rattle.spg_app.proofs.standby.run_standby.Goals as goal

pub mirror_by_class-requires-clause-lane : goal.mirror_by_class-requires-clause-lane
mirror_by_class-requires-clause-lane g c κs within = c.in-Ok.ensures.sequence.is_script.commands

pub returns-in-Err : goal.returns-in-Err
returns-in-Err g c = (c.in-Err.ensures.status, refl)

pub returns : goal.returns
returns g c = mirrored_ended c.args.line.limit c.args.line.lag _ _ _ _ _ c.in-Ok.sequence _ _ c.in-Ok.ensures.sequence c.in-Ok.ensures.unfailed c.mirror_by_class.ensures
