use Rattle.spg_app.proofs.RunEnds.{run_ended}
use Rattle.spg_app.proofs.program.run_script.Goals as goal

pub returns : goal.returns
returns g c = run_ended c.args.line.limit _ _ _ c.in-Ok.script _ _ c.in-Ok.ensures.script c.in-Ok.ensures.unfailed c.run_by_class.ensures
