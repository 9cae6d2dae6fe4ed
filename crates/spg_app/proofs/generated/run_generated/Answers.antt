use Rattle.spg_app.proofs.LoadEnds.{gen_ended}
use Rattle.spg_app.proofs.generated.run_generated.Goals as goal

pub returns : goal.returns
returns g c = gen_ended c.args.load _ c.in-Ok.script _ _ c.requires c.in-Ok.ensures c.load_by_class.ensures
