use Rattle.spg_core.proofs.Inserts.{class_guides}
use Rattle.spg_core.proofs.kept.Kept.insert_step.Goals as goal

pub go_on-requires-clause-guided : goal.go_on-requires-clause-guided
go_on-requires-clause-guided g c = class_guides g.O.OpClass.meaning c.args.self.now.table _ c.args.class c.requires.inserting
