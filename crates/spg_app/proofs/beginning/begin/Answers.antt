use Rattle.spg_app.proofs.Begins.{new_begins, new_refused, loaded_begins}
use Rattle.spg_app.proofs.beginning.begin.Goals as goal

pub returns-in_ok-new-in-None : goal.returns-in_ok-new-in-None
returns-in_ok-new-in-None g c = new_begins g.O.OpClass.meaning g.O.OpClass.code_number c.args.line.limit c.args.line.from _ _ c.in-None.is c.in_ok-new-in-None.ensures.new

pub returns-in_err-new-in-None : goal.returns-in_err-new-in-None
returns-in_err-new-in-None g c = new_refused g.O.OpClass.meaning g.O.OpClass.code_number c.args.line.limit c.args.line.from _ c.from_residual.result c.in-None.is c.from_residual.ensures.0 c.from_residual.ensures.1

pub returns-in-Some : goal.returns-in-Some
returns-in-Some g c =
    loaded_begins g.O.OpClass.meaning g.O.OpClass.code_number c.args.line.limit c.args.line.from c.in-Some.name _ _ _ _ c.load.result c.in-Some.is c.load.ensures.value c.load.ensures.made c.load.ensures.stays c.load.ensures.cause
