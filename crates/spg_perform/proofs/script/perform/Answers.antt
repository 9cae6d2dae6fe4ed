use Rattle.spg_perform.proofs.Beginning.{script_can, performs}
use Rattle.spg_perform.proofs.script.perform.Goals as goal

pub parts-state-requires-clause-can : goal.parts-state-requires-clause-can
parts-state-requires-clause-can g c = λ lives outlives. script_can g.O.Spoken.speech c.args.script.now c.parts-blocks.result.now c.parts-blocks.ensures.written c.parts-blocks.ensures.parts c.requires.of_class

pub returns-clause-ok : goal.returns-clause-ok
returns-clause-ok g c =
    performs g.O.OpClass.meaning g.O.Spoken.speech g.O.OpClass.code_number c.args.script.now c.parts-blocks.result.now c.args.state c.parts-state.result
    (g.M.Images.held c.args.images.now) (g.M.Images.held c.parts-state.new.images) (g.M.Images.faults c.args.images.now) (g.M.Images.faults c.parts-state.new.images)
    c.in-Ok.book.records c.parts-state.new.book.records c.into_records.result
    c.parts-blocks.ensures.parts c.in-Ok.ensures.records c.into_records.ensures c.journal.ensures.right c.requires.closed c.parts-state.ensures
