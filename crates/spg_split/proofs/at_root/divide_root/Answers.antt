use Rattle.spg_split.proofs.Causes.{noted, rise_noted}
use Rattle.spg_split.specs.Causes.{root_bytes, root_in_one}
use Rattle.spg_split.proofs.at_root.divide_root.Goals as goal

pub returns-clause-cause : goal.returns-clause-cause
returns-clause-cause g c = noted (root_bytes g.O.OpClass.meaning c.args.table.now c.args.descent.now) c.args.descent.now c.note.new.descent c.in_ok-way-in-Root.way c.note.result c.in_ok-way-in-Root.ensures.cause c.note.ensures

pub returns-clause-rise : goal.returns-clause-rise
returns-clause-rise g c = rise_noted g.O.OpClass.meaning (root_in_one g.O.OpClass.meaning c.args.table.now c.args.descent.now) c.args.table.now c.divide_leaves.new.table c.args.descent.now c.note.new.descent c.in_ok-way-in-Root.way c.note.result
    c.in_ok-way-in-Root.ensures.rise c.in_ok-way-in-Root.ensures.ok c.note.ensures

pub returns-clause-noted : goal.returns-clause-noted
returns-clause-noted g c = (c.in_ok-way-in-Root.way, c.in_ok-way-in-Root.ensures.way, c.note.ensures)
