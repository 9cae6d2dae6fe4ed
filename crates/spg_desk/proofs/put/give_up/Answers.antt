use Rattle.spg_desk.proofs.Sections.{gave_late}
use Rattle.spg_desk.proofs.put.give_up.Goals as goal

pub returns-clause-late : goal.returns-clause-late
returns-clause-late g c = gave_late c.args.bare.now c.abandon.new.self c.args.seat c.args.why c.requires.inserting c.abandon.ensures.up c.pages-pages.ensures.late
