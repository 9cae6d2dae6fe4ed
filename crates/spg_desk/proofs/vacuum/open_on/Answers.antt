use Rattle.spg_desk.proofs.Sweeping.{none_sweeps}
use Rattle.spg_desk.proofs.vacuum.open_on.Goals as goal

pub returns-clause-memory : goal.returns-clause-memory
returns-clause-memory g c = λ wanting. none_sweeps g.O.OpClass.meaning c.args.bare.now c.journal-journal.ensures.whole (λ by is. (let clash = (c.open_vacuum-opened.ensures.open by).1 is in (cc)))
