use Rattle.std.proofs.Common.{subst}
use Rattle.spg_core.specs.Calls.{IsWhole}
use Rattle.spg_core.proofs.Classed.{whole_classed}
use Rattle.spg_core.proofs.state.State.journal.Goals as goal

pub returns-clause-whole : goal.returns-clause-whole
returns-clause-whole g c = subst (IsWhole g.O.OpClass.meaning) c.self.view_is (whole_classed c.self.inside.class g.O.OpClass.meaning c.self.inside.bare c.journal.ensures.whole)
