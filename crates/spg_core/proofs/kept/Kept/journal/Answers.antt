use Rattle.std.proofs.Common.{refl, subst}
use Rattle.spg_core.specs.Kept.{fields_of}
use Rattle.spg_core.specs.Calls.{IsWhole}
use Rattle.spg_core.proofs.kept.Kept.journal.Goals as goal

pub returns-clause-whole : goal.returns-clause-whole
returns-clause-whole g c = subst (IsWhole g.O.OpClass.meaning) c.self.view_is (fields_of c.self.inside, refl, c.self.invariant.0, c.self.invariant.1)
