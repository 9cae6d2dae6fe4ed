use Rattle.std.proofs.Common.{sym, subst}
use Rattle.spg_cover.specs.Vacuum.{IsPlaceOf}
use Rattle.spg_vacuum.specs.Listing.{Listing}
use Rattle.spg_vacuum.proofs.Places.{in_drop}
use Rattle.spg_vacuum.proofs.pending.Pending.first.Goals as goal

pub returns-clause-high : goal.returns-clause-high
returns-clause-high c = λ p a. c.self.invariant.high p (in_drop c.self.inside.done c.self.inside.places.items p (subst (λ (l : Listing). IsPlaceOf l.todo p) (sym c.self.view_is) a))
