use Rattle.std.proofs.Common.{◌<◌, length, refl, ap, arith}
use Rattle.std.proofs.lemmas.List.{length-drop}
use Rattle.spg_vacuum.specs.declared.pending.Pending.TheInside.{Inside}
use Rattle.spg_vacuum.specs.Listing.{Listing}
use Rattle.spg_vacuum.proofs.PendingSet.{pending_less}
use Rattle.spg_vacuum.proofs.pending.Pending.pop.Goals as goal

pub invariant_of-self : goal.invariant_of-self
invariant_of-self c =
    let p2 : Inside = record { places = c.pop.new.self; done = c.self.inside.done; listed = c.remove.new.self } in
    let some : 0 < length c.args.self.now.todo = c.requires in
    let e = ap (λ (l : Listing). length l.todo) c.self.view_is in
    let d = length-drop c.self.inside.done c.self.inside.places.items in
    pending_less c.self.inside p2 c.in-Some.place c.self.invariant refl c.in-Some.ensures.items c.remove.ensures.updates (omega arith)
