use Rattle.std.proofs.Common.{◌≡◌, take}
use Rattle.spg_vacuum.specs.Listing.{with_listed}
use Rattle.spg_vacuum.proofs.pending.Pending.list_all.Given as goal

abbrev pub invariant-loop-place : goal.invariant-loop-place
invariant-loop-place l = l.self ≡ with_listed l.fn.self (take l.place-index l.places)
