use Rattle.std.proofs.Common.{◌≡◌, take}
use Rattle.spg_cover.specs.Swept.{found_on}
use Rattle.spg_chain.proofs.targets.places_on.Given as goal

abbrev pub invariant-loop-index : goal.invariant-loop-index
invariant-loop-index l = l.places ≡ found_on l.since (take l.index l.page.tuples)
