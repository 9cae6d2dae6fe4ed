use Rattle.std.proofs.Common.{◌≡◌, take}
use Rattle.spg_forest.specs.Pages.{tuple_on}
use Rattle.spg_forest.specs.Sheets.{links}
use Rattle.spg_cover.specs.Vacuum.{places_of}
use Rattle.spg_vacuum.proofs.place.node_places.Given as goal

abbrev pub invariant-loop-node : goal.invariant-loop-node
invariant-loop-node l = l.places ≡ places_of (take l.node (links (tuple_on l.page.tuples l.offset)))
