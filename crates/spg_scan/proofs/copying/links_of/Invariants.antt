use Rattle.std.proofs.Common.{◌≡◌, take}
use Rattle.spg_forest.specs.Pages.{tuple_on}
use Rattle.spg_forest.specs.Sheets.{links}
use Rattle.spg_scan.proofs.copying.links_of.Given as goal

abbrev pub invariant-loop-node : goal.invariant-loop-node
invariant-loop-node l = l.copied ≡ take l.node (links (tuple_on l.page.tuples l.offset))
