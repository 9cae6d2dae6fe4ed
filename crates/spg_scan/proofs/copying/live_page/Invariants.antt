use Rattle.std.proofs.Common.{◌≡◌, take}
use Rattle.spg_forest.specs.Links.{leaves_on}
use Rattle.spg_scan.specs.Items.{rows_of}
use Rattle.spg_scan.specs.Reading.{live_leaves}
use Rattle.spg_scan.specs.Copying.{rests_of}
use Rattle.spg_scan.proofs.copying.live_page.Given as goal

abbrev pub invariant-loop-index : goal.invariant-loop-index
invariant-loop-index g l = (l.rows ≡ rows_of (live_leaves l.table (leaves_on (take l.index l.page.tuples)))) × (l.rests ≡ rests_of (live_leaves l.table (leaves_on (take l.index l.page.tuples))))
