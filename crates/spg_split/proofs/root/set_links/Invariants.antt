use Rattle.std.proofs.Common.{◌≡◌, ◌-◌, ◌++◌, length, take}
use Rattle.spg_forest.specs.Tuples.{Inner}
use Rattle.spg_forest.specs.Pages.{tuple_on, with_tuple}
use Rattle.spg_forest.specs.Sheets.{with_tuples}
use Rattle.spg_page.specs.Reads.{frame_in}
use Rattle.spg_descend.specs.BareNodes.{bare}
use Rattle.spg_split.proofs.root.set_links.Given as goal

abbrev pub invariant-loop-node : goal.invariant-loop-node
invariant-loop-node l = l.page ≡ with_tuples l.fn.page (with_tuple l.fn.page.tuples l.at (Inner (frame_in (tuple_on l.fn.page.tuples l.at)) (take l.node l.links ++ bare (length l.links - l.node))))
