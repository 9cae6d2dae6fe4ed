use Rattle.std.proofs.Common.{◌≡◌, ◌++◌, map, take}
use Rattle.spg_opclass.specs.InPlace.{shown}
use Rattle.spg_forest.specs.Classes.{down_of}
use Rattle.spg_forest.specs.Pages.{tuple_on}
use Rattle.spg_forest.specs.Sheets.{links}
use Rattle.spg_forest.specs.Walk.{children_at}
use Rattle.spg_scan.specs.Items.{hold_all, recon_at}
use Rattle.spg_scan.specs.Held.{item_of}
use Rattle.spg_scan.proofs.children.add_children.Given as goal

abbrev pub invariant-loop-node : goal.invariant-loop-node
invariant-loop-node g l =
    map item_of l.items.items ≡ map item_of l.initial.items.items ++ hold_all (children_at (down_of g.O.OpClass.meaning) (recon_at (map item_of l.initial.items.items) l.item) (shown l.tuple) (links (tuple_on l.page.tuples l.offset)) (take l.node-index l.node-items))
