use Rattle.std.proofs.Common.{◌≡◌}
use Rattle.spg_base.specs.declared.point.Point.{Point}
use Rattle.spg_rows.specs.History.{History}
use Rattle.spg_tree.specs.Table.{sheets_of}
use Rattle.spg_near.specs.Left.{near_left}
use Rattle.spg_near.specs.Moment.{IsOpenNow}
use Rattle.spg_near.proofs.moment.read_all.Given as goal

abbrev pub invariant-loop-item : goal.invariant-loop-item
invariant-loop-item g l =
    ((past : History _ Point _ _) → IsOpenNow g.O.OpClass.meaning g.O.NearClass.box_below l.seat past l.table l.rows l.fn.near → IsOpenNow g.O.OpClass.meaning g.O.NearClass.box_below l.seat past l.table l.rows l.near)
    × (l.near.target ≡ l.fn.near.target) × (l.near.limit ≡ l.fn.near.limit)

abbrev pub decreases-loop-item : goal.decreases-loop-item
decreases-loop-item g l = near_left (sheets_of l.table) l.near
