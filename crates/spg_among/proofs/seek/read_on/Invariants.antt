use Rattle.std.proofs.Common.{◌≡◌}
use Rattle.spg_base.specs.declared.point.Point.{Point}
use Rattle.spg_tree.specs.Table.{sheets_of}
use Rattle.spg_core.specs.Seen.{Seen}
use Rattle.spg_near.specs.Left.{near_left}
use Rattle.spg_near.specs.NearRest.{IsNearAtRest}
use Rattle.spg_among.specs.Among.{IsAmong}
use Rattle.spg_among.proofs.seek.read_on.Given as goal

abbrev pub invariant-loop-item : goal.invariant-loop-item
invariant-loop-item g l =
    ((opened : Seen _ Point _ _) → IsAmong g.O.OpClass.meaning l.seat opened l.fn.state l.fn.near → IsAmong g.O.OpClass.meaning l.seat opened l.state l.near)
    × (l.near.target ≡ l.fn.near.target) × (l.near.limit ≡ l.fn.near.limit)
    × (g.B.Between.left_of l.between ≡ g.B.Between.left_of l.fn.between)
    × (l.state ≡ l.fn.state)
    × (g.B.Between.left_of l.fn.between ≡ 0 → IsNearAtRest g.O.OpClass.meaning g.O.NearClass.box_below (sheets_of l.fn.state.table) l.fn.near → IsNearAtRest g.O.OpClass.meaning g.O.NearClass.box_below (sheets_of l.state.table) l.near)

abbrev pub decreases-loop-item : goal.decreases-loop-item
decreases-loop-item g l = near_left (sheets_of l.fn.state.table) l.near
