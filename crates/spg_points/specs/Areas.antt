-- Areas of the plane, and which of them hold a point that meets conditions.
use Rattle.std.specs.Prelude.{ℕ, ℤ, pos, ◌+ℤ◌, ◌-ℤ◌, int_le, Bool, ◌&&◌, List}
use Rattle.std.specs.List.{list_all}
use Rattle.std.specs.Int.{int_max, int_min}
use Rattle.spg_base.specs.declared.point.Point.{Point}
use Rattle.spg_base.specs.declared.point.PointCond.{PointCond}
use Rattle.spg_base.specs.declared.point.PointCond.TheVariants.{Eq, Left, Right, Below, Above, Inside}
use Rattle.spg_base.specs.Points.{is_between}
use Rattle.spg_opclass.specs.Indices.{kept_below}
use Rattle.spg_points.specs.declared.area.Area.{Area}
use Rattle.spg_points.specs.Codec.{lowest, highest}

-- the point is one of the area
abbrev pub in_area : Area → Point → Bool
in_area a p = is_between a.x_low p.x a.x_high && is_between a.y_low p.y a.y_high

-- every point
abbrev pub whole : Area
whole = record { x_low = lowest; x_high = highest; y_low = lowest; y_high = highest }

-- the points of which a condition holds
abbrev pub area_of : PointCond → Area
area_of (Eq q) = record { x_low = q.x; x_high = q.x; y_low = q.y; y_high = q.y }
area_of (Left x) = record { x_low = lowest; x_high = x -ℤ pos 1; y_low = lowest; y_high = highest }
area_of (Right x) = record { x_low = x +ℤ pos 1; x_high = highest; y_low = lowest; y_high = highest }
area_of (Below y) = record { x_low = lowest; x_high = highest; y_low = lowest; y_high = y -ℤ pos 1 }
area_of (Above y) = record { x_low = lowest; x_high = highest; y_low = y +ℤ pos 1; y_high = highest }
area_of (Inside x1 y1 x2 y2) = record { x_low = x1; x_high = x2; y_low = y1; y_high = y2 }

-- two ranges have a number in common
unfoldable pub ranges_meet : ℤ → ℤ → ℤ → ℤ → Bool
ranges_meet a_low a_high b_low b_high = int_le (int_max a_low b_low) (int_min a_high b_high)

-- two areas have a point in common
abbrev pub areas_meet : Area → Area → Bool
areas_meet a b = ranges_meet a.x_low a.x_high b.x_low b.x_high && ranges_meet a.y_low a.y_high b.y_low b.y_high

-- each condition, taken by itself, is met by some point of the area
unfoldable pub is_wanted : Area → List PointCond → Bool
is_wanted area conds = list_all (λ c. areas_meet area (area_of c)) conds

-- the nodes below a number whose areas are wanted, in order
abbrev pub kept_by : (ℕ → Area) → List PointCond → ℕ → List ℕ
kept_by areas conds count = kept_below (λ node. is_wanted (areas node) conds) count
