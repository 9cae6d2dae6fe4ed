-- Quad trees.
use Rattle.std.specs.Prelude.{ℕ, ◌==◌, ℤ, pos, ◌+ℤ◌, ◌-ℤ◌, ◌≤ℤ◌, ◌<ℤ◌, int_le, Bool, if◌then◌else◌, List, [], ◌∷◌, map, length, sum_by}
use Rattle.std.specs.Int.{div_ceil}
use Rattle.spg_base.specs.declared.point.Point.{Point}
use Rattle.spg_base.specs.declared.point.PointCond.{PointCond}
use Rattle.spg_opclass.specs.Meaning.{Meaning}
use Rattle.spg_points.specs.declared.area.Area.{Area}
use Rattle.spg_points.specs.Codec.{lowest, highest, bytes_of_point, point_of}
use Rattle.spg_points.specs.Heights.{raised, lowered}
use Rattle.spg_points.specs.Areas.{whole}
use Rattle.spg_points.specs.PointClass.{PointClass, meaning_of}
use Rattle.spg_quad.specs.declared.class.QuadRecon.{QuadRecon}
use Rattle.spg_quad.specs.declared.quadrant.QuadNodes.{QuadNodes}

-- the node of a point below a centroid: 0 right and above, 1 right and below, 2 left and below,
-- 3 left and above; a point level with the centroid counts as right of it, right of the centroid
-- as above it, and left of the centroid as below it
unfoldable pub quadrant : Point → Point → ℕ
quadrant c p = if int_le c.x p.x then (if int_le c.y p.y then 0 else 1) else (if int_le p.y c.y then 2 else 3)

-- the points of a node below a centroid
unfoldable pub region : Point → ℕ → Area
region c node =
    if node == 0 then record { x_low = c.x; x_high = highest; y_low = c.y; y_high = highest }
    else if node == 1 then record { x_low = c.x; x_high = highest; y_low = lowest; y_high = c.y -ℤ pos 1 }
    else if node == 2 then record { x_low = lowest; x_high = c.x -ℤ pos 1; y_low = lowest; y_high = c.y }
    else record { x_low = lowest; x_high = c.x -ℤ pos 1; y_low = c.y +ℤ pos 1; y_high = highest }

-- the points that a node of a tuple admits
unfoldable pub nodes_area : QuadNodes → ℕ → Area
nodes_area nodes node = if nodes.all_same then whole else region nodes.centroid node

-- the ceiling of the average, which is that of the heights above the lowest coordinate, lowered
unfoldable pub ceiling_by : (List ℕ → ℤ) → List (List ℕ) → ℤ
ceiling_by f rests = lowered (div_ceil (sum_by (λ r. raised (f r)) rests) (length rests))

-- by how much the coordinates exceed z, added up
abbrev pub excess : (List ℕ → ℤ) → ℤ → List (List ℕ) → ℤ
excess f z [] = pos 0
excess f z (r ∷ rests) = (f r -ℤ z) +ℤ excess f z rests

-- z is the least whole number that the coordinates do not exceed on the average
pub record IsCeiling (f : List ℕ → ℤ) (rests : List (List ℕ)) (z : ℤ) : Type 0 where
  pub not_exceeded : excess f z rests ≤ℤ pos 0
  pub least : pos 0 <ℤ excess f (z -ℤ pos 1) rests

-- in each coordinate the ceiling of the average
unfoldable pub centroid_of : List (List ℕ) → Point
centroid_of rests = record { x = ceiling_by (λ r. (point_of r).x) rests; y = ceiling_by (λ r. (point_of r).y) rests }

-- the prefix is a centroid, the nodes are its quadrants
abbrev pub quad : PointClass QuadRecon
quad = record {
  start = record {};
  down = λ recon. recon;
  prefix_length = 8;
  node_count = 4;
  area = λ _ prefix node. region (point_of prefix) node;
  side = λ _ prefix p. quadrant (point_of prefix) p;
  prefix_for = λ _ rests. bytes_of_point (centroid_of rests);
  nodes_for = λ _ rests. map (λ r. quadrant (centroid_of rests) (point_of r)) rests;
}

abbrev pub quad_meaning : Meaning Point QuadRecon PointCond
quad_meaning = meaning_of quad
