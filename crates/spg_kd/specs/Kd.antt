-- K-d trees.
use Rattle.std.specs.Prelude.{ℕ, ◌+◌, ◌++◌, ◌/◌, ◌==◌, ℤ, int_lt, Bool, false, not, if◌then◌else◌, List, [], ◌∷◌, map, length, count_by, nat_lt, nat_le, slice_index}
use Rattle.spg_base.specs.declared.point.Point.{Point}
use Rattle.spg_base.specs.declared.point.PointCond.{PointCond}
use Rattle.spg_opclass.specs.Meaning.{Meaning}
use Rattle.spg_points.specs.declared.area.Area.{Area}
use Rattle.spg_points.specs.Codec.{point_of, bytes_of_coordinate, coordinate_at}
use Rattle.spg_points.specs.Heights.{raised, lowered}
use Rattle.spg_points.specs.Areas.{whole}
use Rattle.spg_points.specs.PointClass.{PointClass, meaning_of}
use Rattle.spg_kd.specs.declared.class.KdRecon.{KdRecon}
use Rattle.spg_kd.specs.declared.half.KdNodes.{KdNodes}

-- the coordinate that a level looks at: x where it is odd, else y
abbrev pub level_of : Bool → Point → ℤ
level_of odd p = if odd then p.x else p.y

-- the points of a node where the plane is divided at a coordinate: at most it, or at least it
unfoldable pub half : Bool → ℤ → ℕ → Area
half odd cut node =
    if odd then (if node == 0 then record whole { x_high = cut } else record whole { x_low = cut })
    else (if node == 0 then record whole { y_high = cut } else record whole { y_low = cut })

-- the node to which a point goes: node 0 where its coordinate is less
unfoldable pub half_for : Bool → ℤ → Point → ℕ
half_for odd cut p = if int_lt (level_of odd p) cut then 0 else 1

-- the points that a node of a tuple admits
unfoldable pub nodes_area : KdNodes → ℕ → Area
nodes_area nodes node = if nodes.all_same then whole else half nodes.odd nodes.cut node

-- numbers in order
unfoldable pub put_in : ℕ → List ℕ → List ℕ
put_in x [] = x ∷ []
put_in x (y ∷ ys) = if nat_le x y then x ∷ y ∷ ys else y ∷ put_in x ys

unfoldable pub in_order : List ℕ → List ℕ
in_order [] = []
in_order (x ∷ xs) = put_in x (in_order xs)

-- the number in the middle of the order: at index half the length, from 0
unfoldable pub median_of : List ℕ → ℕ
median_of ks = slice_index (in_order ks) (length ks / 2)

-- the place of a number in the order of all, from 0: so many are less, or equal and among those
-- in front of it
abbrev pub place : List ℕ → List ℕ → ℕ → ℕ
place all front k = count_by (λ j. nat_lt j k) all + count_by (λ j. j == k) front

-- the nodes of numbers that follow those in front: those placed below the middle go to node 0
unfoldable pub halves : List ℕ → List ℕ → List ℕ → List ℕ
halves all front [] = []
halves all front (k ∷ ks) = (if nat_lt (place all front k) (length all / 2) then 0 else 1) ∷ halves all (front ++ k ∷ []) ks

-- the coordinates of rests, from the lowest
abbrev pub levels : Bool → List (List ℕ) → List ℕ
levels odd rests = map (λ r. raised (level_of odd (point_of r))) rests

-- the prefix is a coordinate, the nodes are the two halves of the plane
abbrev pub kd : PointClass KdRecon
kd = record {
  start = record { odd = false };
  down = λ recon. record { odd = not recon.odd };
  prefix_length = 4;
  node_count = 2;
  area = λ recon prefix node. half recon.odd (coordinate_at prefix 0) node;
  side = λ recon prefix p. half_for recon.odd (coordinate_at prefix 0) p;
  prefix_for = λ recon rests. bytes_of_coordinate (lowered (median_of (levels recon.odd rests)));
  nodes_for = λ recon rests. halves (levels recon.odd rests) [] (levels recon.odd rests);
}

abbrev pub kd_meaning : Meaning Point KdRecon PointCond
kd_meaning = meaning_of kd
