-- The laws of the quad class.
use Rattle.std.proofs.Common.{◌≡◌, ◌≢◌, ℕ, zero, suc, cond, ◌+◌, ◌-◌, ◌*◌, ◌<◌, ◌≤◌, ◌⊎◌, ℤ, pos, Bool, true, false, ◌&&◌, List, [], ◌∷◌, length, get_or, take, Option, Some, None, refl, sym, ◌∙◌, ap, subst, inl, inr, arith, rules, sum_by, lit<, lit≤, eqb, ◌+ℤ◌, ◌-ℤ◌, ◌≤ℤ◌}
use Rattle.std.specs.Prelude.{int_le, ◌==◌, All, map, slice_get}
use Rattle.std.specs.Option.{option_map}
use Rattle.std.specs.Int.{div_ceil}
use Rattle.std.proofs.lemmas.Option.{same_Some, slice_get-map}
use Rattle.std.proofs.lemmas.List.{get_or-map, length-map}
use Rattle.std.proofs.lemmas.Int.{ints}
use Rattle.std.proofs.lemmas.Bool.{cases_lt, cases_eq}
use Rattle.std.proofs.lemmas.List.Elements.{All-map, All-weaker}
use Rattle.std.proofs.lemmas.Grind.{common_steps}
use Rattle.spg_base.specs.declared.point.Point.{Point}
use Rattle.spg_base.specs.declared.point.PointCond.{PointCond}
use Rattle.spg_base.specs.Points.{is_between}
use Rattle.spg_opclass.specs.declared.view.InnerView.{InnerView}
use Rattle.spg_opclass.specs.Included.{BareLaw, has_room}
use Rattle.spg_opclass.specs.Exact.{KeepsExactly}
use Rattle.spg_opclass.specs.Laws.{MatchLaw, AddLaw, SplitLaw, PickLaw, ApartLaw, KeptLaw, PlainLaw, CodeLaw}
use Rattle.spg_points.specs.declared.area.Area.{Area}
use Rattle.spg_points.specs.Codec.{lowest, highest, is_coordinate, is_point, point_of, bytes_of_point}
use Rattle.spg_points.specs.Heights.{raised, lowered}
use Rattle.spg_points.specs.Areas.{in_area}
use Rattle.spg_points.proofs.PointLemmas.{raised_is, lowered_le, lowered_above, between_from, between_to, and_true, true_and, is_point-point_of, point_of-bytes_of_point, length-bytes_of_point}
use Rattle.spg_points.proofs.RestLemmas.{at_part}
use Rattle.spg_points.proofs.ClassLaws.{IsPointClass, IsSound, matches_of, adds_of, splits_of, picks_of, apart_of, exact_of, keeps_of, plain_of, codes_of, bare_of}
use Rattle.spg_quad.specs.declared.class.QuadRecon.{QuadRecon}
use Rattle.spg_quad.specs.Quad.{quadrant, region, ceiling_by, centroid_of, quad, quad_meaning}
use Rattle.spg_quad.specs.QuadLemmas.{by_quadrant, quadrant_below, in_region, all_ceiling, some_ceiling, is_point-centroid_of}

-- the i-th of mapped values
part_node : (f : List ℕ → ℕ) (rests : List (List ℕ)) (i : ℕ) (bytes : List ℕ) (node : ℕ) → slice_get rests i ≡ Some bytes → slice_get (map f rests) i ≡ Some node → f bytes ≡ node
part_node f rests i bytes node h k = same_Some (f bytes) node (sym (ap (option_map f) h) ∙ sym (slice_get-map f rests i) ∙ k)

-- what a quadrant says of each coordinate
right_half : (c p : Point) → quadrant c p < 2 → int_le c.x p.x ≡ true
right_half c p = by_quadrant c p (λ n. n < 2 → int_le c.x p.x ≡ true) (λ s t h. s) (λ s t h. s) (λ s t h. absurd (omega arith)) (λ s t h. absurd (omega arith))

left_half : (c p : Point) → 2 ≤ quadrant c p → int_le c.x p.x ≡ false
left_half c p = by_quadrant c p (λ n. 2 ≤ n → int_le c.x p.x ≡ false) (λ s t h. absurd (omega arith)) (λ s t h. absurd (omega arith)) (λ s t h. s) (λ s t h. s)

upper_right : (c p : Point) → quadrant c p ≡ 0 → int_le c.y p.y ≡ true
upper_right c p = by_quadrant c p (λ n. n ≡ 0 → int_le c.y p.y ≡ true) (λ s t h. t) (λ s t h. absurd (omega arith)) (λ s t h. absurd (omega arith)) (λ s t h. absurd (omega arith))

lower_right : (c p : Point) → quadrant c p ≡ 1 → int_le c.y p.y ≡ false
lower_right c p = by_quadrant c p (λ n. n ≡ 1 → int_le c.y p.y ≡ false) (λ s t h. absurd (omega arith)) (λ s t h. t) (λ s t h. absurd (omega arith)) (λ s t h. absurd (omega arith))

-- a coordinate of the values
record Coordinate (f : List ℕ → ℤ) : Type 0 where
  in_range : (r : List ℕ) → is_coordinate (f r) ≡ true

x_of : Coordinate (λ r. (point_of r).x)
x_of = record { in_range = λ r. (and_true (is_coordinate (point_of r).x) (is_coordinate (point_of r).y) (is_point-point_of r)).0 }

y_of : Coordinate (λ r. (point_of r).y)
y_of = record { in_range = λ r. (and_true (is_coordinate (point_of r).x) (is_coordinate (point_of r).y) (is_point-point_of r)).1 }

-- where no value is below the ceiling, all are one
none_below : (f : List ℕ → ℤ) → Coordinate f → (rests : List (List ℕ)) → 0 < length rests → All (λ r. int_le (ceiling_by f rests) (f r) ≡ true) rests
    → (i j : ℕ) (a b : List ℕ) → slice_get rests i ≡ Some a → slice_get rests j ≡ Some b → f a ≡ f b
unfolding ceiling_by
none_below f c rests n all i j a b p q =
    let d = div_ceil (sum_by (λ r. raised (f r)) rests) (length rests) in
    let high = All-weaker (λ r. int_le (lowered d) (f r) ≡ true) (λ r. d ≤ raised (f r)) (λ r h. lowered_le d (f r) (c.in_range r) h) rests all in
    let same = all_ceiling (λ r. raised (f r)) rests n high in
    let u = at_part (λ r. raised (f r) ≡ d) rests i a same p in
    let v = at_part (λ r. raised (f r) ≡ d) rests j b same q in
    let ra = raised_is (f a) (c.in_range a) in
    let rb = raised_is (f b) (c.in_range b) in
    omega (arith, ints)

-- not all values are below the ceiling
not_all_below : (f : List ℕ → ℤ) → Coordinate f → (rests : List (List ℕ)) → 0 < length rests → All (λ r. int_le (ceiling_by f rests) (f r) ≡ false) rests → ⊥
unfolding ceiling_by
not_all_below f c rests n all =
    let d = div_ceil (sum_by (λ r. raised (f r)) rests) (length rests) in
    some_ceiling (λ r. raised (f r)) rests n (All-weaker (λ r. int_le (lowered d) (f r) ≡ false) (λ r. raised (f r) < d) (λ r h. lowered_above d (f r) (c.in_range r) h) rests all)

-- values that are all in one node are one point
pub one_point : (rests : List (List ℕ)) → 0 < length rests → (node : ℕ) → All (λ r. quadrant (centroid_of rests) (point_of r) ≡ node) rests
    → (i j : ℕ) (a b : List ℕ) → slice_get rests i ≡ Some a → slice_get rests j ≡ Some b → point_of a ≡ point_of b
unfolding centroid_of
one_point rests n node all i j a b p q =
    let c = centroid_of rests in
    elim (cases_lt node 2) [
      | inr left ↦ absurd (not_all_below (λ r. (point_of r).x) x_of rests n
          (All-weaker (λ r. quadrant c (point_of r) ≡ node) (λ r. int_le c.x (point_of r).x ≡ false) (λ r e. left_half c (point_of r) (omega arith)) rests all))
      | inl right ↦ elim (cases_eq node 1) [
        | inl one ↦ absurd (not_all_below (λ r. (point_of r).y) y_of rests n
            (All-weaker (λ r. quadrant c (point_of r) ≡ node) (λ r. int_le c.y (point_of r).y ≡ false) (λ r e. lower_right c (point_of r) (omega arith)) rests all))
        | inr other ↦
            let x = none_below (λ r. (point_of r).x) x_of rests n (All-weaker (λ r. quadrant c (point_of r) ≡ node) (λ r. int_le c.x (point_of r).x ≡ true) (λ r e. right_half c (point_of r) (omega arith)) rests all) i j a b p q in
            let y = none_below (λ r. (point_of r).y) y_of rests n (All-weaker (λ r. quadrant c (point_of r) ≡ node) (λ r. int_le c.y (point_of r).y ≡ true) (λ r e. upper_right c (point_of r) (omega arith)) rests all) i j a b p q in
            same_point (point_of a) (point_of b) x y
      ]
    ]
  where
    same_point : (u v : Point) → u.x ≡ v.x → u.y ≡ v.y → u ≡ v
    same_point u v h k =
        let point : ℤ → ℤ → Point = λ s t. record { x = s; y = t } in
        ap (λ (s : ℤ). point s u.y) h ∙ ap (λ (t : ℤ). point v.x t) k

-- the nodes of mapped values
all_mapped : (f : List ℕ → ℕ) (node : ℕ) (rests : List (List ℕ)) → All (λ n. n ≡ node) (map f rests) → All (λ r. f r ≡ node) rests
all_mapped f node rests all k d l = sym (get_or-map f rests k d 0 l) ∙ all k 0 (rw (length-map rests f) l)

-- a region is within the range of coordinates
pub within : (c : Point) (node : ℕ) (p : Point) → is_point c ≡ true → in_area (region c node) p ≡ true → is_point p ≡ true
unfolding region
within c node p k =
    let f = and_true (is_coordinate c.x) (is_coordinate c.y) k in
    let fx = between_from lowest c.x highest f.0 in
    let fy = between_from lowest c.y highest f.1 in
    by_areas (node == 0) (node == 1) (node == 2) (λ a. in_area a p ≡ true → is_point p ≡ true)
    (λ h. let u = inside c.x p.x highest c.y p.y highest h in in_range p.x p.y (omega (arith, ints)) (omega (arith, ints)) (omega (arith, ints)) (omega (arith, ints)))
    (λ h. let u = inside c.x p.x highest lowest p.y (c.y -ℤ pos 1) h in in_range p.x p.y (omega (arith, ints)) (omega (arith, ints)) (omega (arith, ints)) (omega (arith, ints)))
    (λ h. let u = inside lowest p.x (c.x -ℤ pos 1) lowest p.y c.y h in in_range p.x p.y (omega (arith, ints)) (omega (arith, ints)) (omega (arith, ints)) (omega (arith, ints)))
    (λ h. let u = inside lowest p.x (c.x -ℤ pos 1) (c.y +ℤ pos 1) p.y highest h in in_range p.x p.y (omega (arith, ints)) (omega (arith, ints)) (omega (arith, ints)) (omega (arith, ints)))
  where
    by_areas : (b1 b2 b3 : Bool) {a0 a1 a2 a3 : Area} (P : Area → Type 0) → P a0 → P a1 → P a2 → P a3 → P (cond b1 a0 (cond b2 a1 (cond b3 a2 a3)))
    by_areas true b2 b3 P p1 p2 p3 p4 = p1
    by_areas false true b3 P p1 p2 p3 p4 = p2
    by_areas false false true P p1 p2 p3 p4 = p3
    by_areas false false false P p1 p2 p3 p4 = p4

    inside : (al a ah bl b bh : ℤ) → (is_between al a ah && is_between bl b bh) ≡ true → ((al ≤ℤ a) × (a ≤ℤ ah)) × ((bl ≤ℤ b) × (b ≤ℤ bh))
    inside al a ah bl b bh h = let u = and_true (is_between al a ah) (is_between bl b bh) h in (between_from al a ah u.0, between_from bl b bh u.1)

    in_range : (a b : ℤ) → lowest ≤ℤ a → a ≤ℤ highest → lowest ≤ℤ b → b ≤ℤ highest → (is_coordinate a && is_coordinate b) ≡ true
    in_range a b h i j k = true_and _ _ (between_to lowest a highest h i) (between_to lowest b highest j k)

quad_areas : IsPointClass quad
quad_areas = record {
  short_prefix = lit≤ tt;
  few_nodes = lit≤ tt;
  some_nodes = lit< tt;
  side_there = λ recon prefix p. quadrant_below (point_of prefix) p;
  side_has = λ recon prefix p h. in_region (point_of prefix) p h;
  in_range = λ recon prefix node p h. within (point_of prefix) node p (is_point-point_of prefix) h;
}

-- what is written as a prefix is read back
centroid_back : (rests : List (List ℕ)) → 0 < length rests → point_of (bytes_of_point (centroid_of rests)) ≡ centroid_of rests
centroid_back rests n = point_of-bytes_of_point (centroid_of rests) (is_point-centroid_of rests n)

quad_sound : (recon : QuadRecon) (rests : List (List ℕ)) → 0 < length rests → IsSound quad recon rests (quad.prefix_for recon rests) (quad.nodes_for recon rests)
quad_sound recon rests n =
    let c = centroid_of rests in
    let q = λ (r : List ℕ). quadrant c (point_of r) in
    record {
      prefix_fits = length-bytes_of_point c;
      node_each = length-map rests q;
      node_there = All-map (λ n. n < 4) q rests (λ k d l. quadrant_below c (point_of (get_or rests k d)));
      admitted = λ i bytes node whole_at node_at.
          let e = part_node q rests i bytes node whole_at node_at in
          rw (centroid_back rests n, ← e) (in_region c (point_of bytes) (is_point-point_of bytes));
      one_point = λ node all i j a b p r. one_point rests n node (all_mapped q node rests all) i j a b p r;
      alone = λ others last bytes whole_at node_at all apart. rw (centroid_back rests n) (part_node q rests (length rests - 1) bytes last whole_at node_at);
    }

pub quad_matches : MatchLaw quad_meaning
quad_matches = matches_of quad quad_areas

pub quad_adds : AddLaw quad_meaning
quad_adds = adds_of quad

pub quad_splits : SplitLaw quad_meaning
quad_splits = splits_of quad

pub quad_picks : PickLaw quad_meaning
quad_picks = picks_of quad quad_areas quad_sound

pub quad_apart : ApartLaw quad_meaning
quad_apart = apart_of quad quad_sound

pub quad_exact : (recon : QuadRecon) (tuple : InnerView) (conds : List PointCond) → KeepsExactly quad_meaning is_point recon tuple conds (quad_meaning.kept recon tuple conds)
quad_exact = exact_of quad quad_areas

pub quad_keeps : KeptLaw quad_meaning
quad_keeps = keeps_of quad quad_areas

pub quad_plain : PlainLaw quad_meaning
quad_plain = plain_of quad

pub quad_codes : CodeLaw quad_meaning
quad_codes = codes_of quad quad_areas

pub quad_bare : BareLaw quad_meaning
quad_bare = bare_of quad

pub quad_room : has_room quad_meaning ≡ true
unfolding has_room
quad_room = refl
