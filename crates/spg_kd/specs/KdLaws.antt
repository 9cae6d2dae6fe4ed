-- The laws of the k-d class.
use Rattle.std.proofs.Common.{◌≡◌, ◌≢◌, ℕ, zero, suc, cond, ◌+◌, ◌-◌, ◌*◌, ◌<◌, ◌≤◌, ◌⊎◌, ℤ, pos, Bool, true, false, ◌&&◌, List, [], ◌∷◌, length, get_or, take, Option, Some, None, refl, sym, ◌∙◌, ap, subst, inl, inr, arith, rules, sum_by, lit<, lit≤, eqb, ltb, ◌/◌, ◌+ℤ◌, ◌-ℤ◌, ◌≤ℤ◌, ◌<ℤ◌, w32}
use Rattle.std.specs.Prelude.{int_le, int_lt, not, ◌==◌, All, map, slice_get}
use Rattle.std.specs.Option.{option_map}
use Rattle.std.proofs.lemmas.Option.{same_Some, slice_get-map, slice_get_within}
use Rattle.std.proofs.lemmas.List.{length-map}
use Rattle.std.proofs.lemmas.Int.{ints}
use Rattle.std.proofs.lemmas.Bool.{cases_lt, ltb-true, lt-ltb}
use Rattle.std.proofs.lemmas.List.Elements.{All-map}
use Rattle.std.proofs.lemmas.Grind.{common_steps}
use Rattle.spg_base.specs.declared.point.Point.{Point}
use Rattle.spg_base.specs.declared.point.PointCond.{PointCond}
use Rattle.spg_base.specs.Points.{is_between}
use Rattle.spg_opclass.specs.declared.view.InnerView.{InnerView}
use Rattle.spg_opclass.specs.Included.{BareLaw, has_room}
use Rattle.spg_opclass.specs.Exact.{KeepsExactly}
use Rattle.spg_opclass.specs.Laws.{MatchLaw, AddLaw, SplitLaw, PickLaw, ApartLaw, KeptLaw, PlainLaw, CodeLaw}
use Rattle.spg_points.specs.declared.area.Area.{Area}
use Rattle.spg_points.specs.Codec.{lowest, highest, is_coordinate, is_point, point_of, bytes_of_coordinate, coordinate_at}
use Rattle.spg_points.specs.Heights.{raised, lowered}
use Rattle.spg_points.specs.Areas.{in_area}
use Rattle.spg_points.proofs.PointLemmas.{lt_to, same_test, raised_bound, lt_from, is_coordinate-lowered, length-bytes_of_coordinate, coordinate_at-bytes_of_coordinate, is_coordinate-coordinate_at, raised_is, between_from, between_to, and_true, true_and, is_point-point_of}
use Rattle.spg_points.proofs.ClassLaws.{IsPointClass, IsSound, matches_of, adds_of, splits_of, picks_of, apart_of, exact_of, keeps_of, plain_of, codes_of, bare_of}
use Rattle.spg_kd.specs.declared.class.KdRecon.{KdRecon}
use Rattle.spg_kd.specs.Kd.{level_of, half, half_for, median_of, halves, levels, kd, kd_meaning}
use Rattle.spg_kd.specs.Ties.{ties_of, sides}
use Rattle.spg_kd.specs.KdLemmas.{sides_below, median_at_most, IsMedian, below, median_is, length_sides, side_each, not_one_side, alone_side, sides_halves, node_if, one_if}

is_coordinate-level : (odd : Bool) (p : Point) → is_point p ≡ true → is_coordinate (level_of odd p) ≡ true
is_coordinate-level true p h = (and_true (is_coordinate p.x) (is_coordinate p.y) h).0
is_coordinate-level false p h = (and_true (is_coordinate p.x) (is_coordinate p.y) h).1

-- the two halves
in_low_half : (odd : Bool) (c : ℤ) (p : Point) → is_point p ≡ true → level_of odd p ≤ℤ c → in_area (half odd c 0) p ≡ true
unfolding half
in_low_half true c p h l = let u = and_true (is_coordinate p.x) (is_coordinate p.y) h in true_and _ _ (between_to lowest p.x c (between_from lowest p.x highest u.0).0 l) u.1
in_low_half false c p h l = let u = and_true (is_coordinate p.x) (is_coordinate p.y) h in true_and _ _ u.0 (between_to lowest p.y c (between_from lowest p.y highest u.1).0 l)

in_high_half : (odd : Bool) (c : ℤ) (p : Point) → is_point p ≡ true → c ≤ℤ level_of odd p → in_area (half odd c 1) p ≡ true
unfolding half
in_high_half true c p h l = let u = and_true (is_coordinate p.x) (is_coordinate p.y) h in true_and _ _ (between_to c p.x highest l (between_from lowest p.x highest u.0).1) u.1
in_high_half false c p h l = let u = and_true (is_coordinate p.x) (is_coordinate p.y) h in true_and _ _ u.0 (between_to c p.y highest l (between_from lowest p.y highest u.1).1)

lt_le : (a b : ℤ) → int_lt a b ≡ true → a ≤ℤ b
lt_le a b h = omega (arith, ints)

not_lt : (a b : ℤ) → int_lt a b ≡ false → b ≤ℤ a
not_lt a b h = omega (arith, ints)

-- a level against the median
lowered_high : (d : ℕ) (z : ℤ) → is_coordinate z ≡ true → raised z ≤ d → z ≤ℤ lowered d
unfolding lowered
lowered_high d z h l = let e = raised_is z h in omega (arith, ints)

lowered_low : (d : ℕ) (z : ℤ) → is_coordinate z ≡ true → d ≤ raised z → lowered d ≤ℤ z
unfolding lowered
lowered_low d z h l = let e = raised_is z h in omega (arith, ints)

lowered_test : (d : ℕ) (z : ℤ) → is_coordinate z ≡ true → int_lt z (lowered d) ≡ ltb (raised z) d
unfolding lowered
lowered_test d z h = let e = raised_is z h in same_test (int_lt z (pos d -ℤ pos 2147483648)) (ltb (raised z) d)
    (λ t. let u = lt_from z (pos d -ℤ pos 2147483648) t in lt-ltb (raised z) d (omega (arith, ints)))
    (λ t. let u = ltb-true (raised z) d t in lt_to z (pos d -ℤ pos 2147483648) (omega (arith, ints)))

-- the median is a coordinate
median_bound : (odd : Bool) (rests : List (List ℕ)) (p : ℕ) → 0 < length (levels odd rests) → IsMedian p (levels odd rests) → p ≤ 4294967295
median_bound odd rests p n m = median_at_most p 4294967295 (levels odd rests) n m
    (All-map (λ k. k ≤ 4294967295) (λ r. raised (level_of odd (point_of r))) rests (λ k d l. raised_bound (level_of odd (point_of (get_or rests k d))) (is_coordinate-level odd (point_of (get_or rests k d)) (is_point-point_of (get_or rests k d)))))

-- the key of the i-th value
level_at : (odd : Bool) (rests : List (List ℕ)) (i : ℕ) (bytes : List ℕ) → slice_get rests i ≡ Some bytes → slice_get (levels odd rests) i ≡ Some (raised (level_of odd (point_of bytes)))
level_at odd rests i bytes h = slice_get-map (λ r. raised (level_of odd (point_of r))) rests i ∙ ap (option_map (λ r. raised (level_of odd (point_of r)))) h

-- what is answered at a division's own tuple
side_at : (odd : Bool) (p : ℕ) (bytes : List ℕ) → is_coordinate (lowered p) ≡ true → half_for odd (coordinate_at (bytes_of_coordinate (lowered p)) 0) (point_of bytes) ≡ node_if (ltb (raised (level_of odd (point_of bytes))) p)
unfolding half_for
side_at odd p bytes fine =
    let z = level_of odd (point_of bytes) in
    ap (λ (c : ℤ). node_if (int_lt z c)) (coordinate_at-bytes_of_coordinate (lowered p) fine)
    ∙ ap node_if (lowered_test p z (is_coordinate-level odd (point_of bytes) (is_point-point_of bytes)))

alone_at : (odd : Bool) (rests : List (List ℕ)) (p : ℕ) → 0 < length rests → length (levels odd rests) ≡ length rests → IsMedian p (levels odd rests) → is_coordinate (lowered p) ≡ true → (others last : ℕ) (bytes : List ℕ)
    → slice_get rests (length rests - 1) ≡ Some bytes → slice_get (sides p (ties_of p (levels odd rests)) (levels odd rests)) (length rests - 1) ≡ Some last
    → All (λ n. n ≡ others) (take (length rests - 1) (sides p (ties_of p (levels odd rests)) (levels odd rests))) → others ≢ last → half_for odd (coordinate_at (bytes_of_coordinate (lowered p)) 0) (point_of bytes) ≡ last
unfolding ties_of
alone_at odd rests p n size median fine others last bytes at node all apart =
    let ks = levels odd rests in
    let back : length rests ≡ length ks = sym size in
    side_at odd p bytes fine ∙ alone_side p ks median (omega arith) (raised (level_of odd (point_of bytes))) others last
    (subst (λ (m : ℕ). slice_get ks (m - 1) ≡ Some (raised (level_of odd (point_of bytes)))) back (level_at odd rests (length rests - 1) bytes at))
    (subst (λ (m : ℕ). slice_get (sides p (ties_of p ks) ks) (m - 1) ≡ Some last) back node)
    (subst (λ (m : ℕ). All (λ n. n ≡ others) (take (m - 1) (sides p (ties_of p ks) ks))) back all) apart

not_one : (p : ℕ) (ks : List ℕ) → IsMedian p ks → 2 ≤ length ks → (node : ℕ) → All (λ n. n ≡ node) (sides p (ties_of p ks) ks) → ⊥
unfolding ties_of
not_one p ks m two node all = not_one_side p ks m two node all

same_place : (rests : List (List ℕ)) (i j : ℕ) (a b : List ℕ) → length rests < 2 → slice_get rests i ≡ Some a → slice_get rests j ≡ Some b → point_of a ≡ point_of b
same_place rests i j a b short p q =
    let e : i ≡ j = omega (arith, slice_get_within rests i a p, slice_get_within rests j b q) in
    ap point_of (same_Some a b (sym p ∙ ap (slice_get rests) e ∙ q))

-- a point stands in the half to which it goes
in_half : (odd : Bool) (cut : ℤ) (p : Point) → is_point p ≡ true → in_area (half odd cut (half_for odd cut p)) p ≡ true
unfolding half_for
in_half odd cut p h = by_side (int_lt (level_of odd p) cut) refl
  where
    by_side : (b : Bool) → int_lt (level_of odd p) cut ≡ b → in_area (half odd cut (cond b 0 1)) p ≡ true
    by_side true t = in_low_half odd cut p h (lt_le (level_of odd p) cut t)
    by_side false t = in_high_half odd cut p h (not_lt (level_of odd p) cut t)

half_there : (odd : Bool) (cut : ℤ) (p : Point) → half_for odd cut p < 2
unfolding half_for
half_there odd cut p = by_side (int_lt (level_of odd p) cut)
  where
    by_side : (b : Bool) → cond b 0 1 < 2
    by_side true = lit< tt
    by_side false = lit< tt

-- a half is within the range of coordinates
within : (odd : Bool) (cut : ℤ) (node : ℕ) (p : Point) → is_coordinate cut ≡ true → in_area (half odd cut node) p ≡ true → is_point p ≡ true
unfolding half
within odd cut node p k =
    let f = between_from lowest cut highest k in
    by_areas odd (node == 0) (λ a. in_area a p ≡ true → is_point p ≡ true)
    (λ h. let u = inside lowest p.x cut lowest p.y highest h in in_range p.x p.y (omega (arith, ints)) (omega (arith, ints)) (omega (arith, ints)) (omega (arith, ints)))
    (λ h. let u = inside cut p.x highest lowest p.y highest h in in_range p.x p.y (omega (arith, ints)) (omega (arith, ints)) (omega (arith, ints)) (omega (arith, ints)))
    (λ h. let u = inside lowest p.x highest lowest p.y cut h in in_range p.x p.y (omega (arith, ints)) (omega (arith, ints)) (omega (arith, ints)) (omega (arith, ints)))
    (λ h. let u = inside lowest p.x highest cut p.y highest h in in_range p.x p.y (omega (arith, ints)) (omega (arith, ints)) (omega (arith, ints)) (omega (arith, ints)))
  where
    by_areas : (b1 b2 : Bool) {a0 a1 a2 a3 : Area} (P : Area → Type 0) → P a0 → P a1 → P a2 → P a3 → P (cond b1 (cond b2 a0 a1) (cond b2 a2 a3))
    by_areas true true P p1 p2 p3 p4 = p1
    by_areas true false P p1 p2 p3 p4 = p2
    by_areas false true P p1 p2 p3 p4 = p3
    by_areas false false P p1 p2 p3 p4 = p4

    inside : (al a ah bl b bh : ℤ) → (is_between al a ah && is_between bl b bh) ≡ true → ((al ≤ℤ a) × (a ≤ℤ ah)) × ((bl ≤ℤ b) × (b ≤ℤ bh))
    inside al a ah bl b bh h = let u = and_true (is_between al a ah) (is_between bl b bh) h in (between_from al a ah u.0, between_from bl b bh u.1)

    in_range : (a b : ℤ) → lowest ≤ℤ a → a ≤ℤ highest → lowest ≤ℤ b → b ≤ℤ highest → (is_coordinate a && is_coordinate b) ≡ true
    in_range a b h i j k = true_and _ _ (between_to lowest a highest h i) (between_to lowest b highest j k)

kd_areas : IsPointClass kd
kd_areas = record {
  short_prefix = lit≤ tt;
  few_nodes = lit≤ tt;
  some_nodes = lit< tt;
  side_there = λ recon prefix p. half_there recon.odd (coordinate_at prefix 0) p;
  side_has = λ recon prefix p h. in_half recon.odd (coordinate_at prefix 0) p h;
  in_range = λ recon prefix node p h. within recon.odd (coordinate_at prefix 0) node p (is_coordinate-coordinate_at prefix 0) h;
}

-- a value stands in the half of its node
placed_at : (odd : Bool) (rests : List (List ℕ)) (p t i : ℕ) (bytes : List ℕ) (node : ℕ) → is_coordinate (lowered p) ≡ true → slice_get rests i ≡ Some bytes
    → slice_get (sides p t (levels odd rests)) i ≡ Some node → in_area (half odd (coordinate_at (bytes_of_coordinate (lowered p)) 0) node) (point_of bytes) ≡ true
placed_at odd rests p t i bytes node fine whole_at node_at =
    let z = level_of odd (point_of bytes) in
    let there = is_coordinate-level odd (point_of bytes) (is_point-point_of bytes) in
    let back = coordinate_at-bytes_of_coordinate (lowered p) fine in
    elim (side_each p t (levels odd rests) i (raised z) node (level_at odd rests i bytes whole_at) node_at) [
      | inl v ↦ rw (back, v.0) (in_low_half odd (lowered p) (point_of bytes) (is_point-point_of bytes) (lowered_high p z there v.1))
      | inr v ↦ rw (back, v.0) (in_high_half odd (lowered p) (point_of bytes) (is_point-point_of bytes) (lowered_low p z there v.1))
    ]

kd_sound : (recon : KdRecon) (rests : List (List ℕ)) → 0 < length rests → IsSound kd recon rests (kd.prefix_for recon rests) (kd.nodes_for recon rests)
kd_sound recon rests n =
    let ks = levels recon.odd rests in
    let size : length ks ≡ length rests = length-map rests (λ r. raised (level_of recon.odd (point_of r))) in
    let some = subst (λ (m : ℕ). 0 < m) (sym size) n in
    subst (λ (ns : List ℕ). IsSound kd recon rests (kd.prefix_for recon rests) ns) (sides_halves ks some) (sound recon rests n (median_of ks) size (median_is ks some))
  where
    sound : (recon : KdRecon) (rests : List (List ℕ)) → 0 < length rests → (p : ℕ) → length (levels recon.odd rests) ≡ length rests → IsMedian p (levels recon.odd rests)
        → IsSound kd recon rests (bytes_of_coordinate (lowered p)) (sides p (ties_of p (levels recon.odd rests)) (levels recon.odd rests))
    sound recon rests n p size median =
        let ks = levels recon.odd rests in
        let fine = is_coordinate-lowered p (median_bound recon.odd rests p (omega arith) median) in
        record {
          prefix_fits = length-bytes_of_coordinate (lowered p);
          node_each = length_sides p (ties_of p ks) ks ∙ size;
          node_there = sides_below p (ties_of p ks) ks;
          admitted = λ i bytes node whole_at node_at. placed_at recon.odd rests p (ties_of p ks) i bytes node fine whole_at node_at;
          one_point = λ node all i j a b q r. elim (cases_lt (length rests) 2) [
            | inl short ↦ same_place rests i j a b short q r
            | inr long ↦ absurd (not_one p ks median (subst (λ (m : ℕ). 2 ≤ m) (sym size) long) node all)
          ];
          alone = λ others last bytes whole_at node_at all apart. alone_at recon.odd rests p n size median fine others last bytes whole_at node_at all apart;
        }

pub kd_matches : MatchLaw kd_meaning
kd_matches = matches_of kd kd_areas

pub kd_adds : AddLaw kd_meaning
kd_adds = adds_of kd

pub kd_splits : SplitLaw kd_meaning
kd_splits = splits_of kd

pub kd_picks : PickLaw kd_meaning
kd_picks = picks_of kd kd_areas kd_sound

pub kd_apart : ApartLaw kd_meaning
kd_apart = apart_of kd kd_sound

pub kd_exact : (recon : KdRecon) (tuple : InnerView) (conds : List PointCond) → KeepsExactly kd_meaning is_point recon tuple conds (kd_meaning.kept recon tuple conds)
kd_exact = exact_of kd kd_areas

pub kd_keeps : KeptLaw kd_meaning
kd_keeps = keeps_of kd kd_areas

pub kd_plain : PlainLaw kd_meaning
kd_plain = plain_of kd

pub kd_codes : CodeLaw kd_meaning
kd_codes = codes_of kd kd_areas

pub kd_bare : BareLaw kd_meaning
kd_bare = bare_of kd

pub kd_room : has_room kd_meaning ≡ true
unfolding has_room
kd_room = refl
