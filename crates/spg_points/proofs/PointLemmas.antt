-- What the definitions on points say: codec, areas, conditions.
use Rattle.std.proofs.Common.{◌≡◌, ◌≤◌, ◌<◌, ℕ, ◌+◌, ℤ, pos, negsuc, ◌≤ℤ◌, ◌<ℤ◌, ◌+ℤ◌, ◌-ℤ◌, Bool, true, false, ◌&&◌, List, [], ◌∷◌, length, refl, sym, ◌∙◌, ap, arith, w32, FitsSigned}
use Rattle.std.specs.Prelude.{int_le, int_lt, slice_index, unsigned_abs}
use Rattle.std.specs.Int.{int_max, int_min, from_le_bytes, to_le_bytes, cast_signed, cast_unsigned}
use Rattle.std.specs.Ordering.{int_eq}
use Rattle.std.proofs.lemmas.Bool.Decides.{Decides-int_eq}
use Rattle.std.proofs.lemmas.Int.{ints, clamps, to_z-of_z}
use Rattle.std.proofs.lemmas.Nat.{from_le_bytes-to_le_bytes_4}
use Rattle.spg_base.specs.declared.point.Point.{Point}
use Rattle.spg_points.specs.declared.area.Area.{Area}
use Rattle.spg_base.specs.declared.point.PointCond.{PointCond}
use Rattle.spg_base.specs.declared.point.PointCond.TheVariants.{Eq, Left, Right, Below, Above, Inside}
use Rattle.spg_base.specs.Points.{is_between, cond_holds}
use Rattle.spg_points.specs.Codec.{lowest, highest, is_coordinate, is_point, bytes_of_coordinate, coordinate_at, bytes_of_point, point_of}
use Rattle.spg_points.specs.Areas.{in_area, area_of, ranges_meet, areas_meet}
use Rattle.spg_points.specs.Heights.{raised, lowered}

-- both parts of a test
pub and_true : (a b : Bool) → (a && b) ≡ true → (a ≡ true) × (b ≡ true)
and_true true b h = (refl, h)
and_true false b h = absurd (cc)

pub true_and : (a b : Bool) → a ≡ true → b ≡ true → (a && b) ≡ true
true_and a b p q = rw (p, q) refl

-- a comparison of whole numbers, as a fact and as a test
pub le_from : (a b : ℤ) → int_le a b ≡ true → a ≤ℤ b
le_from a b h = omega (arith, ints)

pub le_to : (a b : ℤ) → a ≤ℤ b → int_le a b ≡ true
le_to a b h = grind (arith, ints)

pub between_from : (l z h : ℤ) → is_between l z h ≡ true → (l ≤ℤ z) × (z ≤ℤ h)
unfolding is_between
between_from l z h t = let p = and_true (int_le l z) (int_le z h) t in (le_from l z p.0, le_from z h p.1)

pub between_to : (l z h : ℤ) → l ≤ℤ z → z ≤ℤ h → is_between l z h ≡ true
unfolding is_between
between_to l z h p q = true_and (int_le l z) (int_le z h) (le_to l z p) (le_to z h q)

-- two ranges that meet have the greater lower end in common
pub ranges_meet_at : (al ah bl bh : ℤ) → ranges_meet al ah bl bh ≡ true → (is_between al (int_max al bl) ah ≡ true) × (is_between bl (int_max al bl) bh ≡ true)
unfolding ranges_meet
ranges_meet_at al ah bl bh h =
    let f = le_from (int_max al bl) (int_min ah bh) h in (
      between_to al (int_max al bl) ah (omega (arith, ints, clamps)) (omega (arith, ints, clamps)),
      between_to bl (int_max al bl) bh (omega (arith, ints, clamps)) (omega (arith, ints, clamps)),
    )

-- two ranges that have a coordinate in common meet
pub ranges_meet_from : (al ah bl bh z : ℤ) → is_between al z ah ≡ true → is_between bl z bh ≡ true → ranges_meet al ah bl bh ≡ true
unfolding ranges_meet
ranges_meet_from al ah bl bh z p q =
    let u = between_from al z ah p in
    let v = between_from bl z bh q in
    le_to (int_max al bl) (int_min ah bh) (omega (arith, ints, clamps))

-- two tests of one fact are one
pub same_test : (a b : Bool) → (a ≡ true → b ≡ true) → (b ≡ true → a ≡ true) → a ≡ b
same_test true b f g = sym (f refl)
same_test false true f g = g refl
same_test false false f g = refl

pub lt_from : (a b : ℤ) → int_lt a b ≡ true → a <ℤ b
lt_from a b h = omega (arith, ints)

pub lt_to : (a b : ℤ) → a <ℤ b → int_lt a b ≡ true
lt_to a b h = grind (arith, ints)

eq-between : (a b : ℤ) → int_eq a b ≡ is_between b a b
eq-between a b = same_test (int_eq a b) (is_between b a b)
    (λ h. let e : a ≡ b = (Decides-int_eq a b).0 h in between_to b a b (omega (arith, ints)) (omega (arith, ints)))
    (λ h. let u = between_from b a b h in (Decides-int_eq a b).1 (omega (arith, ints)))

lt-between : (a b : ℤ) → is_coordinate a ≡ true → int_lt a b ≡ is_between lowest a (b -ℤ pos 1)
lt-between a b t = let c = between_from lowest a highest t in same_test (int_lt a b) (is_between lowest a (b -ℤ pos 1))
    (λ h. let u = lt_from a b h in between_to lowest a (b -ℤ pos 1) c.0 (omega (arith, ints)))
    (λ h. let u = between_from lowest a (b -ℤ pos 1) h in lt_to a b (omega (arith, ints)))

gt-between : (a b : ℤ) → is_coordinate a ≡ true → int_lt b a ≡ is_between (b +ℤ pos 1) a highest
gt-between a b t = let c = between_from lowest a highest t in same_test (int_lt b a) (is_between (b +ℤ pos 1) a highest)
    (λ h. let u = lt_from b a h in between_to (b +ℤ pos 1) a highest (omega (arith, ints)) c.1)
    (λ h. let u = between_from (b +ℤ pos 1) a highest h in lt_to b a (omega (arith, ints)))

and-true : (a b : Bool) → b ≡ true → a ≡ (a && b)
and-true true b h = sym h
and-true false b h = refl

true-and : (a b : Bool) → a ≡ true → b ≡ (a && b)
true-and a b h = rw h refl

-- a condition holds of the points of its area
pub holds-in_area : (c : PointCond) (p : Point) → is_point p ≡ true → cond_holds c p ≡ in_area (area_of c) p
holds-in_area (Eq q) p t = rw (eq-between p.x q.x, eq-between p.y q.y) refl
holds-in_area (Left x) p t =
    let c = and_true (is_coordinate p.x) (is_coordinate p.y) t in
    lt-between p.x x c.0 ∙ and-true (is_between lowest p.x (x -ℤ pos 1)) (is_coordinate p.y) c.1
holds-in_area (Right x) p t =
    let c = and_true (is_coordinate p.x) (is_coordinate p.y) t in
    gt-between p.x x c.0 ∙ and-true (is_between (x +ℤ pos 1) p.x highest) (is_coordinate p.y) c.1
holds-in_area (Below y) p t =
    let c = and_true (is_coordinate p.x) (is_coordinate p.y) t in
    lt-between p.y y c.1 ∙ true-and (is_coordinate p.x) (is_between lowest p.y (y -ℤ pos 1)) c.0
holds-in_area (Above y) p t =
    let c = and_true (is_coordinate p.x) (is_coordinate p.y) t in
    gt-between p.y y c.1 ∙ true-and (is_coordinate p.x) (is_between (y +ℤ pos 1) p.y highest) c.0
holds-in_area (Inside x1 y1 x2 y2) p t = refl

-- the codec
pub length-bytes_of_point : (p : Point) → length (bytes_of_point p) ≡ 8
unfolding bytes_of_point bytes_of_coordinate
length-bytes_of_point p = refl

is_coordinate-cast : (n : ℕ) → is_coordinate (cast_signed w32 n) ≡ true
is_coordinate-cast n = between_to lowest (cast_signed w32 n) highest (omega (arith, ints)) (omega (arith, ints))

pub is_point-point_of : (bytes : List ℕ) → is_point (point_of bytes) ≡ true
unfolding point_of coordinate_at
is_point-point_of bytes =
    let four = λ (at : ℕ). slice_index bytes at ∷ slice_index bytes (at + 1) ∷ slice_index bytes (at + 2) ∷ slice_index bytes (at + 3) ∷ [] in
    true_and _ _ (is_coordinate-cast (from_le_bytes w32 (four 0))) (is_coordinate-cast (from_le_bytes w32 (four 4)))

is_coordinate-from_fits : (z : ℤ) → FitsSigned w32 z → is_coordinate z ≡ true
is_coordinate-from_fits (pos n) f = let b = f.sfits in between_to lowest (pos n) highest (omega (arith, ints)) (omega (arith, ints))
is_coordinate-from_fits (negsuc n) f = let b = f.sfits in between_to lowest (negsuc n) highest (omega (arith, ints)) (omega (arith, ints))

coordinate_fits : (z : ℤ) → lowest ≤ℤ z → z ≤ℤ highest → FitsSigned w32 z
coordinate_fits (pos n) l h = record { sfits = omega (arith, ints) }
coordinate_fits (negsuc n) l h = record { sfits = omega (arith, ints) }

pub is_point_from_fits : (p : Point) → FitsSigned w32 p.x → FitsSigned w32 p.y → is_point p ≡ true
is_point_from_fits p f g = true_and _ _ (is_coordinate-from_fits p.x f) (is_coordinate-from_fits p.y g)

-- a coordinate that is read back
coordinate_back : (z : ℤ) → is_coordinate z ≡ true → cast_signed w32 (from_le_bytes w32 (to_le_bytes w32 (cast_unsigned w32 z))) ≡ z
coordinate_back z h =
    let c = between_from lowest z highest h in
    let fits : FitsSigned w32 z = coordinate_fits z c.0 c.1 in
    ap (cast_signed w32) (from_le_bytes-to_le_bytes_4 (cast_unsigned w32 z) (omega (arith, ints))) ∙ to_z-of_z w32 z fits

pub point_of-bytes_of_point : (p : Point) → is_point p ≡ true → point_of (bytes_of_point p) ≡ p
unfolding point_of coordinate_at bytes_of_point bytes_of_coordinate
point_of-bytes_of_point p h =
    let c = and_true (is_coordinate p.x) (is_coordinate p.y) h in
    rw (coordinate_back p.x c.0, coordinate_back p.y c.1) refl

-- two areas that meet have a point in common
pub areas_meet_at : (a b : Area) → areas_meet a b ≡ true → (p : Point) × ((in_area a p ≡ true) × (in_area b p ≡ true))
areas_meet_at a b h =
    let c = and_true (ranges_meet a.x_low a.x_high b.x_low b.x_high) (ranges_meet a.y_low a.y_high b.y_low b.y_high) h in
    let x = ranges_meet_at a.x_low a.x_high b.x_low b.x_high c.0 in
    let y = ranges_meet_at a.y_low a.y_high b.y_low b.y_high c.1 in (
      record { x = int_max a.x_low b.x_low; y = int_max a.y_low b.y_low },
      (true_and _ _ x.0 y.0, true_and _ _ x.1 y.1),
    )

-- two areas that have a point in common meet
pub areas_meet_from : (a b : Area) (p : Point) → in_area a p ≡ true → in_area b p ≡ true → areas_meet a b ≡ true
areas_meet_from a b p h k =
    let u = and_true (is_between a.x_low p.x a.x_high) (is_between a.y_low p.y a.y_high) h in
    let v = and_true (is_between b.x_low p.x b.x_high) (is_between b.y_low p.y b.y_high) k in
    true_and _ _ (ranges_meet_from a.x_low a.x_high b.x_low b.x_high p.x u.0 v.0) (ranges_meet_from a.y_low a.y_high b.y_low b.y_high p.y u.1 v.1)

pub not_le : (a b : ℤ) → int_le a b ≡ false → b <ℤ a
not_le a b h = omega (arith, ints)

-- how far above the lowest
not_negative : (w : ℤ) → pos 0 ≤ℤ w → pos (unsigned_abs w) ≡ w
not_negative (pos n) h = refl
not_negative (negsuc n) h = absurd (omega (arith, ints))

pub raised_is : (z : ℤ) → is_coordinate z ≡ true → pos (raised z) ≡ z +ℤ pos 2147483648
unfolding raised
raised_is z h = let u = between_from lowest z highest h in not_negative (z +ℤ pos 2147483648) (omega (arith, ints))

pub raised_bound : (z : ℤ) → is_coordinate z ≡ true → raised z ≤ 4294967295
raised_bound z h = let e = raised_is z h in let u = between_from lowest z highest h in omega (arith, ints)

pub lowered_le : (d : ℕ) (z : ℤ) → is_coordinate z ≡ true → int_le (lowered d) z ≡ true → d ≤ raised z
unfolding lowered
lowered_le d z h t = let e = raised_is z h in let u = le_from (lowered d) z t in omega (arith, ints)

pub lowered_above : (d : ℕ) (z : ℤ) → is_coordinate z ≡ true → int_le (lowered d) z ≡ false → raised z < d
unfolding lowered
lowered_above d z h t = let e = raised_is z h in let u = not_le (lowered d) z t in omega (arith, ints)

pub is_coordinate-lowered : (d : ℕ) → d ≤ 4294967295 → is_coordinate (lowered d) ≡ true
unfolding lowered
is_coordinate-lowered d h = between_to lowest (pos d -ℤ pos 2147483648) highest (omega (arith, ints)) (omega (arith, ints))

pub raised-lowered : (d : ℕ) → d ≤ 4294967295 → raised (lowered d) ≡ d
unfolding lowered
raised-lowered d h = let e = raised_is (pos d -ℤ pos 2147483648) (is_coordinate-lowered d h) in omega (arith, ints)

-- a coordinate alone
pub length-bytes_of_coordinate : (z : ℤ) → length (bytes_of_coordinate z) ≡ 4
unfolding bytes_of_coordinate
length-bytes_of_coordinate z = refl

pub coordinate_at-bytes_of_coordinate : (z : ℤ) → is_coordinate z ≡ true → coordinate_at (bytes_of_coordinate z) 0 ≡ z
unfolding coordinate_at bytes_of_coordinate
coordinate_at-bytes_of_coordinate z h = coordinate_back z h

pub is_coordinate-coordinate_at : (bytes : List ℕ) (at : ℕ) → is_coordinate (coordinate_at bytes at) ≡ true
unfolding coordinate_at
is_coordinate-coordinate_at bytes at =
    let four = slice_index bytes at ∷ slice_index bytes (at + 1) ∷ slice_index bytes (at + 2) ∷ slice_index bytes (at + 3) ∷ [] in
    is_coordinate-cast (from_le_bytes w32 four)
