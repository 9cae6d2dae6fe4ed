-- What the definitions of the quad class say.
use Rattle.std.proofs.Common.{◌≡◌, ℕ, get_or, cond, lit<, ◌+◌, ◌-◌, ◌*◌, ◌<◌, ◌≤◌, ◌⊎◌, ℤ, pos, negsuc, ◌≤ℤ◌, ◌<ℤ◌, ◌+ℤ◌, ◌-ℤ◌, Bool, true, false, ◌&&◌, List, [], ◌∷◌, length, Option, Some, None, refl, sym, ◌∙◌, ap, subst, inl, inr, arith, rules, sum_by}
use Rattle.std.specs.Prelude.{int_le, int_lt, All, map, unsigned_abs}
use Rattle.std.specs.Int.{div_ceil}
use Rattle.std.proofs.lemmas.Int.{ints}
use Rattle.std.proofs.lemmas.Grind.{div_ceil_times}
use Rattle.std.proofs.lemmas.Option.{cond_some}
use Rattle.std.proofs.lemmas.List.Sums.{sum_by-cons, sum_by-le}
use Rattle.std.proofs.lemmas.List.Elements.{All-head, All-tail, All-nil, All-cons, All-weaker}
use Rattle.std.proofs.lemmas.Bool.{cases_lt}
use Rattle.std.proofs.Math.Nat.{mul_comm, mul-le-mul_left}
use Rattle.spg_base.specs.declared.point.Point.{Point}
use Rattle.spg_points.specs.declared.area.Area.{Area}
use Rattle.spg_base.specs.Points.{is_between}
use Rattle.spg_points.specs.Codec.{lowest, highest, is_coordinate, is_point, point_of, bytes_of_point}
use Rattle.spg_points.specs.Heights.{raised, lowered}
use Rattle.spg_points.specs.Areas.{in_area}
use Rattle.spg_points.proofs.PointLemmas.{not_le, raised_is, raised_bound, lowered_le, lowered_above, and_true, true_and, le_from, le_to, between_from, between_to, is_point-point_of, point_of-bytes_of_point, length-bytes_of_point}
use Rattle.spg_quad.specs.Quad.{quadrant, region, ceiling_by, centroid_of, excess, IsCeiling}

by_tests : (a b d : Bool) (P : ℕ → Type 0) → (a ≡ true → b ≡ true → P 0) → (a ≡ true → b ≡ false → P 1) → (a ≡ false → d ≡ true → P 2) → (a ≡ false → d ≡ false → P 3) → P (cond a (cond b 0 1) (cond d 2 3))
by_tests true true d P f g h k = f refl refl
by_tests true false d P f g h k = g refl refl
by_tests false b true P f g h k = h refl refl
by_tests false b false P f g h k = k refl refl

-- the four quadrants, by what they say of a point
pub by_quadrant : (c p : Point) (P : ℕ → Type 0) → (int_le c.x p.x ≡ true → int_le c.y p.y ≡ true → P 0) → (int_le c.x p.x ≡ true → int_le c.y p.y ≡ false → P 1)
    → (int_le c.x p.x ≡ false → int_le p.y c.y ≡ true → P 2) → (int_le c.x p.x ≡ false → int_le p.y c.y ≡ false → P 3) → P (quadrant c p)
unfolding quadrant
by_quadrant c p P f g h k = by_tests (int_le c.x p.x) (int_le c.y p.y) (int_le p.y c.y) P f g h k

pub quadrant_below : (c p : Point) → quadrant c p < 4
quadrant_below c p = by_quadrant c p (λ n. n < 4) (λ _ _. lit< tt) (λ _ _. lit< tt) (λ _ _. lit< tt) (λ _ _. lit< tt)

-- a point stands in the region of its quadrant
pub in_region : (c p : Point) → is_point p ≡ true → in_area (region c (quadrant c p)) p ≡ true
unfolding region
in_region c p h =
    let u = and_true (is_coordinate p.x) (is_coordinate p.y) h in
    let x = between_from lowest p.x highest u.0 in
    let y = between_from lowest p.y highest u.1 in
    by_quadrant c p (λ n. in_area (region c n) p ≡ true)
    (λ s t. true_and _ _ (between_to c.x p.x highest (le_from c.x p.x s) x.1) (between_to c.y p.y highest (le_from c.y p.y t) y.1))
    (λ s t. let b = not_le c.y p.y t in true_and _ _ (between_to c.x p.x highest (le_from c.x p.x s) x.1) (between_to lowest p.y (c.y -ℤ pos 1) y.0 (omega (arith, ints))))
    (λ s t. let a = not_le c.x p.x s in true_and _ _ (between_to lowest p.x (c.x -ℤ pos 1) x.0 (omega (arith, ints))) (between_to lowest p.y c.y y.0 (le_from p.y c.y t)))
    (λ s t. let a = not_le c.x p.x s in let b = not_le p.y c.y t in true_and _ _ (between_to lowest p.x (c.x -ℤ pos 1) x.0 (omega (arith, ints))) (between_to (c.y +ℤ pos 1) p.y highest (omega (arith, ints)) y.1))

-- how far above the lowest
-- numbers of which none is below c, with a sum of at most c each, are all c
pub all_least : (f : List ℕ → ℕ) (c : ℕ) (xs : List (List ℕ)) → All (λ x. c ≤ f x) xs → sum_by f xs ≤ length xs * c → All (λ x. f x ≡ c) xs
all_least f c [] h s = All-nil (λ x. f x ≡ c)
all_least f c (x ∷ xs) h s =
    let e = sum_by-cons f x xs in
    let first = All-head (λ x. c ≤ f x) x xs h in
    let rest = All-tail (λ x. c ≤ f x) x xs h in
    let low = sum_above f c xs rest in
    All-cons (λ x. f x ≡ c) x xs (omega arith) (all_least f c xs rest (omega arith))
  where
    sum_above : (f : List ℕ → ℕ) (c : ℕ) (xs : List (List ℕ)) → All (λ x. c ≤ f x) xs → length xs * c ≤ sum_by f xs
    sum_above f c [] h = omega arith
    sum_above f c (x ∷ xs) h = let e = sum_by-cons f x xs in omega (arith, All-head (λ x. c ≤ f x) x xs h, sum_above f c xs (All-tail (λ x. c ≤ f x) x xs h))

-- numbers that are all below c have a smaller sum than as many c
pub all_below : (f : List ℕ → ℕ) (c : ℕ) (xs : List (List ℕ)) → All (λ x. f x < c) xs → sum_by f xs + length xs ≤ length xs * c
all_below f c [] h = omega arith
all_below f c (x ∷ xs) h = let e = sum_by-cons f x xs in omega (arith, All-head (λ x. f x < c) x xs h, all_below f c xs (All-tail (λ x. f x < c) x xs h))

swap_low : (s d n : ℕ) → s ≤ d * n → s ≤ n * d
swap_low s d n h = omega (arith, mul_comm d n)

swap_high : (s d n : ℕ) → d * n < s + n → s + n ≤ n * d → ⊥
swap_high s d n h k = omega (arith, mul_comm d n)

quotient_bound : (s d n m : ℕ) → 0 < n → d * n < s + n → s ≤ n * m → d ≤ m
quotient_bound s d n m p h k = elim (cases_lt m d) [
  | inl above ↦ absurd (omega (arith, mul-le-mul_left n above, mul_comm d n))
  | inr fine ↦ fine
]

-- where no number is below the ceiling of the average, all are that ceiling
pub all_ceiling : (f : List ℕ → ℕ) (xs : List (List ℕ)) → 0 < length xs → All (λ x. div_ceil (sum_by f xs) (length xs) ≤ f x) xs → All (λ x. f x ≡ div_ceil (sum_by f xs) (length xs)) xs
all_ceiling f xs n h =
    let t = div_ceil_times (sum_by f xs) (length xs) n in
    all_least f (div_ceil (sum_by f xs) (length xs)) xs h (swap_low (sum_by f xs) (div_ceil (sum_by f xs) (length xs)) (length xs) t.0)

-- not all numbers are below the ceiling of their average
pub some_ceiling : (f : List ℕ → ℕ) (xs : List (List ℕ)) → 0 < length xs → All (λ x. f x < div_ceil (sum_by f xs) (length xs)) xs → ⊥
some_ceiling f xs n h =
    let t = div_ceil_times (sum_by f xs) (length xs) n in
    let u = all_below f (div_ceil (sum_by f xs) (length xs)) xs h in swap_high (sum_by f xs) (div_ceil (sum_by f xs) (length xs)) (length xs) t.1 u

-- the ceiling of the average is in range
pub is_coordinate-ceiling_by : (f : List ℕ → ℤ) (xs : List (List ℕ)) → 0 < length xs → All (λ r. is_coordinate (f r) ≡ true) xs → is_coordinate (ceiling_by f xs) ≡ true
unfolding ceiling_by lowered
is_coordinate-ceiling_by f xs n h =
    let s = sum_by (λ r. raised (f r)) xs in
    let d = div_ceil s (length xs) in
    let t = div_ceil_times s (length xs) n in
    let b = sum_by-le (λ r. raised (f r)) 4294967295 xs (All-weaker (λ r. is_coordinate (f r) ≡ true) (λ r. raised (f r) ≤ 4294967295) (λ r h. raised_bound (f r) h) xs h) in
    let q = quotient_bound s d (length xs) 4294967295 n t.1 b in
    between_to lowest (pos d -ℤ pos 2147483648) highest (omega (arith, ints, q)) (omega (arith, ints, q))

pub is_point-centroid_of : (rests : List (List ℕ)) → 0 < length rests → is_point (centroid_of rests) ≡ true
unfolding centroid_of
is_point-centroid_of rests n =
    true_and _ _
    (is_coordinate-ceiling_by (λ r. (point_of r).x) rests n (λ k d h. (in_range (get_or rests k d)).0))
    (is_coordinate-ceiling_by (λ r. (point_of r).y) rests n (λ k d h. (in_range (get_or rests k d)).1))
  where
    in_range : (r : List ℕ) → (is_coordinate (point_of r).x ≡ true) × (is_coordinate (point_of r).y ≡ true)
    in_range r = and_true (is_coordinate (point_of r).x) (is_coordinate (point_of r).y) (is_point-point_of r)

-- the ceiling by heights is the ceiling
excess_raised : (f : List ℕ → ℤ) → ((r : List ℕ) → is_coordinate (f r) ≡ true) → (d : ℕ) (rests : List (List ℕ))
    → excess f (pos d -ℤ pos 2147483648) rests ≡ pos (sum_by (λ r. raised (f r)) rests) -ℤ pos (length rests * d)
excess_raised f fine d [] = omega (arith, ints)
excess_raised f fine d (r ∷ rests) =
    let e = sum_by-cons (λ r. raised (f r)) r rests in
    let h = raised_is (f r) (fine r) in
    let n = excess_raised f fine d rests in
    omega (arith, ints)

excess_less : (f : List ℕ → ℤ) (z : ℤ) (rests : List (List ℕ)) → excess f (z -ℤ pos 1) rests ≡ excess f z rests +ℤ pos (length rests)
excess_less f z [] = omega (arith, ints)
excess_less f z (r ∷ rests) = let n = excess_less f z rests in omega (arith, ints)

pub is_ceiling : (f : List ℕ → ℤ) → ((r : List ℕ) → is_coordinate (f r) ≡ true) → (rests : List (List ℕ)) → 0 < length rests → IsCeiling f rests (ceiling_by f rests)
unfolding ceiling_by lowered
is_ceiling f fine rests n =
    let s = sum_by (λ r. raised (f r)) rests in
    let d = div_ceil s (length rests) in
    let t = div_ceil_times s (length rests) n in
    let e = excess_raised f fine d rests in
    let l = excess_less f (pos d -ℤ pos 2147483648) rests in
    let low = swap_low s d (length rests) t.0 in
    let high = under s d (length rests) t.1 in
    record { not_exceeded = omega (arith, ints); least = omega (arith, ints) }
  where
    under : (s d n : ℕ) → d * n < s + n → n * d < s + n
    under s d n h = omega (arith, mul_comm d n)

pub centroid_x : (rests : List (List ℕ)) → 0 < length rests → IsCeiling (λ r. (point_of r).x) rests (centroid_of rests).x
unfolding centroid_of
centroid_x rests n = is_ceiling (λ r. (point_of r).x) (λ r. (and_true (is_coordinate (point_of r).x) (is_coordinate (point_of r).y) (is_point-point_of r)).0) rests n

pub centroid_y : (rests : List (List ℕ)) → 0 < length rests → IsCeiling (λ r. (point_of r).y) rests (centroid_of rests).y
unfolding centroid_of
centroid_y rests n = is_ceiling (λ r. (point_of r).y) (λ r. (and_true (is_coordinate (point_of r).x) (is_coordinate (point_of r).y) (is_point-point_of r)).1) rests n
