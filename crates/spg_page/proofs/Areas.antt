-- The tuples of a page as they are kept, and what a change of the bytes makes of them.
use Rattle.std.proofs.Common.{◌≡◌, ◌≢◌, ℕ, zero, suc, ◌+◌, ◌-◌, ◌*◌, ◌/◌, ◌%◌, Option, ◌<◌, ◌≤◌, List, [], ◌∷◌, ◌++◌, length, get_or, set, take, inl, inr, refl, sym, ap, subst, ◌∙◌, arith}
use Rattle.std.specs.List.{remove, SameBelow, SameFrom, CopiedTo}
use Rattle.std.specs.Prelude.{IfSome, slice_range}
use Rattle.std.proofs.lemmas.Bool.{cases_lt, cases_eq}
use Rattle.std.proofs.lemmas.List.{take_more}
use Rattle.std.proofs.lemmas.List.Edits.{length-between, get_or-between}
use Rattle.std.proofs.lemmas.List.Sums.{sum_by-append, sum_by-set, sum_by-remove, sum_by-cons, sum_by_push, sum_by-take-le}
use Rattle.std.proofs.lemmas.Grind.{same_number_lists}
use Rattle.spg_page.specs.declared.tuple.Tuple.{Tuple}
use Rattle.spg_page.specs.declared.tuple.Tuple.TheVariants.{Inner, Leaf, Dead, Redirect, Placeholder}
use Rattle.spg_page.specs.Numbers.{two_at}
use Rattle.spg_page.specs.Spelling.{size_of, tag_of, bytes_of, tuple_of, next_number, IsTuple, AreTuple}
use Rattle.spg_page.specs.Layout.{begin_at, size_at, piece_at, AreApart, skip}
use Rattle.spg_page.specs.Stored.{used, free_of, one_if_placeholder, placeholder_count, tuple_at, tuples_in, with_next, IsLive}
use Rattle.spg_page.specs.Area.{Area, area_in, IsPlaced, IsArea}
use Rattle.spg_page.proofs.Codec.{length-bytes_of, tuple_of-bytes_of, spelled_tuple, size_from, tag_back, next_is_below, spelled_as}
use Rattle.spg_page.proofs.Numbers.{two_same}
use Rattle.spg_page.proofs.Tilings.{skip_is, skip_within, skip_apart}
use Rattle.spg_page.proofs.Layouts.{same_pieces}
use Rattle.spg_page.proofs.StoredLaws.{length-tuples_in, get_or-tuples_in, tuples_set, tuples_pushed, tuples_removed, placeholder_tag, placeholders_below, some_placeholder, live_is, next_elsewhere, next_bytes}

-- ---- sums over the tuples

used_base : (ts : List Tuple) → 4 * length ts + 16 * placeholder_count ts ≤ used ts
used_base [] = omega arith
used_base (t ∷ ts) = omega (arith, sum_by-cons one_if_placeholder t ts, sum_by-cons (λ u. size_of u + 4) t ts, used_base ts, one_sized t)
  where
    one_sized : (t : Tuple) → 16 * one_if_placeholder t ≤ size_of t
    one_sized (Inner x) = omega arith
    one_sized (Leaf x) = omega arith
    one_sized Dead = omega arith
    one_sized (Redirect to stamp) = omega arith
    one_sized Placeholder = omega arith

used_long : (ts : List Tuple) → ((i : ℕ) → i < length ts → 16 ≤ size_of (get_or ts i Placeholder)) → 20 * length ts ≤ used ts
used_long [] h = omega arith
used_long (t ∷ ts) h =
    let first : 16 ≤ size_of t = h zero (omega arith) in
    let rest : 20 * length ts ≤ used ts = used_long ts (λ i l. h (suc i) (omega arith)) in
    omega (arith, first, rest, sum_by-cons (λ u. size_of u + 4) t ts)

pub other_one : (t : Tuple) → tag_of t ≢ 5 → one_if_placeholder t ≡ 0
other_one (Inner x) h = refl
other_one (Leaf x) h = refl
other_one Dead h = refl
other_one (Redirect to stamp) h = refl
other_one Placeholder h = absurd (h refl)

-- ---- what an area knows

-- the placeholder at the front
at_front : (b : List ℕ) (i : ℕ) → slice_range b 0 16 ≡ bytes_of Placeholder → begin_at b i ≡ 0 → size_at b i ≡ 16 → piece_at b i ≡ bytes_of Placeholder
at_front b i front z s = rw (z, s) front

front_tuple : (b : List ℕ) (i : ℕ) → piece_at b i ≡ bytes_of Placeholder → tuple_at b i ≡ Placeholder
front_tuple b i e = ap tuple_of e ∙ tuple_of-bytes_of Placeholder tt

module _ {b : List ℕ} {n upper p w : ℕ} (A : IsArea b n upper p w) where
  pub area_within : (i : ℕ) → i < n → begin_at b i + size_at b i ≤ 8192
  area_within i l = elim (A.placed i l) [ inl z ↦ omega (arith, z.0, z.1) | inr z ↦ omega (arith, z.1) ]

  pub area_size : (i : ℕ) → i < n → size_of (tuple_at b i) ≡ size_at b i
  area_size i l =
      let within = area_within i l in
      sym (length-bytes_of (tuple_at b i)) ∙ ap length (A.stored i l).spelled ∙ length-between b (begin_at b i) (begin_at b i + size_at b i) (omega (arith, A.len, within)) ∙ (let e : begin_at b i + size_at b i - begin_at b i ≡ size_at b i = omega arith in e)

  pub area_long : (i : ℕ) → i < n → 16 ≤ size_at b i
  area_long i l = let e = area_size i l in let f = size_from (tuple_at b i) (A.stored i l).tuple in omega arith

  pub area_bound : n ≤ 408
  area_bound =
      let long : 20 * length (tuples_in b n) ≤ used (tuples_in b n) = used_long (tuples_in b n) (λ i l.
      let li : i < n = omega (arith, length-tuples_in b n) in
      let e : size_of (get_or (tuples_in b n) i Placeholder) ≡ size_at b i = ap size_of (get_or-tuples_in b n i Placeholder li) ∙ area_size i li in
      omega (arith, e, area_long i li)) in
      omega (arith, long, length-tuples_in b n, A.fits)

  pub area_top : upper + w ≤ 8184
  area_top = omega (arith, A.whole, used_base (tuples_in b n), length-tuples_in b n, A.empties)

  pub area_tag : (i : ℕ) → i < n → get_or b (begin_at b i) 0 ≡ tag_of (tuple_at b i)
  area_tag i l =
      let long = area_long i l in
      let within = area_within i l in
      let first : get_or (piece_at b i) 0 0 ≡ get_or b (begin_at b i) 0 = get_or-between b (begin_at b i) (begin_at b i + size_at b i) 0 0 (omega arith) ∙ ap (λ k. get_or b k 0) (let e : begin_at b i + 0 ≡ begin_at b i = omega arith in e) in
      sym first ∙ ap (λ x. get_or x 0 0) (sym (A.stored i l).spelled) ∙ tag_back (tuple_at b i)

  -- a tuple that is no placeholder stands from upper on
  pub area_other : (i : ℕ) → i < n → tag_of (tuple_at b i) ≢ 5 → (upper ≤ begin_at b i) × (begin_at b i + size_at b i ≤ 8184)
  area_other i l ne = elim (A.placed i l) [
    | inl z ↦ absurd (ne (ap tag_of (front_tuple b i (at_front b i A.front z.0 z.1))))
    | inr z ↦ z
  ]

-- an area as its value shows it
pub record IsKnown (b : List ℕ) (n upper p w : ℕ) (a : Area) : Type 0 where
  pub tuples : tuples_in b n ≡ a.tuples
  pub gap : a.gap + 24 + 4 * n ≡ upper
  pub count : length a.tuples ≡ n
  pub bound : n ≤ 408
  pub top : upper + w ≤ 8184
  pub free : free_of a.tuples + 24 + 4 * n + 16 * p ≡ upper + w
  pub used_is : free_of a.tuples + used a.tuples ≡ 8160
  pub empties : p ≡ placeholder_count a.tuples
  pub empties_bound : p ≤ n
  pub within : (i : ℕ) → i < n → begin_at b i + size_at b i ≤ 8192
  pub sized : (i : ℕ) → i < n → size_of (get_or a.tuples i Placeholder) ≡ size_at b i
  pub tagged : (i : ℕ) → i < n → tag_of (get_or a.tuples i Placeholder) ≡ get_or b (begin_at b i) 0
  pub spelled : (i : ℕ) → i < n → AreTuple (piece_at b i)
  pub value : (i : ℕ) → i < n → tuple_of (piece_at b i) ≡ get_or a.tuples i Placeholder

pub known : {b : List ℕ} {n upper p w : ℕ} {a : Area} → IsArea b n upper p w → area_in b n upper ≡ a → IsKnown b n upper p w a
known {b} {n} {upper} {p} {w} A e =
    subst (IsKnown b n upper p w) e (record {
      tuples = refl;
      gap = omega (arith, A.pointers);
      count = length-tuples_in b n;
      bound = area_bound A;
      top = area_top A;
      free = omega (arith, A.whole, A.fits);
      used_is = omega (arith, A.fits);
      empties = A.empties;
      empties_bound = omega (arith, A.empties, placeholders_below (tuples_in b n), length-tuples_in b n);
      within = area_within A;
      sized = λ i l. ap size_of (get_or-tuples_in b n i Placeholder l) ∙ area_size A i l;
      tagged = λ i l. ap tag_of (get_or-tuples_in b n i Placeholder l) ∙ sym (area_tag A i l);
      spelled = A.stored;
      value = λ i l. sym (get_or-tuples_in b n i Placeholder l);
    })

-- a placeholder is counted
pub some_empty : {b : List ℕ} {n upper p w : ℕ} {a : Area} → IsArea b n upper p w → area_in b n upper ≡ a → (o : ℕ) → o < length a.tuples → tag_of (get_or a.tuples o Placeholder) ≡ 5 → 0 < p
some_empty {b} {n} {upper} {p} {w} {a} A e o l h =
    let v = known A e in
    let one : one_if_placeholder (get_or a.tuples o Placeholder) ≡ 1 = ap one_if_placeholder (placeholder_tag (get_or a.tuples o Placeholder) h) in
    omega (arith, v.empties, some_placeholder a.tuples o l, one)

-- ---- one more tuple

pub grown_counts : (ts : List Tuple) → (used (ts ++ Placeholder ∷ []) ≡ used ts + 20) × (placeholder_count (ts ++ Placeholder ∷ []) ≡ placeholder_count ts + 1)
grown_counts ts =
    let u : used (ts ++ Placeholder ∷ []) ≡ used ts + (0 + 20) = sum_by-append (λ t. size_of t + 4) ts (Placeholder ∷ []) in
    let p : placeholder_count (ts ++ Placeholder ∷ []) ≡ placeholder_count ts + (0 + 1) = sum_by-append one_if_placeholder ts (Placeholder ∷ []) in
    (omega arith, omega arith)

pub pushed_counts : (ts : List Tuple) (t : Tuple) → (used (ts ++ t ∷ []) ≡ used ts + (size_of t + 4)) × (placeholder_count (ts ++ t ∷ []) ≡ placeholder_count ts + one_if_placeholder t)
pushed_counts ts t =
    let u : used (ts ++ t ∷ []) ≡ used ts + (0 + (size_of t + 4)) = sum_by-append (λ t. size_of t + 4) ts (t ∷ []) in
    let p : placeholder_count (ts ++ t ∷ []) ≡ placeholder_count ts + (0 + one_if_placeholder t) = sum_by-append one_if_placeholder ts (t ∷ []) in
    (omega arith, omega arith)

pub last_tag : (ts : List Tuple) → tag_of (get_or (ts ++ Placeholder ∷ []) (length ts) Placeholder) ≡ 5
last_tag [] = refl
last_tag (t ∷ ts) = last_tag ts

pub last_set : (ts : List Tuple) (t u : Tuple) → set (ts ++ t ∷ []) (length ts) u ≡ ts ++ u ∷ []
last_set [] t u = refl
last_set (x ∷ ts) t u = ap (λ us. x ∷ us) (last_set ts t u)

-- a tuple is written anew behind those before it
pub pressed_room : {b : List ℕ} {n upper p w : ℕ} {a : Area} → IsKnown b n upper p w a → (i : ℕ) → i < n → length (piece_at b i) + 4 ≤ free_of (take i a.tuples)
pressed_room {b} {n} {upper} {p} {w} {a} v i l =
    let li : i < length a.tuples = omega (arith, v.count) in
    let here = (spelled_as (piece_at b i) (get_or a.tuples i Placeholder) (v.spelled i l) (v.value i l)).size in
    let more : used (take (i + 1) a.tuples) ≡ used (take i a.tuples) + (size_of (get_or a.tuples i Placeholder) + 4) = ap used (take_more a.tuples i Placeholder li) ∙ sum_by_push (λ u. size_of u + 4) (take i a.tuples) (get_or a.tuples i Placeholder) in
    let least = sum_by-take-le (λ u. size_of u + 4) a.tuples (i + 1) in
    omega (arith, here, more, least, v.used_is)

-- an area with no tuples
pub area_empty : (b : List ℕ) → length b ≡ 8192 → slice_range b 0 16 ≡ bytes_of Placeholder → IsArea b 0 8184 0 0
area_empty b len front = record {
  len = len;
  front = front;
  pointers = omega arith;
  placed = λ i l. absurd (omega arith);
  stored = λ i l. absurd (omega arith);
  others = λ i l. absurd (omega arith);
  apart = λ i j l. absurd (omega arith);
  empties = refl;
  whole = refl;
  fits = omega arith;
}

-- ---- a piece whose bytes stay

pub piece_kept : (b0 b1 : List ℕ) (n upper p w i j : ℕ) → IsArea b0 n upper p w → i < n → length b1 ≡ 8192 → begin_at b1 j ≡ begin_at b0 i → size_at b1 j ≡ size_at b0 i → ((k : ℕ) → k < 16 → get_or b1 k 0 ≡ get_or b0 k 0) → ((k : ℕ) → upper ≤ begin_at b0 i → begin_at b0 i ≤ k → k < begin_at b0 i + size_at b0 i → get_or b1 k 0 ≡ get_or b0 k 0) → piece_at b1 j ≡ piece_at b0 i
piece_kept b0 b1 n upper p w i j A l len begins sizes front other =
    let within = area_within A i l in
    rw (begins, sizes) (same_pieces b1 b0 (begin_at b0 i) (begin_at b0 i) (size_at b0 i) (omega (arith, len)) (omega (arith, A.len)) (λ k lk.
    elim (A.placed i l) [
      | inl z ↦ front (begin_at b0 i + k) (omega (arith, z.0, z.1))
      | inr z ↦ other (begin_at b0 i + k) z.0 (omega arith) (omega arith)
    ]))

front_kept : (b0 b1 : List ℕ) → length b0 ≡ 8192 → length b1 ≡ 8192 → slice_range b0 0 16 ≡ bytes_of Placeholder → ((k : ℕ) → k < 16 → get_or b1 k 0 ≡ get_or b0 k 0) → slice_range b1 0 16 ≡ bytes_of Placeholder
front_kept b0 b1 len0 len1 front same = same_pieces b1 b0 0 0 16 (omega (arith, len1)) (omega (arith, len0)) (λ k l. same (0 + k) (omega arith)) ∙ front

-- ---- one tuple becomes another

pub record Becomes (b0 b1 : List ℕ) (n u0 u1 o : ℕ) (t : Tuple) : Type 0 where
  pub len : length b1 ≡ 8192
  pub front : (k : ℕ) → k < 16 → get_or b1 k 0 ≡ get_or b0 k 0
  pub lower : u1 ≤ u0
  pub pointers : 24 + 4 * n ≤ u1
  pub begins : (i : ℕ) → i < n → i ≢ o → begin_at b1 i ≡ begin_at b0 i
  pub sizes : (i : ℕ) → i < n → i ≢ o → size_at b1 i ≡ size_at b0 i
  pub pieces : (i : ℕ) → i < n → i ≢ o → piece_at b1 i ≡ piece_at b0 i
  pub place : IsPlaced b1 u1 o
  pub here : piece_at b1 o ≡ bytes_of t
  pub tuple : IsTuple t
  pub other : u1 ≤ begin_at b1 o → tag_of t ≢ 5
  pub apart : (i : ℕ) → i < n → i ≢ o → u1 ≤ begin_at b1 o → u0 ≤ begin_at b0 i → AreApart (begin_at b1 o) (size_at b1 o) (begin_at b0 i) (size_at b0 i)

turned : (a m b n : ℕ) → AreApart a m b n → AreApart b n a m
turned a m b n h = elim h [ inl x ↦ inr x | inr x ↦ inl x ]

pub become : (b0 b1 : List ℕ) (n u0 u1 p0 p1 w0 w1 o : ℕ) (t : Tuple) → IsArea b0 n u0 p0 w0 → o < n → Becomes b0 b1 n u0 u1 o t → p1 + one_if_placeholder (tuple_at b0 o) ≡ p0 + one_if_placeholder t → u1 + size_of t + w1 + 16 * p0 ≡ u0 + size_of (tuple_at b0 o) + w0 + 16 * p1 → size_of t ≤ size_of (tuple_at b0 o) + free_of (tuples_in b0 n) → IsArea b1 n u1 p1 w1 × (tuples_in b1 n ≡ set (tuples_in b0 n) o t)
become b0 b1 n u0 u1 p0 p1 w0 w1 o t A lo B counted sums room =
    let here : tuple_at b1 o ≡ t = ap tuple_of B.here ∙ tuple_of-bytes_of t B.tuple in
    let list : tuples_in b1 n ≡ set (tuples_in b0 n) o t = tuples_set b0 b1 n o t lo here B.pieces in
    let lt : o < length (tuples_in b0 n) = omega (arith, length-tuples_in b0 n) in
    let was : get_or (tuples_in b0 n) o Placeholder ≡ tuple_at b0 o = get_or-tuples_in b0 n o Placeholder lo in
    let used_is : used (set (tuples_in b0 n) o t) + (size_of (get_or (tuples_in b0 n) o Placeholder) + 4) ≡ used (tuples_in b0 n) + (size_of t + 4) = sum_by-set (λ x. size_of x + 4) (tuples_in b0 n) o t Placeholder lt in
    let count_is : placeholder_count (set (tuples_in b0 n) o t) + one_if_placeholder (get_or (tuples_in b0 n) o Placeholder) ≡ placeholder_count (tuples_in b0 n) + one_if_placeholder t = sum_by-set one_if_placeholder (tuples_in b0 n) o t Placeholder lt in
    let size_was : size_of (get_or (tuples_in b0 n) o Placeholder) ≡ size_of (tuple_at b0 o) = ap size_of was in
    let one_was : one_if_placeholder (get_or (tuples_in b0 n) o Placeholder) ≡ one_if_placeholder (tuple_at b0 o) = ap one_if_placeholder was in
    let used_now : used (tuples_in b1 n) ≡ used (set (tuples_in b0 n) o t) = ap used list in
    let count_now : placeholder_count (tuples_in b1 n) ≡ placeholder_count (set (tuples_in b0 n) o t) = ap placeholder_count list in
    -- what stands from upper on, and is not the changed one, stood there
    let stood : (i : ℕ) → i < n → i ≢ o → u1 ≤ begin_at b1 i → u0 ≤ begin_at b0 i = λ i l ne h. elim (A.placed i l) [
      | inl z ↦ absurd (let e = B.begins i l ne in let f = B.pointers in omega (arith, z.0))
      | inr z ↦ z.0
    ] in (
      record {
        len = B.len;
        front = front_kept b0 b1 A.len B.len A.front B.front;
        pointers = B.pointers;
        placed = λ i l. elim (cases_eq i o) [
          | inl e ↦ rw e B.place
          | inr ne ↦ elim (A.placed i l) [
            | inl z ↦ inl (B.begins i l ne ∙ z.0, B.sizes i l ne ∙ z.1)
            | inr z ↦ inr (omega (arith, B.begins i l ne, B.lower, z.0), omega (arith, B.begins i l ne, B.sizes i l ne, z.1))
          ]
        ];
        stored = λ i l. elim (cases_eq i o) [
          | inl e ↦ rw (e, B.here) (spelled_tuple t B.tuple)
          | inr ne ↦ rw (B.pieces i l ne) (A.stored i l)
        ];
        others = λ i l h. elim (cases_eq i o) [
          | inl e ↦ (λ f. B.other (subst (λ k. u1 ≤ begin_at b1 k) e h) (sym (ap tag_of here) ∙ ap (λ k. tag_of (tuple_at b1 k)) (sym e) ∙ f))
          | inr ne ↦ (λ f. A.others i l (stood i l ne h) (ap (λ x. tag_of (tuple_of x)) (sym (B.pieces i l ne)) ∙ f))
        ];
        apart = λ i j li lj ne hi hj. elim (cases_eq i o) [
          | inl e ↦
              let nj : j ≢ o = (λ f. ne (e ∙ sym f)) in
              rw (e, B.begins j lj nj, B.sizes j lj nj) (B.apart j lj nj (subst (λ k. u1 ≤ begin_at b1 k) e hi) (stood j lj nj hj))
          | inr ni ↦ elim (cases_eq j o) [
            | inl e ↦ rw (e, B.begins i li ni, B.sizes i li ni) (turned (begin_at b1 o) (size_at b1 o) (begin_at b0 i) (size_at b0 i) (B.apart i li ni (subst (λ k. u1 ≤ begin_at b1 k) e hj) (stood i li ni hi)))
            | inr nj ↦ rw (B.begins i li ni, B.sizes i li ni, B.begins j lj nj, B.sizes j lj nj) (A.apart i j li lj ne (stood i li ni hi) (stood j lj nj hj))
          ]
        ];
        empties = omega (arith, count_now, count_is, one_was, counted, A.empties);
        whole = omega (arith, used_now, used_is, size_was, sums, A.whole);
        fits = omega (arith, used_now, used_is, size_was, room, A.fits);
      },
      list,
    )

-- ---- a pointer is written

module _ (b0 b1 : List ℕ) (n o : ℕ) (below : (k : ℕ) → k < 24 + 4 * o → get_or b1 k 0 ≡ get_or b0 k 0) (above : (k : ℕ) → 28 + 4 * o ≤ k → get_or b1 k 0 ≡ get_or b0 k 0) where
  pub begin_else : (i : ℕ) → i ≢ o → begin_at b1 i ≡ begin_at b0 i
  begin_else i ne = elim (cases_lt i o) [
    | inl l ↦ two_same b1 b0 (24 + 4 * i) (24 + 4 * i) (below (24 + 4 * i) (omega arith)) (below (24 + 4 * i + 1) (omega arith))
    | inr g ↦ two_same b1 b0 (24 + 4 * i) (24 + 4 * i) (above (24 + 4 * i) (omega arith)) (above (24 + 4 * i + 1) (omega arith))
  ]

  pub size_else : (i : ℕ) → i ≢ o → size_at b1 i ≡ size_at b0 i
  size_else i ne = elim (cases_lt i o) [
    | inl l ↦ two_same b1 b0 (26 + 4 * i) (26 + 4 * i) (below (26 + 4 * i) (omega arith)) (below (26 + 4 * i + 1) (omega arith))
    | inr g ↦ two_same b1 b0 (26 + 4 * i) (26 + 4 * i) (above (26 + 4 * i) (omega arith)) (above (26 + 4 * i + 1) (omega arith))
  ]

-- a tuple becomes a placeholder
pub blanked_area : (b0 b1 : List ℕ) (n u p w s o : ℕ) → IsArea b0 n u p w → o < n → tag_of (tuple_at b0 o) ≢ 5 → s ≡ size_at b0 o → length b1 ≡ 8192 → begin_at b1 o ≡ 0 → size_at b1 o ≡ 16 → ((k : ℕ) → k < 24 + 4 * o → get_or b1 k 0 ≡ get_or b0 k 0) → ((k : ℕ) → 28 + 4 * o ≤ k → get_or b1 k 0 ≡ get_or b0 k 0) → IsArea b1 n u (p + 1) (w + s) × (tuples_in b1 n ≡ set (tuples_in b0 n) o Placeholder)
blanked_area b0 b1 n u p w s o A lo ne s_is len begin size below above =
    let po : 24 + 4 * n ≤ u = A.pointers in
    let long = area_long A o lo in
    let e = area_size A o lo in
    let one : one_if_placeholder (tuple_at b0 o) ≡ 0 = other_one (tuple_at b0 o) ne in
    become b0 b1 n u u p (p + 1) w (w + s) o Placeholder A lo
    (record {
      len = len;
      front = λ k l. below k (omega arith);
      lower = omega arith;
      pointers = po;
      begins = λ i l ni. begin_else b0 b1 n o below above i ni;
      sizes = λ i l ni. size_else b0 b1 n o below above i ni;
      pieces = λ i l ni. piece_kept b0 b1 n u p w i i A l len (begin_else b0 b1 n o below above i ni) (size_else b0 b1 n o below above i ni) (λ k h. below k (omega arith)) (λ k h g lk. above k (omega arith));
      place = inl (begin, size);
      here = at_front b1 o (front_kept b0 b1 A.len len A.front (λ k l. below k (omega arith))) begin size;
      tuple = tt;
      other = λ h. absurd (omega arith);
      apart = λ i l ni h. absurd (omega arith);
    }) (omega arith) (omega arith) (omega arith)

-- a placeholder behind the others
pub grown_area : (b0 b1 : List ℕ) (n u p w : ℕ) → IsArea b0 n u p w → 28 + 4 * n ≤ u → 20 ≤ free_of (tuples_in b0 n) → length b1 ≡ 8192 → begin_at b1 n ≡ 0 → size_at b1 n ≡ 16 → ((k : ℕ) → k < 24 + 4 * n → get_or b1 k 0 ≡ get_or b0 k 0) → ((k : ℕ) → 28 + 4 * n ≤ k → get_or b1 k 0 ≡ get_or b0 k 0) → IsArea b1 (n + 1) u (p + 1) w × (tuples_in b1 (n + 1) ≡ tuples_in b0 n ++ Placeholder ∷ [])
grown_area b0 b1 n u p w A room free len begin size below above =
    let begins : (i : ℕ) → i < n → begin_at b1 i ≡ begin_at b0 i = λ i l. begin_else b0 b1 n n below above i (λ e. absurd (omega arith)) in
    let sizes : (i : ℕ) → i < n → size_at b1 i ≡ size_at b0 i = λ i l. size_else b0 b1 n n below above i (λ e. absurd (omega arith)) in
    let pieces : (i : ℕ) → i < n → piece_at b1 i ≡ piece_at b0 i = λ i l. piece_kept b0 b1 n u p w i i A l len (begins i l) (sizes i l) (λ k h. below k (omega arith)) (λ k h g lk. above k (omega arith)) in
    let front : slice_range b1 0 16 ≡ bytes_of Placeholder = front_kept b0 b1 A.len len A.front (λ k l. below k (omega arith)) in
    let here : piece_at b1 n ≡ bytes_of Placeholder = at_front b1 n front begin size in
    let list : tuples_in b1 (n + 1) ≡ tuples_in b0 n ++ Placeholder ∷ [] = tuples_pushed b0 b1 n Placeholder (front_tuple b1 n here) pieces in
    let used_is : used (tuples_in b0 n ++ Placeholder ∷ []) ≡ used (tuples_in b0 n) + (0 + 20) = sum_by-append (λ t. size_of t + 4) (tuples_in b0 n) (Placeholder ∷ []) in
    let count_is : placeholder_count (tuples_in b0 n ++ Placeholder ∷ []) ≡ placeholder_count (tuples_in b0 n) + (0 + 1) = sum_by-append one_if_placeholder (tuples_in b0 n) (Placeholder ∷ []) in
    let used_now : used (tuples_in b1 (n + 1)) ≡ used (tuples_in b0 n ++ Placeholder ∷ []) = ap used list in
    let count_now : placeholder_count (tuples_in b1 (n + 1)) ≡ placeholder_count (tuples_in b0 n ++ Placeholder ∷ []) = ap placeholder_count list in
    let old : (i : ℕ) → i < n + 1 → u ≤ begin_at b1 i → i < n = λ i l h. elim (cases_eq i n) [
      | inl e ↦ absurd (let f : begin_at b1 i ≡ 0 = ap (begin_at b1) e ∙ begin in omega arith)
      | inr ne ↦ omega arith
    ] in
    let stood : (i : ℕ) → i < n → u ≤ begin_at b1 i → u ≤ begin_at b0 i = λ i l h. omega (arith, begins i l) in (
      record {
        len = len;
        front = front;
        pointers = omega arith;
        placed = λ i l. elim (cases_eq i n) [
          | inl e ↦ rw e (inl (begin, size))
          | inr ne ↦ let li : i < n = omega arith in elim (A.placed i li) [
            | inl z ↦ inl (begins i li ∙ z.0, sizes i li ∙ z.1)
            | inr z ↦ inr (omega (arith, begins i li, z.0), omega (arith, begins i li, sizes i li, z.1))
          ]
        ];
        stored = λ i l. elim (cases_eq i n) [
          | inl e ↦ rw (e, here) (spelled_tuple Placeholder tt)
          | inr ne ↦ let li : i < n = omega arith in rw (pieces i li) (A.stored i li)
        ];
        others = λ i l h f. let li = old i l h in A.others i li (stood i li h) (ap (λ x. tag_of (tuple_of x)) (sym (pieces i li)) ∙ f);
        apart = λ i j li lj ne hi hj.
            let ki = old i li hi in
            let kj = old j lj hj in
            rw (begins i ki, sizes i ki, begins j kj, sizes j kj) (A.apart i j ki kj ne (stood i ki hi) (stood j kj hj));
        empties = omega (arith, count_now, count_is, A.empties);
        whole = omega (arith, used_now, used_is, A.whole);
        fits = omega (arith, used_now, used_is, free, A.fits);
      },
      list,
    )

-- a placeholder becomes a tuple, below the others
pub filled_area : (b0 b1 b2 piece : List ℕ) (n u0 u1 p0 p1 w o : ℕ) → IsArea b0 n u0 p0 w → o < n → tag_of (tuple_at b0 o) ≡ 5 → AreTuple piece → tag_of (tuple_of piece) ≢ 5 → length piece ≤ 16 + free_of (tuples_in b0 n) → u1 + length piece ≡ u0 → 24 + 4 * n ≤ u1 → p1 + 1 ≡ p0 → length b1 ≡ 8192 → length b2 ≡ 8192 → slice_range b1 u1 (u1 + length piece) ≡ piece → ((k : ℕ) → k < u1 → get_or b1 k 0 ≡ get_or b0 k 0) → ((k : ℕ) → u1 + length piece ≤ k → get_or b1 k 0 ≡ get_or b0 k 0) → begin_at b2 o ≡ u1 → size_at b2 o ≡ length piece → ((k : ℕ) → k < 24 + 4 * o → get_or b2 k 0 ≡ get_or b1 k 0) → ((k : ℕ) → 28 + 4 * o ≤ k → get_or b2 k 0 ≡ get_or b1 k 0) → IsArea b2 n u1 p1 w × (tuples_in b2 n ≡ set (tuples_in b0 n) o (tuple_of piece))
filled_area b0 b1 b2 piece n u0 u1 p0 p1 w o A lo empty spelled ne fits upper_is room count len1 len2 written low high begin size below above =
    let top : u0 + w ≤ 8184 = area_top A in
    let was : tuple_at b0 o ≡ Placeholder = placeholder_tag (tuple_at b0 o) empty in
    let size_was : size_of (tuple_at b0 o) ≡ 16 = ap size_of was in
    let one_was : one_if_placeholder (tuple_at b0 o) ≡ 1 = ap one_if_placeholder was in
    let one_is : one_if_placeholder (tuple_of piece) ≡ 0 = other_one (tuple_of piece) ne in
    let size_is : size_of (tuple_of piece) ≡ length piece = sym (length-bytes_of (tuple_of piece)) ∙ ap length spelled.spelled in
    let begins : (i : ℕ) → i < n → i ≢ o → begin_at b2 i ≡ begin_at b0 i = λ i l ni. begin_else b1 b2 n o below above i ni ∙ two_same b1 b0 (24 + 4 * i) (24 + 4 * i) (low (24 + 4 * i) (omega arith)) (low (24 + 4 * i + 1) (omega arith)) in
    let sizes : (i : ℕ) → i < n → i ≢ o → size_at b2 i ≡ size_at b0 i = λ i l ni. size_else b1 b2 n o below above i ni ∙ two_same b1 b0 (26 + 4 * i) (26 + 4 * i) (low (26 + 4 * i) (omega arith)) (low (26 + 4 * i + 1) (omega arith)) in
    let front : (k : ℕ) → k < 16 → get_or b2 k 0 ≡ get_or b0 k 0 = λ k l. below k (omega arith) ∙ low k (omega arith) in
    become b0 b2 n u0 u1 p0 p1 w w o (tuple_of piece) A lo
    (record {
      len = len2;
      front = front;
      lower = omega arith;
      pointers = room;
      begins = begins;
      sizes = sizes;
      pieces = λ i l ni. piece_kept b0 b2 n u0 p0 w i i A l len2 (begins i l ni) (sizes i l ni) front (λ k h g lk. above k (omega arith) ∙ high k (omega arith));
      place = inr (omega arith, omega arith);
      here = rw (begin, size) (same_pieces b2 b1 u1 u1 (length piece) (omega arith) (omega arith) (λ k h. above (u1 + k) (omega arith)) ∙ written ∙ sym spelled.spelled);
      tuple = spelled.tuple;
      other = λ h. ne;
      apart = λ i l ni h g. inl (omega arith);
    }) (omega arith) (omega arith) (omega arith)

-- the bytes of a tuple are changed in their place
pub patched_area : (b0 b1 : List ℕ) (n u p w o : ℕ) (t : Tuple) → IsArea b0 n u p w → o < n → tag_of (tuple_at b0 o) ≢ 5 → IsTuple t → tag_of t ≡ tag_of (tuple_at b0 o) → length (bytes_of t) ≡ size_at b0 o → length b1 ≡ 8192 → ((k : ℕ) → k < begin_at b0 o → get_or b1 k 0 ≡ get_or b0 k 0) → ((k : ℕ) → begin_at b0 o + size_at b0 o ≤ k → get_or b1 k 0 ≡ get_or b0 k 0) → ((k : ℕ) → k < size_at b0 o → get_or b1 (begin_at b0 o + k) 0 ≡ get_or (bytes_of t) k 0) → IsArea b1 n u p w × (tuples_in b1 n ≡ set (tuples_in b0 n) o t)
patched_area b0 b1 n u p w o t A lo ne fits tag long len below above here =
    let at = area_other A o lo ne in
    let ao : u ≤ begin_at b0 o = at.0 in
    let bo : begin_at b0 o + size_at b0 o ≤ 8184 = at.1 in
    let po : 24 + 4 * n ≤ u = A.pointers in
    let size_was = area_size A o lo in
    let size_is : size_of t ≡ size_at b0 o = sym (length-bytes_of t) ∙ long in
    let ne2 : tag_of t ≢ 5 = (λ e. ne (sym tag ∙ e)) in
    let one_was : one_if_placeholder (tuple_at b0 o) ≡ 0 = other_one (tuple_at b0 o) ne in
    let one_is : one_if_placeholder t ≡ 0 = other_one t ne2 in
    let begins : (i : ℕ) → i < n → begin_at b1 i ≡ begin_at b0 i = λ i l. two_same b1 b0 (24 + 4 * i) (24 + 4 * i) (below (24 + 4 * i) (omega arith)) (below (24 + 4 * i + 1) (omega arith)) in
    let sizes : (i : ℕ) → i < n → size_at b1 i ≡ size_at b0 i = λ i l. two_same b1 b0 (26 + 4 * i) (26 + 4 * i) (below (26 + 4 * i) (omega arith)) (below (26 + 4 * i + 1) (omega arith)) in
    let bo1 : begin_at b1 o ≡ begin_at b0 o = begins o lo in
    let so1 : size_at b1 o ≡ size_at b0 o = sizes o lo in
    become b0 b1 n u u p p w w o t A lo
    (record {
      len = len;
      front = λ k l. below k (omega arith);
      lower = omega arith;
      pointers = po;
      begins = λ i l ni. begins i l;
      sizes = λ i l ni. sizes i l;
      pieces = λ i l ni. piece_kept b0 b1 n u p w i i A l len (begins i l) (sizes i l) (λ k h. below k (omega arith)) (λ k h g lk. elim (A.apart i o l lo ni h ao) [ inl x ↦ below k (omega arith) | inr x ↦ above k (omega arith) ]);
      place = inr (omega arith, omega arith);
      here = rw (bo1, so1) (
          let lb : length (slice_range b1 (begin_at b0 o) (begin_at b0 o + size_at b0 o)) ≡ size_at b0 o = length-between b1 (begin_at b0 o) (begin_at b0 o + size_at b0 o) (omega (arith, len)) ∙ omega arith in
          same_number_lists (slice_range b1 (begin_at b0 o) (begin_at b0 o + size_at b0 o)) (bytes_of t) (lb ∙ sym long) (λ k l.
          let lk : k < size_at b0 o = omega arith in
          get_or-between b1 (begin_at b0 o) (begin_at b0 o + size_at b0 o) k 0 (omega arith) ∙ here k lk));
      tuple = fits;
      other = λ h. ne2;
      apart = λ i l ni h g. rw (bo1, so1) (A.apart o i lo l (λ e. ni (sym e)) ao g);
    }) (omega arith) (omega arith) (omega arith)

-- ---- a placeholder is cut out

pub cut_area : (b0 b1 : List ℕ) (n m u p0 p1 w o : ℕ) → IsArea b0 n u p0 w → o < n → n ≡ m + 1 → p0 ≡ p1 + 1 → tag_of (tuple_at b0 o) ≡ 5 → length b1 ≡ 8192 → CopiedTo b0 b1 (28 + 4 * o) (24 + 4 * o) (24 + 4 * n - (28 + 4 * o)) × SameBelow b0 b1 (24 + 4 * o) × SameFrom b0 b1 (24 + 4 * o + (24 + 4 * n - (28 + 4 * o))) → IsArea b1 m u p1 w × (tuples_in b1 m ≡ remove (tuples_in b0 n) o)
cut_area b0 b1 n m u p0 p1 w o A lo nm pm empty len copied =
    let pointers : 24 + 4 * n ≤ u = A.pointers in
    let low : (k : ℕ) → k < 24 + 4 * o → get_or b1 k 0 ≡ get_or b0 k 0 = λ k l. copied.1 k 0 l in
    let down : (k : ℕ) → 24 + 4 * o ≤ k → k < 20 + 4 * n → get_or b1 k 0 ≡ get_or b0 (k + 4) 0 = λ k a l.
    copied.0 k 0 a (omega arith) ∙ ap (λ j. get_or b0 j 0) (let e : 28 + 4 * o + (k - (24 + 4 * o)) ≡ k + 4 = omega arith in e) in
    let high : (k : ℕ) → 24 + 4 * n ≤ k → get_or b1 k 0 ≡ get_or b0 k 0 = λ k l. copied.2 k 0 (omega arith) in
    let pointer : (i j : ℕ) → i < m → j < 3 → (k : ℕ) → k ≡ 24 + 4 * i + j → two_at b1 k ≡ two_at b0 (24 + 4 * skip o i + j) = λ i j l lj k ek. elim (skip_is o i) [
      | inl h ↦ two_same b1 b0 k (24 + 4 * skip o i + j)
          (low k (omega arith) ∙ ap (λ x. get_or b0 x 0) (let e : k ≡ 24 + 4 * skip o i + j = omega arith in e))
          (low (k + 1) (omega arith) ∙ ap (λ x. get_or b0 x 0) (let e : k + 1 ≡ 24 + 4 * skip o i + j + 1 = omega arith in e))
      | inr h ↦ two_same b1 b0 k (24 + 4 * skip o i + j)
          (down k (omega arith) (omega arith) ∙ ap (λ x. get_or b0 x 0) (let e : k + 4 ≡ 24 + 4 * skip o i + j = omega arith in e))
          (down (k + 1) (omega arith) (omega arith) ∙ ap (λ x. get_or b0 x 0) (let e : k + 1 + 4 ≡ 24 + 4 * skip o i + j + 1 = omega arith in e))
    ] in
    let begins : (i : ℕ) → i < m → begin_at b1 i ≡ begin_at b0 (skip o i) = λ i l. pointer i 0 l (omega arith) (24 + 4 * i) (omega arith) ∙ ap (two_at b0) (let e : 24 + 4 * skip o i + 0 ≡ 24 + 4 * skip o i = omega arith in e) in
    let sizes : (i : ℕ) → i < m → size_at b1 i ≡ size_at b0 (skip o i) = λ i l. pointer i 2 l (omega arith) (26 + 4 * i) (omega arith) ∙ ap (two_at b0) (let e : 24 + 4 * skip o i + 2 ≡ 26 + 4 * skip o i = omega arith in e) in
    let front : (k : ℕ) → k < 16 → get_or b1 k 0 ≡ get_or b0 k 0 = λ k l. low k (omega arith) in
    let inside : (i : ℕ) → i < m → skip o i < n = λ i l. (let e = skip_within o i m l in omega arith) in
    let pieces : (i : ℕ) → i < m → piece_at b1 i ≡ piece_at b0 (skip o i) = λ i l. piece_kept b0 b1 n u p0 w (skip o i) i A (inside i l) len (begins i l) (sizes i l) front (λ k h g lk. high k (omega arith)) in
    let list : tuples_in b1 m ≡ remove (tuples_in b0 n) o = tuples_removed b0 b1 n m o lo nm pieces in
    let lt : o < length (tuples_in b0 n) = omega (arith, length-tuples_in b0 n) in
    let was : get_or (tuples_in b0 n) o Placeholder ≡ Placeholder = get_or-tuples_in b0 n o Placeholder lo ∙ placeholder_tag (tuple_at b0 o) empty in
    let used_is : used (remove (tuples_in b0 n) o) + (size_of (get_or (tuples_in b0 n) o Placeholder) + 4) ≡ used (tuples_in b0 n) = sum_by-remove (λ t. size_of t + 4) (tuples_in b0 n) o Placeholder lt in
    let count_is : placeholder_count (remove (tuples_in b0 n) o) + one_if_placeholder (get_or (tuples_in b0 n) o Placeholder) ≡ placeholder_count (tuples_in b0 n) = sum_by-remove one_if_placeholder (tuples_in b0 n) o Placeholder lt in
    let size_was : size_of (get_or (tuples_in b0 n) o Placeholder) ≡ 16 = ap size_of was in
    let one_was : one_if_placeholder (get_or (tuples_in b0 n) o Placeholder) ≡ 1 = ap one_if_placeholder was in
    let used_now : used (tuples_in b1 m) ≡ used (remove (tuples_in b0 n) o) = ap used list in
    let count_now : placeholder_count (tuples_in b1 m) ≡ placeholder_count (remove (tuples_in b0 n) o) = ap placeholder_count list in (
      record {
        len = len;
        front = front_kept b0 b1 A.len len A.front front;
        pointers = omega arith;
        placed = λ i l. elim (A.placed (skip o i) (inside i l)) [
          | inl z ↦ inl (begins i l ∙ z.0, sizes i l ∙ z.1)
          | inr z ↦ inr (rw (begins i l) z.0, rw (begins i l, sizes i l) z.1)
        ];
        stored = λ i l. rw (pieces i l) (A.stored (skip o i) (inside i l));
        others = λ i l h f. A.others (skip o i) (inside i l) (subst (λ k. u ≤ k) (begins i l) h) (ap (λ x. tag_of (tuple_of x)) (sym (pieces i l)) ∙ f);
        apart = λ i j li lj ne hi hj. rw (begins i li, sizes i li, begins j lj, sizes j lj) (A.apart (skip o i) (skip o j) (inside i li) (inside j lj) (skip_apart o i j ne) (subst (λ k. u ≤ k) (begins i li) hi) (subst (λ k. u ≤ k) (begins j lj) hj));
        empties = omega (arith, count_now, count_is, one_was, A.empties);
        whole = omega (arith, used_now, used_is, size_was, A.whole);
        fits = omega (arith, used_now, used_is, A.fits);
      },
      list,
    )

-- ---- a next offset is set

-- the two bytes of the next offset are written
pub next_area : (b0 b1 : List ℕ) (n u p w o number : ℕ) (next : Option ℕ) (a : Area) → IsArea b0 n u p w → area_in b0 n u ≡ a → o < length a.tuples → IsLive (get_or a.tuples o Placeholder) → IfSome next (λ o. 0 < o) → number ≡ next_number next → number < 65536 → length b1 ≡ 8192 → get_or b1 (begin_at b0 o + 4) 0 ≡ number % 256 → get_or b1 (begin_at b0 o + 4 + 1) 0 ≡ number / 256 % 256 → ((k : ℕ) → k ≢ begin_at b0 o + 4 → k ≢ begin_at b0 o + 4 + 1 → get_or b1 k 0 ≡ get_or b0 k 0) → IsArea b1 n u p w × (tuples_in b1 n ≡ set a.tuples o (with_next (get_or a.tuples o Placeholder) next))
next_area b0 b1 n u p w o number next a A e l live from is fits len1 low high others =
    let v = known A e in
    let lo : o < n = omega (arith, v.count) in
    let t = live_is (get_or a.tuples o Placeholder) live in
    let here0 : tuple_at b0 o ≡ Leaf t.0 = v.value o lo ∙ t.1 in
    let spelled0 : bytes_of (Leaf t.0) ≡ piece_at b0 o = ap bytes_of (sym here0) ∙ (A.stored o lo).spelled in
    let fits0 : IsTuple (Leaf t.0) = subst IsTuple here0 (A.stored o lo).tuple in
    let size : size_of (Leaf t.0) ≡ size_at b0 o = ap size_of (sym here0) ∙ area_size A o lo in
    let some : 16 ≤ size_at b0 o = area_long A o lo in
    let bo = area_within A o lo in
    let made : IsTuple (Leaf (record t.0 { next = next })) = record {
      block = fits0.block;
      offset_from = fits0.offset_from;
      offset_below = fits0.offset_below;
      next = next_is_below next from (omega arith);
      rest = fits0.rest;
      size = fits0.size;
    } in
    let len : length (bytes_of (Leaf (record t.0 { next = next }))) ≡ size_at b0 o = length-bytes_of (Leaf (record t.0 { next = next })) ∙ size in
    let two2 = next_bytes (record t.0 { next = next }) in
    let leaf_tag : tag_of (tuple_at b0 o) ≡ 2 = ap tag_of here0 in
    let r = patched_area b0 b1 n u p w o (Leaf (record t.0 { next = next })) A lo (λ z. absurd (omega arith)) made (sym leaf_tag) len len1 (λ k h. others k (omega arith) (omega arith)) (λ k h. others k (omega arith) (omega arith)) (λ k h.
    elim (cases_eq k 4) [
      | inl e4 ↦ rw e4 (low ∙ ap (λ m. m % 256) is ∙ sym two2.0)
      | inr n4 ↦ elim (cases_eq k 5) [
        | inl e5 ↦ rw e5 (ap (λ j. get_or b1 j 0) (let e6 : begin_at b0 o + 5 ≡ begin_at b0 o + 4 + 1 = omega arith in e6) ∙ high ∙ ap (λ m. m / 256 % 256) is ∙ sym two2.1)
        | inr n5 ↦ others (begin_at b0 o + k) (omega arith) (omega arith)
            ∙ sym (get_or-between b0 (begin_at b0 o) (begin_at b0 o + size_at b0 o) k 0 (omega arith))
            ∙ ap (λ bytes. get_or bytes k 0) (sym spelled0) ∙ sym (next_elsewhere t.0 next k n4 n5)
      ]
    ]) in
    (r.0, r.1 ∙ ap (λ ts. set ts o (Leaf (record t.0 { next = next }))) v.tuples ∙ ap (λ u. set a.tuples o u) (sym (ap (λ u. with_next u next) t.1)))
