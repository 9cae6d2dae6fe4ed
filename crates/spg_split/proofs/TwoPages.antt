-- What is shown where lists stand on two pages, below an inner tuple to which a chain has gone.
use Rattle.std.proofs.Common.{◌≡◌, ℕ, zero, suc, ◌+◌, ◌-◌, ◌≤◌, ◌<◌, List, [], ◌∷◌, ◌++◌, ◌⊎◌, ⊎_elim, Option, Some, None, get_or, set, length, refl, sym, ap, ◌∙◌, inl, inr, arith}
use Rattle.std.proofs.lemmas.Bool.{cases_eq, cases_lt}
use Rattle.std.proofs.lemmas.List.{get_or_append_left}
use Rattle.std.proofs.Math.Seq.{get_or-append_right}
use Rattle.spg_forest.specs.View.{Place, Leaf}
use Rattle.spg_forest.specs.Spot.{Frame, Spot, Branch, Bucket, Forward, Nothing, put_at}
use Rattle.spg_forest.specs.Tuples.{Tuple}
use Rattle.spg_forest.specs.Pages.{place}
use Rattle.spg_forest.specs.Changes.{HasLists, moved_to}
use Rattle.spg_forest.proofs.Blocks.{with_block, in_block, off_block}
use Rattle.spg_forest.proofs.Spots.{put_at_same, put_at_other, cases_place}
use Rattle.spg_split.specs.Placing.{downlinks}
use Rattle.spg_split.proofs.Chaining.{ShowsLists}

-- the lists of nodes from k on stand at the downlinks, at places that were free
pub record AddsLists (V W : Place → Spot) (ns : List (Option Place)) (L : ℕ → List Leaf) (k : ℕ) : Type 0 where
  pub lists : (j : ℕ) (y : Place) → get_or ns j None ≡ Some y → (W y ≡ Bucket (L (k + j))) × (V y ≡ Nothing) × (y.offset ≡ 0 → ⊥)
  pub apart : (i j : ℕ) (y : Place) → get_or ns i None ≡ Some y → get_or ns j None ≡ Some y → i ≡ j
  pub cases : (u : Place) → ((j : ℕ) × (get_or ns j None ≡ Some u)) ⊎ (W u ≡ V u)

at_block : (b : ℕ) (x : Place) → x.block ≡ b → x ≡ place b x.offset
at_block b x e i = record { block = e i; offset = x.offset }

-- those of one page
pub page_lists : (V : Place → Spot) (b : ℕ) (ts : List Tuple) (L : ℕ → List Leaf) (k n : ℕ) (T : ShowsLists ts (λ o. V (place b o)) b L k n) → AddsLists V (with_block V b T.spots) (downlinks b ts L k n) L k
page_lists V b ts L k n T = record {
  lists = λ j y e. let (p, q, r, z) = T.lists j y e in (ap (with_block V b T.spots) (at_block b y p) ∙ in_block V b T.spots y.offset ∙ q, ap V (at_block b y p) ∙ r, z);
  apart = T.apart;
  cases = λ u. ⊎_elim
      (λ e. ⊎_elim (λ (i, q). inl (i, q ∙ ap Some (sym (at_block b u e)))) (λ q. inr (ap (with_block V b T.spots) (at_block b u e) ∙ in_block V b T.spots u.offset ∙ q ∙ ap V (sym (at_block b u e)))) (T.cases u.offset))
      (λ e. inr (off_block V b T.spots u e)) (cases_eq u.block b);
}

-- and of two
pub join_lists : (V W U : Place → Spot) (xs ys : List (Option Place)) (L : ℕ → List Leaf) → AddsLists V W xs L 0 → AddsLists W U ys L (length xs) → AddsLists V U (xs ++ ys) L 0
join_lists V W U xs ys L A B = record { lists = lists; apart = apart; cases = cases }
  where
    -- no place is in both
    both : (i j : ℕ) (y : Place) → get_or xs i None ≡ Some y → get_or ys j None ≡ Some y → ⊥
    both i j y a b = let (p, q, r) = A.lists i y a in let (s, t, u) = B.lists j y b in let c : Bucket (L (0 + i)) ≡ Nothing = sym p ∙ t in cc

    first : (j : ℕ) (y : Place) → j < length xs → get_or (xs ++ ys) j None ≡ Some y → get_or xs j None ≡ Some y
    first j y h e = sym (get_or_append_left xs ys None j h) ∙ e

    second : (j : ℕ) (y : Place) → length xs ≤ j → get_or (xs ++ ys) j None ≡ Some y → get_or ys (j - length xs) None ≡ Some y
    second j y h e = sym (get_or-append_right xs ys j None h) ∙ e

    lists : (j : ℕ) (y : Place) → get_or (xs ++ ys) j None ≡ Some y → (U y ≡ Bucket (L (0 + j))) × (V y ≡ Nothing) × (y.offset ≡ 0 → ⊥)
    lists j y e = ⊎_elim
        (λ h. let a = first j y h e in let (p, q, r) = A.lists j y a in (⊎_elim (λ (i, b). absurd (both j i y a b)) (λ b. b ∙ p) (B.cases y), q, r))
        (λ h. let a = second j y h e in let (p, q, r) = B.lists (j - length xs) y a in let z : length xs + (j - length xs) ≡ 0 + j = omega arith in
        (p ∙ ap (λ i. Bucket (L i)) z, ⊎_elim (λ (i, b). absurd (both i (j - length xs) y b a)) (λ b. sym b ∙ q) (A.cases y), r)) (cases_lt j (length xs))

    apart : (i j : ℕ) (y : Place) → get_or (xs ++ ys) i None ≡ Some y → get_or (xs ++ ys) j None ≡ Some y → i ≡ j
    apart i j y e f = ⊎_elim
        (λ h. ⊎_elim (λ k. A.apart i j y (first i y h e) (first j y k f)) (λ k. absurd (both i (j - length xs) y (first i y h e) (second j y k f))) (cases_lt j (length xs)))
        (λ h. ⊎_elim (λ k. absurd (both j (i - length xs) y (first j y k f) (second i y h e))) (λ k. let a = B.apart (i - length xs) (j - length xs) y (second i y h e) (second j y k f) in omega arith) (cases_lt j (length xs)))
        (cases_lt i (length xs))

    back : (j : ℕ) (y : Place) → get_or ys j None ≡ Some y → get_or (xs ++ ys) (length xs + j) None ≡ Some y
    back j y e = let z : length xs + j - length xs ≡ j = omega arith in get_or-append_right xs ys (length xs + j) None (omega arith) ∙ ap (λ i. get_or ys i None) z ∙ e

    front : (xs : List (Option Place)) (j : ℕ) (y : Place) → get_or xs j None ≡ Some y → get_or (xs ++ ys) j None ≡ Some y
    front [] j y e = cc
    front (x ∷ xs) zero y e = e
    front (x ∷ xs) (suc j) y e = front xs j y e

    cases : (u : Place) → ((j : ℕ) × (get_or (xs ++ ys) j None ≡ Some u)) ⊎ (U u ≡ V u)
    cases u = ⊎_elim (λ (j, e). inl (length xs + j, back j u e)) (λ e. ⊎_elim (λ (j, f). inl (j, front xs j u f)) (λ f. inr (e ∙ f)) (A.cases u)) (B.cases u)

-- the spots before the lists are put: the inner tuple without downlinks, and the redirect to it
abbrev pub cleared_spots : (Place → Spot) → ℕ → Place → Place → Frame → List (Option Place) → Place → Spot
cleared_spots V clock x z w bs = put_at (put_at V z (Branch w bs)) x (Forward z clock)

-- and once the downlinks are set
abbrev pub parted_spots : (Place → Spot) → Place → Frame → List (Option Place) → Place → Frame → List (Option Place) → Place → Spot
parted_spots U z w ds p wp nsp = put_at (put_at U z (Branch w ds)) p (Branch wp nsp)

pub parted_lists : (V U : Place → Spot) (clock : ℕ) (x z p : Place) (s : Spot) (w wp : Frame) (bs ds nsp : List (Option Place)) (i : ℕ) (L : ℕ → List Leaf) → (z ≡ p → ⊥) → (z ≡ x → ⊥) → (p ≡ x → ⊥) → V p ≡ Branch wp nsp →
    AddsLists (cleared_spots V clock x z w bs) U ds L 0 → HasLists (moved_to V clock x z s p wp nsp i) (parted_spots U z w ds p wp (set nsp i (Some z))) z w ds L
parted_lists V U clock x z p s w wp bs ds nsp i L zp zx px ep A = record {
  at = put_at_other (put_at U z (Branch w ds)) p (Branch wp ns2) z zp ∙ put_at_same U z (Branch w ds) z refl;
  lists = λ j y e. let (a, b, c) = A.lists j y e in let (nz, np, nx) = listed j y e in (
    put_at_other (put_at U z (Branch w ds)) p (Branch wp ns2) y np ∙ put_at_other U z (Branch w ds) y nz ∙ a ∙ ap (λ k. Bucket (L k)) (zero_plus j),
    put_at_other (put_at (put_at V x (Forward z clock)) z s) p (Branch wp ns2) y np ∙ put_at_other (put_at V x (Forward z clock)) z s y nz ∙ put_at_other V x (Forward z clock) y nx ∙ sym (cleared_other y nz nx) ∙ b,
    c,
  );
  apart = A.apart;
  cases = λ u. ⊎_elim (λ e. inl (inl e)) (λ nz. ⊎_elim
      (λ e. inr ((λ d. ⊎_elim nz (λ (j, q). (listed j u q).1 e) d), put_at_same (put_at U z (Branch w ds)) p (Branch wp ns2) u e ∙ sym (put_at_same (put_at (put_at V x (Forward z clock)) z s) p (Branch wp ns2) u e)))
      (λ np. ⊎_elim (λ (j, q). inl (inr (j, q)))
      (λ q. inr (
        (λ d. ⊎_elim nz (λ (j, r). free j u r q) d),
        put_at_other (put_at U z (Branch w ds)) p (Branch wp ns2) u np ∙ put_at_other U z (Branch w ds) u nz ∙ q ∙ same u nz
            ∙ sym (put_at_other (put_at (put_at V x (Forward z clock)) z s) p (Branch wp ns2) u np ∙ put_at_other (put_at V x (Forward z clock)) z s u nz),
      )) (A.cases u)) (cases_place u p)) (cases_place u z);
}
  where
    ns2 : List (Option Place)
    ns2 = set nsp i (Some z)

    zero_plus : (j : ℕ) → 0 + j ≡ j
    zero_plus j = omega arith

    cleared_other : (y : Place) → (y ≡ z → ⊥) → (y ≡ x → ⊥) → cleared_spots V clock x z w bs y ≡ V y
    cleared_other y nz nx = put_at_other (put_at V z (Branch w bs)) x (Forward z clock) y nx ∙ put_at_other V z (Branch w bs) y nz

    same : (u : Place) → (u ≡ z → ⊥) → cleared_spots V clock x z w bs u ≡ put_at V x (Forward z clock) u
    same u nz = ⊎_elim (λ e. put_at_same (put_at V z (Branch w bs)) x (Forward z clock) u e ∙ sym (put_at_same V x (Forward z clock) u e))
        (λ n. cleared_other u nz n ∙ sym (put_at_other V x (Forward z clock) u n)) (cases_place u x)

    -- a list stands at no other place
    listed : (j : ℕ) (y : Place) → get_or ds j None ≡ Some y → (y ≡ z → ⊥) × (y ≡ p → ⊥) × (y ≡ x → ⊥)
    listed j y e =
        let (a, b, c) = A.lists j y e in (
          (λ q. let d : Nothing ≡ Branch w bs = sym b ∙ put_at_other (put_at V z (Branch w bs)) x (Forward z clock) y (λ r. zx (sym q ∙ r)) ∙ put_at_same V z (Branch w bs) y q in cc),
          (λ q. let d : Nothing ≡ Branch wp nsp = sym b ∙ cleared_other y (λ r. zp (sym r ∙ q)) (λ r. px (sym q ∙ r)) ∙ ap V q ∙ ep in cc),
          (λ q. let d : Nothing ≡ Forward z clock = sym b ∙ put_at_same (put_at V z (Branch w bs)) x (Forward z clock) y q in cc),
        )

    free : (j : ℕ) (u : Place) → get_or ds j None ≡ Some u → U u ≡ cleared_spots V clock x z w bs u → ⊥
    free j u e q = let (a, b, c) = A.lists j u e in let d : Bucket (L (0 + j)) ≡ Nothing = sym a ∙ q ∙ b in cc
