-- The live ones of rows in another order.
use Rattle.std.proofs.Common.{◌<◌, ◌++◌, ℕ, zero, suc, List, [], ◌∷◌, length, get_or, set, subst, arith, append_assoc}
use Rattle.std.specs.List.{swap}
use Rattle.std.specs.Prelude.{if◌then◌else◌, IsPermutation}
use Rattle.std.proofs.lemmas.List.Sorted.{IsPermutation-refl, IsPermutation-trans, IsPermutation-append_left, IsPermutation-append_right, IsPermutation-append_comm, IsPermutation-keeps}
use Rattle.spg_base.specs.declared.point.Point.{Point}
use Rattle.spg_rows.specs.Table as rows
use Rattle.spg_scan.specs.Scanning.{is_live}
use Rattle.spg_near.specs.declared.near_row.NearRow.{NearRow}
use Rattle.spg_near.specs.Nearing.{live_of}
use Rattle.spg_near.specs.Best.{KeepsLive}

-- a relation that is reflexive and transitive, and goes under a head and over an exchange of two heads, holds along each permutation
module _ {X : Type 0} (R : List X → List X → Type 0) (same : (xs : List X) → R xs xs) (skip : (x : X) (xs ys : List X) → R xs ys → R (x ∷ xs) (x ∷ ys)) (turn : (x y : X) (xs : List X) → R (x ∷ y ∷ xs) (y ∷ x ∷ xs)) (chain : (xs ys zs : List X) → R xs ys → R ys zs → R xs zs) where
  to_head : (l : List X) (j : ℕ) (x d : X) → j < length l → R (x ∷ l) (get_or l j d ∷ set l j x)
  to_head [] j x d h = absurd (omega arith)
  to_head (y ∷ l) zero x d h = turn x y l
  to_head (y ∷ l) (suc j) x d h =
      chain _ _ _ (turn x y l) (chain _ _ _ (skip y _ _ (to_head l j x d (omega arith))) (turn y (get_or l j d) (set l j x)))

  exchanged : (l : List X) (i j : ℕ) (d : X) → i < length l → j < length l → R l (set (set l i (get_or l j d)) j (get_or l i d))
  exchanged [] i j d p q = absurd (omega arith)
  exchanged (x ∷ l) zero zero d p q = same (x ∷ l)
  exchanged (x ∷ l) zero (suc j) d p q = to_head l j x d (omega arith)
  exchanged (x ∷ l) (suc i) zero d p q = to_head l i x d (omega arith)
  exchanged (x ∷ l) (suc i) (suc j) d p q = skip x _ _ (exchanged l i j d (omega arith) (omega arith))

  swapped : (l : List X) (i j : ℕ) → i < length l → j < length l → R l (swap l i j)
  swapped [] i j p q = same []
  swapped (x ∷ l) i j p q = exchanged (x ∷ l) i j x p q

  along : (xs ys : List X) → IsPermutation xs ys → R xs ys
  along xs = IsPermutation-keeps xs (R xs) (same xs) (λ l i j p q h. chain xs l _ h (swapped l i j p q))

module _ {O Recon Cond : Type 0} (table : rows.Table O Point Recon Cond) where
  abbrev part : NearRow → List NearRow
  part x = if is_live (rows.state_in table x.row) then x ∷ [] else []

  turned : (x y : NearRow) (xs : List NearRow) → IsPermutation (part x ++ (part y ++ live_of table xs)) (part y ++ (part x ++ live_of table xs))
  turned x y xs =
      subst (λ z. IsPermutation z (part y ++ (part x ++ live_of table xs))) (append_assoc (part x) (part y) (live_of table xs))
      (subst (λ z. IsPermutation ((part x ++ part y) ++ live_of table xs) z) (append_assoc (part y) (part x) (live_of table xs))
      (IsPermutation-append_left (live_of table xs) (part x ++ part y) (part y ++ part x) (IsPermutation-append_comm (part x) (part y))))

  live_moved : (xs ys : List NearRow) → IsPermutation xs ys → IsPermutation (live_of table xs) (live_of table ys)
  live_moved = along (λ xs ys. IsPermutation (live_of table xs) (live_of table ys))
      (λ xs. IsPermutation-refl (live_of table xs))
      (λ x xs ys h. IsPermutation-append_right (part x) (live_of table xs) (live_of table ys) h)
      turned
      (λ xs ys zs a b. IsPermutation-trans (live_of table xs) (live_of table ys) (live_of table zs) a b)

  pub keeps_moved : (limit : ℕ) (found found2 xs ys : List NearRow) → IsPermutation xs ys → KeepsLive limit found found2 (live_of table ys) → KeepsLive limit found found2 (live_of table xs)
  keeps_moved limit found found2 xs ys moved (kept, is, A) = (
    kept,
    is,
    record {
      others = A.others;
      all = IsPermutation-trans (live_of table xs) (live_of table ys) (kept ++ A.others) (live_moved xs ys moved) A.all;
      enough = A.enough;
    },
  )
