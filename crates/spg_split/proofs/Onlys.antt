-- The node in which all are.
use Rattle.std.proofs.Common.{◌≡◌, ℕ, zero, suc, ◌<◌, List, [], ◌∷◌, ⊎_elim, Some, None, get_or, slice_index, length, nat_eq, refl, sym, ◌∙◌, subst, arith}
use Rattle.std.proofs.lemmas.Bool.{cases_eq, cond-true, cond-false, eq-eqb, ne_eqb}
use Rattle.spg_split.specs.Nodes.{IsOnlyNode, all_in, only_of}

all_some : (k : ℕ) (ns : List ℕ) → ((i : ℕ) → i < length ns → get_or ns i 0 ≡ k) → all_in k ns ≡ Some k
all_some k [] h = refl
all_some k (n ∷ ns) h = cond-true (nat_eq n k) (all_in k ns) None (eq-eqb n k (h 0 (omega arith))) ∙ all_some k ns (λ i l. h (suc i) (omega arith))

all_none : (k : ℕ) (ns : List ℕ) (i : ℕ) → i < length ns → (get_or ns i 0 ≡ k → ⊥) → all_in k ns ≡ None
all_none k [] i l d = absurd (omega arith)
all_none k (n ∷ ns) zero l d = cond-false (nat_eq n k) (all_in k ns) None (ne_eqb n k d)
all_none k (n ∷ ns) (suc i) l d = ⊎_elim
    (λ e. cond-true (nat_eq n k) (all_in k ns) None (eq-eqb n k e) ∙ all_none k ns i (omega arith) d)
    (λ e. cond-false (nat_eq n k) (all_in k ns) None (ne_eqb n k e)) (cases_eq n k)

pub only_some : (nodes : List ℕ) (k : ℕ) → IsOnlyNode nodes (Some k) → only_of nodes ≡ Some k
only_some [] k (some, all) = absurd (omega arith)
only_some (n ∷ ns) k (some, all) =
    let e : n ≡ k = all 0 some in
    subst (λ j. all_in j ns ≡ Some k) (sym e) (all_some k ns (λ i h. all (suc i) (omega arith)))

pub only_none : (nodes : List ℕ) → IsOnlyNode nodes None → only_of nodes ≡ None
only_none [] apart = refl
only_none (n ∷ ns) apart = let (i, h, d) = apart (omega arith) in go i h d
  where
    go : (i : ℕ) → i < length (n ∷ ns) → (slice_index (n ∷ ns) i ≡ slice_index (n ∷ ns) 0 → ⊥) → all_in n ns ≡ None
    go zero h d = absurd (d refl)
    go (suc i) h d = all_none n ns i (omega arith) d
