-- A page with one chain of two leaves.
use Rattle.std.proofs.Common.{◌≡◌, ℕ, ◌+◌, ◌≤◌, List, [], ◌∷◌, Option, refl, sym, ap, ◌∙◌, subst, inl, inr, arith}
use Rattle.spg_forest.specs.View.{Leaf, Place}
use Rattle.spg_forest.specs.Spot.{Frame, Spot, Branch, Bucket, Forward, Nothing}
use Rattle.spg_forest.specs.Tuples.{Tuple, Inner, Live, Dead, Redirect, Placeholder, Shows, IsLaidOut, put_on}
use Rattle.spg_forest.specs.Pages.{tuple_on}
use Rattle.spg_forest.specs.Sheets.{size_of, free_place}
use Rattle.spg_forest.proofs.Chain.{put_on_elim}
use Rattle.spg_chain.specs.Added.{KeepsLaidOut}
use Rattle.spg_chain.specs.Chained.{IsLeafPage}
use Rattle.spg_chain.proofs.Shown.{empty_laid_out}

module _ (ts : List Tuple) (S : ℕ → Spot) (L : IsLaidOut (tuple_on ts) S) (none : (o : ℕ) (w : Frame) (ns : List (Option Place)) → S o ≡ Branch w ns → ⊥) where
  no_inner : (o : ℕ) (w : Frame) (ns : List (Option Place)) → tuple_on ts o ≡ Inner w ns → (s : Spot) → S o ≡ s → Shows (tuple_on ts) o s → ⊥
  no_inner o w ns q (Branch v ms) e h = none o v ms e
  no_inner o w ns q (Forward y u) e h = let z = sym q ∙ h in cc
  no_inner o w ns q (Bucket []) e h = let z = sym q ∙ h in cc
  no_inner o w ns q (Bucket (l ∷ ls)) e h = let (n, f, c) = h.0 in let z = sym q ∙ f in cc
  no_inner o w ns q Nothing e (inl f) = let z = sym q ∙ f in cc
  no_inner o w ns q Nothing e (inr (l, n, k, m, f, g)) = let z = sym q ∙ f in cc

  big : (o : ℕ) (t : Tuple) → tuple_on ts o ≡ t → 16 ≤ size_of t
  big o (Inner w ns) q = absurd (no_inner o w ns q (S o) refl (L.shows o))
  big o (Live l n) q = omega arith
  big o Dead q = omega arith
  big o (Redirect y u) q = omega arith
  big o Placeholder q = omega arith

  leaf_page : IsLeafPage ts
  leaf_page = record { spots = S; laid = L; big = λ o. big o (tuple_on ts o) refl }

pub two_leaves : (ts us vs : List Tuple) (h o : ℕ) (a b : Leaf) → ts ≡ [] → h ≡ free_place ts + 1 → KeepsLaidOut ts us 0 h a → KeepsLaidOut us vs h o b → IsLeafPage vs
two_leaves ts us vs h o a b e f k1 k2 =
    let q : h ≡ 1 = f ∙ ap (λ xs. free_place xs + 1) e in
    let L0 = subst (λ (xs : List Tuple). IsLaidOut (tuple_on xs) (λ x. Nothing)) (sym e) empty_laid_out in
    let L1 : IsLaidOut (tuple_on us) (put_on (λ x. Nothing) 1 (Bucket (a ∷ []))) = subst (λ (i : ℕ). IsLaidOut (tuple_on us) (put_on (λ x. Nothing) i (Bucket (a ∷ [])))) q (first h k1 L0) in
    let k : KeepsLaidOut us vs 1 o b = subst (λ (i : ℕ). KeepsLaidOut us vs i o b) q k2 in
    leaf_page vs (put_on (put_on (λ x. Nothing) 1 (Bucket (a ∷ []))) 1 (Bucket (a ∷ b ∷ []))) (k (put_on (λ x. Nothing) 1 (Bucket (a ∷ []))) (a ∷ []) L1 (a, [], refl, refl))
    (λ x w ns. put_on_elim (put_on (λ y. Nothing) 1 (Bucket (a ∷ []))) 1 (Bucket (a ∷ b ∷ [])) (λ i s. s ≡ Branch w ns → ⊥) (λ z. cc) (λ i n. put_on_elim (λ y. Nothing) 1 (Bucket (a ∷ [])) (λ j s. s ≡ Branch w ns → ⊥) (λ z. cc) (λ j m z. cc) i) x)
  where
    first : (i : ℕ) → KeepsLaidOut ts us 0 i a → IsLaidOut (tuple_on ts) (λ x. Nothing) → IsLaidOut (tuple_on us) (put_on (λ x. Nothing) i (Bucket (a ∷ [])))
    first i k L = k (λ x. Nothing) [] L tt
