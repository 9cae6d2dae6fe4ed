-- The leaves of a chain that stay.
use Rattle.std.proofs.Common.{◌≡◌, ℕ, zero, suc, ◌≤◌, ◌<◌, List, [], ◌∷◌, ⊎_elim, Bool, false, drop, length, get_or, refl, sym, subst, inl, inr, arith}
use Rattle.std.proofs.lemmas.Bool.{cases_Bool, cond-true, cond-false, cond_both}
use Rattle.spg_base.specs.Row.{RowAt}
use Rattle.spg_forest.specs.Tuples.{Tuple, IsAmong, IsChainOf}
use Rattle.spg_forest.specs.Pages.{tuple_on}
use Rattle.spg_page.specs.Reads.{leaf_in}
use Rattle.spg_page.specs.Kinds.{IsLive}
use Rattle.spg_cover.specs.Swept.{but_first}
use Rattle.spg_cover.proofs.Offsets.{Apart, chain_apart, chain_live, chain_length}
use Rattle.spg_cover.proofs.Chains.{chain_there}
use Rattle.spg_cover.proofs.Written.{chain_range}
use Rattle.spg_chain.specs.Sweeps.{IsChainList, stays}

pub drop_at : (os : List ℕ) (k d : ℕ) → k < length os → drop k os ≡ get_or os k d ∷ drop (suc k) os
drop_at [] k d h = absurd (omega arith)
drop_at (o ∷ os) zero d h = refl
drop_at (o ∷ os) (suc k) d h = drop_at os k d (omega arith)

pub drop_end : (os : List ℕ) (k : ℕ) → length os ≤ k → drop k os ≡ []
drop_end [] zero h = refl
drop_end [] (suc k) h = refl
drop_end (o ∷ os) zero h = absurd (omega arith)
drop_end (o ∷ os) (suc k) h = drop_end os k (omega arith)

pub get_among : (os : List ℕ) (k d : ℕ) → k < length os → IsAmong (get_or os k d) os
get_among [] k d h = absurd (omega arith)
get_among (p ∷ ps) zero d h = inl refl
get_among (p ∷ ps) (suc k) d h = inr (get_among ps k d (omega arith))

pub among_drop : (k : ℕ) (os : List ℕ) (x : ℕ) → IsAmong x (drop k os) → IsAmong x os
among_drop zero os x a = a
among_drop (suc k) [] x a = a
among_drop (suc k) (o ∷ os) x a = inr (among_drop k os x a)

pub apart_drop : (k : ℕ) (os : List ℕ) → Apart os → Apart (drop k os)
apart_drop zero os a = a
apart_drop (suc k) [] a = a
apart_drop (suc k) (o ∷ os) a = apart_drop k os a.1

module _ (test : RowAt → Bool) (T : ℕ → Tuple) where
  pub stays_among : (os : List ℕ) (x : ℕ) → IsAmong x (stays test T os) → IsAmong x os
  stays_among [] x a = a
  stays_among (o ∷ os) x a = ⊎_elim
      (λ e. inr (stays_among os x (subst (IsAmong x) (cond-true _ (stays test T os) (o ∷ stays test T os) e) a)))
      (λ e. ⊎_elim (λ q. inl q) (λ q. inr (stays_among os x q)) (subst (IsAmong x) (cond-false _ (stays test T os) (o ∷ stays test T os) e) a)) (cases_Bool (test (leaf_in (T o)).row))

  pub stays_apart : (os : List ℕ) → Apart os → Apart (stays test T os)
  stays_apart [] a = tt
  stays_apart (o ∷ os) (n, a) = cond_both (test (leaf_in (T o)).row) (stays test T os) (o ∷ stays test T os) Apart (λ e. stays_apart os a) (λ e. ((λ b. n (stays_among os o b)), stays_apart os a))

  -- behind the first that stays there is no head
  pub stays_behind : (o : ℕ) (os : List ℕ) (x : ℕ) → IsAmong x (but_first (stays test T (o ∷ os))) → IsAmong x os
  stays_behind o os x a = ⊎_elim
      (λ e. stays_among os x (later (stays test T os) (subst (λ ps. IsAmong x (but_first ps)) (cond-true _ (stays test T os) (o ∷ stays test T os) e) a)))
      (λ e. stays_among os x (subst (λ ps. IsAmong x (but_first ps)) (cond-false _ (stays test T os) (o ∷ stays test T os) e) a)) (cases_Bool (test (leaf_in (T o)).row))
    where
      later : (ps : List ℕ) → IsAmong x (but_first ps) → IsAmong x ps
      later [] b = b
      later (p ∷ ps) b = inr b

-- ---- the chain of a page
module _ (ts : List Tuple) (os : List ℕ) (C : IsChainList ts os) where
  abbrev T : ℕ → Tuple
  T = tuple_on ts

  pub list_chain : IsChainOf (tuple_on ts) os (C.leaf ∷ C.leaves)
  list_chain = subst (λ ps. IsChainOf T ps (C.leaf ∷ C.leaves)) (sym C.offsets) (chain_there (λ r. false) T C.spots C.laid C.head C.leaf C.leaves C.stands)

  pub list_range : (o : ℕ) → IsAmong o os → (0 < o) × (o ≤ length ts)
  list_range o a = chain_range ts C.spots C.laid C.head C.leaf C.leaves C.stands C.big o (subst (IsAmong o) C.offsets a)

  pub list_live : (o : ℕ) → IsAmong o os → IsLive (tuple_on ts o)
  list_live o a = let (l, n, e) = chain_live T C.laid.origin os (C.leaf ∷ C.leaves) o list_chain a in subst (λ (t : Tuple). IsLive t) (sym e) refl

  pub list_apart : Apart os
  list_apart = chain_apart T C.laid.origin os (C.leaf ∷ C.leaves) list_chain

  pub list_some : 0 < length os
  list_some = let e = chain_length T os (C.leaf ∷ C.leaves) list_chain in omega arith
