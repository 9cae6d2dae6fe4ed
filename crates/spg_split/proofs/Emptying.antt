-- A page from which a chain was taken away.
use Rattle.std.proofs.Common.{◌≡◌, ℕ, ◌+◌, ◌-◌, ◌*◌, ◌≤◌, ◌<◌, List, [], ◌∷◌, ◌⊎◌, ⊎_elim, length, nat_eq, refl, sym, ap, ◌∙◌, subst, inl, inr, arith}
use Rattle.std.proofs.lemmas.Bool.{cases_eq, cond-false, ne_eqb}
use Rattle.spg_forest.specs.View.{Place, Leaf}
use Rattle.spg_forest.specs.Spot.{Spot, Bucket, Nothing}
use Rattle.spg_forest.specs.Tuples.{Tuple, Inner, Live, Dead, Redirect, Placeholder, IsHead, IsChainOf, IsLaidOut, Shows, bucket, first_of, put_on}
use Rattle.spg_forest.specs.Pages.{tuple_on, with_tuple, all_live}
use Rattle.spg_forest.specs.Sheets.{weight, gaps, gap, size_of}
use Rattle.spg_forest.specs.Walk.{spread_on, spread_at}
use Rattle.spg_forest.proofs.Chain.{put_on_same, put_on_other}
use Rattle.spg_forest.proofs.Chains.{without_first}
use Rattle.spg_forest.proofs.Stock.{spread_with}
use Rattle.spg_page.specs.Kinds.{IsOffset}
use Rattle.spg_page.proofs.SheetFacts.{weight-replaced, gaps-replaced}
use Rattle.spg_chain.specs.Taken.{emptied}
use Rattle.spg_forest.proofs.Edits.{tuple_on-with}
use Rattle.spg_chain.specs.Chains.{Member, IsChainedPage, BeginsChain, BeginsAt, chain_members, offsets_of, bytes_of}
use Rattle.spg_chain.proofs.Emptied.{emptied_at, rest_laid_out}
use Rattle.spg_chain.proofs.Shown.{reads_shown, begun_shown}
use Rattle.spg_chain.proofs.Taking.{AreWithin, live_within, emptied-length, emptied_without}
use Rattle.std.proofs.lemmas.List.{length-map}
use Rattle.spg_split.specs.Planning.{IsLeft}
use Rattle.spg_split.specs.Writing.{taken_from}
use Rattle.spg_chain.proofs.Room.{least_weight}

behind : (T : ℕ → Tuple) (o : ℕ) → IsHead T o → (k : ℕ) (y : Leaf) (os : List ℕ) (ls : List Leaf) → T k ≡ Live y (first_of os) → IsChainOf T os ls → IsChainOf (put_on T o Placeholder) os ls
behind T o d k y [] [] e c = tt
behind T o d k y [] (l ∷ ls) e c = c
behind T o d k y (p ∷ ps) [] e c = c
behind T o d k y (p ∷ ps) (l ∷ ls) e c = (put_on_other T o Placeholder p (λ q. d k y (e ∙ ap (λ j. Live y j) q)) ∙ c.0, behind T o d p l ps ls c.0 c.1)

-- what is taken away with a chain, and what is won
pub record IsEmptied (ts us : List Tuple) (ls : List Leaf) : Type 0 where
  pub weight_is : weight us + weight (all_live ls) ≡ weight ts + 20 * length ls
  pub gaps_is : gaps us ≡ gaps ts + length ls
  pub spread_is : spread_on us + (length ls - 1) ≡ spread_on ts
  pub tuples : (o : ℕ) → (tuple_on us o ≡ tuple_on ts o) ⊎ (tuple_on us o ≡ Placeholder)

-- the next offset is none exactly at the end
next_spread : (T : ℕ → Tuple) (os : List ℕ) (ls : List Leaf) → T 0 ≡ Placeholder → IsChainOf T os ls → (l : Leaf) → spread_at (Live l (first_of os)) ≡ length ls - (length ls - 1)
next_spread T [] [] z c l = refl
next_spread T [] (m ∷ ms) z c l = absurd c
next_spread T (o ∷ os) [] z c l = absurd c
next_spread T (o ∷ os) (m ∷ ms) z c l = let n : o ≡ 0 → ⊥ = λ e. let q = sym z ∙ ap T (sym e) ∙ c.0 in cc in let a : spread_at (Live l o) ≡ 1 = cond-false (nat_eq o 0) 0 1 (ne_eqb o 0 n) in a ∙ (omega arith)

pub chain_emptied : (ts : List Tuple) (S : ℕ → Spot) (os : List ℕ) (ls : List Leaf) → IsLaidOut (tuple_on ts) S → IsChainOf (tuple_on ts) os ls → S (first_of os) ≡ bucket ls → IsEmptied ts (emptied ts os) ls
chain_emptied ts S [] [] L c s = record { weight_is = omega arith; gaps_is = omega arith; spread_is = omega arith; tuples = λ o. inl refl }
chain_emptied ts S [] (l ∷ ls) L c s = absurd c
chain_emptied ts S (o ∷ os) [] L c s = absurd c
chain_emptied ts S (o ∷ os) (l ∷ ls) L c s =
    let us : List Tuple = with_tuple ts o Placeholder in
    let e : tuple_on ts o ≡ Live l (first_of os) = c.0 in
    let at : IsOffset ts o = live_within ts o l (first_of os) e in
    let d : IsHead (tuple_on ts) o = (subst (λ (t : Spot). Shows (tuple_on ts) o t) s (L.shows o)).1 in
    let ue = emptied_at ts o l (first_of os) e in
    let W = chain_emptied us (put_on (put_on S o Nothing) (first_of os) (bucket ls)) os ls (rest_laid_out ts S L o (first_of os) l ls e s)
    (subst (λ (T : ℕ → Tuple). IsChainOf T os ls) (sym ue) (behind (tuple_on ts) o d o l os ls e c.1)) (put_on_same (put_on S o Nothing) (first_of os) (bucket ls) (first_of os) refl) in
    let a = weight-replaced ts o Placeholder at in
    let b = gaps-replaced ts o Placeholder at in
    let x = spread_with ts o Placeholder at.0 (let h = at.1 in omega arith) in
    let p = ap size_of e in let q = ap gap e in let r = ap spread_at e in
    let y = next_spread (tuple_on ts) os ls L.origin c.1 l in
    let wi = W.weight_is in let gi = W.gaps_is in let si = W.spread_is in
    record {
      weight_is = omega arith;
      gaps_is = omega arith;
      spread_is = omega arith;
      tuples = λ k. ⊎_elim (λ g. ⊎_elim
          (λ i. inr (g ∙ ap (λ (T : ℕ → Tuple). T k) ue ∙ put_on_same (tuple_on ts) o Placeholder k i))
          (λ n. inl (g ∙ ap (λ (T : ℕ → Tuple). T k) ue ∙ put_on_other (tuple_on ts) o Placeholder k n)) (cases_eq k o)) (λ g. inr g) (W.tuples k);
    }

-- ---- with a redirect at its head

pub gaps_least : (ts : List Tuple) → 20 * gaps ts ≤ weight ts
gaps_least [] = omega arith
gaps_least (Inner w ns ∷ ts) = let h = gaps_least ts in omega arith
gaps_least (Live l n ∷ ts) = let h = gaps_least ts in omega arith
gaps_least (Dead ∷ ts) = let h = gaps_least ts in omega arith
gaps_least (Redirect to stamp ∷ ts) = let h = gaps_least ts in omega arith
gaps_least (Placeholder ∷ ts) = let h = gaps_least ts in omega arith

chain_within : (ts : List Tuple) (os : List ℕ) (ls : List Leaf) → IsChainOf (tuple_on ts) os ls → AreWithin (length ts) os
chain_within ts [] ls c = tt
chain_within ts (o ∷ os) [] c = absurd c
chain_within ts (o ∷ os) (l ∷ ls) c = let h = live_within ts o l (first_of os) c.0 in (h.0, h.1, chain_within ts os ls c.1)

-- the chain at h has these leaves, at least one
pub record IsTaken (ts us : List Tuple) (ls : List Leaf) : Type 0 where
  pub weight_is : weight us + weight (all_live ls) ≡ weight ts + 20 * length ls
  pub gaps_is : gaps us + 1 ≡ gaps ts + length ls
  pub spread_is : spread_on us + (length ls - 1) ≡ spread_on ts

pub chain_taken : (ts : List Tuple) (S : ℕ → Spot) (h : ℕ) (ls : List Leaf) (to : Place) (stamp : ℕ) → IsLaidOut (tuple_on ts) S → S h ≡ Bucket ls → 0 < length ls →
    IsTaken ts (taken_from ts h to stamp) ls × ((o : ℕ) → (o ≡ h → ⊥) → (tuple_on (taken_from ts h to stamp) o ≡ tuple_on ts o) ⊎ (tuple_on (taken_from ts h to stamp) o ≡ Placeholder)) × (tuple_on (taken_from ts h to stamp) h ≡ Redirect to stamp)
chain_taken ts S h [] to stamp L s n = absurd (omega arith)
chain_taken ts S h (l ∷ ls) to stamp L s n =
    let c = reads_shown ts h S (l ∷ ls) L s in
    go (offsets_of (chain_members ts h)) c.begins c.linked
  where
    go : (os : List ℕ) → BeginsAt h os → IsChainOf (tuple_on ts) os (l ∷ ls) → IsTaken ts (with_tuple (emptied ts os) h (Redirect to stamp)) (l ∷ ls) × ((o : ℕ) → (o ≡ h → ⊥) → (tuple_on (with_tuple (emptied ts os) h (Redirect to stamp)) o ≡ tuple_on ts o) ⊎ (tuple_on (with_tuple (emptied ts os) h (Redirect to stamp)) o ≡ Placeholder)) × (tuple_on (with_tuple (emptied ts os) h (Redirect to stamp)) h ≡ Redirect to stamp)
    go [] b c = absurd c
    go (o ∷ os) b c =
        let E = chain_emptied ts S (o ∷ os) (l ∷ ls) L c (ap S b ∙ s) in
        let us : List Tuple = emptied ts (o ∷ os) in
        let e : tuple_on ts o ≡ Live l (first_of os) = c.0 in
        let at : IsOffset ts o = live_within ts o l (first_of os) e in
        let w : AreWithin (length ts) (o ∷ os) = chain_within ts (o ∷ os) (l ∷ ls) c in
        let n : length us ≡ length ts = emptied-length ts (o ∷ os) w in
        let p : tuple_on us o ≡ Placeholder = ap (λ (T : ℕ → Tuple). T o) (emptied_without ts (o ∷ os) w) ∙ without_first (tuple_on ts) o os in
        let ph : tuple_on us h ≡ Placeholder = ap (tuple_on us) (sym b) ∙ p in
        let off : IsOffset us h = subst (IsOffset us) b (at.0, let k = at.1 in omega arith) in
        let a = weight-replaced us h (Redirect to stamp) off in
        let g = gaps-replaced us h (Redirect to stamp) off in
        let x = spread_with us h (Redirect to stamp) off.0 (let k = off.1 in omega arith) in
        let sp = ap size_of ph in let sg = ap gap ph in let ss = ap spread_at ph in
        let ew = E.weight_is in let eg = E.gaps_is in let es = E.spread_is in
        let put : tuple_on (with_tuple us h (Redirect to stamp)) ≡ put_on (tuple_on us) h (Redirect to stamp) = tuple_on-with us h (Redirect to stamp) off.0 (let k = off.1 in omega arith) in (
          record { weight_is = omega arith; gaps_is = omega arith; spread_is = omega arith },
          (λ k d. let q = ap (λ (T : ℕ → Tuple). T k) put ∙ put_on_other (tuple_on us) h (Redirect to stamp) k d in ⊎_elim (λ f. inl (q ∙ f)) (λ f. inr (q ∙ f)) (E.tuples k)),
          ap (λ (T : ℕ → Tuple). T h) put ∙ put_on_same (tuple_on us) h (Redirect to stamp) h refl,
        )

-- what is left on the page
pub record LeavesRoom (ts : List Tuple) (h free gaps2 tuples bytes : ℕ) : Type 0 where
  pub sum : free + bytes ≤ 24480
  pub less : 20 * tuples ≤ free + bytes
  pub few : gaps2 + tuples ≤ 409
  pub some : 1 ≤ tuples
  pub left : IsLeft ts h (record { free = free + bytes - 20 * tuples; gaps = gaps2 + tuples - 1 })
  pub bound : free + bytes - 20 * tuples + 20 * (gaps2 + tuples - 1) ≤ 8160

pub leaves_room : (ts : List Tuple) (h free gaps2 tuples bytes : ℕ) → IsChainedPage ts → BeginsChain ts h → 0 < length (chain_members ts h) → tuples ≡ length (chain_members ts h) → bytes ≡ bytes_of (chain_members ts h) → free + weight ts ≡ 8160 → gaps2 ≡ gaps ts → LeavesRoom ts h free gaps2 tuples bytes
leaves_room ts h free gaps2 tuples bytes P B n et eb ef eg =
    let (S, ls, L, s) = begun_shown ts h P B in
    let c = reads_shown ts h S ls L s in
    let m : length (chain_members ts h) ≡ length ls = sym (length-map (chain_members ts h) (λ (m : Member). m.leaf)) ∙ ap length c.leaves in
    let lw = least_weight ls in
    let cb = c.bytes in
    let first = (chain_taken ts S h ls (record { block = 0; offset = 0 }) 0 L s (omega arith)).0 in
    let f1 = first.weight_is in let f2 = first.gaps_is in
    let gl = gaps_least (taken_from ts h (record { block = 0; offset = 0 }) 0) in
    record {
      sum = omega arith;
      less = omega arith;
      few = omega arith;
      some = omega arith;
      left = λ to stamp. let T = (chain_taken ts S h ls to stamp L s (omega arith)).0 in let t1 = T.weight_is in let t2 = T.gaps_is in (omega arith, omega arith, omega arith);
      bound = omega arith;
    }
