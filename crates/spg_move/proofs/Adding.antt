-- Leaf tuples on their way to a page, each behind the one before.
use Rattle.std.proofs.Common.{◌≡◌, ℕ, zero, suc, ◌+◌, ◌≤◌, ◌<◌, ◌-◌, List, [], ◌∷◌, Some, None, length, take, drop, drop-cons, get_or, refl, sym, ap, ◌∙◌, subst, arith}
use Rattle.spg_forest.specs.View.{Leaf}
use Rattle.spg_forest.specs.Tuples.{Tuple, Live}
use Rattle.spg_forest.specs.Pages.{all_live}
use Rattle.spg_forest.specs.Sheets.{Sheet, with_tuples, free_place, size_of}
use Rattle.spg_forest.specs.Edits.{added}
use Rattle.spg_page.specs.Changes.{room_of}
use Rattle.spg_page.specs.Reads.{leaf_in}
use Rattle.spg_chain.specs.Added.{IsLeafIn}
use Rattle.spg_chain.specs.Listed.{chained, leaves_in, HaveRoom}
use Rattle.spg_move.specs.Moving.{with_new}
use Rattle.spg_chain.proofs.LiveLists.{unlinked_at}
use Rattle.spg_chain.proofs.Room.{first_room, rest_room, added_change, added_live}

-- the leaves ls were to be added to the page p behind the offset `first`; the leaves `rest` are still to be added to the page q behind `last`
pub record IsAdding (p : Sheet) (first : ℕ) (ls : List Leaf) (q : Sheet) (last : ℕ) (rest : List Leaf) : Type 0 where
  pub page : q ≡ with_tuples p q.tuples
  pub same : chained p.tuples first ls ≡ chained q.tuples last rest
  pub room : HaveRoom q.tuples rest
  pub there : IsLeafIn q.tuples (Some last)

pub adding_begun : (p : Sheet) (first : ℕ) (ls : List Leaf) → IsLeafIn p.tuples (Some first) → HaveRoom p.tuples ls → IsAdding p first ls p first ls
adding_begun p first ls a r = record { page = refl; same = refl; room = r; there = a }

-- the next of the leaves
pub adds : (p : Sheet) (first : ℕ) (ls : List Leaf) (q : Sheet) (last : ℕ) (l : Leaf) (rest : List Leaf) (q2 : Sheet) (at : ℕ) → IsAdding p first ls q last (l ∷ rest) → at ≡ free_place q.tuples + 1 → q2 ≡ with_tuples q (added q.tuples last at l) → IsAdding p first ls q2 at rest
adds p first ls q last l rest q2 at A e c =
    let o : ℕ = suc (free_place q.tuples) in
    let eo : at ≡ o = omega arith in
    let us : List Tuple = added q.tuples last o l in
    let c2 : q2 ≡ with_tuples q us = c ∙ ap (λ i. with_tuples q (added q.tuples last i l)) eo in
    let t : q2.tuples ≡ us = ap (λ (s : Sheet). s.tuples) c2 in
    record {
      page = c2 ∙ ap (λ (s : Sheet). with_tuples s us) A.page ∙ ap (λ vs. with_tuples p vs) (sym t);
      same = A.same ∙ ap (λ i. chained us i rest) (sym eo) ∙ ap (λ vs. chained vs at rest) (sym t);
      room = subst (λ vs. HaveRoom vs rest) (sym t) (rest_room q.tuples us l rest A.room (added_change q.tuples (Some last) l A.there));
      there = subst (λ vs. IsLeafIn vs (Some at)) (sym t) (subst (λ i. IsLeafIn us (Some i)) (sym eo) (added_live q.tuples (Some last) l A.there));
    }

-- the next of a list of leaf tuples
pub next_is : (ts : List Tuple) (i : ℕ) (u : Tuple) → i < length ts → u ≡ get_or ts i u → leaves_in (drop i ts) ≡ leaf_in u ∷ leaves_in (drop (i + 1) ts)
next_is ts i u h is =
    let s : suc i ≡ i + 1 = omega arith in
    ap leaves_in (drop-cons ts i u h) ∙ ap (λ k. leaf_in (get_or ts i u) ∷ leaves_in (drop k ts)) s ∙ ap (λ v. leaf_in v ∷ leaves_in (drop (i + 1) ts)) (sym is)

pub next_leaf : (ts : List Tuple) (i : ℕ) (u : Tuple) → ts ≡ all_live (leaves_in ts) → i < length ts → u ≡ get_or ts i u → u ≡ Live (leaf_in u) 0
next_leaf ts i u e h is = is ∙ unlinked_at ts i u e h ∙ ap (λ v. Live (leaf_in v) 0) (sym is)

pub next_room : (p : Sheet) (first : ℕ) (ls : List Leaf) (q : Sheet) (last : ℕ) (ts : List Tuple) (i : ℕ) (u : Tuple) → IsAdding p first ls q last (leaves_in (drop i ts)) → ts ≡ all_live (leaves_in ts) → i < length ts → u ≡ get_or ts i u → size_of u + 4 ≤ room_of q.tuples 1
next_room p first ls q last ts i u A e h is =
    let r = subst (λ zs. HaveRoom q.tuples zs) (next_is ts i u h is) A.room in
    let a = first_room q.tuples (leaf_in u) (leaves_in (drop (i + 1) ts)) r in
    let s : size_of u ≡ size_of (Live (leaf_in u) 0) = ap size_of (next_leaf ts i u e h is) in omega arith

pub next_added : (p : Sheet) (first : ℕ) (ls : List Leaf) (q : Sheet) (last : ℕ) (ts : List Tuple) (i : ℕ) (u : Tuple) (q2 : Sheet) (at : ℕ) → IsAdding p first ls q last (leaves_in (drop i ts)) → i < length ts → u ≡ get_or ts i u →
    at ≡ free_place q.tuples + 1 → q2 ≡ with_tuples q (added q.tuples last at (leaf_in u)) → IsAdding p first ls q2 at (leaves_in (drop (i + 1) ts))
next_added p first ls q last ts i u q2 at A h is e c = adds p first ls q last (leaf_in u) (leaves_in (drop (i + 1) ts)) q2 at (subst (λ zs. IsAdding p first ls q last zs) (next_is ts i u h is) A) e c

-- all are added
pub adding_done : (p : Sheet) (first : ℕ) (q : Sheet) (last : ℕ) (ts : List Tuple) (i : ℕ) → IsAdding p first (leaves_in ts) q last (leaves_in (drop i ts)) → length ts ≤ i → q ≡ with_tuples p (chained p.tuples first (leaves_in ts))
adding_done p first q last ts i A h = A.page ∙ ap (λ us. with_tuples p us) (ap (λ zs. chained q.tuples last zs) (sym (none ts i h)) ∙ sym A.same)
  where
    none : (us : List Tuple) (k : ℕ) → length us ≤ k → leaves_in (drop k us) ≡ []
    none [] zero b = refl
    none [] (suc k) b = refl
    none (u ∷ us) zero b = absurd (omega arith)
    none (u ∷ us) (suc k) b = none us k (omega arith)

-- all but the first of a list
pub behind_first : (ts : List Tuple) → take (length ts - 1) (drop 1 ts) ≡ drop 1 ts
behind_first [] = refl
behind_first (t ∷ ts) = let e : length (t ∷ ts) - 1 ≡ length ts = omega arith in ap (λ k. take k ts) e ∙ all ts
  where
    all : (us : List Tuple) → take (length us) us ≡ us
    all [] = refl
    all (u ∷ us) = ap (λ vs. u ∷ vs) (all us)

-- ---- a chain of the tuples ts, of which u is the first, and v behind it
module _ (p : Sheet) (ts : List Tuple) (u v : Tuple) (live : ts ≡ all_live (leaves_in ts)) (some : 0 < length ts) (is : u ≡ get_or ts 0 u) (new : v ≡ Live (leaf_in v) 0) (room : HaveRoom p.tuples (with_new (leaves_in ts) (leaf_in v))) where
  abbrev pub others : List Leaf
  others = leaves_in (drop 1 ts)

  begun : with_new (leaves_in ts) (leaf_in v) ≡ leaf_in u ∷ leaf_in v ∷ others
  begun = ap (λ zs. with_new zs (leaf_in v)) (next_is ts 0 u some is)

  room_all : HaveRoom p.tuples (leaf_in u ∷ leaf_in v ∷ others)
  room_all = subst (λ zs. HaveRoom p.tuples zs) begun room

  pub head_room : size_of u + 4 ≤ room_of p.tuples 1
  head_room = let a = first_room p.tuples (leaf_in u) (leaf_in v ∷ others) room_all in let s : size_of u ≡ size_of (Live (leaf_in u) 0) = ap size_of (next_leaf ts 0 u live some is) in omega arith

  module _ (q : Sheet) (head : ℕ) (at : head ≡ free_place p.tuples + 1) (made : q ≡ with_tuples p (added p.tuples 0 head (leaf_in u))) where
    pub head_added : IsAdding p 0 (leaf_in u ∷ leaf_in v ∷ others) q head (leaf_in v ∷ others)
    head_added =
        let o : ℕ = suc (free_place p.tuples) in
        let eo : head ≡ o = omega arith in
        let us : List Tuple = added p.tuples 0 o (leaf_in u) in
        let c2 : q ≡ with_tuples p us = made ∙ ap (λ i. with_tuples p (added p.tuples 0 i (leaf_in u))) eo in
        let t : q.tuples ≡ us = ap (λ (s : Sheet). s.tuples) c2 in
        record {
          page = c2 ∙ ap (λ vs. with_tuples p vs) (sym t);
          same = ap (λ i. chained us i (leaf_in v ∷ others)) (sym eo) ∙ ap (λ vs. chained vs head (leaf_in v ∷ others)) (sym t);
          room = subst (λ vs. HaveRoom vs (leaf_in v ∷ others)) (sym t) (rest_room p.tuples us (leaf_in u) (leaf_in v ∷ others) room_all (added_change p.tuples None (leaf_in u) tt));
          there = subst (λ vs. IsLeafIn vs (Some head)) (sym t) (subst (λ i. IsLeafIn us (Some i)) (sym eo) (added_live p.tuples None (leaf_in u) tt));
        }

    pub second_room : size_of v + 4 ≤ room_of q.tuples 1
    second_room = let a = first_room q.tuples (leaf_in v) others head_added.room in let s : size_of v ≡ size_of (Live (leaf_in v) 0) = ap size_of new in omega arith

    module _ (q2 : Sheet) (second : ℕ) (at2 : second ≡ free_place q.tuples + 1) (made2 : q2 ≡ with_tuples q (added q.tuples head second (leaf_in v))) where
      pub second_added : IsAdding p 0 (leaf_in u ∷ leaf_in v ∷ others) q2 second others
      second_added = adds p 0 (leaf_in u ∷ leaf_in v ∷ others) q head (leaf_in v) others q2 second head_added at2 made2

      pub others_room : (ws : List Tuple) → ws ≡ take (length ts - 1) (drop 1 ts) → HaveRoom q2.tuples (leaves_in ws)
      others_room ws e = subst (λ us. HaveRoom q2.tuples (leaves_in us)) (sym (e ∙ behind_first ts)) second_added.room

      pub all_added : (q3 : Sheet) (ws : List Tuple) → ws ≡ take (length ts - 1) (drop 1 ts) → q3 ≡ with_tuples q2 (chained q2.tuples second (leaves_in ws)) → q3 ≡ with_tuples p (chained p.tuples 0 (with_new (leaves_in ts) (leaf_in v)))
      all_added q3 ws e made3 =
          let A = second_added in
          made3 ∙ ap (λ us. with_tuples q2 (chained q2.tuples second (leaves_in us))) (e ∙ behind_first ts) ∙ ap (λ (s : Sheet). with_tuples s (chained q2.tuples second others)) A.page
          ∙ ap (λ us. with_tuples p us) (sym A.same) ∙ ap (λ zs. with_tuples p (chained p.tuples 0 zs)) (sym begun)
