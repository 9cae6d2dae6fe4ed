-- A list of leaf tuples on its way to a page.
use Rattle.std.proofs.Common.{◌≡◌, ℕ, suc, ◌+◌, ◌≤◌, ◌<◌, List, ◌∷◌, Option, Some, length, drop, drop-cons, get_or, nat_eq, sym, ap, ◌∙◌, subst, arith}
use Rattle.std.proofs.lemmas.Bool.{cond-true, cond-false, eq-eqb, ne_eqb}
use Rattle.spg_forest.specs.View.{Leaf}
use Rattle.spg_forest.specs.Tuples.{Tuple, Live, Placeholder}
use Rattle.spg_forest.specs.Sheets.{Sheet, with_tuples, free_place, size_of}
use Rattle.spg_forest.specs.Edits.{added}
use Rattle.spg_page.specs.Changes.{room_of}
use Rattle.spg_page.specs.Reads.{leaf_in}
use Rattle.spg_page.specs.Told.{number_of}
use Rattle.spg_chain.specs.Added.{IsLeafIn}
use Rattle.spg_split.specs.declared.placing.Ends.{Ends}
use Rattle.spg_split.specs.Ends.{last_of, head_or}
use Rattle.spg_forest.specs.Pages.{all_live}
use Rattle.spg_split.specs.Placing.{taken_by, head_of}
use Rattle.spg_chain.specs.Listed.{chained, HaveRoom, leaves_in}
use Rattle.spg_chain.proofs.LiveLists.{unlinked_at}
use Rattle.spg_chain.proofs.Room.{first_room, rest_room, added_change, added_live}

-- the leaves ls were to be put on the page p; the leaves `rest` are still to be put on the page q
pub record IsGrowing (p : Sheet) (ls : List Leaf) (q : Sheet) (ends : Option Ends) (rest : List Leaf) : Type 0 where
  pub page : q ≡ with_tuples p q.tuples
  pub same : chained p.tuples 0 ls ≡ chained q.tuples (number_of (last_of ends)) rest
  pub head : head_of p.tuples ls ≡ head_or ends (head_of q.tuples rest)
  pub room : HaveRoom q.tuples rest
  pub last : IsLeafIn q.tuples (last_of ends)

-- a tuple that goes to the node, and one that does not
pub taken_first : (j : ℕ) (ts : List Tuple) (nodes : List ℕ) (i : ℕ) (d : Tuple) → i < length ts → i < length nodes → get_or nodes i 0 ≡ j →
    taken_by j (drop i ts) (drop i nodes) ≡ leaf_in (get_or ts i d) ∷ taken_by j (drop (i + 1) ts) (drop (i + 1) nodes)
taken_first j ts nodes i d a b e =
    let s : suc i ≡ i + 1 = omega arith in
    let x : drop i ts ≡ get_or ts i d ∷ drop (i + 1) ts = drop-cons ts i d a ∙ ap (λ k. get_or ts i d ∷ drop k ts) s in
    let y : drop i nodes ≡ get_or nodes i 0 ∷ drop (i + 1) nodes = drop-cons nodes i 0 b ∙ ap (λ k. get_or nodes i 0 ∷ drop k nodes) s in
    rw (x, y) (cond-true (nat_eq (get_or nodes i 0) j) (leaf_in (get_or ts i d) ∷ taken_by j (drop (i + 1) ts) (drop (i + 1) nodes)) (taken_by j (drop (i + 1) ts) (drop (i + 1) nodes)) (eq-eqb (get_or nodes i 0) j e))

pub passed_first : (j : ℕ) (ts : List Tuple) (nodes : List ℕ) (i : ℕ) (d : Tuple) → i < length ts → i < length nodes → (get_or nodes i 0 ≡ j → ⊥) →
    taken_by j (drop i ts) (drop i nodes) ≡ taken_by j (drop (i + 1) ts) (drop (i + 1) nodes)
passed_first j ts nodes i d a b e =
    let s : suc i ≡ i + 1 = omega arith in
    let x : drop i ts ≡ get_or ts i d ∷ drop (i + 1) ts = drop-cons ts i d a ∙ ap (λ k. get_or ts i d ∷ drop k ts) s in
    let y : drop i nodes ≡ get_or nodes i 0 ∷ drop (i + 1) nodes = drop-cons nodes i 0 b ∙ ap (λ k. get_or nodes i 0 ∷ drop k nodes) s in
    rw (x, y) (cond-false (nat_eq (get_or nodes i 0) j) (leaf_in (get_or ts i d) ∷ taken_by j (drop (i + 1) ts) (drop (i + 1) nodes)) (taken_by j (drop (i + 1) ts) (drop (i + 1) nodes)) (ne_eqb (get_or nodes i 0) j e))

-- the next of the leaves put on the page
pub grows : (p : Sheet) (ls : List Leaf) (q : Sheet) (ends : Option Ends) (l : Leaf) (rest : List Leaf) (e : Ends) (q2 : Sheet) → IsGrowing p ls q ends (l ∷ rest) →
    e.last ≡ suc (free_place q.tuples) → Some e.head ≡ head_or ends (Some (suc (free_place q.tuples))) →
    q2 ≡ with_tuples q (added q.tuples (number_of (last_of ends)) (suc (free_place q.tuples)) l) → IsGrowing p ls q2 (Some e) rest
grows p ls q ends l rest e q2 G a b c =
    let us : List Tuple = added q.tuples (number_of (last_of ends)) (suc (free_place q.tuples)) l in
    let t : q2.tuples ≡ us = ap (λ (s : Sheet). s.tuples) c in
    record {
      page = c ∙ ap (λ (s : Sheet). with_tuples s us) G.page ∙ ap (λ vs. with_tuples p vs) (sym t);
      same = G.same ∙ ap (λ o. chained us o rest) (sym a) ∙ ap (λ vs. chained vs e.last rest) (sym t);
      head = G.head ∙ sym b;
      room = subst (λ vs. HaveRoom vs rest) (sym t) (rest_room q.tuples us l rest G.room (added_change q.tuples (last_of ends) l G.last));
      last = subst (λ vs. IsLeafIn vs (Some e.last)) (sym t) (subst (λ o. IsLeafIn us (Some o)) (sym a) (added_live q.tuples (last_of ends) l G.last));
    }

-- a tuple that goes to the node, on its turn, has room
pub turn_room : (p : Sheet) (ls : List Leaf) (q : Sheet) (ends : Option Ends) (j : ℕ) (ts : List Tuple) (nodes : List ℕ) (i : ℕ) (u : Tuple) → IsGrowing p ls q ends (taken_by j (drop i ts) (drop i nodes)) →
    ts ≡ all_live (leaves_in ts) → i < length ts → length ts ≤ length nodes → get_or nodes i 0 ≡ j → u ≡ get_or ts i u → size_of u + 4 ≤ room_of q.tuples 1
turn_room p ls q ends j ts nodes i u G live a b e is =
    let h = subst (λ zs. HaveRoom q.tuples zs) (taken_first j ts nodes i u a (omega arith) e) G.room in
    let s : size_of u ≡ size_of (Live (leaf_in (get_or ts i u)) 0) = ap size_of (is ∙ unlinked_at ts i u live a) in
    let r = first_room q.tuples (leaf_in (get_or ts i u)) (taken_by j (drop (i + 1) ts) (drop (i + 1) nodes)) h in
    omega arith

-- and is put
pub turn_taken : (p : Sheet) (ls : List Leaf) (q : Sheet) (ends : Option Ends) (j : ℕ) (ts : List Tuple) (nodes : List ℕ) (i : ℕ) (u : Tuple) (e : Ends) (q2 : Sheet) → IsGrowing p ls q ends (taken_by j (drop i ts) (drop i nodes)) →
    i < length ts → length ts ≤ length nodes → get_or nodes i 0 ≡ j → u ≡ get_or ts i u →
    e.last ≡ suc (free_place q.tuples) → Some e.head ≡ head_or ends (Some (suc (free_place q.tuples))) →
    q2 ≡ with_tuples q (added q.tuples (number_of (last_of ends)) (suc (free_place q.tuples)) (leaf_in u)) → IsGrowing p ls q2 (Some e) (taken_by j (drop (i + 1) ts) (drop (i + 1) nodes))
turn_taken p ls q ends j ts nodes i u e q2 G a b n is x y z =
    let rest : List Leaf = taken_by j (drop (i + 1) ts) (drop (i + 1) nodes) in
    let f : taken_by j (drop i ts) (drop i nodes) ≡ leaf_in u ∷ rest = taken_first j ts nodes i u a (omega arith) n ∙ ap (λ v. leaf_in v ∷ rest) (sym is) in
    grows p ls q ends (leaf_in u) rest e q2 (subst (λ zs. IsGrowing p ls q ends zs) f G) x y z

pub turn_passed : (p : Sheet) (ls : List Leaf) (q : Sheet) (ends : Option Ends) (j : ℕ) (ts : List Tuple) (nodes : List ℕ) (i : ℕ) → IsGrowing p ls q ends (taken_by j (drop i ts) (drop i nodes)) →
    i < length ts → length ts ≤ length nodes → (get_or nodes i 0 ≡ j → ⊥) → IsGrowing p ls q ends (taken_by j (drop (i + 1) ts) (drop (i + 1) nodes))
turn_passed p ls q ends j ts nodes i G a b n = subst (λ zs. IsGrowing p ls q ends zs) (passed_first j ts nodes i Placeholder a (omega arith) n) G
