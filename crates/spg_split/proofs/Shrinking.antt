-- Below a new inner tuple each list has fewer leaves than were divided, or the node of the leaf that was left out leads nowhere.
use Rattle.std.specs.Prelude.{is_some}
use Rattle.std.proofs.Common.{◌≡◌, ◌⊎◌, false, ℕ, zero, suc, ◌+◌, ◌≤◌, ◌<◌, List, [], ◌∷◌, ⊎_elim, Option, Some, None, length, take, slice_get, slice_index, nat_eq, refl, sym, ap, ◌∙◌, inl, inr, arith}
use Rattle.std.proofs.lemmas.Bool.{cases_eq, cases_lt, cond-true, cond-false, eq-eqb, ne_eqb}
use Rattle.std.proofs.lemmas.List.{get_or-take, length-take-le}
use Rattle.spg_opclass.specs.Meaning.{Meaning}
use Rattle.spg_forest.specs.View.{Place}
use Rattle.spg_forest.specs.Spot.{Frame, Bucket}
use Rattle.spg_forest.specs.Tuples.{Tuple}
use Rattle.spg_forest.specs.Shape.{spots}
use Rattle.spg_page.specs.Reads.{frame_in, leaf_in}
use Rattle.spg_tree.specs.Table.{Table, sheets_of, tuple_at}
use Rattle.spg_tree.specs.Descents.{Descending}
use Rattle.spg_descend.specs.Follows.{tuple_place, link_of}
use Rattle.spg_descend.specs.Answers.{LeadsNowhere}
use Rattle.spg_split.specs.declared.division.Division.{Division}
use Rattle.spg_split.specs.Nodes.{IsOnlyNode}
use Rattle.spg_split.specs.Dividing.{IsDivided}
use Rattle.spg_split.specs.Placing.{taken_by}
use Rattle.spg_split.specs.Shrinks.{leaf_number, LeadsToFewer, Shrinks}

-- ---- how many of the leaf tuples go to a node

taken_most : (j : ℕ) (ts : List Tuple) (nodes : List ℕ) → length (taken_by j ts nodes) ≤ length ts
taken_most j [] nodes = omega arith
taken_most j (t ∷ ts) [] = omega arith
taken_most j (t ∷ ts) (n ∷ nodes) = let h = taken_most j ts nodes in ⊎_elim
    (λ q. let c = ap length (cond-true (nat_eq n j) (leaf_in t ∷ taken_by j ts nodes) (taken_by j ts nodes) (eq-eqb n j q)) in omega arith)
    (λ q. let c = ap length (cond-false (nat_eq n j) (leaf_in t ∷ taken_by j ts nodes) (taken_by j ts nodes) (ne_eqb n j q)) in omega arith) (cases_eq n j)

-- fewer than all, where one goes to another
taken_fewer : (j : ℕ) (ts : List Tuple) (nodes : List ℕ) (i : ℕ) → i < length ts → i < length nodes → (slice_index nodes i ≡ j → ⊥) → length (taken_by j ts nodes) < length ts
taken_fewer j [] nodes i a b e = absurd (omega arith)
taken_fewer j (t ∷ ts) [] i a b e = absurd (omega arith)
taken_fewer j (t ∷ ts) (n ∷ nodes) zero a b e = let h = taken_most j ts nodes in let c = ap length (cond-false (nat_eq n j) (leaf_in t ∷ taken_by j ts nodes) (taken_by j ts nodes) (ne_eqb n j e)) in omega arith
taken_fewer j (t ∷ ts) (n ∷ nodes) (suc i) a b e = let h = taken_fewer j ts nodes i (omega arith) (omega arith) e in ⊎_elim
    (λ q. let c = ap length (cond-true (nat_eq n j) (leaf_in t ∷ taken_by j ts nodes) (taken_by j ts nodes) (eq-eqb n j q)) in omega arith)
    (λ q. let c = ap length (cond-false (nat_eq n j) (leaf_in t ∷ taken_by j ts nodes) (taken_by j ts nodes) (ne_eqb n j q)) in omega arith) (cases_eq n j)

-- so to each node, where two go to different ones
each_fewer : (ts : List Tuple) (nodes : List ℕ) (i k : ℕ) → i < length ts → k < length ts → length ts ≤ length nodes → (slice_index nodes i ≡ slice_index nodes k → ⊥) → (j : ℕ) → length (taken_by j ts nodes) < length ts
each_fewer ts nodes i k a b n differ j = ⊎_elim (λ e. taken_fewer j ts nodes k b (omega arith) (λ q. differ (e ∙ sym q))) (λ e. taken_fewer j ts nodes i a (omega arith) e) (cases_eq (slice_index nodes i) j)

-- none, where all go to others
taken_none : (j : ℕ) (ts : List Tuple) (nodes : List ℕ) → ((i : ℕ) → i < length ts → i < length nodes → slice_index nodes i ≡ j → ⊥) → taken_by j ts nodes ≡ []
taken_none j [] nodes h = refl
taken_none j (t ∷ ts) [] h = refl
taken_none j (t ∷ ts) (n ∷ nodes) h =
    cond-false (nat_eq n j) (leaf_in t ∷ taken_by j ts nodes) (taken_by j ts nodes) (ne_eqb n j (h 0 (omega arith) (omega arith))) ∙ taken_none j ts nodes (λ i a b. h (suc i) (omega arith) (omega arith))

-- ---- all but the last value are in one node

module _ (nodes : List ℕ) (k c : ℕ) (count : length nodes ≡ c + 1) (only : IsOnlyNode (take c nodes) (Some k)) where
  first_in : (i : ℕ) → i < c → slice_index nodes i ≡ k
  first_in i h = let l = length-take-le c nodes (omega arith) in sym (get_or-take c nodes i 0 h) ∙ only.1 i (omega arith)

  -- then the last is in another, if not all are in one
  pub last_apart : (i j : ℕ) → i < length nodes → j < length nodes → (slice_index nodes i ≡ slice_index nodes j → ⊥) → slice_index nodes c ≡ k → ⊥
  last_apart i j a b differ e = differ (each i a ∙ sym (each j b))
    where
      each : (i : ℕ) → i < length nodes → slice_index nodes i ≡ k
      each i a = ⊎_elim (λ h. first_in i h) (λ h. let q : i ≡ c = omega arith in ap (λ z. slice_index nodes z) q ∙ e) (cases_lt i c)

  -- and the others leave its node empty
  last_alone : (ts : List Tuple) → length ts ≤ c → (slice_index nodes c ≡ k → ⊥) → taken_by (slice_index nodes c) ts nodes ≡ []
  last_alone ts few differ = taken_none (slice_index nodes c) ts nodes (λ i a b e. differ (sym e ∙ first_in i (omega arith)))

-- ---- the new inner tuple

-- at x an inner tuple stands whose node j leads to the leaves of the leaf tuples that go to j, and nowhere where there are none
pub record LeadsToLists (t : Table) (x : Place) (w : Frame) (ts : List Tuple) (nodes : List ℕ) : Type 0 where
  pub frame : frame_in (tuple_at t x) ≡ w
  pub none : (j : ℕ) → taken_by j ts nodes ≡ [] → link_of t x j ≡ None
  pub lists : (j : ℕ) (y : Place) → link_of t x j ≡ Some y → spots (sheets_of t) y ≡ Bucket (taken_by j ts nodes)

-- of c + 1 values, the last that of the insert, the first c are put
module _ {Key Recon Cond : Type 0} (m : Meaning Key Recon Cond) (t t2 : Table) (d d2 : Descending Recon) (rests : List (List ℕ)) (dv : Division) (c : ℕ) (D : IsDivided m d2.recon rests dv)
    (count : length rests ≡ c + 1) (last : slice_get rests c ≡ Some d2.rest) (number : leaf_number t d.stand ≡ c) (ts : List Tuple) (put : length ts ≡ c) (T : LeadsToLists t2 (tuple_place d2.stand) dv.frame ts dv.node_of) where
  to_fewer : 0 < c → IsOnlyNode (take c dv.node_of) None → LeadsToFewer t2 (tuple_place d2.stand) (leaf_number t d.stand)
  to_fewer some several =
      let n = D.node_each in let l = length-take-le c dv.node_of (omega arith) in
      let (j, h, differ) = several (omega arith) in
      let fj : slice_index (take c dv.node_of) j ≡ slice_index dv.node_of j = get_or-take c dv.node_of j 0 (omega arith) in
      let f0 : slice_index (take c dv.node_of) 0 ≡ slice_index dv.node_of 0 = get_or-take c dv.node_of 0 0 (omega arith) in
      λ i y e. (taken_by i ts dv.node_of, T.lists i y e, let a = each_fewer ts dv.node_of j 0 (omega arith) (omega arith) (omega arith) (λ q. differ (fj ∙ q ∙ sym f0)) i in let b = number in omega arith)

  nowhere : (k : ℕ) → 2 ≤ c → IsOnlyNode (take c dv.node_of) (Some k) → LeadsNowhere m t2 d2
  nowhere k two only =
      let n : length dv.node_of ≡ c + 1 = D.node_each ∙ count in
      let (recon, left, e, f, g) = D.alone k c d2.rest count two only last in
      let (i, j, a, b, differ) = D.apart in (
        slice_index dv.node_of c,
        left,
        (recon, e, ap (λ (w : Frame). m.answer recon w d2.rest) T.frame ∙ f),
        T.none (slice_index dv.node_of c) (last_alone dv.node_of k c n only ts (omega arith) (last_apart dv.node_of k c n only i j a b differ)),
        ap (λ (w : Frame). w.all_same) T.frame ∙ g,
      )

  pub shrinks : (node : Option ℕ) → 2 ≤ c → IsOnlyNode (take c dv.node_of) node → Shrinks m t t2 d d2 × ((is_some node ≡ false) ⊎ LeadsNowhere m t2 d2)
  shrinks None two several = (inl (to_fewer (omega arith) several), inl refl)
  shrinks (Some k) two only = let z = nowhere k two only in (inr z, inr z)
