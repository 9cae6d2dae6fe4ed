-- What an insert promises of its later sections holds once it rose or added a node, and stays under its own sections.
use Rattle.std.proofs.Common.{◌≡◌, inl, inr, ℕ, Bool, true, false, List, Option, Some, None, refl, sym, ap, ap₂, ◌∙◌, subst}
use Rattle.std.specs.Prelude.{ℤ}
use Rattle.spg_opclass.specs.Meaning.{Meaning, is_tuple, upper}
use Rattle.spg_opclass.specs.Laws.{AddLaw, SplitLaw, GoesOn}
use Rattle.spg_opclass.specs.declared.view.Choice.{Choice}
use Rattle.spg_opclass.specs.declared.view.Choice.TheVariants.{Match, Add, Split}
use Rattle.spg_forest.specs.View.{Place}
use Rattle.spg_forest.specs.Spot.{Frame}
use Rattle.spg_forest.specs.Classes.{key_of}
use Rattle.spg_forest.specs.Shape.{Shape, IsTupleOf}
use Rattle.spg_page.specs.Reads.{frame_in}
use Rattle.spg_tree.specs.Table.{Table, sheets_of, tuple_at}
use Rattle.spg_tree.specs.Descents.{Descending, in_nulls}
use Rattle.spg_tree.specs.declared.stand.Stand.{Stand}
use Rattle.spg_tree.specs.declared.stand.Stand.TheVariants.{Start, Empty}
use Rattle.spg_descend.specs.declared.enter.Entered.TheVariants.{In, Busy}
use Rattle.spg_descend.specs.Answers.{IsAnswered, LeadsNowhere}
use Rattle.spg_descend.specs.Carried.{IsCarried}
use Rattle.spg_descend.specs.Follows.{IsAtPlace, IsAtInner, tuple_place, link_of, stand_below}
use Rattle.spg_descend.specs.Leaves.{stand_block}
use Rattle.spg_move.specs.Nodes.{Widens}
use Rattle.spg_move.specs.Splits.{PartsTuple}
use Rattle.spg_seats.specs.Descending.{Stands}
use Rattle.spg_core.specs.Stepping.{IsNamed}
use Rattle.spg_core.specs.Telling.{Comes}
use Rattle.spg_core.proofs.Ends.{one_answer}
use Rattle.spg_core.proofs.Chooses.{framed, key_given}
use Rattle.spg_bounds.specs.Promises.{IsSettled, IsNearlySettled, KeepsPromises}

-- an insert that neither rose nor added a node promises nothing
pub promises_none : {Key Recon Cond : Type 0} (m : Meaning Key Recon Cond) (t : Table) (d : Descending Recon) → d.rose ≡ false → d.added ≡ false → KeepsPromises m t d
promises_none m t d r a = record { rose = λ e. absurd (let c : false ≡ true = sym r ∙ e in cc); added = λ e. absurd (let c : false ≡ true = sym a ∙ e in cc) }

not_true : (b : Bool) → (b ≡ true → ⊥) → b ≡ false
not_true true h = absurd (h refl)
not_true false h = refl

no_place : (t : Table) (st : Stand) → st ≡ Empty → IsAtInner t st → ⊥
no_place t st e i = subst (λ (s : Stand). IsAtPlace s) e i.0

module _ {Key Recon Cond : Type 0} (m : Meaning Key Recon Cond) (t : Table) (d : Descending Recon) (P : KeepsPromises m t d) where
  -- off inner tuples it stands at an empty downlink, or has promised nothing
  pub nothing_promised : (d.stand ≡ Empty → ⊥) → (IsAtInner t d.stand → ⊥) → (d.rose ≡ false) × (d.added ≡ false)
  nothing_promised e i = (not_true d.rose (λ r. nearly (P.rose r)), not_true d.added (λ r. settled (P.added r)))
    where
      settled : IsSettled m t d → ⊥
      settled (inl s) = e s
      settled (inr (j, n)) = i j

      nearly : IsNearlySettled m t d → ⊥
      nearly (inl s) = settled s
      nearly (inr (j, a)) = i j

  -- where it has promised something the class answers a match with a node that leads nowhere, or asks for a node
  settled_answer : IsAtInner t d.stand → IsSettled m t d → LeadsNowhere m t d
  settled_answer i (inl e) = absurd (no_place t d.stand e i)
  settled_answer i (inr (j, n)) = n

  -- where it asks for a split nothing was promised, and where it asks for a node none was added
  pub split_none : IsAtInner t d.stand → (up : List ℕ) (labels : List ℤ) (child : ℕ) (low : List ℕ) → IsAnswered m t d (Split up labels child low) → (d.rose ≡ false) × (d.added ≡ false)
  split_none i up labels child low is = (not_true d.rose (λ r. nearly (P.rose r)), not_true d.added (λ r. settled (P.added r)))
    where
      settled : IsSettled m t d → ⊥
      settled s = let (node, rest, a, l, plain) = settled_answer i s in let e : Match node rest ≡ Split up labels child low = one_answer m t d (Match node rest) (Split up labels child low) a is in cc

      nearly : IsNearlySettled m t d → ⊥
      nearly (inl s) = settled s
      nearly (inr (j, (at, label, a))) = let e : Add at label ≡ Split up labels child low = one_answer m t d (Add at label) (Split up labels child low) a is in cc

  pub add_none : IsAtInner t d.stand → (at : ℕ) (label : ℤ) → IsAnswered m t d (Add at label) → d.added ≡ false
  add_none i at label is = not_true d.added (λ r. let (node, rest, a, l, plain) = settled_answer i (P.added r) in let e : Match node rest ≡ Add at label = one_answer m t d (Match node rest) (Add at label) a is in cc)

  -- the node that is followed leads nowhere
  settled_leads : (node : ℕ) (rest : List ℕ) (by_turn : Bool) → IsNamed m t d node rest by_turn → LeadsNowhere m t d → link_of t (tuple_place d.stand) node ≡ None
  settled_leads node rest by_turn (inl (absent, turn, none, turned)) (other, left, (r, er, ea), nowhere, plain) = absurd (let f : None ≡ Some r = sym absent ∙ er in cc)
  settled_leads node rest by_turn (inr (answer, is, e, turned)) (other, left, was, nowhere, plain) =
      let same : Match answer rest ≡ Match other left = one_answer m t d (Match answer rest) (Match other left) is was in
      let one : answer ≡ other = cc in
      let here : node ≡ answer = rw plain at e in
      ap (λ (j : ℕ). link_of t (tuple_place d.stand) j) (here ∙ one) ∙ nowhere

  promised_leads : (node : ℕ) (rest : List ℕ) (by_turn : Bool) → IsAtInner t d.stand → IsNamed m t d node rest by_turn → IsNearlySettled m t d → link_of t (tuple_place d.stand) node ≡ None
  promised_leads node rest by_turn i is (inl s) = settled_leads node rest by_turn is (settled_answer i s)
  promised_leads node rest by_turn i (inl (absent, turn, none, turned)) (inr (j, (at, label, (r, er, ea)))) = absurd (let f : None ≡ Some r = sym absent ∙ er in cc)
  promised_leads node rest by_turn i (inr (answer, is, e, turned)) (inr (j, (at, label, a))) = absurd (let f : Match answer rest ≡ Add at label = one_answer m t d (Match answer rest) (Add at label) is a in cc)

  -- ---- it comes to its root, or goes down

  pub comes_in : (t2 : Table) (d2 : Descending Recon) (seat : ℕ) → Comes m t t2 d d2 seat In → KeepsPromises m t2 d2
  comes_in t2 d2 seat (inl (start, (free, et, ed))) =
      let (r, a) = nothing_promised (λ e. let q : Start ≡ Empty = sym start ∙ e in cc) (λ i. subst (λ (s : Stand). IsAtPlace s) start i.0) in
      promises_none m t2 d2 (ap (λ (z : Descending Recon). z.rose) ed ∙ r) (ap (λ (z : Descending Recon). z.added) ed ∙ a)
  comes_in t2 d2 seat (inr (i, (node, rest, by_turn, is, t1, (free, et, ed), turned))) = record {
    rose = λ r. inl (inl (empty (P.rose (sym (ap (λ (z : Descending Recon). z.rose) ed) ∙ r))));
    added = λ r. inl (empty (inl (P.added (sym (ap (λ (z : Descending Recon). z.added) ed) ∙ r))));
  }
    where
      empty : IsNearlySettled m t d → d2.stand ≡ Empty
      empty n = ap (λ (z : Descending Recon). z.stand) ed ∙ ap stand_below (promised_leads node rest by_turn i is n)

  pub comes_busy : (t2 : Table) (d2 : Descending Recon) (seat block by : ℕ) → Comes m t t2 d d2 seat (Busy block by) → KeepsPromises m t2 d2
  comes_busy t2 d2 seat block by (inl (start, (eb, held, other, et, ed))) =
      let (r, a) = nothing_promised (λ e. let q : Start ≡ Empty = sym start ∙ e in cc) (λ i. subst (λ (s : Stand). IsAtPlace s) start i.0) in
      promises_none m t2 d2 (ap (λ (z : Descending Recon). z.rose) ed ∙ r) (ap (λ (z : Descending Recon). z.added) ed ∙ a)
  comes_busy t2 d2 seat block by (inr (i, (node, rest, by_turn, is, t1, (eb, held, other, et, ed), turned))) = record {
    rose = λ r. absurd (off (P.rose (sym (ap (λ (z : Descending Recon). z.rose) ed) ∙ r)));
    added = λ r. absurd (off (inl (P.added (sym (ap (λ (z : Descending Recon). z.added) ed) ∙ r))));
  }
    where
      off : IsNearlySettled m t d → ⊥
      off n = let e : None ≡ Some block = sym (ap (λ l. stand_block (stand_below l)) (promised_leads node rest by_turn i is n)) ∙ eb in cc

-- ---- the inner tuple is changed

is_tuple_here : {Key Recon Cond : Type 0} (m : Meaning Key Recon Cond) (t : Table) (d : Descending Recon) → Shape m (sheets_of t) → IsAtInner t d.stand → Stands t d → in_nulls d ≡ false → is_tuple m (frame_in (tuple_at t (tuple_place d.stand))) ≡ true
is_tuple_here m t d H i at main = subst (λ (b : Bool). IsTupleOf m b (frame_in (tuple_at t (tuple_place d.stand)))) main (framed m t d H i at).kind

gives_key : {Key Recon Cond : Type 0} (m : Meaning Key Recon Cond) (t : Table) (d : Descending Recon) (recon : Recon) (key : Option Key) → d.recon ≡ Some recon → IsCarried m (sheets_of t) d key → (k : Key) × (m.rebuild recon d.rest ≡ Some k) × (key ≡ Some k)
gives_key {Key} {Recon} m t d recon key er C = key_given m recon d.rest key (subst (λ (r : Option Recon). key_of m r d.rest ≡ Some key) er C.rebuilt)

module _ {Key Recon Cond : Type 0} (m : Meaning Key Recon Cond) (t t1 : Table) (d d2 : Descending Recon) (H : Shape m (sheets_of t)) (K : (key : Option Key) × IsCarried m (sheets_of t) d key) (stands : Stands t d) (i : IsAtInner t d.stand) (main : in_nulls d ≡ false) where
  -- a node is put in: the class answers a match with it
  pub widened_settled : AddLaw m → (at : ℕ) (label : ℤ) (f : Place → Place) → d2.recon ≡ d.recon → d2.rest ≡ d.rest → IsAnswered m t d (Add at label) → Widens m t t1 d d2 at label f → IsSettled m t1 d2
  widened_settled adds at label f recons rests (recon, er, ea) W =
      let w : Frame = frame_in (tuple_at t (tuple_place d.stand)) in
      let (k, ek, q) = gives_key m t d recon K.0 er K.1 in
      let L = adds recon w d.rest k (is_tuple_here m t d H i stands main) ek at label ea in
      let (rest, again) = L.then_matches in
      let answer : m.answer recon (frame_in (tuple_at t1 (tuple_place d2.stand))) d2.rest ≡ Match at rest = ap₂ (λ (v : Frame) (bs : List ℕ). m.answer recon v bs) W.frame rests ∙ again in
      let plain : (frame_in (tuple_at t1 (tuple_place d2.stand))).all_same ≡ false = ap (λ (v : Frame). v.all_same) W.frame ∙ L.not_same in
      inr (W.inner, (at, rest, (recon, recons ∙ er, answer), W.nowhere, plain))

  -- the tuple is split: the class goes on elsewhere than at the child
  pub parted_settled : SplitLaw m → (up : List ℕ) (labels : List ℤ) (child : ℕ) (low : List ℕ) → IsAnswered m t d (Split up labels child low) → PartsTuple m t t1 d d2 up labels child → IsNearlySettled m t1 d2
  parted_settled splits up labels child low (recon, er, ea) P =
      let w : Frame = frame_in (tuple_at t (tuple_place d.stand)) in
      let (k, ek, q) = gives_key m t d recon K.0 er K.1 in
      let L = splits recon w d.rest k (is_tuple_here m t d H i stands main) ek up labels child low ea in
      let recons : d2.recon ≡ d.recon = ap (λ (z : Descending Recon). z.recon) P.after in
      let rests : d2.rest ≡ d.rest = ap (λ (z : Descending Recon). z.rest) P.after in
      let answer : m.answer recon (frame_in (tuple_at t1 (tuple_place d2.stand))) d2.rest ≡ m.answer recon (upper up labels) d.rest = ap₂ (λ (v : Frame) (bs : List ℕ). m.answer recon v bs) P.frame rests in
      let plain : (frame_in (tuple_at t1 (tuple_place d2.stand))).all_same ≡ false = ap (λ (v : Frame). v.all_same) P.frame in
      go (m.answer recon (upper up labels) d.rest) (recons ∙ er) answer plain L.goes_on
    where
      go : {recon : Recon} (choice : Choice) → d2.recon ≡ Some recon → m.answer recon (frame_in (tuple_at t1 (tuple_place d2.stand))) d2.rest ≡ choice → (frame_in (tuple_at t1 (tuple_place d2.stand))).all_same ≡ false → GoesOn child choice → IsNearlySettled m t1 d2
      go {recon} (Match node rest) r a plain off = inl (inr (P.inner, (node, rest, (recon, r, a), P.others node off, plain)))
      go {recon} (Add at label) r a plain off = inr (P.inner, (at, label, (recon, r, a)))
      go {recon} (Split u ls c l) r a plain off = absurd off
