-- An insert comes to its end: each section takes one of those that may come yet.
use Rattle.std.proofs.Common.{◌≡◌, ℕ, zero, suc, ◌+◌, ◌≤◌, ◌<◌, Bool, true, false, List, ◌⊎◌, ⊎_elim, Option, Some, None, get_or, length, refl, sym, ap, ap₂, ◌∙◌, subst, inl, inr, arith}
use Rattle.std.specs.Prelude.{ℤ}
use Rattle.spg_opclass.specs.Meaning.{Meaning, is_tuple, upper}
use Rattle.spg_opclass.specs.Laws.{AddLaw, SplitLaw, GoesOn}
use Rattle.spg_opclass.specs.declared.view.Choice.{Choice}
use Rattle.spg_opclass.specs.declared.view.Choice.TheVariants.{Match, Add, Split}
use Rattle.spg_forest.specs.View.{Place, Leaf}
use Rattle.spg_forest.specs.Spot.{Frame, Spot, Branch, Bucket, leaves_of}
use Rattle.spg_forest.specs.Tuples.{Tuple}
use Rattle.spg_forest.specs.Pages.{place, tuple_on, moved}
use Rattle.spg_forest.specs.Sheets.{Sheet, Sheets, sheet_at, links}
use Rattle.spg_forest.specs.Shape.{Shape, spots, IsKindOf, IsTupleOf}
use Rattle.spg_forest.specs.Classes.{key_of}
use Rattle.spg_forest.specs.Edits.{spot_of, CanPut}
use Rattle.spg_forest.specs.Ranks.{leaf_rank, IsRanked, most_sections, EachIsRanked}
use Rattle.spg_forest.proofs.Writes.{inner_at, high_spot, low_spot}
use Rattle.spg_forest.proofs.Sections.{shape_shown}
use Rattle.spg_forest.proofs.Edits.{page_is}
use Rattle.spg_forest.proofs.Ranks.{ranked_branch, branch_ranked, ranked_leaves, leaves_ranked}
use Rattle.spg_page.specs.Reads.{frame_in}
use Rattle.spg_tree.specs.Table.{Table, sheets_of, tuple_at}
use Rattle.spg_tree.specs.Descents.{Descending, in_nulls, placed}
use Rattle.spg_tree.specs.declared.stand.Stand.{Stand}
use Rattle.spg_tree.specs.declared.stand.Stand.TheVariants.{Start, Root, At, Empty}
use Rattle.spg_descend.specs.declared.enter.Entered.TheVariants.{In}
use Rattle.spg_descend.specs.Answers.{IsAnswered}
use Rattle.spg_descend.specs.Below.{IsChainBelow}
use Rattle.spg_descend.specs.Carried.{IsCarried, root_of}
use Rattle.spg_descend.specs.Follows.{IsAtPlace, IsAtInner, tuple_place, link_of, stand_below, FollowsNode}
use Rattle.spg_descend.specs.Puts.{IsAtLeaves}
use Rattle.spg_descend.proofs.FollowLaw.{is_within}
use Rattle.spg_split.specs.Shrinks.{Shrinks, LeadsToFewer, leaf_number}
use Rattle.spg_split.specs.Splits.{IsSplitOut, PartsWithout}
use Rattle.spg_split.specs.Below.{IsChainSplit, SplitsWithout}
use Rattle.spg_split.specs.declared.split.SplitOut.TheVariants.{LeftOut}
use Rattle.spg_move.specs.Nodes.{Widens, IsNodeAdded}
use Rattle.spg_move.specs.Splits.{PartsTuple}
use Rattle.spg_core.specs.declared.answer.InsertOut.TheVariants as outs
use Rattle.spg_seats.specs.Descending.{Stands}
use Rattle.spg_core.specs.Stepping.{SamePages, IsNamed}
use Rattle.spg_core.specs.Ends.{IsNearEnd, EndsAt, EndsWithin, TakesOne}
use Rattle.spg_core.proofs.Stands.{inner_of, same_trans}
use Rattle.spg_core.proofs.Moves.{below_same}
use Rattle.spg_core.proofs.Chooses.{framed, key_given}

-- ---- ranks

-- an inner tuple each node of which leads to fewer leaves than stood before
fewer_ranked : (V : Place → Spot) (n c : ℕ) (x : Place) (w : Frame) (ns : List (Option Place)) → V x ≡ Branch w ns → leaf_rank c ≤ suc n →
    ((i : ℕ) (y : Place) → get_or ns i None ≡ Some y → (ls : List Leaf) × (V y ≡ Bucket ls) × (length ls < c)) → IsRanked V n x
fewer_ranked V zero c x w ns e few each = absurd (omega arith)
fewer_ranked V (suc zero) c x w ns e few each = absurd (omega arith)
fewer_ranked V (suc (suc k)) c x w ns e few each = branch_ranked V (suc k) x w ns e (omega arith) below
  where
    below : (i : ℕ) (y : Place) → get_or ns i None ≡ Some y → IsRanked V (suc k) y
    below i y l = let (ls, b, less) = each i y l in leaves_ranked V k y ls b (omega arith)

-- ---- where an insert stands

pub inner_spot : {Key Recon Cond : Type 0} (m : Meaning Key Recon Cond) (t : Table) (st : Stand) → Shape m (sheets_of t) → IsAtInner t st →
    spots (sheets_of t) (spot_of (tuple_place st)) ≡ Branch (frame_in (tuple_at t (tuple_place st))) (links (tuple_at t (tuple_place st)))
inner_spot m t st H A =
    let S : Sheets = sheets_of t in
    let x : Place = tuple_place st in
    let i = is_within t st A in
    let b = A.1 in
    let can : CanPut S x = record { block = b; positive = i.0; within = let k = i.1 in omega arith } in
    let (w, ns, e) = inner_of (tuple_at t x) A.2 in
    let shown : spots S (spot_of x) ≡ Branch w ns = (inner_at S (spots S) x w ns (shape_shown m S H) can e).shown in
    shown ∙ ap₂ (λ (v : Frame) (us : List (Option Place)). Branch v us) (sym (ap frame_in e)) (sym (ap (λ (u : Tuple). links u) e))

-- the leaves at which it stands
pub leaves_spot : {Key Recon Cond : Type 0} (m : Meaning Key Recon Cond) (t : Table) (nulls : Bool) (st : Stand) → Shape m (sheets_of t) → IsAtLeaves (sheets_of t) nulls st →
    IsAtPlace st × ((ls : List Leaf) × (spots (sheets_of t) (spot_of (tuple_place st)) ≡ Bucket ls))
leaves_spot m t nulls Start H a = absurd a
leaves_spot m t nulls Empty H a = absurd a
leaves_spot m t nulls (At x) H (high, there, tree, (ls, e)) = (high, (ls, ap (spots (sheets_of t)) (high_spot x high) ∙ e))
leaves_spot m t nulls (Root b) H (pos, low, leaf, tree) =
    let S : Sheets = sheets_of t in (
      low,
      ⊎_elim
          (λ (w, ns, e, s).
          let inner : (sheet_at S b).inner ≡ true = (subst (λ (ts : List Tuple). IsKindOf m (sheet_at S b).inner (sheet_at S b).nulls (tuple_on ts 1)) (sym (page_is S b) ∙ e) ((H.pages.each b).kinds 1)).0 in
          let both : false ≡ true = sym leaf ∙ inner in cc)
          (λ (ls, e, s). (ls, ap (spots S) (low_spot (place b 1) low) ∙ s))
          ((shape_shown m S H).root b pos low),
    )

-- the spot at which it stands is ranked, or the insert is near its end
from_place : {Key Recon Cond : Type 0} (m : Meaning Key Recon Cond) (t : Table) (d : Descending Recon) (n : ℕ) (st : Stand) → IsAtPlace st → EndsAt m t d n st → IsRanked (spots (sheets_of t)) n (spot_of (tuple_place st)) ⊎ IsNearEnd m t d n
from_place m t d n Start p h = absurd p
from_place m t d n (Root b) p h = ⊎_elim (λ r. inl (subst (λ (z : Place). IsRanked (spots (sheets_of t)) n z) (sym (low_spot (place b 1) p)) r)) (λ q. inr q) h
from_place m t d n (At x) p h = ⊎_elim (λ r. inl (subst (λ (z : Place). IsRanked (spots (sheets_of t)) n z) (sym (high_spot x p)) r)) (λ q. inr q) h
from_place m t d n Empty p h = absurd p

to_place : {Key Recon Cond : Type 0} (m : Meaning Key Recon Cond) (t : Table) (d : Descending Recon) (n : ℕ) (st : Stand) → IsAtPlace st → IsRanked (spots (sheets_of t)) n (spot_of (tuple_place st)) ⊎ IsNearEnd m t d n → EndsAt m t d n st
to_place m t d n Start p h = absurd p
to_place m t d n (Root b) p h = ⊎_elim (λ r. inl (subst (λ (z : Place). IsRanked (spots (sheets_of t)) n z) (low_spot (place b 1) p) r)) (λ q. inr q) h
to_place m t d n (At x) p h = ⊎_elim (λ r. inl (subst (λ (z : Place). IsRanked (spots (sheets_of t)) n z) (high_spot x p) r)) (λ q. inr q) h
to_place m t d n Empty p h = absurd p

-- with the same pages as many sections come
pub ends_same : {Key Recon Cond : Type 0} (m : Meaning Key Recon Cond) (t t2 : Table) (d : Descending Recon) (n : ℕ) → SamePages t t2 → EndsWithin m t d n → EndsWithin m t2 d n
ends_same {Key} {Recon} m t t2 d n (e, l) h = go d.stand h
  where
    ep : t2.pages ≡ t.pages
    ep = ap (λ (S : Sheets). S.sheets) e

    near : IsNearEnd m t d n → IsNearEnd m t2 d n
    near q = subst (λ (ps : List Sheet). IsNearEnd m (record t { pages = ps }) d n) (sym ep) q

    same : (k : ℕ) (x : Place) → IsRanked (spots (sheets_of t)) k x → IsRanked (spots (sheets_of t2)) k x
    same k x r = subst (λ (S : Sheets). IsRanked (spots S) k x) (sym e) r

    go : (st : Stand) → EndsAt m t d n st → EndsAt m t2 d n st
    go Start (k, q, r) = (k, q, same k (place (root_of (in_nulls d)) 0) r)
    go (Root b) a = ⊎_elim (λ r. inl (same n (place b 0) r)) (λ q. inr (near q)) a
    go (At x) a = ⊎_elim (λ r. inl (same n x r)) (λ q. inr (near q)) a
    go Empty a = a

-- ---- the root is entered

pub root_entered : {Key Recon Cond : Type 0} (m : Meaning Key Recon Cond) (t : Table) (d : Descending Recon) (n : ℕ) → d.stand ≡ Start → EndsWithin m t d (suc n) → IsRanked (spots (sheets_of t)) n (place (root_of (in_nulls d)) 0)
root_entered m t d n e h =
    let (k, q, r) = subst (λ (st : Stand). EndsAt m t d (suc n) st) e h in
    let same : k ≡ n = omega arith in
    subst (λ (j : ℕ). IsRanked (spots (sheets_of t)) j (place (root_of (in_nulls d)) 0)) same r

pub enters_ends : {Key Recon Cond : Type 0} (m : Meaning Key Recon Cond) (t t2 : Table) (d d2 : Descending Recon) → d.stand ≡ Start → SamePages t t2 → d2 ≡ placed d (Root (root_of (in_nulls d))) None → TakesOne m t t2 d d2 outs.Descended
enters_ends {Key} {Recon} m t t2 d d2 start same e = λ n h.
    let stand : d2.stand ≡ Root (root_of (in_nulls d)) = ap (λ (z : Descending Recon). z.stand) e in
    ends_same m t t2 d2 n same (subst (λ (st : Stand). EndsAt m t d2 n st) (sym stand) (inl (root_entered m t d n start h)))

-- ---- a node is followed

-- the answer that the class gives is one
pub one_answer : {Key Recon Cond : Type 0} (m : Meaning Key Recon Cond) (t : Table) (d : Descending Recon) (a b : Choice) → IsAnswered m t d a → IsAnswered m t d b → a ≡ b
one_answer {Key} {Recon} m t d a b (r, er, ea) (s, es, eb) =
    let same : r ≡ s = (let f : Some r ≡ Some s = sym er ∙ es in cc) in
    sym ea ∙ ap (λ (q : Recon). m.answer q (frame_in (tuple_at t (tuple_place d.stand))) d.rest) same ∙ eb

same_match : (a b : ℕ) (p q : List ℕ) → Match a p ≡ Match b q → a ≡ b
same_match a b p q e = cc

module _ {Key Recon Cond : Type 0} (m : Meaning Key Recon Cond) (t : Table) (d : Descending Recon) where
  abbrev x : Place
  x = tuple_place d.stand

  -- near the end the node that is followed leads nowhere
  near_leads : (n node : ℕ) (rest : List ℕ) (by_turn : Bool) → IsNamed m t d node rest by_turn → IsNearEnd m t d n → (link_of t x node ≡ None) × (2 ≤ n)
  near_leads n node rest by_turn (inl (absent, turn, none, turned)) (i, inl (two, (other, left, (r, er, ea), nowhere, plain))) = absurd (let f : None ≡ Some r = sym absent ∙ er in cc)
  near_leads n node rest by_turn (inl (absent, turn, none, turned)) (i, inr (three, (r, child, er, goes, others, plain))) = absurd (let f : None ≡ Some r = sym absent ∙ er in cc)
  near_leads n node rest by_turn (inr (answer, is, e, turned)) (i, inl (two, (other, left, was, nowhere, plain))) =
      let same : answer ≡ other = same_match answer other rest left (one_answer m t d (Match answer rest) (Match other left) is was) in
      let here : node ≡ answer = rw plain at e in
      (ap (λ (j : ℕ). link_of t x j) (here ∙ same) ∙ nowhere, two)
  near_leads n node rest by_turn (inr (answer, (s, es, ea), e, turned)) (i, inr (three, (r, child, er, goes, others, plain))) =
      let same : r ≡ s = (let f : Some r ≡ Some s = sym er ∙ es in cc) in
      let eq : m.answer r (frame_in (tuple_at t x)) d.rest ≡ Match answer rest = ap (λ (q : Recon). m.answer q (frame_in (tuple_at t x)) d.rest) same ∙ ea in
      let off : answer ≡ child → ⊥ = subst (λ (c : Choice). GoesOn child c) eq goes in
      let here : node ≡ answer = rw plain at e in
      (ap (λ (j : ℕ). link_of t x j) here ∙ others answer off, omega arith)

  -- where it leads fewer sections come
  ends_below : (dz : Descending Recon) (n node : ℕ) (rest : List ℕ) (by_turn : Bool) → Shape m (sheets_of t) → IsAtInner t d.stand → IsNamed m t d node rest by_turn → EndsWithin m t d (suc n) → EndsAt m t dz n (stand_below (link_of t x node))
  ends_below dz n node rest by_turn H i is h = ⊎_elim
      (λ r. let (few, each) = ranked_branch (spots (sheets_of t)) n (spot_of x) (frame_in (tuple_at t x)) (links (tuple_at t x)) (inner_spot m t d.stand H i) r in go few each (link_of t x node) refl)
      (λ q.
      let (none, two) = near_leads (suc n) node rest by_turn is q in
      let one : 1 ≤ n = omega arith in
      subst (λ (l : Option Place). EndsAt m t dz n (stand_below l)) (sym none) one)
      (from_place m t d (suc n) d.stand i.0 h)
    where
      go : 3 ≤ n → ((j : ℕ) (y : Place) → get_or (links (tuple_at t x)) j None ≡ Some y → IsRanked (spots (sheets_of t)) n y) → (l : Option Place) → link_of t x node ≡ l → EndsAt m t dz n (stand_below l)
      go few each None e = omega arith
      go few each (Some y) e = inl (each node y e)

pub down_ends : {Key Recon Cond : Type 0} (m : Meaning Key Recon Cond) (t t1 t2 : Table) (d d2 : Descending Recon) (seat node : ℕ) (rest : List ℕ) (by_turn : Bool) → Shape m (sheets_of t) → IsAtInner t d.stand → IsNamed m t d node rest by_turn →
    FollowsNode m t t1 d d2 seat node rest In → SamePages t1 t2 → TakesOne m t t2 d d2 outs.Descended
down_ends {Key} {Recon} m t t1 t2 d d2 seat node rest by_turn H i is (unheld, et, ed) same = λ n h.
    let x : Place = tuple_place d.stand in
    let s1 : SamePages t t1 = subst (λ (z : Table). SamePages t z) (sym et) (below_same t d x (stand_below (link_of t x node)) seat) in
    let stand : d2.stand ≡ stand_below (link_of t x node) = ap (λ (z : Descending Recon). z.stand) ed in
    ends_same m t t2 d2 n (same_trans t t1 t2 s1 same) (subst (λ (st : Stand). EndsAt m t d2 n st) (sym stand) (ends_below m t d d2 n node rest by_turn H i is h))

-- ---- a node is put in, or the tuple is split

inner_rank : {Key Recon Cond : Type 0} (m : Meaning Key Recon Cond) (t : Table) (d : Descending Recon) (n : ℕ) → Shape m (sheets_of t) → IsAtInner t d.stand → IsRanked (spots (sheets_of t)) (suc n) (spot_of (tuple_place d.stand)) → 3 ≤ n
inner_rank m t d n H i r =
    let u : Tuple = tuple_at t (tuple_place d.stand) in
    (ranked_branch (spots (sheets_of t)) n (spot_of (tuple_place d.stand)) (frame_in u) (links u) (inner_spot m t d.stand H i) r).0

-- what the class sees there is one of its tuples, and the insert carries a key
is_tuple_here : {Key Recon Cond : Type 0} (m : Meaning Key Recon Cond) (t : Table) (d : Descending Recon) → Shape m (sheets_of t) → IsAtInner t d.stand → Stands t d → in_nulls d ≡ false → is_tuple m (frame_in (tuple_at t (tuple_place d.stand))) ≡ true
is_tuple_here m t d H i at main = subst (λ (b : Bool). IsTupleOf m b (frame_in (tuple_at t (tuple_place d.stand)))) main (framed m t d H i at).kind

gives_key : {Key Recon Cond : Type 0} (m : Meaning Key Recon Cond) (t : Table) (d : Descending Recon) (recon : Recon) (key : Option Key) → d.recon ≡ Some recon → IsCarried m (sheets_of t) d key → (k : Key) × (m.rebuild recon d.rest ≡ Some k) × (key ≡ Some k)
gives_key {Key} {Recon} m t d recon key er C = key_given m recon d.rest key (subst (λ (r : Option Recon). key_of m r d.rest ≡ Some key) er C.rebuilt)

pub widen_ends : {Key Recon Cond : Type 0} (m : Meaning Key Recon Cond) → AddLaw m → (t t1 : Table) (d d2 : Descending Recon) (at : ℕ) (label : ℤ) → Shape m (sheets_of t) → ((key : Option Key) × IsCarried m (sheets_of t) d key) → Stands t d → IsAtInner t d.stand → in_nulls d ≡ false →
    IsAnswered m t d (Add at label) → IsNodeAdded m t t1 d d2 at label → TakesOne m t t1 d d2 outs.Restructured
widen_ends {Key} {Recon} m adds t t1 d d2 at label H (key, C) stands i main (recon, er, ea) added = λ n h. ⊎_elim
    (λ (e, quiet, makes, link, W). one n (λ z. z) (ap (λ (z : Descending Recon). z.recon) e) (ap (λ (z : Descending Recon). z.rest) e) W h)
    (λ (big, y, e, ticked, makes, parity, led, W). one n (moved (tuple_place d.stand) y) (ap (λ (z : Descending Recon). z.recon) e) (ap (λ (z : Descending Recon). z.rest) e) W h)
    added
  where
    near : (n : ℕ) → IsNearEnd m t d (suc n) → 2 ≤ n
    near n (j, inl (two, (other, left, was, nowhere, plain))) = let f : Match other left ≡ Add at label = one_answer m t d (Match other left) (Add at label) was (recon, er, ea) in cc
    near n (j, inr (three, q)) = omega arith

    two : (n : ℕ) → EndsWithin m t d (suc n) → 2 ≤ n
    two n h = ⊎_elim (λ r. let few = inner_rank m t d n H i r in omega arith) (λ q. near n q) (from_place m t d (suc n) d.stand i.0 h)

    one : (n : ℕ) (f : Place → Place) → d2.recon ≡ d.recon → d2.rest ≡ d.rest → Widens m t t1 d d2 at label f → EndsWithin m t d (suc n) → EndsWithin m t1 d2 n
    one n f recons rests W h =
        let w : Frame = frame_in (tuple_at t (tuple_place d.stand)) in
        let (k, ek, q) = gives_key m t d recon key er C in
        let L = adds recon w d.rest k (is_tuple_here m t d H i stands main) ek at label ea in
        let (rest, again) = L.then_matches in
        let answer : m.answer recon (frame_in (tuple_at t1 (tuple_place d2.stand))) d2.rest ≡ Match at rest = ap₂ (λ (v : Frame) (bs : List ℕ). m.answer recon v bs) W.frame rests ∙ again in
        let plain : (frame_in (tuple_at t1 (tuple_place d2.stand))).all_same ≡ false = ap (λ (v : Frame). v.all_same) W.frame ∙ L.not_same in
        to_place m t1 d2 n d2.stand W.inner.0 (inr (W.inner, inl (two n h, (at, rest, (recon, recons ∙ er, answer), W.nowhere, plain))))

pub split_ends : {Key Recon Cond : Type 0} (m : Meaning Key Recon Cond) → SplitLaw m → (t t2 : Table) (d d2 : Descending Recon) (up : List ℕ) (labels : List ℤ) (child : ℕ) (low : List ℕ) → Shape m (sheets_of t) → ((key : Option Key) × IsCarried m (sheets_of t) d key) → Stands t d →
    IsAtInner t d.stand → in_nulls d ≡ false → IsAnswered m t d (Split up labels child low) → PartsTuple m t t2 d d2 up labels child → TakesOne m t t2 d d2 outs.Restructured
split_ends {Key} {Recon} m splits t t2 d d2 up labels child low H (key, C) stands i main (recon, er, ea) P = λ n h.
    let w : Frame = frame_in (tuple_at t (tuple_place d.stand)) in
    let (k, ek, q) = gives_key m t d recon key er C in
    let L = splits recon w d.rest k (is_tuple_here m t d H i stands main) ek up labels child low ea in
    let recons : d2.recon ≡ d.recon = ap (λ (z : Descending Recon). z.recon) P.after in
    let rests : d2.rest ≡ d.rest = ap (λ (z : Descending Recon). z.rest) P.after in
    let answer : m.answer recon (frame_in (tuple_at t2 (tuple_place d2.stand))) d2.rest ≡ m.answer recon (upper up labels) d.rest = ap₂ (λ (v : Frame) (bs : List ℕ). m.answer recon v bs) P.frame rests in
    let goes : GoesOn child (m.answer recon (frame_in (tuple_at t2 (tuple_place d2.stand))) d2.rest) = subst (λ (c : Choice). GoesOn child c) (sym answer) L.goes_on in
    let plain : (frame_in (tuple_at t2 (tuple_place d2.stand))).all_same ≡ false = ap (λ (v : Frame). v.all_same) P.frame in
    to_place m t2 d2 n d2.stand P.inner.0 (inr (P.inner, inr (three n h, (recon, child, recons ∙ er, goes, P.others, plain))))
  where
    near : (n : ℕ) → IsNearEnd m t d n → ⊥
    near n (j, inl (two, (other, left, was, nowhere, plain))) = let f : Match other left ≡ Split up labels child low = one_answer m t d (Match other left) (Split up labels child low) was (recon, er, ea) in cc
    near n (j, inr (few, (r, other, es, goes, others, plain))) =
        let same : r ≡ recon = (let f : Some r ≡ Some recon = sym es ∙ er in cc) in
        let eq : m.answer r (frame_in (tuple_at t (tuple_place d.stand))) d.rest ≡ Split up labels child low = ap (λ (z : Recon). m.answer z (frame_in (tuple_at t (tuple_place d.stand))) d.rest) same ∙ ea in
        subst (λ (c : Choice). GoesOn other c) eq goes

    three : (n : ℕ) → EndsWithin m t d (suc n) → 3 ≤ n
    three n h = ⊎_elim (λ r. inner_rank m t d n H i r) (λ q. absurd (near (suc n) q)) (from_place m t d (suc n) d.stand i.0 h)

-- ---- leaves are divided without that of the insert

divided_ends : {Key Recon Cond : Type 0} (m : Meaning Key Recon Cond) (t t1 : Table) (d d2 : Descending Recon) (n : ℕ) → Shape m (sheets_of t) → Shape m (sheets_of t1) → IsAtLeaves (sheets_of t) (in_nulls d) d.stand → (IsAtInner t d.stand → ⊥) → IsAtInner t1 d2.stand →
    Shrinks m t t1 d d2 → EndsWithin m t d (suc n) → EndsWithin m t1 d2 n
divided_ends {Key} {Recon} m t t1 d d2 n H H1 leaves off inner shrinks h =
    let (here, (ls, b)) = leaves_spot m t (in_nulls d) d.stand H leaves in
    ⊎_elim (λ r. go ls b (ranked_leaves (spots (sheets_of t)) n (spot_of (tuple_place d.stand)) ls b r) shrinks) (λ q. absurd (off q.0)) (from_place m t d (suc n) d.stand here h)
  where
    go : (ls : List Leaf) → spots (sheets_of t) (spot_of (tuple_place d.stand)) ≡ Bucket ls → leaf_rank (length ls) ≤ suc n → Shrinks m t t1 d d2 → EndsWithin m t1 d2 n
    go ls b few (inl less) =
        let count : leaf_number t d.stand ≡ length ls = ap (λ (s : Spot). length (leaves_of s)) b in
        let fewer : LeadsToFewer t1 (tuple_place d2.stand) (length ls) = subst (λ (c : ℕ). LeadsToFewer t1 (tuple_place d2.stand) c) count less in
        let u : Tuple = tuple_at t1 (tuple_place d2.stand) in
        to_place m t1 d2 n d2.stand inner.0 (inl (fewer_ranked (spots (sheets_of t1)) n (length ls) (spot_of (tuple_place d2.stand)) (frame_in u) (links u) (inner_spot m t1 d2.stand H1 inner) few fewer))
    go ls b few (inr nowhere) = to_place m t1 d2 n d2.stand inner.0 (inr (inner, inl (omega arith, nowhere)))

pub root_ends : {Key Recon Cond : Type 0} (m : Meaning Key Recon Cond) (t t1 : Table) (d d2 : Descending Recon) → Shape m (sheets_of t) → IsAtLeaves (sheets_of t) (in_nulls d) d.stand → (IsAtInner t d.stand → ⊥) →
    IsSplitOut m t t1 d d2 LeftOut → TakesOne m t t1 d d2 outs.Restructured
root_ends {Key} {Recon} m t t1 d d2 H leaves off (calm, makes, ways) = λ n h. ⊎_elim (λ w. one n 0 w.1 h) (λ w. one n 1 w.1 h) ways
  where
    one : (n spread : ℕ) → PartsWithout m t t1 d d2 spread → EndsWithin m t d (suc n) → EndsWithin m t1 d2 n
    one n spread W h = divided_ends m t t1 d d2 n H W.leaves.section.shape leaves off W.inner W.shrinks h

-- at a chain
pub chain_leaves : (t : Table) (nulls : Bool) (st : Stand) (p : Option (Place × ℕ)) → IsChainBelow t nulls st p → IsAtLeaves (sheets_of t) nulls st
chain_leaves t nulls Start p a = absurd a
chain_leaves t nulls (Root b) p a = absurd a
chain_leaves t nulls (At x) None a = absurd a
chain_leaves t nulls (At x) (Some (q, i)) a = a.0
chain_leaves t nulls Empty p a = absurd a

pub chain_ends : {Key Recon Cond : Type 0} (m : Meaning Key Recon Cond) (t t1 : Table) (d d2 : Descending Recon) → Shape m (sheets_of t) → IsAtLeaves (sheets_of t) (in_nulls d) d.stand → (IsAtInner t d.stand → ⊥) →
    IsChainSplit m t t1 d d2 LeftOut → TakesOne m t t1 d d2 outs.Restructured
chain_ends {Key} {Recon} m t t1 d d2 H leaves off (z, makes, ways) = λ n h. ⊎_elim
    (λ (e, W). one n 0 (ap (λ (x : Descending Recon). x.stand) e) W h)
    (λ (e, W). one n 1 (ap (λ (x : Descending Recon). x.stand) e) W h)
    ways
  where
    one : (n spread : ℕ) → d2.stand ≡ At z → SplitsWithout m t t1 d d2 z spread → EndsWithin m t d (suc n) → EndsWithin m t1 d2 n
    one n spread stand W h = divided_ends m t t1 d d2 n H W.leaves.section.shape leaves off (subst (λ (st : Stand). IsAtInner t1 st) (sym stand) W.inner) W.shrinks h

-- ---- all sections of an insert

-- wherever an insert stands, so many sections come
pub ends_somewhere : {Key Recon Cond : Type 0} (m : Meaning Key Recon Cond) → EachIsRanked m → (t : Table) (d : Descending Recon) → Shape m (sheets_of t) → (k : ℕ) × (k ≤ most_sections (sheets_of t) + 1) × EndsWithin m t d k
ends_somewhere {Key} {Recon} m ranks t d H = go d.stand
  where
    go : (st : Stand) → (k : ℕ) × (k ≤ most_sections (sheets_of t) + 1) × EndsAt m t d k st
    go Start = (suc (most_sections (sheets_of t)), omega arith, (most_sections (sheets_of t), refl, ranks (sheets_of t) H (place (root_of (in_nulls d)) 0)))
    go (Root b) = (most_sections (sheets_of t), omega arith, inl (ranks (sheets_of t) H (place b 0)))
    go (At x) = (most_sections (sheets_of t), omega arith, inl (ranks (sheets_of t) H x))
    go Empty = (1, omega arith, omega arith)

-- one comes yet at least
pub none_left : {Key Recon Cond : Type 0} (m : Meaning Key Recon Cond) (t : Table) (d : Descending Recon) (st : Stand) → EndsAt m t d 0 st → ⊥
none_left {Key} {Recon} m t d st h = go st h
  where
    near : IsNearEnd m t d 0 → ⊥
    near (i, inl (two, q)) = omega arith
    near (i, inr (three, q)) = omega arith

    go : (st : Stand) → EndsAt m t d 0 st → ⊥
    go Start (k, e, r) = omega arith
    go (Root b) a = ⊎_elim (λ r. r) (λ q. near q) a
    go (At x) a = ⊎_elim (λ r. r) (λ q. near q) a
    go Empty a = omega arith
