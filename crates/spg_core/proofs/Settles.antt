-- A section once the latches of the insert are settled.
use Rattle.std.proofs.Common.{◌≡◌, ◌≤◌, ◌<◌, ℕ, true, false, cond, Option, Some, None, IfSome, length, refl, sym, ap, ◌∙◌, subst, arith}
use Rattle.spg_opclass.specs.Meaning.{Meaning}
use Rattle.spg_opclass.specs.Laws.{AddLaw, SplitLaw}
use Rattle.spg_forest.specs.Exact.{IsExact}
use Rattle.spg_forest.specs.Sheets.{Sheets}
use Rattle.spg_forest.specs.Shape.{Shape}
use Rattle.spg_tree.specs.Table.{Table, sheets_of, latch_at, with_latch}
use Rattle.spg_tree.specs.Descents.{Descending, in_nulls}
use Rattle.spg_descend.specs.Carried.{IsCarried}
use Rattle.spg_descend.specs.Follows.{IsAtInner, tuple_place, latched}
use Rattle.spg_descend.specs.Held.{StandsFree}
use Rattle.spg_descend.specs.Leaves.{released, stand_block, parent_block, is_held}
use Rattle.spg_seats.specs.Descending.{Stands, ChangesHeld}
use Rattle.spg_seats.specs.Latching.{InsertHolds}
use Rattle.spg_seats.proofs.Holding.{put_free, anew_holds, inner_block, changes_from}
use Rattle.spg_core.specs.declared.answer.InsertOut.{InsertOut}
use Rattle.spg_core.specs.declared.answer.InsertOut.TheVariants as outs
use Rattle.spg_core.specs.Stepping.{IsStepOut, MakesAtMostOne, SamePages}
use Rattle.spg_core.specs.Ends.{TakesOne}
use Rattle.spg_core.specs.Telling.{IsButLatches, Rewrites, StepTells, StepDone, Rewritten, Does}
use Rattle.spg_core.specs.Latches.{HoldsAfter, Settles}
use Rattle.spg_core.proofs.Stands.{here_there, above_there}
use Rattle.spg_core.proofs.Rewriting.{rewritten_latches, rewritten_parent, rewritten_inner, rewritten_makes, rewritten_out, rewritten_ends, rewritten_kept}
use Rattle.spg_core.proofs.Holding.{stands_open}

-- ---- tables that differ in their latches alone

pub but_trans : (t t1 t2 : Table) → IsButLatches t t1 → IsButLatches t1 t2 → IsButLatches t t2
but_trans t t1 t2 a b = b ∙ ap (λ (z : Table). record z { latches = t2.latches }) a

pub latched_but : (t : Table) (b : Option ℕ) (seat : ℕ) → IsButLatches t (latched t b seat)
latched_but t None seat = refl
latched_but t (Some b) seat = refl

pub released_but : (t : Table) (b : Option ℕ) (seat : ℕ) → IsButLatches t (released t b seat)
released_but t None seat = refl
released_but t (Some b) seat = elim (is_held (latch_at t b) seat) as (λ h. IsButLatches t (cond h (with_latch t b None) t)) [ true ↦ refl | false ↦ refl ]

pub freed_but : (t : Table) (a b : Option ℕ) (seat : ℕ) → IsButLatches t (released (released t a seat) b seat)
freed_but t a b seat = but_trans t (released t a seat) (released (released t a seat) b seat) (released_but t a seat) (released_but (released t a seat) b seat)

-- ---- the blocks of the latches

-- a block that is there is there among more
more_blocks : (o : Option ℕ) (n k : ℕ) → n ≤ k → IfSome o (λ b. b < n) → IfSome o (λ b. b < k)
more_blocks None n k le h = tt
more_blocks (Some b) n k le h = omega arith

-- the blocks of the latches that are taken and given free are there
pub record AreThere {Recon : Type 0} (t : Table) (d d2 : Descending Recon) : Type 0 where
  pub here : IfSome (stand_block d2.stand) (λ b. b < length t.pages)
  pub above : IfSome (parent_block d2.parent) (λ b. b < length t.pages)
  pub was : IfSome (stand_block d.stand) (λ b. b < length t.pages)

module _ {Key Recon Cond : Type 0} (m : Meaning Key Recon Cond) (t t1 : Table) (d d2 : Descending Recon) (H : Shape m (sheets_of t)) (at : Stands t d) where
  -- where the insert stands in the table
  goes_there : Shape m (sheets_of t1) → length t.pages ≤ length t1.pages → Stands t1 d2 → AreThere t1 d d2
  goes_there H1 le there = record {
    here = here_there m t1 (in_nulls d2) d2.stand d2.parent H1 there;
    above = above_there t1 (in_nulls d2) d2.stand d2.parent there;
    was = more_blocks (stand_block d.stand) (length t.pages) (length t1.pages) le (here_there m t (in_nulls d) d.stand d.parent H at);
  }

  same_there : SamePages t t1 → Stands t1 d2 → AreThere t1 d d2
  same_there same there =
      let pages : length t1.pages ≡ length t.pages = ap (λ (S : Sheets). length S.sheets) same.0 in
      goes_there (subst (λ (S : Sheets). Shape m S) (sym same.0) H) (omega arith) there

  -- where it stays as it was
  put_there : length t.pages ≤ length t1.pages → d2 ≡ d → AreThere t1 d d2
  put_there le e = subst (λ (x : Descending Recon). AreThere t1 d x) (sym e) (
      let here = more_blocks (stand_block d.stand) (length t.pages) (length t1.pages) le (here_there m t (in_nulls d) d.stand d.parent H at) in
      record { here = here; above = more_blocks (parent_block d.parent) (length t.pages) (length t1.pages) le (above_there t (in_nulls d) d.stand d.parent at); was = here })

  pub does_there : (seat : ℕ) (out : InsertOut) → ((key : Option Key) × IsCarried m (sheets_of t) d key) → Does m t t1 d d2 seat out → AreThere t1 d d2
  does_there seat outs.Descended K D = let (stood, same, (row, nulls, there, carries)) = D.ok in same_there same there
  does_there seat outs.Restructured K D =
      let kept = rewritten_kept m t t1 d d2 seat H K at outs.Restructured D.told in
      let (off, left, limit, grow, (row, nulls, there, carries)) = rewritten_out m t t1 d d2 seat H K at outs.Restructured D.told in
      goes_there kept.shape kept.pages there
  does_there seat (outs.Restarted block by) K D = let (held, other, start, same, (row, nulls, there, carries)) = D.ok in same_there same there
  does_there seat outs.Put K D = put_there (rewritten_kept m t t1 d d2 seat H K at outs.Put D.told).pages D.told.0

-- ---- and then the latches are settled

module _ {Key Recon Cond : Type 0} (m : Meaning Key Recon Cond) (t t1 t2 : Table) (d d2 : Descending Recon) (seat : ℕ) where
  out_but : (out : InsertOut) → Rewrites m t t1 d d2 seat out → IsButLatches t1 t2 → IsStepOut m t t1 d d2 seat out → IsStepOut m t t2 d d2 seat out
  out_but outs.Descended R e h = absurd R
  out_but (outs.Restarted block by) R e h = absurd R
  out_but outs.Restructured R e h = subst (λ (z : Table). IsStepOut m t z d d2 seat outs.Restructured) (sym e) h
  out_but outs.Put R e h = subst (λ (z : Table). IsStepOut m t z d d2 seat outs.Put) (sym e) h

  tells_but : (out : InsertOut) → Rewrites m t t1 d d2 seat out → IsExact (sheets_of t) (sheets_of t1) t1.touched → IsButLatches t1 t2 → StepTells m t t2 d d2 seat out
  tells_but outs.Descended R X e = absurd R
  tells_but (outs.Restarted block by) R X e = absurd R
  tells_but outs.Restructured R X e = (t1, e, R, subst (λ (z : Table). IsExact (sheets_of t) (sheets_of z) z.touched) (sym e) X)
  tells_but outs.Put R X e = (t1, e, R, subst (λ (z : Table). IsExact (sheets_of t) (sheets_of z) z.touched) (sym e) X)

  ends_but : (out : InsertOut) → Rewrites m t t1 d d2 seat out → IsButLatches t1 t2 → TakesOne m t t1 d d2 out → TakesOne m t t2 d d2 out
  ends_but outs.Descended R e h = absurd R
  ends_but (outs.Restarted block by) R e h = absurd R
  ends_but outs.Restructured R e h = subst (λ (z : Table). TakesOne m t z d d2 outs.Restructured) (sym e) h
  ends_but outs.Put R e h = λ n k. tt

  holds_then : (out : InsertOut) (was : Option ℕ) (rest : ℕ → Option ℕ) → Rewrites m t t1 d d2 seat out → length t1.latches ≡ length t1.pages → was ≡ stand_block d.stand → StandsFree t t1 d d2 seat → Settles t1 t2 d2 was seat out → InsertHolds t seat rest d → HoldsAfter t2 seat rest d2 out
  holds_then outs.Descended was rest R sound ew free settled h = absurd R
  holds_then (outs.Restarted block by) was rest R sound ew free settled h = absurd R
  holds_then outs.Restructured was rest R sound ew free settled h =
      let same : (b : ℕ) → latch_at t1 b ≡ latch_at t b = rewritten_latches m t t1 d d2 seat outs.Restructured R in
      let i : IsAtInner t1 d2.stand = rewritten_inner m t t1 d d2 seat R in
      let z : ℕ = (tuple_place d2.stand).block in
      let at : stand_block d2.stand ≡ Some z = inner_block t1 d2.stand i in
      anew_holds seat rest t t1 t2 d d2 z was (subst (λ (n : ℕ). z < n) (sym sound) i.1) (λ by e. stands_open t t1 seat rest d d2 z h free at by (sym (same z) ∙ e)) same ew at (rewritten_parent m t t1 d d2 seat outs.Restructured R) settled h
  holds_then outs.Put was rest R sound ew free settled h =
      put_free seat rest t t1 t2 d d2 (rewritten_latches m t t1 d d2 seat outs.Put R) (ap (λ (x : Descending Recon). x.stand) R.0) (ap (λ (x : Descending Recon). x.parent) R.0) settled h

  -- a section that changed pages
  rewritten_done : (out : InsertOut) (was : Option ℕ) → AddLaw m → SplitLaw m → Shape m (sheets_of t) → ((key : Option Key) × IsCarried m (sheets_of t) d key) → Stands t d → Rewritten m t t1 d d2 seat out →
      IsButLatches t1 t2 → Settles t1 t2 d2 was seat out → length t1.latches ≡ length t1.pages → was ≡ stand_block d.stand → StepDone m t t2 d d2 seat out
  rewritten_done out was adds splits H K at R but settled sound ew = record {
    ok = out_but out R.told but (rewritten_out m t t1 d d2 seat H K at out R.told);
    told = tells_but out R.told R.exact but;
    latches = λ rest h. holds_then out was rest R.told sound ew R.stood settled h;
    within = λ its. subst (λ (z : Table). ChangesHeld t z seat) (sym but) (changes_from t t1 d seat R.held (rewritten_kept m t t1 d d2 seat H K at out R.told).others its);
    ends = ends_but out R.told but (rewritten_ends m t t1 d d2 seat H K at adds splits out R.told);
    makes = subst (λ (z : Table). MakesAtMostOne t z) (sym but) (rewritten_makes m t t1 d d2 seat out R.told);
  }

  pub step_done : (out : InsertOut) (was : Option ℕ) → AddLaw m → SplitLaw m → Shape m (sheets_of t) → ((key : Option Key) × IsCarried m (sheets_of t) d key) → Stands t d → Does m t t1 d d2 seat out →
      IsButLatches t1 t2 → Settles t1 t2 d2 was seat out → length t1.latches ≡ length t1.pages → was ≡ stand_block d.stand → StepDone m t t2 d d2 seat out
  step_done outs.Descended was adds splits H K at D but settled sound ew = subst (λ (z : Table). StepDone m t z d d2 seat outs.Descended) (sym settled) D
  step_done outs.Restructured was adds splits H K at R but settled sound ew = rewritten_done outs.Restructured was adds splits H K at R but settled sound ew
  step_done (outs.Restarted block by) was adds splits H K at D but settled sound ew = subst (λ (z : Table). StepDone m t z d d2 seat (outs.Restarted block by)) (sym settled) D
  step_done outs.Put was adds splits H K at R but settled sound ew = rewritten_done outs.Put was adds splits H K at R but settled sound ew
