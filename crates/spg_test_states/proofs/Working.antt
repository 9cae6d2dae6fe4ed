-- What sections of a vacuum and a copy of a scan do to what their seat has open.
use Rattle.std.proofs.Common.{◌++◌, ◌≡◌, ◌≢◌, ◌<◌, ℕ, List, [], ◌∷◌, Option, Some, inl, inr, refl, sym, ap, ◌∙◌, subst, ⊎_elim, arith}
use Rattle.std.specs.Prelude.{None, nat_lt, length, slice_get}
use Rattle.spg_base.specs.Row.{RowAt}
use Rattle.spg_opclass.specs.Meaning.{Meaning}
use Rattle.spg_opclass.specs.Copies.{InnerAt}
use Rattle.spg_opclass.specs.declared.query.Query.{Query}
use Rattle.spg_opclass.specs.declared.copied.Copied.{Copied}
use Rattle.spg_opclass.specs.declared.copied.Copied.TheVariants.{Inner}
use Rattle.spg_forest.specs.View.{Place}
use Rattle.spg_forest.specs.Spot.{Frame}
use Rattle.spg_cover.specs.Vacuum.{listed}
use Rattle.spg_tree.specs.Table.{sheet_at}
use Rattle.spg_scan.specs.Scanning.{Scanning}
use Rattle.spg_scan.specs.Items.{Item, held, inner, leaves, IsItem}
use Rattle.spg_scan.specs.Copying.{kept_copy}
use Rattle.spg_scan.specs.declared.scan_copy.ScanCopy.{ScanCopy}
use Rattle.spg_scan.specs.declared.scan_copy.ScanCopy.TheVariants.{Sift}
use Rattle.spg_vacuum.specs.declared.vacuum.Vacuum.{Vacuum}
use Rattle.spg_vacuum.specs.declared.done.Work.TheVariants as works
use Rattle.spg_vacuum.specs.Vacuums.{work_of, after_place}
use Rattle.spg_vacuum.specs.Handled.{found_from}
use Rattle.spg_vacuum.specs.Listing.{first_done, first_place}
use Rattle.spg_vacuum.proofs.Keeping.{place_next}
use Rattle.spg_seats.specs.Slots.{horizon_of}
use Rattle.spg_core.specs.declared.answer.VacuumOut.{VacuumOut}
use Rattle.spg_core.specs.declared.answer.VacuumOut.TheVariants as does
use Rattle.spg_core.specs.Stage.{Stage, free, descending, reading, sweeping}
use Rattle.spg_core.specs.Seen.{Seen, stage_at}
use Rattle.spg_core.specs.Calls.{WorksOn}
use Rattle.spg_core.specs.Looking.{CopiesItem, CopiesFor}
use Rattle.spg_core.proofs.Works.{latched_stays}
use Rattle.spg_test_states.specs.States.{next_of, IsLatchedAt, HasMore, HasDone, HasCopy}

-- ---- a vacuum

done_first : (done todo : List Place) → (first_done done todo).todo ≢ [] → (place : Place) × (places : List Place) × ((first_done done todo).done ≡ place ∷ places)
done_first done [] more = absurd (more refl)
done_first done (p ∷ []) more = absurd (more refl)
done_first [] (p ∷ q ∷ ps) more = (p, [], refl)
done_first (d ∷ ds) (p ∷ q ∷ ps) more = (d, ds ++ p ∷ [], refl)

-- the vacuum handled the place p
place_done : {O Key Recon Cond : Type 0} (old new : Seen O Key Recon Cond) (seat : ℕ) (v v2 : Vacuum) (found : List Place) (rows : List RowAt) → stage_at old seat ≡ sweeping v → stage_at new seat ≡ sweeping v2 → v2 ≡ after_place v found rows →
    (next_of (stage_at new seat) ≡ next_of (stage_at old seat)) × (HasMore (stage_at new seat) → HasDone (stage_at new seat))
place_done {O} {Key} {Recon} {Cond} old new seat v v2 found rows at after ev =
    let e : stage_at new seat ≡ sweeping (after_place v found rows) = after ∙ ap sweeping ev in (
      ap next_of e ∙ sym (ap next_of at),
      subst (λ (x : Stage O Key Recon Cond). HasMore x → HasDone x) (sym e) (λ more. done_first v.pending.done (listed v.pending.done v.pending.todo found) more),
    )

pub place_next_done : {O Key Recon Cond : Type 0} (m : Meaning Key Recon Cond) (old new : Seen O Key Recon Cond) (seat : ℕ) (out : VacuumOut) → out ≡ does.Pending → WorksOn m old new seat out →
    (next_of (stage_at new seat) ≡ next_of (stage_at old seat)) × (HasMore (stage_at new seat) → HasDone (stage_at new seat))
place_next_done {O} {Key} {Recon} {Cond} m old new seat out pending on =
    let (swept, call) = subst (λ (o : VacuumOut). WorksOn m old new seat o) pending on in
    let (v, v2, test, at, targets, work, keeps, after, short) = call in
    let (p, ps, todo) = place_next v.pending.todo (nat_lt v.next (length old.table.pages)) work.0 in
    let (unheld, handles, ev) = work.1 p (ap first_place todo) in
    place_done old new seat v v2 (found_from (sheet_at old.table p.block).inner v.stamp old.table p) swept at after.1 ev

-- the vacuum came to a block that another seat has latched
module _ {O Key Recon Cond : Type 0} (m : Meaning Key Recon Cond) (old new : Seen O Key Recon Cond) (seat : ℕ) where
  still_at : (block by : ℕ) → WorksOn m old new seat (does.Latched block by) → stage_at new seat ≡ stage_at old seat
  still_at block by (swept, call) =
      let (v, v2, test, at, targets, work, keeps, after, short) = call in
      after.1 ∙ ap sweeping (latched_stays old.table new.table v v2 test (horizon_of old.stages v.stamp) seat block by work.1).1 ∙ sym at

  more_at : (block by : ℕ) → WorksOn m old new seat (does.Latched block by) → block < next_of (stage_at old seat) → HasMore (stage_at old seat)
  more_at block by (swept, call) low =
      let (v, v2, test, at, targets, work, keeps, after, short) = call in
      subst (λ (x : Stage O Key Recon Cond). HasMore x) (sym at) (⊎_elim (λ (b, busy). absurd (past v at busy.at)) (λ (p, first). more v p) work.1)
    where
      past : (v : Vacuum) → stage_at old seat ≡ sweeping v → block ≡ v.next → ⊥
      past v at e = let c : next_of (stage_at old seat) ≡ v.next = ap next_of at in omega (arith, low, e, c)

      more : (v : Vacuum) → work_of v old.table ≡ works.Pending → v.pending.todo ≢ []
      more v p e = let (q, qs, todo) = place_next v.pending.todo (nat_lt v.next (length old.table.pages)) p in let h : [] ≡ q ∷ qs = sym e ∙ todo in cc

  pub waits_still : (out : VacuumOut) (b : ℕ) → WorksOn m old new seat out → IsLatchedAt out b → stage_at new seat ≡ stage_at old seat
  waits_still does.Block b on at = absurd at
  waits_still does.Pending b on at = absurd at
  waits_still (does.Latched block by) b on at = still_at block by on
  waits_still (does.Finished swept) b on at = absurd at

  pub waits_more : (out : VacuumOut) (b : ℕ) → WorksOn m old new seat out → IsLatchedAt out b → b < next_of (stage_at old seat) → HasMore (stage_at old seat)
  waits_more does.Block b on at low = absurd at
  waits_more does.Pending b on at low = absurd at
  waits_more (does.Latched block by) b on at low = more_at block by on (subst (λ (n : ℕ). n < next_of (stage_at old seat)) (sym at) low)
  waits_more (does.Finished swept) b on at low = absurd at

-- a vacuum that has come to a block which it has seen has a place to do, and one that is done
pub still_done : {O Key Recon Cond : Type 0} (x y z : Stage O Key Recon Cond) → next_of x ≡ 4 → (HasMore x → HasDone x) → y ≡ x → (3 < next_of y → HasMore y) → z ≡ y → HasDone z
still_done {O} {Key} {Recon} {Cond} x y z next done e more f =
    let low : 3 < next_of y = let h = ap next_of e in omega (arith, next, h) in
    subst (λ (s : Stage O Key Recon Cond). HasDone s) (sym (f ∙ e)) (done (subst (λ (s : Stage O Key Recon Cond). HasMore s) e (more low)))

-- ---- a scan

-- an item with a copy of an inner tuple is one
is_inner : {O Key Recon Cond : Type 0} (query : Query O Key Recon Cond) (item : Item Recon) (x : InnerAt Recon) (conds : List Cond) → kept_copy query item ≡ Some (Inner x conds) →
    (recon : Option Recon) × (tuple : Frame) × (links : List (Option Place)) × (item ≡ inner recon tuple links)
is_inner query (held y r) x conds e = absurd (cc)
is_inner query (inner None w ns) x conds e = absurd (cc)
is_inner query (inner (Some r) w ns) x conds e = (Some r, w, ns, refl)
is_inner query (leaves None ls) x conds e = absurd (cc)
is_inner query (leaves (Some r) ls) x conds e = absurd (cc)

pub copied_inner : {O Key Recon Cond : Type 0} (m : Meaning Key Recon Cond) (old new : Seen O Key Recon Cond) (seat : ℕ) (out : ScanCopy O Key Recon Cond) (copied : Copied O Key Recon Cond) (x : InnerAt Recon) (conds : List Cond) →
    CopiesItem m old new seat 0 out → out ≡ Sift copied → copied ≡ Inner x conds → HasCopy (stage_at new seat)
copied_inner {O} {Key} {Recon} {Cond} m old new seat out copied x conds is sift tuple = at_stage (stage_at old seat) (subst (λ (o : ScanCopy O Key Recon Cond). CopiesItem m old new seat 0 o) (sift ∙ ap Sift tuple) is)
  where
    has : (s2 : Scanning O Key Recon Cond) (item : Item Recon) → IsItem s2.items 0 item → (query : Query O Key Recon Cond) → kept_copy query item ≡ Some (Inner x conds) → stage_at new seat ≡ reading s2 → HasCopy (stage_at new seat)
    has s2 item there query kept after =
        let (recon, tuple, links, e) = is_inner query item x conds kept in
        subst (λ (z : Stage O Key Recon Cond). HasCopy z) (sym after) (0, recon, tuple, links, there ∙ ap Some e)

    at_stage : (z : Stage O Key Recon Cond) → CopiesFor m old new seat 0 (Sift (Inner x conds)) z → HasCopy (stage_at new seat)
    at_stage free h = absurd h
    at_stage (descending key d) h = absurd h
    at_stage (reading s) (s2, table, tells, inl ((item, there, kept), same), e, after) = has s2 item (ap (λ (z : Scanning O Key Recon Cond). slice_get z.items 0) same ∙ there) s.query kept after
    at_stage (reading s) (s2, table, tells, inr (unheld, C), e, after) = has s2 C.item (ap (λ (z : Scanning O Key Recon Cond). slice_get z.items 0) C.after) s.query C.kept after
    at_stage (sweeping v) h = absurd h
