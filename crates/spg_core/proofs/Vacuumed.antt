-- What a section of the vacuum in a seat's slot leaves of a state.
use Rattle.std.proofs.Common.{◌≡◌, ◌⊎◌, ◌<◌, ◌≤◌, ◌+◌, ◌^◌, ◌||◌, ◌∷◌, ◌++◌, [], inl, inr, ⊎_elim, ℕ, Bool, true, false, List, length, get_or, set, map, Option, Some, None, Vec, Contains, refl, sym, ap, ◌∙◌, subst, arith, length-set, get_or-set_other}
use Rattle.std.specs.declared.alloc.Global.{Global}
use Rattle.std.proofs.lemmas.Bool.{false≢true, cases_eq}
use Rattle.std.proofs.lemmas.List.{length-reverse, append-nil}
use Rattle.std.specs.BTreeSet.{contains}
use Rattle.spg_base.specs.Row.{RowAt, row_cmp}
use Rattle.spg_base.specs.declared.row_set.RowSet.{RowSet}
use Rattle.spg_opclass.specs.Meaning.{Meaning}
use Rattle.spg_forest.specs.View.{Place}
use Rattle.spg_forest.specs.Sheets.{with_tuples, blank}
use Rattle.spg_forest.specs.Shape.{Shape}
use Rattle.spg_forest.specs.Steps.{HasRow}
use Rattle.spg_cover.specs.Swept.{NoneTwice}
use Rattle.spg_cover.proofs.SweptRows.{swept_rows}
use Rattle.spg_rows.specs.declared.event.Event.{Event}
use Rattle.spg_rows.specs.declared.event.Event.TheVariants.{CloseVacuum}
use Rattle.spg_rows.specs.declared.table.RowState.{RowState}
use Rattle.spg_rows.specs.declared.table.RowState.TheVariants as row_state
use Rattle.spg_rows.specs.Count.{IsOnce}
use Rattle.spg_rows.specs.History.{Written}
use Rattle.spg_rows.specs.Rows.{state_of}
use Rattle.spg_rows.specs.Targets.{is_killed, killed_before}
use Rattle.spg_rows.specs.Table.{Table, IsKilledIn, SameKeys}
use Rattle.spg_rows.specs.Vacuums.{newest_ends}
use Rattle.spg_tree.specs.Table as pages
use Rattle.spg_tree.specs.Table.{sheets_of, sheet_at, latch_at, tuples_at, with_touched}
use Rattle.spg_vacuum.specs.declared.vacuum.Vacuum.{Vacuum}
use Rattle.spg_vacuum.specs.Latch.{IsFree}
use Rattle.spg_vacuum.specs.Handled.{HandlesBlock, HandlesPlace}
use Rattle.spg_vacuum.specs.Vacuums.{LeavesNone}
use Rattle.spg_seats.specs.Descending.{ChangesHeld}
use Rattle.spg_seats.specs.Latching.{AreHeld, rest_of}
use Rattle.spg_seats.specs.Opening.{sweeps}
use Rattle.spg_seats.specs.Slots.{Stage, free, sweeping, stage_in, StageFits, stage_holds, horizon_of, is_open, open_count}
use Rattle.spg_seats.proofs.SweptRows.{contains_has}
use Rattle.spg_seats.proofs.VacuumCalls as vacuum_calls
use Rattle.spg_core.specs.declared.answer.VacuumOut.{VacuumOut}
use Rattle.spg_core.specs.declared.answer.VacuumOut.TheVariants as outs
use Rattle.spg_core.specs.declared.slot.Slot.{Slot}
use Rattle.spg_core.specs.declared.slot.Slot.TheVariants as slot
use Rattle.spg_core.specs.declared.kept.Kept.TheInside.{Inside}
use Rattle.spg_core.specs.declared.sweeping.Stepped.{Stepped}
use Rattle.spg_core.specs.Stage.{IsSweeping}
use Rattle.spg_core.specs.Slot.{stage_of}
use Rattle.spg_core.specs.Seen.{Seen, stage_at}
use Rattle.spg_core.specs.Kept.{fields_of, seen_of, IsState}
use Rattle.spg_core.specs.Sections.{OthersHold, StepsFor, IsAfterWork, AreTargets}
use Rattle.spg_core.specs.Stepping.{Grows}
use Rattle.spg_core.specs.Sweeping.{DoesWork, KeepsWork, CanSweep, SweepsFrom, SetsSwept, LeaveSet}
use Rattle.spg_core.proofs.Slots.{seen_as, set_twice, stages_set, stage_set, stage_get, logged_is, logged_all_is, moved_is, open_count-all, stages_count}
use Rattle.spg_core.proofs.Steps.{with_all, with_fields, same_rows, held_on, past, stages, seats, fits, held, low}
use Rattle.spg_core.proofs.Works.{Stays, next_place, block_stays, pending_stays, latched_stays}

-- ---- the rows of a section

once_of : (rows : List RowAt) → NoneTwice rows → IsOnce rows
once_of [] n = tt
once_of (r ∷ rows) n = (λ h. n.0 (contains_has rows r h), once_of rows n.1)

killed_is : (state : RowState) → is_killed state ≡ true → (at : ℕ) × (state ≡ row_state.Killed at)
killed_is row_state.Free h = absurd (false≢true h)
killed_is row_state.Claimed h = absurd (false≢true h)
killed_is row_state.Live h = absurd (false≢true h)
killed_is (row_state.Killed at) h = (at, refl)
killed_is (row_state.Swept vacuum) h = absurd (false≢true h)

or_left : (a b c : Bool) → (a || b) ≡ c → a ≡ true → c ≡ true
or_left true b c h e = sym h
or_left false b c h e = absurd (false≢true e)

abbrev AreSwept : (RowAt → Bool) → List RowAt → Type 0
AreSwept test rows = ((r : RowAt) → HasRow rows r → test r ≡ true) × NoneTwice rows

module _ {Key Recon Cond : Type 0} (m : Meaning Key Recon Cond) (t t2 : pages.Table) (test : RowAt → Bool) (horizon : ℕ) (H : Shape m (sheets_of t)) where
  none_swept : (rows : List RowAt) → rows ≡ [] → AreSwept test rows
  none_swept rows e = subst (AreSwept test) (sym e) (λ r h. absurd h, tt)

  block_swept : (b : ℕ) (rows : List RowAt) → HandlesBlock t t2 b test horizon rows → AreSwept test rows
  block_swept b rows D =
      let R = swept_rows m (sheets_of t) b test H in
      subst (AreSwept test) (sym D.swept) (λ r h. (R.0 r h).0, R.1)

  place_swept : (inner : Bool) (p : Place) (rows : List RowAt) → HandlesPlace inner t t2 p test horizon rows → AreSwept test rows
  place_swept false p rows D = block_swept p.block rows D
  place_swept true p rows D = none_swept rows D.0

  pub work_swept : (v v2 : Vacuum) (seat : ℕ) (out : VacuumOut) (rows : List RowAt) → DoesWork t t2 v v2 test horizon seat out rows → AreSwept test rows
  work_swept v v2 seat outs.Block rows D = block_swept v.next rows D.1.1
  work_swept v v2 seat outs.Pending rows D =
      let (p, is) = next_place v t D.0 in
      place_swept (sheet_at t p.block).inner p rows (D.1 p is).1
  work_swept v v2 seat (outs.Latched block by) rows D = none_swept rows D.0
  work_swept v v2 seat (outs.Finished count) rows D = none_swept rows D.0

-- ---- the blocks that a section changes

module _ (t t2 : pages.Table) (test : RowAt → Bool) (horizon seat : ℕ) where
  one_held : (b : ℕ) (l : Option ℕ) → latch_at t b ≡ l → IsFree t b seat → (latch_at t b ≡ None) ⊎ (latch_at t b ≡ Some seat)
  one_held b None e is = inl e
  one_held b (Some by) e is = inr (e ∙ ap (λ n. Some n) (is by e))

  block_within : (b : ℕ) (rows : List RowAt) → IsFree t b seat → HandlesBlock t t2 b test horizon rows → ChangesHeld t t2 seat
  block_within b rows is D c = ⊎_elim
      (λ e. inr (subst (λ k. (latch_at t k ≡ None) ⊎ (latch_at t k ≡ Some seat)) (sym e) (one_held b (latch_at t b) refl is)))
      (λ n. inl (ap (λ (u : pages.Table). sheet_at u c) D.table ∙ get_or-set_other t.pages b c (with_tuples (sheet_at t b) (tuples_at t2 b)) (blank false) n))
      (cases_eq c b)

  same_within : t2 ≡ with_touched t [] → ChangesHeld t t2 seat
  same_within e b = inl (ap (λ (u : pages.Table). sheet_at u b) e)

  place_within : (inner : Bool) (p : Place) (rows : List RowAt) → IsFree t p.block seat → HandlesPlace inner t t2 p test horizon rows → ChangesHeld t t2 seat
  place_within false p rows is D = block_within p.block rows is D
  place_within true p rows is D = same_within D.1

  block_grows : (b : ℕ) (rows : List RowAt) → HandlesBlock t t2 b test horizon rows → Grows t t2
  block_grows b rows D = subst (λ (u : pages.Table). Grows t u) (sym D.table) (refl, (let e = length-set t.pages b (with_tuples (sheet_at t b) (tuples_at t2 b)) in omega arith), omega arith)

  same_grows : t2 ≡ with_touched t [] → Grows t t2
  same_grows e = subst (λ (u : pages.Table). Grows t u) (sym e) (refl, omega arith, omega arith)

  place_grows : (inner : Bool) (p : Place) (rows : List RowAt) → HandlesPlace inner t t2 p test horizon rows → Grows t t2
  place_grows false p rows D = block_grows p.block rows D
  place_grows true p rows D = same_grows D.1

  -- a section changes blocks that its seat or nobody has latched, and neither loses pages nor latches
  pub work_leaves : (v v2 : Vacuum) (out : VacuumOut) (rows : List RowAt) → DoesWork t t2 v v2 test horizon seat out rows → Stays t t2 × ChangesHeld t t2 seat × Grows t t2
  work_leaves v v2 outs.Block rows D = (block_stays t t2 v v2 test horizon seat rows D.1, block_within v.next rows D.1.0 D.1.1, block_grows v.next rows D.1.1)
  work_leaves v v2 outs.Pending rows D =
      let (p, is) = next_place v t D.0 in
      let P = D.1 p is in
      (pending_stays t t2 v v2 test horizon seat rows D.0 D.1, place_within (sheet_at t p.block).inner p rows P.0 P.1, place_grows (sheet_at t p.block).inner p rows P.1)
  work_leaves v v2 (outs.Latched block by) rows D =
      let e = (latched_stays t t2 v v2 test horizon seat block by D.1).0 in
      ((ap (λ (u : pages.Table). u.latches) e, ap (λ (u : pages.Table). u.limit) e), same_within e, same_grows e)
  work_leaves v v2 (outs.Finished count) rows D =
      let e : t2 ≡ with_touched t [] = D.3 in
      ((ap (λ (u : pages.Table). u.latches) e, ap (λ (u : pages.Table). u.limit) e), same_within e, same_grows e)

module _ {O Key Recon Cond : Type 0} (m : Meaning Key Recon Cond) (s : Inside O Key Recon Cond) (I : IsState m s) (seat : ℕ) where
  abbrev slot_now : Slot O Key Recon Cond
  slot_now = get_or s.slots.items seat slot.Free

  abbrev test : RowAt → Bool
  test = contains row_cmp s.targets.rows

  abbrev Sweeps : pages.Table → List (Slot O Key Recon Cond) → Stepped → Slot O Key Recon Cond → Type 0
  Sweeps t2 new stepped x = SweepsFrom m s.table t2 s.slots.items new test seat stepped x

  -- the vacuum of the slot may do a section
  pub can_sweep : (x : Slot O Key Recon Cond) → slot_now ≡ x → IsSweeping (stage_of x) → CanSweep m s.table test x
  can_sweep slot.Free here is = absurd is
  can_sweep (slot.Insert key d) here is = absurd is
  can_sweep (slot.Scan q) here is = absurd is
  can_sweep (slot.Vacuum v) here is = vacuum_calls.vacuum_covers m (fields_of s) seat v I (stage_get s.slots.items seat ∙ ap stage_of here)

  pub sweeps_length : (x : Slot O Key Recon Cond) (t2 : pages.Table) (new : List (Slot O Key Recon Cond)) (stepped : Stepped) → Sweeps t2 new stepped x → length new ≡ 64
  sweeps_length slot.Free t2 new stepped h = absurd h
  sweeps_length (slot.Insert key d) t2 new stepped h = absurd h
  sweeps_length (slot.Scan q) t2 new stepped h = absurd h
  sweeps_length (slot.Vacuum v) t2 new stepped (v2, items, at, D, K) = ap (λ l. length l) items ∙ length-set s.slots.items seat (slot.Vacuum v2) ∙ seats m s I

  -- its rows are killed, each once
  pub swept_killed : (x : Slot O Key Recon Cond) (t2 : pages.Table) (new : List (Slot O Key Recon Cond)) (stepped : Stepped) → Sweeps t2 new stepped x → IsOnce stepped.rows × ((row : RowAt) → Contains stepped.rows row → IsKilledIn s.rows row)
  swept_killed slot.Free t2 new stepped h = absurd h
  swept_killed (slot.Insert key d) t2 new stepped h = absurd h
  swept_killed (slot.Scan q) t2 new stepped h = absurd h
  swept_killed (slot.Vacuum v) t2 new stepped (v2, items, at, D, K) =
      let A = work_swept m s.table t2 test (horizon_of (stages m s I) v.stamp) I.tells.holds.shape v v2 seat stepped.out stepped.rows D in (
        once_of stepped.rows A.1,
        λ row h.
            let k : is_killed (state_of row (past m s I)) ≡ true = or_left (test row) (contains row_cmp s.later.rows row) (is_killed (state_of row (past m s I))) (I.tells.kills.killed row) (A.0 row (contains_has stepped.rows row h)) in
            let (n, is) = killed_is (state_of row (past m s I)) k in
            (n, I.tells.states row ∙ is),
      )

  -- the blocks that it changes, and the latches
  others_hold : (t2 : pages.Table) → t2.latches ≡ s.table.latches → OthersHold s.table t2 seat
  others_hold t2 e other b apart =
      let same : latch_at t2 b ≡ latch_at s.table b = ap (λ (l : List (Option ℕ)). latch_at (record s.table { latches = l }) b) e in
      (λ h. sym same ∙ h, λ h. same ∙ h)

  pub section_leaves : (seen : Seen O Key Recon Cond) → seen_of s ≡ seen → (x : Slot O Key Recon Cond) (t2 : pages.Table) (new : List (Slot O Key Recon Cond)) (stepped : Stepped) → Sweeps t2 new stepped x → OthersHold seen.table t2 seat × ChangesHeld seen.table t2 seat × Grows seen.table t2
  section_leaves seen view slot.Free t2 new stepped h = absurd h
  section_leaves seen view (slot.Insert key d) t2 new stepped h = absurd h
  section_leaves seen view (slot.Scan q) t2 new stepped h = absurd h
  section_leaves seen view (slot.Vacuum v) t2 new stepped (v2, items, at, D, K) =
      let (stays, within, grows) = work_leaves s.table t2 test (horizon_of (stages m s I) v.stamp) seat v v2 stepped.out stepped.rows D in
      subst (λ (w : Seen O Key Recon Cond). OthersHold w.table t2 seat × ChangesHeld w.table t2 seat × Grows w.table t2) view (others_hold t2 stays.0, within, grows)

  module _ (v : Vacuum) (here : slot_now ≡ slot.Vacuum v) where
    was : stage_in (stages m s I) seat ≡ sweeping v
    was = stage_get s.slots.items seat ∙ ap stage_of here

    inside : seat < 64
    inside = low m s I seat (ap (λ (x : Slot O Key Recon Cond). is_open (stage_of x)) here)

    has : StageFits m s.table (past m s I) seat (sweeping v)
    has = subst (λ (x : Slot O Key Recon Cond). StageFits m s.table (past m s I) seat (stage_of x)) here (fits m s I seat)

    -- it has nothing latched
    none : (t2 : pages.Table) → t2.latches ≡ s.table.latches → AreHeld t2 seat (rest_of s.table seat) (λ b. false)
    none t2 e = held_on s.table t2 seat (rest_of s.table seat) (λ b. false) (λ b. ap (λ (l : List (Option ℕ)). latch_at (record s.table { latches = l }) b) e)
        (subst (λ (x : Slot O Key Recon Cond). AreHeld s.table seat (rest_of s.table seat) (stage_holds (stage_of x))) here (held m s I seat))

    -- the targets, as the journal tells
    pub targets_told : AreTargets test v.at (seen_of s)
    targets_told row =
        let (before, opens, V) = has in
        I.tells.kills.early seat before opens row ∙ ap (λ n. killed_before n (state_of row (past m s I))) (sym V.at)

  -- ---- it is at its end

  pub kept_finished : (x : Slot O Key Recon Cond) → slot_now ≡ x → (t2 : pages.Table) (between slots : Vec (Slot O Key Recon Cond) Global) (journal : Written O Key Recon Cond) (vacuums : List (ℕ × Option ℕ)) (stepped : Stepped) (count : ℕ) → stepped.out ≡ outs.Finished count → Sweeps t2 between.items stepped x →
      slots.items ≡ set between.items seat slot.Free → journal.events ≡ s.journal.events ++ CloseVacuum seat count ∷ [] → vacuums ≡ newest_ends (length s.journal.events) s.vacuums → open_count (map stage_of slots.items) ≤ journal.spare → IsState m (with_all m s t2 s.rows slots journal vacuums s.targets s.later)
  kept_finished slot.Free here t2 between slots journal vacuums stepped count out h items events ends room = absurd h
  kept_finished (slot.Insert key d) here t2 between slots journal vacuums stepped count out h items events ends room = absurd h
  kept_finished (slot.Scan q) here t2 between slots journal vacuums stepped count out h items events ends room = absurd h
  kept_finished (slot.Vacuum v) here t2 between slots journal vacuums stepped count out (v2, made, at, D, K) items events ends room =
      let horizon : ℕ = horizon_of (stages m s I) v.stamp in
      let (rows, next, swept, table, same) = subst (λ (o : VacuumOut). DoesWork s.table t2 v v2 test horizon seat o stepped.rows) out D in
      let left : LeavesNone m s.table v = subst (λ (o : VacuumOut). KeepsWork m s.table t2 v v2 test horizon o stepped.rows) out K in
      let all : slots.items ≡ set s.slots.items seat slot.Free = set_twice s.slots.items between.items slots.items seat (slot.Vacuum v2) slot.Free made items in
      vacuum_calls.kept_closes_vacuum
      m
      (fields_of s)
      (fields_of (with_all m s t2 s.rows slots journal vacuums s.targets s.later))
      seat
      free
      I
      (stages_set slots.items s.slots.items seat slot.Free all)
      (stage_set slots.items s.slots.items seat slot.Free all (seats m s I) (inside v here))
      (none v here t2 (ap (λ (u : pages.Table). u.latches) table))
      room
      (ap (λ (u : pages.Table). u.limit) table)
      refl
      v
      (ap sheets_of table)
      refl
      (was v here)
      left
      (events ∙ ap (λ n. s.journal.events ++ CloseVacuum seat n ∷ []) swept)
      (record { rows = refl; targets = λ r. refl; later = λ r. refl; vacuums = ends ∙ ap (λ n. newest_ends n s.vacuums) (sym (length-reverse s.journal.events)) })

  -- ---- another seat has latched the block

  pub kept_latched : (x : Slot O Key Recon Cond) → slot_now ≡ x → (t2 : pages.Table) (slots : Vec (Slot O Key Recon Cond) Global) (journal : Written O Key Recon Cond) (stepped : Stepped) (block by : ℕ) → stepped.out ≡ outs.Latched block by → Sweeps t2 slots.items stepped x →
      journal.events ≡ s.journal.events → open_count (map stage_of slots.items) ≤ journal.spare → IsState m (with_fields m s t2 s.rows slots journal)
  kept_latched slot.Free here t2 slots journal stepped block by out h events room = absurd h
  kept_latched (slot.Insert key d) here t2 slots journal stepped block by out h events room = absurd h
  kept_latched (slot.Scan q) here t2 slots journal stepped block by out h events room = absurd h
  kept_latched (slot.Vacuum v) here t2 slots journal stepped block by out (v2, items, at, D, K) events room =
      let horizon : ℕ = horizon_of (stages m s I) v.stamp in
      let (rows, busy) = subst (λ (o : VacuumOut). DoesWork s.table t2 v v2 test horizon seat o stepped.rows) out D in
      let (table, same) = latched_stays s.table t2 v v2 test horizon seat block by busy in
      vacuum_calls.kept_rests
      m
      (fields_of s)
      (fields_of (with_fields m s t2 s.rows slots journal))
      seat
      (sweeping v2)
      I
      (stages_set slots.items s.slots.items seat (slot.Vacuum v2) items)
      (stage_set slots.items s.slots.items seat (slot.Vacuum v2) items (seats m s I) (inside v here))
      (none v here t2 (ap (λ (u : pages.Table). u.latches) table))
      room
      (ap (λ (u : pages.Table). u.limit) table)
      refl
      v
      (ap sheets_of table)
      (ap sweeping same)
      (was v here)
      events
      (same_rows m s t2 slots journal)

  -- ---- rows are swept

  module _ (t2 : pages.Table) (rows : Table O Key Recon Cond) (slots : Vec (Slot O Key Recon Cond) Global) (journal : Written O Key Recon Cond) (targets : RowSet) (stepped : Stepped) (events : journal.events ≡ s.journal.events ++ sweeps seat stepped.rows) (short : length journal.events < 2 ^ 64) (states : SetsSwept s.rows rows stepped.opened stepped.rows) (keys : SameKeys s.rows rows)
      (gone : LeaveSet test (contains row_cmp targets.rows) stepped.rows) (room : open_count (map stage_of slots.items) ≤ journal.spare) where
    abbrev after : Inside O Key Recon Cond
    after = with_all m s t2 rows slots journal s.vacuums targets s.later

    on : (v v2 : Vacuum) → slot_now ≡ slot.Vacuum v → slots.items ≡ set s.slots.items seat (slot.Vacuum v2) → stepped.opened ≡ v.at → (out : VacuumOut) → ((block by : ℕ) → out ≡ outs.Latched block by → ⊥) → ((count : ℕ) → out ≡ outs.Finished count → ⊥) → DoesWork s.table t2 v v2 test (horizon_of (stages m s I) v.stamp) seat out stepped.rows →
        KeepsWork m s.table t2 v v2 test (horizon_of (stages m s I) v.stamp) out stepped.rows → IsState m after
    on v v2 here items at outs.Block n k D K =
        let stays = (work_leaves s.table t2 test (horizon_of (stages m s I) v.stamp) seat v v2 outs.Block stepped.rows D).0 in
        vacuum_calls.kept_block m (fields_of s) (fields_of after) seat (sweeping v2) I
        (stages_set slots.items s.slots.items seat (slot.Vacuum v2) items)
        (stage_set slots.items s.slots.items seat (slot.Vacuum v2) items (seats m s I) (inside v here))
        (none v here t2 stays.0) room stays.1 refl
        v v2 (horizon_of (stages m s I) v.stamp) stepped.rows (was v here) refl (vacuum_calls.horizon_safe (stages m s I) v.stamp) K events short
        (record { states = subst (λ n. SetsSwept s.rows rows n stepped.rows) at states; keys = keys; targets = gone; later = λ r. refl; vacuums = refl })
        D.1
    on v v2 here items at outs.Pending n k D K =
        let stays = (work_leaves s.table t2 test (horizon_of (stages m s I) v.stamp) seat v v2 outs.Pending stepped.rows D).0 in
        vacuum_calls.kept_pending m (fields_of s) (fields_of after) seat (sweeping v2) I
        (stages_set slots.items s.slots.items seat (slot.Vacuum v2) items)
        (stage_set slots.items s.slots.items seat (slot.Vacuum v2) items (seats m s I) (inside v here))
        (none v here t2 stays.0) room stays.1 refl
        v v2 (horizon_of (stages m s I) v.stamp) stepped.rows (was v here) refl (vacuum_calls.horizon_safe (stages m s I) v.stamp) K events short
        (record { states = subst (λ n. SetsSwept s.rows rows n stepped.rows) at states; keys = keys; targets = gone; later = λ r. refl; vacuums = refl })
        D.0
        D.1
    on v v2 here items at (outs.Latched block by) n k D K = absurd (n block by refl)
    on v v2 here items at (outs.Finished count) n k D K = absurd (k count refl)

    pub kept_swept : (x : Slot O Key Recon Cond) → slot_now ≡ x → ((block by : ℕ) → stepped.out ≡ outs.Latched block by → ⊥) → ((count : ℕ) → stepped.out ≡ outs.Finished count → ⊥) → Sweeps t2 slots.items stepped x → IsState m after
    kept_swept slot.Free here n k h = absurd h
    kept_swept (slot.Insert key d) here n k h = absurd h
    kept_swept (slot.Scan q) here n k h = absurd h
    kept_swept (slot.Vacuum v) here n k (v2, items, at, D, K) = on v v2 here items at stepped.out n k D K

  -- ---- what the callers see

  -- room is left
  pub room_after : (x : Slot O Key Recon Cond) (t2 : pages.Table) (slots : List (Slot O Key Recon Cond)) (stepped : Stepped) (spare : ℕ) → Sweeps t2 slots stepped x → 64 ≤ spare → open_count (map stage_of slots) ≤ spare
  room_after slot.Free t2 slots stepped spare h more = absurd h
  room_after (slot.Insert key d) t2 slots stepped spare h more = absurd h
  room_after (slot.Scan q) t2 slots stepped spare h more = absurd h
  room_after (slot.Vacuum v) t2 slots stepped spare (v2, items, at, D, K) more =
      let e = ap (λ l. length l) (stages_set slots s.slots.items seat (slot.Vacuum v2) items) ∙ length-set (stages m s I) seat (sweeping v2) ∙ I.seats in
      let most = open_count-all (map stage_of slots) e in
      omega (arith, most, more)

  pub room_ended : (x : Slot O Key Recon Cond) (t2 : pages.Table) (between slots : List (Slot O Key Recon Cond)) (stepped : Stepped) (spare after : ℕ) → Sweeps t2 between stepped x → slots ≡ set between seat slot.Free → 473 ≤ spare → after + 1 ≡ spare → open_count (map stage_of slots) ≤ after
  room_ended x t2 between slots stepped spare after h items more less =
      let e = ap (λ l. length l) (stages_set slots between seat slot.Free items) ∙ length-set (map stage_of between) seat free ∙ sym (stages_count between) ∙ sweeps_length x t2 between stepped h in
      let most = open_count-all (map stage_of slots) e in
      omega (arith, most, more, less)

  module _ (t2 : pages.Table) (events : List (Event O Key Recon Cond)) where
    abbrev shown : List (Slot O Key Recon Cond) → Seen O Key Recon Cond
    shown slots = seen_as events (map stage_of slots) t2 s.origin

    pub finished_seen : (x : Slot O Key Recon Cond) → slot_now ≡ x → (between slots : List (Slot O Key Recon Cond)) (stepped : Stepped) (count : ℕ) → stepped.out ≡ outs.Finished count → Sweeps t2 between stepped x → slots ≡ set between seat slot.Free → events ≡ s.journal.events ++ CloseVacuum seat count ∷ [] →
        StepsFor (seen_of s) (shown slots) seat stepped.out (stage_of x)
    finished_seen slot.Free here between slots stepped count out h items ev = absurd h
    finished_seen (slot.Insert key d) here between slots stepped count out h items ev = absurd h
    finished_seen (slot.Scan q) here between slots stepped count out h items ev = absurd h
    finished_seen (slot.Vacuum v) here between slots stepped count out (v2, made, at, D, K) items ev =
        let all : slots ≡ set s.slots.items seat slot.Free = set_twice s.slots.items between slots seat (slot.Vacuum v2) slot.Free made items in (
          v2,
          stepped.rows,
          test,
          targets_told v here,
          D,
          subst (λ (o : VacuumOut). IsAfterWork (seen_of s) (shown slots) seat v2 stepped.rows o) (sym out)
              (logged_is s (seen_of s) refl seat (CloseVacuum seat count) slot.Free slots events t2 all ev, stage_set slots s.slots.items seat slot.Free all (seats m s I) (inside v here)),
        )

    pub after_work : (v v2 : Vacuum) → slot_now ≡ slot.Vacuum v → (slots : List (Slot O Key Recon Cond)) → slots ≡ set s.slots.items seat (slot.Vacuum v2) → (swept : List RowAt) → events ≡ s.journal.events ++ sweeps seat swept → (out : VacuumOut) → ((count : ℕ) → out ≡ outs.Finished count → ⊥) → ((block by : ℕ) → out ≡ outs.Latched block by → swept ≡ []) →
        IsAfterWork (seen_of s) (shown slots) seat v2 swept out
    after_work v v2 here slots items swept ev outs.Block k none = (logged_all_is s (seen_of s) refl seat (sweeps seat swept) (slot.Vacuum v2) slots events t2 items ev, stage_set slots s.slots.items seat (slot.Vacuum v2) items (seats m s I) (inside v here))
    after_work v v2 here slots items swept ev outs.Pending k none = (logged_all_is s (seen_of s) refl seat (sweeps seat swept) (slot.Vacuum v2) slots events t2 items ev, stage_set slots s.slots.items seat (slot.Vacuum v2) items (seats m s I) (inside v here))
    after_work v v2 here slots items swept ev (outs.Latched block by) k none =
        let same : events ≡ s.journal.events = ev ∙ ap (λ (l : List RowAt). s.journal.events ++ sweeps seat l) (none block by refl) ∙ append-nil s.journal.events in
        (ap (λ j. seen_as j (map stage_of slots) t2 s.origin) same ∙ moved_is s (seen_of s) refl seat (slot.Vacuum v2) slots t2 items, stage_set slots s.slots.items seat (slot.Vacuum v2) items (seats m s I) (inside v here))
    after_work v v2 here slots items swept ev (outs.Finished count) k none = absurd (k count refl)

    -- a section that has latched nothing out of the way sweeps nothing
    pub none_latched : (v v2 : Vacuum) (out : VacuumOut) (swept : List RowAt) (horizon : ℕ) → DoesWork s.table t2 v v2 test horizon seat out swept → (block by : ℕ) → out ≡ outs.Latched block by → swept ≡ []
    none_latched v v2 out swept horizon D block by e = (subst (λ (o : VacuumOut). DoesWork s.table t2 v v2 test horizon seat o swept) e D).0

    pub going_seen : (x : Slot O Key Recon Cond) → slot_now ≡ x → (slots : List (Slot O Key Recon Cond)) (stepped : Stepped) → ((count : ℕ) → stepped.out ≡ outs.Finished count → ⊥) → Sweeps t2 slots stepped x → events ≡ s.journal.events ++ sweeps seat stepped.rows → StepsFor (seen_of s) (shown slots) seat stepped.out (stage_of x)
    going_seen slot.Free here slots stepped k h ev = absurd h
    going_seen (slot.Insert key d) here slots stepped k h ev = absurd h
    going_seen (slot.Scan q) here slots stepped k h ev = absurd h
    going_seen (slot.Vacuum v) here slots stepped k (v2, items, at, D, K) ev = (
      v2,
      stepped.rows,
      test,
      targets_told v here,
      D,
      after_work v v2 here slots items stepped.rows ev stepped.out k (none_latched v v2 stepped.out stepped.rows (horizon_of (stages m s I) v.stamp) D),
    )

    pub latched_seen : (x : Slot O Key Recon Cond) → slot_now ≡ x → (slots : List (Slot O Key Recon Cond)) (stepped : Stepped) (block by : ℕ) → stepped.out ≡ outs.Latched block by → Sweeps t2 slots stepped x → events ≡ s.journal.events → StepsFor (seen_of s) (shown slots) seat stepped.out (stage_of x)
    latched_seen slot.Free here slots stepped block by out h ev = absurd h
    latched_seen (slot.Insert key d) here slots stepped block by out h ev = absurd h
    latched_seen (slot.Scan q) here slots stepped block by out h ev = absurd h
    latched_seen (slot.Vacuum v) here slots stepped block by out (v2, items, at, D, K) ev =
        let none = none_latched v v2 stepped.out stepped.rows (horizon_of (stages m s I) v.stamp) D in
        going_seen (slot.Vacuum v) here slots stepped (λ count e. cc (sym out ∙ e)) (v2, items, at, D, K)
        (ev ∙ sym (ap (λ (l : List RowAt). s.journal.events ++ sweeps seat l) (none block by out) ∙ append-nil s.journal.events))

  -- by the stage that callers see
  pub seen_stage : (seen : Seen O Key Recon Cond) → seen_of s ≡ seen → (new : Seen O Key Recon Cond) (out : VacuumOut) → StepsFor (seen_of s) new seat out (stage_of slot_now) → StepsFor seen new seat out (stage_at seen seat)
  seen_stage seen view new out h = subst (λ (w : Seen O Key Recon Cond). StepsFor w new seat out (stage_at w seat)) view (subst (λ (x : Stage O Key Recon Cond). StepsFor (seen_of s) new seat out x) (sym (stage_get s.slots.items seat)) h)
