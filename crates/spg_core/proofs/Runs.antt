-- What calls of any seats keep, one after another.
use Rattle.std.proofs.Common.{◌≡◌, ◌++◌, inl, inr, ℕ, Bool, true, false, cond, nat_eq, List, [], ◌∷◌, Option, Some, length, reverse, refl, sym, ap, ◌∙◌, subst}
use Rattle.std.specs.Prelude.{slice_get}
use Rattle.std.proofs.lemmas.List.{append_assoc, append-nil, length-reverse}
use Rattle.spg_base.specs.Row.{RowAt}
use Rattle.spg_forest.specs.Pages.{IsFresh}
use Rattle.spg_forest.specs.Sheets.{Sheets}
use Rattle.spg_forest.specs.Shape.{spots}
use Rattle.spg_opclass.specs.Meaning.{Meaning}
use Rattle.spg_opclass.specs.Laws.{KeptLaw, CodeLaw}
use Rattle.spg_rows.specs.declared.event.Event.{Event}
use Rattle.spg_rows.specs.declared.event.Event.TheVariants as event
use Rattle.spg_rows.specs.History.{own, seat_of, inserting}
use Rattle.spg_rows.specs.Rows.{is_claimed}
use Rattle.spg_tree.specs.Table as pages
use Rattle.spg_tree.specs.Table.{sheets_of, latch_at}
use Rattle.spg_tree.specs.Descents.{Descending}
use Rattle.spg_descend.specs.Enters.{opened_for}
use Rattle.spg_scan.specs.Items.{Item}
use Rattle.spg_scan.specs.Scanning.{Scanning, opened, replaced}
use Rattle.spg_scan.specs.Copying.{IsCopyOut}
use Rattle.spg_scan.specs.declared.scan_copy.ScanCopy.{ScanCopy}
use Rattle.spg_scan.specs.declared.scan_copy.ScanCopy.TheVariants as copy_out
use Rattle.spg_scan.specs.Reading.{IsReadOut, DoesItem}
use Rattle.spg_scan.specs.declared.walk.ReadOut.{ReadOut}
use Rattle.spg_scan.specs.declared.walk.ReadOut.TheVariants.{Read, Latched}
use Rattle.spg_seats.specs.Latching.{AreHeld, HoldsNone, rest_of}
use Rattle.spg_rows.specs.History.{open_of}
use Rattle.spg_rows.specs.Legal.{IsLeavable}
use Rattle.spg_rows.proofs.Opened.{itself_opens}
use Rattle.spg_vacuum.specs.declared.vacuum.Vacuum.{Vacuum}
use Rattle.spg_seats.specs.Opening.{opened_vacuum, SameRows, ChangesRows, sweeps}
use Rattle.spg_seats.specs.Slots.{Stage, free, descending, reading, sweeping, stage_in, stage_holds, horizon_of, StageFits, Fields, IsKept}
use Rattle.spg_seats.proofs.Calls as calls
use Rattle.spg_seats.proofs.VacuumCalls as vacuum_calls
use Rattle.spg_seats.proofs.Slots.{more_room}
use Rattle.spg_core.specs.declared.answer.InsertOut.{InsertOut}
use Rattle.spg_core.specs.declared.answer.InsertOut.TheVariants as outs
use Rattle.spg_core.specs.declared.answer.VacuumOut.{VacuumOut}
use Rattle.spg_core.specs.declared.answer.VacuumOut.TheVariants as work
use Rattle.spg_core.specs.Seen.{untouched}
use Rattle.spg_core.specs.Sweeping.{DoesWork, KeepsWork}
use Rattle.spg_core.specs.Telling.{StepDone, IsButLatches}
use Rattle.spg_core.specs.Runs.{Call, refused, opens_insert, steps, kills, opens_scan, reads, copies, sifts, closes, drops, leaves, opens_vacuum, works, put_by, work_events, events_of, Goes, StepsTo, WorksTo, IsLeft, Does, events_by, RunsKeep}
use Rattle.spg_core.proofs.Keeping.{fresh_row, stage_held, stage_fits, step_keeps, put_keeps}
use Rattle.spg_core.proofs.Opens.{opened_row, opened_stands, opened_holds}
use Rattle.spg_core.proofs.Scans.{once_taken}
use Rattle.spg_core.proofs.Steps.{held_on}
use Rattle.spg_core.proofs.Works.{block_stays, pending_stays, latched_stays}

-- what is held stays so under another name
holds_as : (t : pages.Table) (at : ℕ) (rest : ℕ → Option ℕ) (g k : ℕ → Bool) → ((b : ℕ) → g b ≡ k b) → AreHeld t at rest g → AreHeld t at rest k
holds_as t at rest g k e h = record { latch = λ b. h.latch b ∙ ap (λ x. cond x (Some at) (rest b)) (e b); free = λ b q. h.free b (e b ∙ q); others = h.others }

-- ---- what a seat did

module _ {O Key Recon Cond : Type 0} where
  pub own_append : (seat : ℕ) (xs ys : List (Event O Key Recon Cond)) → own seat (xs ++ ys) ≡ own seat xs ++ own seat ys
  own_append seat [] ys = refl
  own_append seat (x ∷ xs) ys = elim (nat_eq (seat_of x) seat) as (λ b. cond b (x ∷ own seat (xs ++ ys)) (own seat (xs ++ ys)) ≡ cond b (x ∷ own seat xs) (own seat xs) ++ own seat ys) [
    | true ↦ ap (λ l. x ∷ l) (own_append seat xs ys)
    | false ↦ own_append seat xs ys
  ]

  -- one event of a seat
  own_one : (seat by : ℕ) (e : Event O Key Recon Cond) → seat_of e ≡ by → own seat (e ∷ []) ≡ cond (nat_eq by seat) (e ∷ []) []
  own_one seat by e is = ap (λ n. cond (nat_eq n seat) (e ∷ []) []) is

  none_either : (b : Bool) → ◌≡◌ {A = List (Event O Key Recon Cond)} [] (cond b [] [])
  none_either true = refl
  none_either false = refl

  own_put : (seat by : ℕ) (row : RowAt) (out : InsertOut) → own seat (put_by {O = O} {Key = Key} {Recon = Recon} {Cond = Cond} by row out) ≡ cond (nat_eq by seat) (put_by by row out) []
  own_put seat by row outs.Descended = none_either (nat_eq by seat)
  own_put seat by row outs.Restructured = none_either (nat_eq by seat)
  own_put seat by row (outs.Restarted block other) = none_either (nat_eq by seat)
  own_put seat by row outs.Put = own_one seat by (event.Put by row) refl

  -- the sweeps of a seat
  own_sweeps : (seat by : ℕ) (swept : List RowAt) (b : Bool) → nat_eq by seat ≡ b → own seat (sweeps {O = O} {Key = Key} {Recon = Recon} {Cond = Cond} by swept) ≡ cond b (sweeps by swept) []
  own_sweeps seat by [] true e = refl
  own_sweeps seat by [] false e = refl
  own_sweeps seat by (row ∷ swept) true e = ap (λ b. cond b (event.Sweep by row ∷ own seat (sweeps by swept)) (own seat (sweeps by swept))) e ∙ ap (λ l. event.Sweep by row ∷ l) (own_sweeps seat by swept true e)
  own_sweeps seat by (row ∷ swept) false e = ap (λ b. cond b (event.Sweep by row ∷ own seat (sweeps by swept)) (own seat (sweeps by swept))) e ∙ own_sweeps seat by swept false e

  own_work : (seat by : ℕ) (swept : List RowAt) (out : VacuumOut) → own seat (work_events {O = O} {Key = Key} {Recon = Recon} {Cond = Cond} by swept out) ≡ cond (nat_eq by seat) (work_events by swept out) []
  own_work seat by swept work.Block = own_sweeps seat by swept (nat_eq by seat) refl
  own_work seat by swept work.Pending = own_sweeps seat by swept (nat_eq by seat) refl
  own_work seat by swept (work.Latched block other) = none_either (nat_eq by seat)
  own_work seat by swept (work.Finished count) = own_one seat by (event.CloseVacuum by count) refl

  pub own_events : (seat by : ℕ) (call : Call O Key Recon Cond) → own seat (events_of by call) ≡ cond (nat_eq by seat) (events_of by call) []
  own_events seat by refused = none_either (nat_eq by seat)
  own_events seat by (opens_insert row key) = own_one seat by (event.OpenInsert by row key) refl
  own_events seat by (steps row out) = own_put seat by row out
  own_events seat by (kills row) = own_one seat by (event.Kill by row) refl
  own_events seat by (opens_scan query) = own_one seat by (event.OpenScan by query) refl
  own_events seat by (reads item out) = none_either (nat_eq by seat)
  own_events seat by (copies item out) = none_either (nat_eq by seat)
  own_events seat by (sifts item copied) = none_either (nat_eq by seat)
  own_events seat by (closes closed) = own_one seat by (event.CloseScan by closed.rows) refl
  own_events seat by (drops row why) = own_one seat by (event.Drop by row why) refl
  own_events seat by leaves = own_one seat by (event.Leave by) refl
  own_events seat by opens_vacuum = own_one seat by (event.OpenVacuum by) refl
  own_events seat by (works out swept) = own_work seat by swept out

module _ {O Key Recon Cond : Type 0} (m : Meaning Key Recon Cond) where
  no_more : (xs : List (Event O Key Recon Cond)) → xs ≡ xs ++ []
  no_more xs = sym (append-nil xs)

  same_put : (s s2 : Fields O Key Recon Cond) (seat : ℕ) (key : Option Key) (d d2 : Descending Recon) (row : RowAt) (out : InsertOut) → d.row ≡ row → StepsTo s s2 seat key d d2 out → s2.journal ≡ s.journal ++ put_by seat row out
  same_put s s2 seat key d d2 row outs.Descended r (G, rows) = G.journal
  same_put s s2 seat key d d2 row outs.Restructured r (G, rows) = G.journal
  same_put s s2 seat key d d2 row (outs.Restarted block by) r (G, rows) = G.journal
  same_put s s2 seat key d d2 row outs.Put r (G, rows) = G.journal ∙ ap (λ x. s.journal ++ event.Put seat x ∷ []) r

  same_work : (s s2 : Fields O Key Recon Cond) (seat : ℕ) (v v2 : Vacuum) (swept : List RowAt) (out : VacuumOut) → WorksTo s s2 seat v v2 swept out → s2.journal ≡ s.journal ++ work_events seat swept out
  same_work s s2 seat v v2 swept work.Block to = to.0.journal
  same_work s s2 seat v v2 swept work.Pending to = to.0.journal
  same_work s s2 seat v v2 swept (work.Latched block by) to = to.0.journal
  same_work s s2 seat v v2 swept (work.Finished count) to = to.0.journal

  -- the journal is longer by the events of the call
  pub longer : (s s2 : Fields O Key Recon Cond) (seat : ℕ) (call : Call O Key Recon Cond) → Does m s s2 seat call → s2.journal ≡ s.journal ++ events_of seat call
  longer s s2 seat refused (spare, more, is) = ap (λ (f : Fields O Key Recon Cond). f.journal) is ∙ no_more s.journal
  longer s s2 seat (opens_insert row key) (none, unclaimed, carries, G, table, rows) = G.journal
  longer s s2 seat (steps row out) (key, d, d2, here, r, S, to) = same_put s s2 seat key d d2 row out r to
  longer s s2 seat (kills row) (none, live, G, table, rows) = G.journal
  longer s s2 seat (opens_scan query) (none, G, table, rows) = G.journal
  longer s s2 seat (reads item out) (q, q2, here, R, G, table, rows) = G.journal
  longer s s2 seat (copies item out) (q, q2, here, C, G, table, rows) = G.journal
  longer s s2 seat (sifts item copied) (q, q2, here, T, G, table, rows) = G.journal
  longer s s2 seat (closes closed) (q, here, empty, C, G, table, rows) = G.journal
  longer s s2 seat (drops row why) (key, d, here, r, may, G, table, none, rows) = G.journal
  longer s s2 seat leaves (left, G, table, none, rows) = G.journal
  longer s s2 seat opens_vacuum (none, alone, G, table, rows) = G.journal
  longer s s2 seat (works out swept) (v, v2, here, D, K, to) = same_work s s2 seat v v2 swept out to

  -- ---- one call keeps what is kept

  -- a seat that has latched nothing, and has nothing latched then
  held_then : (s s2 : Fields O Key Recon Cond) → IsKept m s → (seat : ℕ) (stage : Stage O Key Recon Cond) → stage_in s.stages seat ≡ stage → ((b : ℕ) → stage_holds stage b ≡ false) → s2.table.latches ≡ s.table.latches → HoldsNone s2.table seat (rest_of s.table seat)
  held_then s s2 kept seat stage here none latches = held_on s.table s2.table seat (rest_of s.table seat) (λ b. false) (λ b. ap (λ (l : List (Option ℕ)). latch_at (record s.table { latches = l }) b) latches) (holds_as s.table seat (rest_of s.table seat) (stage_holds stage) (λ b. false) none (stage_held m s kept seat stage here))

  -- a scan or a vacuum that is open may be left
  left_fits : (s : Fields O Key Recon Cond) → IsKept m s → (seat : ℕ) (stage : Stage O Key Recon Cond) → stage_in s.stages seat ≡ stage → IsLeft stage → IsLeavable (open_of seat (reverse s.journal))
  left_fits s kept seat free here left = absurd left
  left_fits s kept seat (descending key d) here left = absurd left
  left_fits s kept seat (reading q) here left = subst IsLeavable (sym (stage_fits m s kept seat (reading q) here).1) tt
  left_fits s kept seat (sweeping v) here left = subst IsLeavable (sym (stage_fits m s kept seat (sweeping v) here).1) tt

  none_then : (s s2 : Fields O Key Recon Cond) → IsKept m s → (seat : ℕ) (stage : Stage O Key Recon Cond) → stage_in s.stages seat ≡ stage → ((b : ℕ) → stage_holds stage b ≡ false) → s2.table ≡ untouched s.table → HoldsNone s2.table seat (rest_of s.table seat)
  none_then s s2 kept seat stage here none table = subst (λ (t : pages.Table). HoldsNone t seat (rest_of s.table seat)) (sym table)
      (held_on s.table (untouched s.table) seat (rest_of s.table seat) (λ b. false) (λ b. refl) (holds_as s.table seat (rest_of s.table seat) (stage_holds stage) (λ b. false) none (stage_held m s kept seat stage here)))

  steps_keep : CodeLaw m → (s s2 : Fields O Key Recon Cond) → IsKept m s → (seat : ℕ) (key : Option Key) (d d2 : Descending Recon) → stage_in s.stages seat ≡ descending key d → (out : InsertOut) → StepDone m s.table s2.table d d2 seat out → StepsTo s s2 seat key d d2 out → IsKept m s2
  steps_keep codes s s2 kept seat key d d2 here outs.Descended S (G, rows) = step_keeps m codes s kept seat key d here s2 d2 G.stages G.here G.room G.origin (G.journal ∙ append-nil s.journal) rows outs.Descended (λ e. cc e) S
  steps_keep codes s s2 kept seat key d d2 here outs.Restructured S (G, rows) = step_keeps m codes s kept seat key d here s2 d2 G.stages G.here G.room G.origin (G.journal ∙ append-nil s.journal) rows outs.Restructured (λ e. cc e) S
  steps_keep codes s s2 kept seat key d d2 here (outs.Restarted block by) S (G, rows) = step_keeps m codes s kept seat key d here s2 d2 G.stages G.here G.room G.origin (G.journal ∙ append-nil s.journal) rows (outs.Restarted block by) (λ e. cc e) S
  steps_keep codes s s2 kept seat key d d2 here outs.Put S (G, rows) = put_keeps m codes s kept seat key d here s2 d2 G.stages G.here G.room G.origin d.row refl G.journal rows S

  -- a scan did this with an item, and the pages stay
  item_keeps : KeptLaw m → CodeLaw m → (s s2 : Fields O Key Recon Cond) → IsKept m s → (seat item : ℕ) (q q2 : Scanning O Key Recon Cond) → stage_in s.stages seat ≡ reading q → Goes s s2 seat (reading q2) [] → s2.table ≡ untouched s.table → SameRows s s2 →
      (it : Item Recon) (ys : List (Item Recon)) (found : List RowAt) (met : ℕ) → slice_get q.items item ≡ Some it → DoesItem m (sheets_of s.table) s.rows q.query it ys found → q2 ≡ replaced q item ys found met → IsKept m s2
  item_keeps K L s s2 kept seat item q q2 here G table rows it ys found met at does after =
      calls.kept_reads m s s2 seat (reading q2) kept G.stages G.here (none_then s s2 kept seat (reading q) here (λ b. refl) table) G.room (ap (λ (t : pages.Table). t.limit) table) G.origin K L q item it ys found met here (ap reading after) at does (ap sheets_of table) (G.journal ∙ append-nil s.journal) rows

  -- it stays as it is
  rests_keep : (s s2 : Fields O Key Recon Cond) → IsKept m s → (seat : ℕ) (q q2 : Scanning O Key Recon Cond) → stage_in s.stages seat ≡ reading q → q2 ≡ q → Goes s s2 seat (reading q2) [] → s2.table ≡ untouched s.table → SameRows s s2 → IsKept m s2
  rests_keep s s2 kept seat q q2 here same G table rows =
      calls.kept_still m s s2 seat (reading q2) kept G.stages G.here (none_then s s2 kept seat (reading q) here (λ b. refl) table) G.room (ap (λ (t : pages.Table). t.limit) table) G.origin (ap sheets_of table) (G.journal ∙ append-nil s.journal) rows
      (subst (λ (t : pages.Table). StageFits m t (reverse s.journal) seat (reading q2)) (sym table) (subst (λ (z : Scanning O Key Recon Cond). StageFits m s.table (reverse s.journal) seat (reading z)) (sym same) (stage_fits m s kept seat (reading q) here)))

  reads_keep : KeptLaw m → CodeLaw m → (s s2 : Fields O Key Recon Cond) → IsKept m s → (seat item : ℕ) (q q2 : Scanning O Key Recon Cond) → stage_in s.stages seat ≡ reading q → (out : ReadOut) → IsReadOut m s.table s.rows q q2 item seat out → Goes s s2 seat (reading q2) [] → s2.table ≡ untouched s.table → SameRows s s2 → IsKept m s2
  reads_keep K L s s2 kept seat item q q2 here Read (alone, R) G table rows = item_keeps K L s s2 kept seat item q q2 here G table rows R.item R.items R.found _ R.at (inl R.reads) R.after
  reads_keep K L s s2 kept seat item q q2 here (Latched block by) (place, latched, other, same) G table rows = rests_keep s s2 kept seat q q2 here same G table rows

  copies_keep : KeptLaw m → CodeLaw m → (s s2 : Fields O Key Recon Cond) → IsKept m s → (seat item : ℕ) (q q2 : Scanning O Key Recon Cond) → stage_in s.stages seat ≡ reading q → (out : ScanCopy O Key Recon Cond) → IsCopyOut m s.table s.rows q q2 item seat out → Goes s s2 seat (reading q2) [] → s2.table ≡ untouched s.table → SameRows s s2 → IsKept m s2
  copies_keep K L s s2 kept seat item q q2 here copy_out.Read (alone, plain, R) G table rows = item_keeps K L s s2 kept seat item q q2 here G table rows R.item R.items R.found _ R.at (inl R.reads) R.after
  copies_keep K L s s2 kept seat item q q2 here (copy_out.Latched block by) (place, latched, other, same) G table rows = rests_keep s s2 kept seat q q2 here same G table rows
  copies_keep K L s s2 kept seat item q q2 here (copy_out.Sift copied) (inl (has, same)) G table rows = rests_keep s s2 kept seat q q2 here same G table rows
  copies_keep K L s s2 kept seat item q q2 here (copy_out.Sift copied) (inr (alone, C)) G table rows = item_keeps K L s s2 kept seat item q q2 here G table rows _ (C.item ∷ []) [] _ C.at (inr C.copies) C.after

  -- a scan or a vacuum is given up
  leaves_keep : (s s2 : Fields O Key Recon Cond) → IsKept m s → (seat : ℕ) (stage : Stage O Key Recon Cond) → stage_in s.stages seat ≡ stage → IsLeft stage → Goes s s2 seat free (event.Leave seat ∷ []) → (t : pages.Table) → IsButLatches s.table t → s2.table ≡ untouched t → HoldsNone s2.table seat (rest_of s.table seat) → ChangesRows (event.Leave seat) (reverse s.journal) s s2 → IsKept m s2
  leaves_keep s s2 kept seat stage here left G t but is none rows =
      calls.kept_event m s s2 seat free kept G.stages G.here none G.room (ap (λ (t : pages.Table). t.limit) is ∙ ap (λ (t : pages.Table). t.limit) but) G.origin (event.Leave seat) refl tt tt (left_fits s kept seat stage here left) tt G.journal (ap sheets_of is ∙ ap sheets_of but) rows
      (itself_opens (event.Leave seat) (reverse s.journal))

  -- ---- a section of a vacuum

  -- but for one page and what is touched the table is as it was
  works_keep : (s s2 : Fields O Key Recon Cond) → IsKept m s → (seat : ℕ) (v v2 : Vacuum) (swept : List RowAt) → stage_in s.stages seat ≡ sweeping v → (out : VacuumOut) → DoesWork s.table s2.table v v2 s.targets (horizon_of s.stages v.stamp) seat out swept →
      KeepsWork m s.table s2.table v v2 s.targets (horizon_of s.stages v.stamp) out swept → WorksTo s s2 seat v v2 swept out → IsKept m s2
  works_keep s s2 kept seat v v2 swept here work.Block (next, D) K (G, rows, short) =
      let (latches, limit) = block_stays s.table s2.table v v2 s.targets (horizon_of s.stages v.stamp) seat swept D in
      vacuum_calls.kept_block m s s2 seat (sweeping v2) kept G.stages G.here (held_then s s2 kept seat (sweeping v) here (λ b. refl) latches) G.room limit G.origin v v2 (horizon_of s.stages v.stamp) swept here refl (vacuum_calls.horizon_safe s.stages v.stamp) K G.journal short rows D
  works_keep s s2 kept seat v v2 swept here work.Pending (next, D) K (G, rows, short) =
      let (latches, limit) = pending_stays s.table s2.table v v2 s.targets (horizon_of s.stages v.stamp) seat swept next D in
      vacuum_calls.kept_pending m s s2 seat (sweeping v2) kept G.stages G.here (held_then s s2 kept seat (sweeping v) here (λ b. refl) latches) G.room limit G.origin v v2 (horizon_of s.stages v.stamp) swept here refl (vacuum_calls.horizon_safe s.stages v.stamp) K G.journal short rows next D
  works_keep s s2 kept seat v v2 swept here (work.Latched block by) (none, D) K (G, rows) =
      let (table, same) = latched_stays s.table s2.table v v2 s.targets (horizon_of s.stages v.stamp) seat block by D in
      vacuum_calls.kept_rests m s s2 seat (sweeping v2) kept G.stages G.here (none_then s s2 kept seat (sweeping v) here (λ b. refl) table) G.room (ap (λ (t : pages.Table). t.limit) table) G.origin v (ap sheets_of table) (ap sweeping same) here (G.journal ∙ append-nil s.journal) rows
  works_keep s s2 kept seat v v2 swept here (work.Finished count) (none, next, is, table, same) K (G, rows) =
      vacuum_calls.kept_closes_vacuum m s s2 seat free kept G.stages G.here (none_then s s2 kept seat (sweeping v) here (λ b. refl) table) G.room (ap (λ (t : pages.Table). t.limit) table) G.origin v (ap sheets_of table) refl here K (G.journal ∙ ap (λ n. s.journal ++ event.CloseVacuum seat n ∷ []) is) rows

  pub one_keeps : KeptLaw m → CodeLaw m → (s s2 : Fields O Key Recon Cond) → IsKept m s → (seat : ℕ) (call : Call O Key Recon Cond) → Does m s s2 seat call → IsKept m s2
  one_keeps K L s s2 kept seat refused (spare, more, is) = subst (IsKept m) (sym is) (more_room m s spare more kept)
  one_keeps K L s s2 kept seat (opens_insert row key) (none, unclaimed, carries, G, table, rows) =
      let free_now : HoldsNone s2.table seat (rest_of s.table seat) = none_then s s2 kept seat free none (λ b. refl) table in
      calls.kept_opens_insert m s s2 seat (descending key (opened_for m row key)) kept G.stages G.here (opened_holds m s2.table seat (rest_of s.table seat) row key free_now) G.room (ap (λ (t : pages.Table). t.limit) table) G.origin (ap sheets_of table) row key (opened_for m row key) refl
      (opened_row m row key) (stage_fits m s kept seat free none) unclaimed (carries (sheets_of s2.table) (subst (λ (S : Sheets). IsFresh (spots S) (opened_for m row key).row) (sym (ap sheets_of table)) (fresh_row m s kept (opened_for m row key).row (ap (λ (r : RowAt). is_claimed r (reverse s.journal)) (opened_row m row key) ∙ unclaimed))))
      (opened_stands m s2.table row key) G.journal rows
  one_keeps K L s s2 kept seat (steps row out) (key, d, d2, here, r, S, to) = steps_keep L s s2 kept seat key d d2 here out S to
  one_keeps K L s s2 kept seat (kills row) (none, live, G, table, rows) =
      calls.kept_kill m s s2 seat free kept G.stages G.here (none_then s s2 kept seat free none (λ b. refl) table) G.room (ap (λ (t : pages.Table). t.limit) table) G.origin (ap sheets_of table) row refl (stage_fits m s kept seat free none) live G.journal rows
  one_keeps K L s s2 kept seat (opens_scan query) (none, G, table, rows) =
      let stage : Stage O Key Recon Cond = reading (opened m query (length s.journal) s.table.clock) in
      calls.kept_opens_scan m s s2 seat stage kept G.stages G.here (none_then s s2 kept seat free none (λ b. refl) table) G.room (ap (λ (t : pages.Table). t.limit) table) G.origin (ap sheets_of table) query
      (ap (λ n. reading (opened m query n s.table.clock)) (sym (length-reverse s.journal))) (stage_fits m s kept seat free none) G.journal rows
  one_keeps K L s s2 kept seat (reads item out) (q, q2, here, R, G, table, rows) = reads_keep K L s s2 kept seat item q q2 here out R G table rows
  one_keeps K L s s2 kept seat (copies item out) (q, q2, here, C, G, table, rows) = copies_keep K L s s2 kept seat item q q2 here out C G table rows
  one_keeps K L s s2 kept seat (sifts item copied) (q, q2, here, T, G, table, rows) = item_keeps K L s s2 kept seat item q q2 here G table rows T.item T.items T.found 0 T.at (inl (T.reads (sheets_of s.table) s.rows)) T.after
  one_keeps K L s s2 kept seat (closes closed) (q, here, empty, C, G, table, rows) =
      let (before, has, D) = stage_fits m s kept seat (reading q) here in
      calls.kept_closes_scan m s s2 seat free kept G.stages G.here (none_then s s2 kept seat (reading q) here (λ b. refl) table) G.room (ap (λ (t : pages.Table). t.limit) table) G.origin (ap sheets_of table) q closed.rows refl here empty C.same (C.ascending (once_taken q D)) G.journal rows
  one_keeps K L s s2 kept seat (drops row why) (key, d, here, r, may, G, (t, but, is), none, rows) =
      calls.kept_drops m s s2 seat free kept G.stages G.here none G.room (ap (λ (t : pages.Table). t.limit) is ∙ ap (λ (t : pages.Table). t.limit) but) G.origin (ap sheets_of is ∙ ap sheets_of but) row key why may refl
      ((stage_fits m s kept seat (descending key d) here).0 ∙ ap (λ (x : RowAt). inserting x key) r) G.journal rows
  one_keeps K L s s2 kept seat leaves (left, G, (t, but, is), none, rows) = leaves_keep s s2 kept seat (stage_in s.stages seat) refl left G t but is none rows
  one_keeps K L s s2 kept seat opens_vacuum (none, alone, G, table, rows) =
      vacuum_calls.kept_opens_vacuum m s s2 seat (sweeping (opened_vacuum (length s.journal) s.table.clock)) kept G.stages G.here (none_then s s2 kept seat free none (λ b. refl) table) G.room (ap (λ (t : pages.Table). t.limit) table) G.origin (ap sheets_of table)
      (ap (λ n. sweeping (opened_vacuum n s.table.clock)) (sym (length-reverse s.journal))) (stage_fits m s kept seat free none) alone G.journal rows
  one_keeps K L s s2 kept seat (works out swept) (v, v2, here, D, W, to) = works_keep s s2 kept seat v v2 swept here out D W to

  -- ---- any list of calls

  pub runs_keep : KeptLaw m → CodeLaw m → RunsKeep O Key Recon Cond m
  runs_keep K L s s2 [] kept is = (subst (IsKept m) (sym is) kept, λ seat. ap (λ (f : Fields O Key Recon Cond). own seat f.journal) is ∙ sym (append-nil (own seat s.journal)))
  runs_keep K L s s2 ((by, call) ∷ calls) kept (s1, does, more) =
      let (kept2, owns) = runs_keep K L s1 s2 calls (one_keeps K L s s1 kept by call does) more in (
        kept2,
        λ seat.
            owns seat
            ∙ ap (λ l. own seat l ++ events_by seat calls) (longer s s1 by call does)
            ∙ ap (λ l. l ++ events_by seat calls) (own_append seat s.journal (events_of by call) ∙ ap (λ l. own seat s.journal ++ l) (own_events seat by call))
            ∙ append_assoc (own seat s.journal) (cond (nat_eq by seat) (events_of by call) []) (events_by seat calls),
      )
