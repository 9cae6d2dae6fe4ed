-- The account is kept by each call of each seat.
use Rattle.std.proofs.Common.{◌≡◌, ◌++◌, ◌≤◌, ◌+◌, ◌⊎◌, ⊎_elim, inl, inr, ℕ, Bool, true, false, List, [], ◌∷◌, Option, Some, None, length, reverse, refl, sym, ap, ◌∙◌, subst, arith}
use Rattle.std.specs.Prelude.{slice_set}
use Rattle.std.proofs.lemmas.Bool.{cases_eq}
use Rattle.spg_base.specs.Row.{RowAt}
use Rattle.spg_opclass.specs.Meaning.{Meaning}
use Rattle.spg_opclass.specs.Laws.{AddLaw, SplitLaw, KeptLaw, CodeLaw}
use Rattle.spg_forest.specs.View.{Place}
use Rattle.spg_forest.specs.Steps.{HasRow}
use Rattle.spg_forest.specs.Sheets.{with_tuples}
use Rattle.spg_forest.specs.Section.{Takes}
use Rattle.spg_forest.specs.Puts.{spreads}
use Rattle.spg_forest.proofs.Edits.{sheet_other}
use Rattle.spg_rows.specs.declared.event.Event.{Event}
use Rattle.spg_rows.specs.declared.event.Why.{Why}
use Rattle.spg_rows.specs.declared.event.Event.TheVariants as event
use Rattle.spg_tree.specs.Table.{Table, sheets_of, sheet_at, latch_at, with_touched, tuples_at}
use Rattle.spg_tree.proofs.Pages.{pages_same}
use Rattle.spg_tree.specs.Descents.{Descending}
use Rattle.spg_vacuum.specs.declared.vacuum.Vacuum.{Vacuum}
use Rattle.spg_vacuum.specs.Latch.{IsFree}
use Rattle.spg_vacuum.specs.Handled.{HandlesBlock, HandlesPlace}
use Rattle.spg_descend.specs.Enters.{opened_for}
use Rattle.spg_seats.specs.Descending.{ChangesHeld}
use Rattle.spg_seats.specs.Opening.{sweeps}
use Rattle.spg_seats.specs.Drops.{MayDrop}
use Rattle.spg_seats.specs.Slots.{Stage, free, descending, reading, sweeping, stage_in, horizon_of, StageFits, Fields, IsKept}
use Rattle.spg_core.specs.declared.answer.InsertOut.{InsertOut}
use Rattle.spg_core.specs.declared.answer.InsertOut.TheVariants as outs
use Rattle.spg_core.specs.declared.answer.VacuumOut.{VacuumOut}
use Rattle.spg_core.specs.declared.answer.VacuumOut.TheVariants as work
use Rattle.spg_core.specs.Seen.{untouched}
use Rattle.spg_core.specs.Sweeping.{DoesWork, KeepsWork}
use Rattle.spg_core.specs.Telling.{StepDone, IsButLatches}
use Rattle.spg_core.specs.Runs.{Call, refused, opens_insert, steps, kills, opens_scan, reads, copies, sifts, closes, drops, leaves, opens_vacuum, works, Goes, StepsTo, WorksTo, Does}
use Rattle.spg_core.proofs.Keeping.{stage_fits, section_changes, section_grows}
use Rattle.spg_core.proofs.Runs.{runs_keep}
use Rattle.spg_core.proofs.Works.{next_place, latched_stays}
use Rattle.spg_bounds.specs.Inners.{behind}
use Rattle.spg_bounds.specs.Promises.{KeepsPromises}
use Rattle.spg_bounds.specs.Bounds.{pages_left, ticks_left, left_at, IsBounded}
use Rattle.spg_bounds.specs.Spending.{Spends}
use Rattle.spg_bounds.proofs.Sections.{block_spends}
use Rattle.spg_bounds.proofs.Bounds.{Logs, opens, IsLateEvent, event_logged, none_logged, sweeps_logged, drop_late, bounded_step}
use Rattle.spg_core.specs.RunsBounded.{RunsBounded}
use Rattle.spg_core.proofs.Promised.{promises_none}
use Rattle.spg_core.proofs.Paid.{paid, left_then, ThenPromises}

-- ---- a call that leaves the pages

same_spends : (t t2 : Table) → t2 ≡ untouched t → Spends t t2 0 0
same_spends t t2 e =
    let n = ap (λ (z : Table). length z.pages) e in
    let c = ap (λ (z : Table). z.clock) e in
    let b = ap (λ (z : Table). behind (sheets_of z)) e in
    record { pages = omega arith; clock = omega arith }

same_more : (t t2 : Table) → t2 ≡ untouched t → length t.pages ≤ length t2.pages
same_more t t2 e = let n = ap (λ (z : Table). length z.pages) e in omega arith

same_held : (t t2 : Table) (seat : ℕ) → t2 ≡ untouched t → ChangesHeld t t2 seat
same_held t t2 seat e b = inl (ap (λ (z : Table). sheet_at z b) e)

record Worked (t t2 : Table) (seat : ℕ) : Type 0 where
  more : length t.pages ≤ length t2.pages
  held : ChangesHeld t t2 seat
  spends : Spends t t2 0 0

same_worked : (t t2 : Table) (seat : ℕ) → t2 ≡ with_touched t [] → Worked t t2 seat
same_worked t t2 seat e = record { more = same_more t t2 e; held = same_held t t2 seat e; spends = same_spends t t2 e }

opened_flags : {Key Recon Cond : Type 0} (m : Meaning Key Recon Cond) (row : RowAt) (key : Option Key) → ((opened_for m row key).rose ≡ false) × ((opened_for m row key).added ≡ false)
opened_flags m row None = (refl, refl)
opened_flags m row (Some key) = (refl, refl)

opened_left : {Key Recon Cond : Type 0} (m : Meaning Key Recon Cond) (row : RowAt) (key : Option Key) → (pages_left (opened_for m row key) ≡ 8) × (ticks_left (opened_for m row key) ≡ 3)
opened_left m row None = (refl, refl)
opened_left m row (Some key) = (refl, refl)

left_on : {Recon : Type 0} (f : Descending Recon → ℕ) (d2 : Descending Recon) (out : InsertOut) → (out ≡ outs.Put → ⊥) → (p n : ℕ) → p + left_then f d2 out ≤ n → p + f d2 ≤ n
left_on f d2 outs.Descended goes p n h = h
left_on f d2 outs.Restructured goes p n h = h
left_on f d2 (outs.Restarted block by) goes p n h = h
left_on f d2 outs.Put goes p n h = absurd (goes refl)

promised_on : {Key Recon Cond : Type 0} (m : Meaning Key Recon Cond) (t : Table) (d2 : Descending Recon) (out : InsertOut) → (out ≡ outs.Put → ⊥) → ThenPromises m t d2 out → KeepsPromises m t d2
promised_on m t d2 outs.Descended goes h = h
promised_on m t d2 outs.Restructured goes h = h
promised_on m t d2 (outs.Restarted block by) goes h = h
promised_on m t d2 outs.Put goes h = absurd (goes refl)

module _ {O Key Recon Cond : Type 0} (m : Meaning Key Recon Cond) where
  -- a stage that is no insert
  abbrev pub IsNoInsert : Stage O Key Recon Cond → Type 0
  IsNoInsert free = Unit {0}
  IsNoInsert (descending key d) = ⊥
  IsNoInsert (reading q) = Unit {0}
  IsNoInsert (sweeping v) = Unit {0}

  left_nothing : (stage : Stage O Key Recon Cond) → IsNoInsert stage → (left_at pages_left stage ≡ 0) × (left_at ticks_left stage ≡ 0)
  left_nothing free h = (refl, refl)
  left_nothing (descending key d) h = absurd h
  left_nothing (reading q) h = (refl, refl)
  left_nothing (sweeping v) h = (refl, refl)

  own_nothing : (t : Table) (stage : Stage O Key Recon Cond) → IsNoInsert stage → (key : Option Key) (d : Descending Recon) → stage ≡ descending key d → KeepsPromises m t d
  own_nothing t stage h key d e = absurd (subst (λ (x : Stage O Key Recon Cond). IsNoInsert x) e h)

  -- the seat is then at this stage, and no other changes
  pub record Turns (s s2 : Fields O Key Recon Cond) (seat : ℕ) (stage : Stage O Key Recon Cond) : Type 0 where
    pub stages : s2.stages ≡ slice_set s.stages seat stage
    pub here : stage_in s2.stages seat ≡ stage
    pub origin : s2.origin ≡ s.origin

  turns : (s s2 : Fields O Key Recon Cond) (seat : ℕ) (stage : Stage O Key Recon Cond) (es : List (Event O Key Recon Cond)) → Goes s s2 seat stage es → Turns s s2 seat stage
  turns s s2 seat stage es G = record { stages = G.stages; here = G.here; origin = G.origin }

  -- the seat comes to a stage that is no insert, and pays nothing
  rests : (s s2 : Fields O Key Recon Cond) (seat : ℕ) (stage : Stage O Key Recon Cond) → IsKept m s → IsBounded m s → IsNoInsert stage → Turns s s2 seat stage → length s.table.pages ≤ length s2.table.pages → ChangesHeld s.table s2.table seat →
      Spends s.table s2.table 0 0 → Logs s s2 0 → IsBounded m s2
  rests s s2 seat stage kept B idle G more changes C opened =
      let (x, y) = left_nothing stage idle in
      bounded_step m s s2 seat stage 0 0 0 kept.latches B G.stages G.here G.origin more changes C opened (omega arith) (omega arith) (own_nothing s2.table stage idle)

  pub still : (s s2 : Fields O Key Recon Cond) (seat : ℕ) (stage : Stage O Key Recon Cond) → IsKept m s → IsBounded m s → IsNoInsert stage → Turns s s2 seat stage → s2.table ≡ untouched s.table → Logs s s2 0 → IsBounded m s2
  still s s2 seat stage kept B idle G table opened = rests s s2 seat stage kept B idle G (same_more s.table s2.table table) (same_held s.table s2.table seat table) (same_spends s.table s2.table table) opened

  -- ---- a section of an insert

  -- the insert goes on by what it pays
  pub goes_bounded : AddLaw m → SplitLaw m → (s s2 : Fields O Key Recon Cond) → IsKept m s → IsBounded m s → (seat : ℕ) (key : Option Key) (d d2 : Descending Recon) → stage_in s.stages seat ≡ descending key d → (out : InsertOut) → (out ≡ outs.Put → ⊥) →
      StepDone m s.table s2.table d d2 seat out → Turns s s2 seat (descending key d2) → s2.journal ≡ s.journal ++ [] → IsBounded m s2
  goes_bounded adds splits s s2 kept B seat key d d2 here out goes S G journal =
      let fits : StageFits m s.table (reverse s.journal) seat (descending key d) = stage_fits m s kept seat (descending key d) here in
      let Q = paid m adds splits s.table d d2 seat kept.tells.holds.shape (key, fits.1) fits.2 (B.promises seat key d here) s2.table out S.ok S.told in
      let x = ap (left_at pages_left) here in
      let y = ap (left_at ticks_left) here in
      let a : Q.pages + pages_left d2 ≤ pages_left d = left_on pages_left d2 out goes Q.pages (pages_left d) Q.pays in
      let b : Q.ticks + ticks_left d2 ≤ ticks_left d = left_on ticks_left d2 out goes Q.ticks (ticks_left d) Q.pays_ticks in
      bounded_step m s s2 seat (descending key d2) 0 Q.pages Q.ticks kept.latches B G.stages G.here G.origin (section_grows m s kept seat key d here s2.table d2 out S).1 (section_changes m s kept seat key d here s2.table d2 out S) Q.spends (none_logged s s2 journal) (omega arith) (omega arith)
      (λ k e is. let f : d2 ≡ e = cc in subst (λ (z : Descending Recon). KeepsPromises m s2.table z) f (promised_on m s2.table d2 out goes Q.promises))

  pub put_bounded : AddLaw m → SplitLaw m → (s s2 : Fields O Key Recon Cond) → IsKept m s → IsBounded m s → (seat : ℕ) (key : Option Key) (d d2 : Descending Recon) → stage_in s.stages seat ≡ descending key d →
      StepDone m s.table s2.table d d2 seat outs.Put → Turns s s2 seat free → (row : RowAt) → s2.journal ≡ s.journal ++ event.Put seat row ∷ [] → IsBounded m s2
  put_bounded adds splits s s2 kept B seat key d d2 here S G row journal =
      let fits : StageFits m s.table (reverse s.journal) seat (descending key d) = stage_fits m s kept seat (descending key d) here in
      let Q = paid m adds splits s.table d d2 seat kept.tells.holds.shape (key, fits.1) fits.2 (B.promises seat key d here) s2.table outs.Put S.ok S.told in
      let x = ap (left_at pages_left) here in
      let y = ap (left_at ticks_left) here in
      let a = Q.pays in let b = Q.pays_ticks in
      bounded_step m s s2 seat free 0 Q.pages Q.ticks kept.latches B G.stages G.here G.origin (section_grows m s kept seat key d here s2.table d2 outs.Put S).1 (section_changes m s kept seat key d here s2.table d2 outs.Put S) Q.spends (event_logged s s2 (event.Put seat row) journal tt) (omega arith) (omega arith) (own_nothing s2.table free tt)

  steps_bounded : AddLaw m → SplitLaw m → (s s2 : Fields O Key Recon Cond) → IsKept m s → IsBounded m s → (seat : ℕ) (key : Option Key) (d d2 : Descending Recon) → stage_in s.stages seat ≡ descending key d → (out : InsertOut) →
      StepDone m s.table s2.table d d2 seat out → StepsTo s s2 seat key d d2 out → IsBounded m s2
  steps_bounded adds splits s s2 kept B seat key d d2 here outs.Descended S (G, rows) = goes_bounded adds splits s s2 kept B seat key d d2 here outs.Descended (λ e. cc) S (turns s s2 seat _ _ G) G.journal
  steps_bounded adds splits s s2 kept B seat key d d2 here outs.Restructured S (G, rows) = goes_bounded adds splits s s2 kept B seat key d d2 here outs.Restructured (λ e. cc) S (turns s s2 seat _ _ G) G.journal
  steps_bounded adds splits s s2 kept B seat key d d2 here (outs.Restarted block by) S (G, rows) = goes_bounded adds splits s s2 kept B seat key d d2 here (outs.Restarted block by) (λ e. cc) S (turns s s2 seat _ _ G) G.journal
  steps_bounded adds splits s s2 kept B seat key d d2 here outs.Put S (G, rows) = put_bounded adds splits s s2 kept B seat key d d2 here S (turns s s2 seat _ _ G) d.row G.journal

  -- ---- a section of a vacuum

  block_worked : (s s2 : Fields O Key Recon Cond) → IsKept m s → (seat b horizon : ℕ) (swept : List RowAt) → IsFree s.table b seat → HandlesBlock s.table s2.table b s.targets horizon swept → Takes m (sheets_of s.table) (sheets_of s2.table) s2.table.touched (spreads 0) horizon (HasRow swept) →
      Worked s.table s2.table seat
  block_worked s s2 kept seat b horizon swept alone W T = record {
    more = let e = ap (λ (z : Table). length z.pages) W.table in let f = pages_same s.table b (tuples_at s2.table b) in omega arith;
    held = λ c. ⊎_elim (λ e. inr (subst (λ k. (latch_at s.table k ≡ None) ⊎ (latch_at s.table k ≡ Some seat)) (sym e) (latch (latch_at s.table b) refl)))
        (λ n. inl (ap (λ (z : Table). sheet_at z c) W.table ∙ sheet_other (sheets_of s.table) b (with_tuples (sheet_at s.table b) (tuples_at s2.table b)) c n)) (cases_eq c b);
    spends = block_spends m s.table s2.table b s.targets horizon horizon swept (HasRow swept) kept.tells.holds.shape W T;
  }
    where
      latch : (l : Option ℕ) → latch_at s.table b ≡ l → (latch_at s.table b ≡ None) ⊎ (latch_at s.table b ≡ Some seat)
      latch None e = inl e
      latch (Some by) e = inr (e ∙ ap Some (alone by e))

  place_worked : (s s2 : Fields O Key Recon Cond) → IsKept m s → (seat horizon : ℕ) (p : Place) (swept : List RowAt) (inner : Bool) → IsFree s.table p.block seat → HandlesPlace inner s.table s2.table p s.targets horizon swept →
      Takes m (sheets_of s.table) (sheets_of s2.table) s2.table.touched (spreads 0) horizon (HasRow swept) → Worked s.table s2.table seat
  place_worked s s2 kept seat horizon p swept false alone W T = block_worked s s2 kept seat p.block horizon swept alone W T
  place_worked s s2 kept seat horizon p swept true alone (none, e) T = same_worked s.table s2.table seat e

  -- a section of a vacuum that goes on, and one that ends
  pub work_bounded : (s s2 : Fields O Key Recon Cond) → IsKept m s → IsBounded m s → (seat horizon : ℕ) (v v2 : Vacuum) (swept : List RowAt) (out : VacuumOut) → ((count : ℕ) → out ≡ work.Finished count → ⊥) → DoesWork s.table s2.table v v2 s.targets horizon seat out swept →
      KeepsWork m s.table s2.table v v2 s.targets horizon out swept → Turns s s2 seat (sweeping v2) → s2.journal ≡ s.journal ++ sweeps seat swept → IsBounded m s2
  work_bounded s s2 kept B seat horizon v v2 swept work.Block goes (next, D) T G journal =
      let (alone, W, is) = D in
      let Q = block_worked s s2 kept seat v.next horizon swept alone W T.0 in
      rests s s2 seat (sweeping v2) kept B tt G Q.more Q.held Q.spends (sweeps_logged s s2 seat swept journal)
  work_bounded s s2 kept B seat horizon v v2 swept work.Pending goes (next, F) T G journal =
      let (p, is) = next_place v s.table next in
      let (alone, W, e) = F p is in
      let Q = place_worked s s2 kept seat horizon p swept (sheet_at s.table p.block).inner alone W T.0 in
      rests s s2 seat (sweeping v2) kept B tt G Q.more Q.held Q.spends (sweeps_logged s s2 seat swept journal)
  work_bounded s s2 kept B seat horizon v v2 swept (work.Latched block by) goes (none, D) T G journal =
      let (table, same) = latched_stays s.table s2.table v v2 s.targets horizon seat block by D in
      still s s2 seat (sweeping v2) kept B tt G table (sweeps_logged s s2 seat swept journal)
  work_bounded s s2 kept B seat horizon v v2 swept (work.Finished count) goes D T G journal = absurd (goes count refl)

  pub end_bounded : (s s2 : Fields O Key Recon Cond) → IsKept m s → IsBounded m s → (seat horizon : ℕ) (v v2 : Vacuum) (swept : List RowAt) (count : ℕ) → DoesWork s.table s2.table v v2 s.targets horizon seat (work.Finished count) swept → Turns s s2 seat free → s2.journal ≡ s.journal ++ event.CloseVacuum seat count ∷ [] → IsBounded m s2
  end_bounded s s2 kept B seat horizon v v2 swept count (none, next, is, table, same) G journal = still s s2 seat free kept B tt G table (event_logged s s2 (event.CloseVacuum seat count) journal tt)

  works_bounded : (s s2 : Fields O Key Recon Cond) → IsKept m s → IsBounded m s → (seat : ℕ) (v v2 : Vacuum) (swept : List RowAt) (out : VacuumOut) → DoesWork s.table s2.table v v2 s.targets (horizon_of s.stages v.stamp) seat out swept →
      KeepsWork m s.table s2.table v v2 s.targets (horizon_of s.stages v.stamp) out swept → WorksTo s s2 seat v v2 swept out → IsBounded m s2
  works_bounded s s2 kept B seat v v2 swept work.Block D T (G, rows, short) = work_bounded s s2 kept B seat (horizon_of s.stages v.stamp) v v2 swept work.Block (λ c e. cc) D T (turns s s2 seat _ _ G) G.journal
  works_bounded s s2 kept B seat v v2 swept work.Pending D T (G, rows, short) = work_bounded s s2 kept B seat (horizon_of s.stages v.stamp) v v2 swept work.Pending (λ c e. cc) D T (turns s s2 seat _ _ G) G.journal
  works_bounded s s2 kept B seat v v2 swept (work.Latched block by) (none, D) T (G, rows) =
      let (table, same) = latched_stays s.table s2.table v v2 s.targets (horizon_of s.stages v.stamp) seat block by D in
      still s s2 seat (sweeping v2) kept B tt (turns s s2 seat _ _ G) table (none_logged s s2 G.journal)
  works_bounded s s2 kept B seat v v2 swept (work.Finished count) D T (G, rows) = end_bounded s s2 kept B seat (horizon_of s.stages v.stamp) v v2 swept count D (turns s s2 seat _ _ G) G.journal

  -- ---- an insert that opens, and one that is given up

  pub opens_bounded : (s s2 : Fields O Key Recon Cond) → IsKept m s → IsBounded m s → (seat : ℕ) (row : RowAt) (key : Option Key) → Turns s s2 seat (descending key (opened_for m row key)) → s2.table ≡ untouched s.table → s2.journal ≡ s.journal ++ event.OpenInsert seat row key ∷ [] → IsBounded m s2
  opens_bounded s s2 kept B seat row key G table journal =
      let d : Descending Recon = opened_for m row key in
      let (r, a) = opened_flags m row key in
      let (x, y) = opened_left m row key in
      bounded_step m s s2 seat (descending key d) 1 0 0 kept.latches B G.stages G.here G.origin (same_more s.table s2.table table) (same_held s.table s2.table seat table) (same_spends s.table s2.table table)
      (event_logged s s2 (event.OpenInsert seat row key) journal tt) (omega arith) (omega arith)
      (λ k e is. let f : d ≡ e = cc in subst (λ (z : Descending Recon). KeepsPromises m s2.table z) f (promises_none m s2.table d r a))

  -- the latches are given free, and the seat has nothing open
  pub frees_bounded : (s s2 : Fields O Key Recon Cond) → IsKept m s → IsBounded m s → (seat : ℕ) (e : Event O Key Recon Cond) → opens e ≡ 0 → IsLateEvent s.origin (reverse s.journal) e → Turns s s2 seat free → (t : Table) → IsButLatches s.table t → s2.table ≡ untouched t → s2.journal ≡ s.journal ++ e ∷ [] → IsBounded m s2
  frees_bounded s s2 kept B seat e none late G t but is journal =
      rests s s2 seat free kept B tt G (let n = ap (λ (z : Table). length z.pages) (is ∙ ap untouched but) in omega arith) (λ b. inl (ap (λ (z : Table). sheet_at z b) (is ∙ ap untouched but)))
      (let n = ap (λ (z : Table). length z.pages) (is ∙ ap untouched but) in let c = ap (λ (z : Table). z.clock) (is ∙ ap untouched but) in let b = ap (λ (z : Table). behind (sheets_of z)) (is ∙ ap untouched but) in record { pages = omega arith; clock = omega arith })
      (subst (λ n. Logs s s2 n) none (event_logged s s2 e journal late))

  pub drops_bounded : (s s2 : Fields O Key Recon Cond) → IsKept m s → IsBounded m s → (seat : ℕ) (row : RowAt) (why : Why) → MayDrop s.table why → Turns s s2 seat free → (t : Table) → IsButLatches s.table t → s2.table ≡ untouched t → s2.journal ≡ s.journal ++ event.Drop seat row why ∷ [] → IsBounded m s2
  drops_bounded s s2 kept B seat row why may G t but is journal = frees_bounded s s2 kept B seat (event.Drop seat row why) refl (drop_late s.origin s.table (reverse s.journal) s.stages why kept.tells.limit B.account may) G t but is journal

  -- ---- any call

  pub one_bounded : AddLaw m → SplitLaw m → (s s2 : Fields O Key Recon Cond) → IsKept m s → IsBounded m s → (seat : ℕ) (call : Call O Key Recon Cond) → Does m s s2 seat call → IsBounded m s2
  one_bounded adds splits s s2 kept B seat refused (spare, more, is) = subst (IsBounded m) (sym is) (record { account = B.account; drops = B.drops; promises = B.promises })
  one_bounded adds splits s s2 kept B seat (opens_insert row key) (none, unclaimed, carries, G, table, rows) = opens_bounded s s2 kept B seat row key (turns s s2 seat _ _ G) table G.journal
  one_bounded adds splits s s2 kept B seat (steps row out) (key, d, d2, here, r, S, to) = steps_bounded adds splits s s2 kept B seat key d d2 here out S to
  one_bounded adds splits s s2 kept B seat (kills row) (none, live, G, table, rows) = still s s2 seat free kept B tt (turns s s2 seat _ _ G) table (event_logged s s2 (event.Kill seat row) G.journal tt)
  one_bounded adds splits s s2 kept B seat (opens_scan query) (none, G, table, rows) = still s s2 seat _ kept B tt (turns s s2 seat _ _ G) table (event_logged s s2 (event.OpenScan seat query) G.journal tt)
  one_bounded adds splits s s2 kept B seat (reads item out) (q, q2, here, R, G, table, rows) = still s s2 seat (reading q2) kept B tt (turns s s2 seat _ _ G) table (none_logged s s2 G.journal)
  one_bounded adds splits s s2 kept B seat (copies item out) (q, q2, here, C, G, table, rows) = still s s2 seat (reading q2) kept B tt (turns s s2 seat _ _ G) table (none_logged s s2 G.journal)
  one_bounded adds splits s s2 kept B seat (sifts item copied) (q, q2, here, T, G, table, rows) = still s s2 seat (reading q2) kept B tt (turns s s2 seat _ _ G) table (none_logged s s2 G.journal)
  one_bounded adds splits s s2 kept B seat (closes closed) (q, here, empty, C, G, table, rows) = still s s2 seat free kept B tt (turns s s2 seat _ _ G) table (event_logged s s2 (event.CloseScan seat closed.rows) G.journal tt)
  one_bounded adds splits s s2 kept B seat (drops row why) (key, d, here, r, may, G, (t, but, is), none, rows) = drops_bounded s s2 kept B seat row why may (turns s s2 seat _ _ G) t but is G.journal
  one_bounded adds splits s s2 kept B seat leaves (left, G, (t, but, is), none, rows) = frees_bounded s s2 kept B seat (event.Leave seat) refl tt (turns s s2 seat _ _ G) t but is G.journal
  one_bounded adds splits s s2 kept B seat opens_vacuum (none, alone, G, table, rows) = still s s2 seat _ kept B tt (turns s s2 seat _ _ G) table (event_logged s s2 (event.OpenVacuum seat) G.journal tt)
  one_bounded adds splits s s2 kept B seat (works out swept) (v, v2, here, D, W, to) = works_bounded s s2 kept B seat v v2 swept out D W to

  -- ---- any list of calls

  pub runs_bounded : KeptLaw m → CodeLaw m → AddLaw m → SplitLaw m → RunsBounded O Key Recon Cond m
  runs_bounded K L adds splits s s2 [] kept B is = subst (IsBounded m) (sym is) B
  runs_bounded K L adds splits s s2 ((by, call) ∷ calls) kept B (s1, does, more) =
      let kept1 : IsKept m s1 = (runs_keep m K L s s1 ((by, call) ∷ []) kept (s1, does, refl)).0 in
      runs_bounded K L adds splits s1 s2 calls kept1 (one_bounded adds splits s s1 kept B by call does) more
