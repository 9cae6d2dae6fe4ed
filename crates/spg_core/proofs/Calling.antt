-- What each call does is a call, as its callers see it.
use Rattle.std.proofs.Common.{◌≡◌, ◌++◌, ◌<◌, ◌^◌, ◌∷◌, [], inl, inr, ℕ, Bool, true, List, Contains, length, get_or, set, map, refl, sym, ap, ◌∙◌, subst, arith, append-nil}
use Rattle.std.specs.BTreeSet.{contains}
use Rattle.spg_base.specs.Row.{RowAt, row_cmp}
use Rattle.spg_opclass.specs.Meaning.{Meaning}
use Rattle.spg_forest.specs.Puts.{spreads}
use Rattle.spg_forest.specs.Section.{Takes}
use Rattle.spg_forest.specs.Steps.{HasRow}
use Rattle.spg_rows.specs.declared.event.Event.{Event}
use Rattle.spg_rows.specs.declared.event.Event.TheVariants.{Put, CloseVacuum}
use Rattle.spg_rows.proofs.Targets.{targets_agree}
use Rattle.spg_tree.specs.Table as pages
use Rattle.spg_tree.specs.Table.{sheets_of}
use Rattle.spg_tree.specs.Descents.{Descending}
use Rattle.spg_scan.specs.Others.{ChangesPages}
use Rattle.spg_scan.specs.declared.walk.Closed.{Closed}
use Rattle.spg_vacuum.specs.declared.vacuum.Vacuum.{Vacuum}
use Rattle.spg_seats.specs.Opening.{sweeps}
use Rattle.spg_seats.specs.Drops.{MayDrop}
use Rattle.spg_seats.specs.Slots.{Stage, free, descending, reading, sweeping, stage_in, is_open, horizon_of, StageFits}
use Rattle.spg_seats.proofs.SweptRows.{has_contains, contains_has, takes_as}
use Rattle.spg_seats.proofs.VacuumCalls as vacuum_calls
use Rattle.spg_core.specs.declared.answer.InsertOut.{InsertOut}
use Rattle.spg_core.specs.declared.answer.InsertOut.TheVariants as outs
use Rattle.spg_core.specs.declared.answer.VacuumOut.{VacuumOut}
use Rattle.spg_core.specs.declared.answer.VacuumOut.TheVariants as work
use Rattle.spg_core.specs.declared.slot.Slot.{Slot}
use Rattle.spg_core.specs.declared.slot.Slot.TheVariants.{Free, Insert, Scan}
use Rattle.spg_core.specs.declared.slot.Slot.TheVariants as slot
use Rattle.spg_core.specs.declared.kept.Kept.TheInside.{Inside}
use Rattle.spg_core.specs.declared.sweeping.Stepped.{Stepped}
use Rattle.spg_rows.specs.declared.event.Why.{Why}
use Rattle.spg_core.specs.Slot.{stage_of}
use Rattle.spg_core.specs.Stage.{IsRead}
use Rattle.spg_core.specs.Seen.{Seen, stage_at, logged}
use Rattle.spg_core.specs.Kept.{fields_of, seen_of, IsState}
use Rattle.spg_core.specs.Operations.{StepsFrom, IsRowOf, ClosesFrom}
use Rattle.spg_core.specs.Sections.{ClosesScan, IsAfterWork, GivesUp}
use Rattle.spg_core.specs.Sweeping.{DoesWork, KeepsWork, SweepsFrom}
use Rattle.spg_core.specs.Telling.{StepDone}
use Rattle.spg_core.specs.Runs.{closes, IsLeft}
use Rattle.spg_core.specs.Calls.{InsertsTo, IsShortAfter, IsCall, Inserts, WorksOn, given, SweepsPages}
use Rattle.spg_core.proofs.Slots.{seen_as, set_twice, stage_is, stage_get, stage_set, table_is, moved_is, logged_is}
use Rattle.spg_core.proofs.Steps.{past, stages, seats, fits, low}
use Rattle.spg_core.proofs.Vacuumed.{work_swept, targets_told, after_work, none_latched}
use Rattle.spg_core.proofs.Works.{latched_stays}

-- a journal that is short enough is so after any section
short_after : {O Key Recon Cond : Type 0} (out : VacuumOut) (new : Seen O Key Recon Cond) → length new.journal < 2 ^ 64 → IsShortAfter out new
short_after work.Block new h = h
short_after work.Pending new h = h
short_after (work.Latched block by) new h = tt
short_after (work.Finished count) new h = tt

module _ {O Key Recon Cond : Type 0} (m : Meaning Key Recon Cond) (s : Inside O Key Recon Cond) (I : IsState m s) (seat : ℕ) where
  abbrev slot_now : Slot O Key Recon Cond
  slot_now = get_or s.slots.items seat Free

  -- a seat whose slot has something open is one of the seats
  within : (x : Slot O Key Recon Cond) → slot_now ≡ x → is_open (stage_of x) ≡ true → seat < 64
  within x here going = low m s I seat (ap (λ (x : Slot O Key Recon Cond). is_open (stage_of x)) here ∙ going)

  module _ (seen : Seen O Key Recon Cond) (view : seen_of s ≡ seen) where
    -- ---- a section of an insert

    done_seen : (t2 : pages.Table) (d d2 : Descending Recon) (out : InsertOut) → StepDone m s.table t2 d d2 seat out → StepDone m seen.table t2 d d2 seat out
    done_seen t2 d d2 out S = subst (λ (t : pages.Table). StepDone m t t2 d d2 seat out) (sym (table_is s seen view 0)) S

    pub step_call : (out : InsertOut) (x : Slot O Key Recon Cond) (t2 : pages.Table) (slots : List (Slot O Key Recon Cond)) → slot_now ≡ x → (out ≡ outs.Put → ⊥) → StepsFrom m s.table t2 s.slots.items slots seat out x → Inserts m seen (seen_as s.journal.events (map stage_of slots) t2 s.origin) seat out
    step_call out Free t2 slots here goes h = absurd h
    step_call out (Scan q) t2 slots here goes h = absurd h
    step_call out (slot.Vacuum v) t2 slots here goes h = absurd h
    step_call out (Insert key d) t2 slots here goes (d2, items, S) = (d.row, (key, d, d2, stage_is s seen view seat ∙ ap stage_of here, refl, done_seen t2 d d2 out S, to out goes))
      where
        to : (o : InsertOut) → (o ≡ outs.Put → ⊥) → InsertsTo seen (seen_as s.journal.events (map stage_of slots) t2 s.origin) seat key d d2 o
        to outs.Descended n = (moved_is s seen view seat (Insert key d2) slots t2 items, stage_set slots s.slots.items seat (Insert key d2) items (seats m s I) (within (Insert key d) here refl))
        to outs.Restructured n = (moved_is s seen view seat (Insert key d2) slots t2 items, stage_set slots s.slots.items seat (Insert key d2) items (seats m s I) (within (Insert key d) here refl))
        to (outs.Restarted block by) n = (moved_is s seen view seat (Insert key d2) slots t2 items, stage_set slots s.slots.items seat (Insert key d2) items (seats m s I) (within (Insert key d) here refl))
        to outs.Put n = absurd (n refl)

    pub put_call : (x : Slot O Key Recon Cond) (t2 : pages.Table) (between slots : List (Slot O Key Recon Cond)) (row : RowAt) (events : List (Event O Key Recon Cond)) → slot_now ≡ x → StepsFrom m s.table t2 s.slots.items between seat outs.Put x → IsRowOf x row → slots ≡ set between seat Free → events ≡ s.journal.events ++ Put seat row ∷ [] →
        Inserts m seen (seen_as events (map stage_of slots) t2 s.origin) seat outs.Put
    put_call Free t2 between slots row events here h of items ev = absurd h
    put_call (Scan q) t2 between slots row events here h of items ev = absurd h
    put_call (slot.Vacuum v) t2 between slots row events here h of items ev = absurd h
    put_call (Insert key d) t2 between slots row events here (d2, made, S) of items ev =
        let all : slots ≡ set s.slots.items seat Free = set_twice s.slots.items between slots seat (Insert key d2) Free made items in (
          d.row,
          (
            key,
            d,
            d2,
            stage_is s seen view seat ∙ ap stage_of here,
            refl,
            done_seen t2 d d2 outs.Put S,
            (
              subst (λ (r : RowAt). seen_as events (map stage_of slots) t2 s.origin ≡ logged seen seat (Put seat r) free t2) of (logged_is s seen view seat (Put seat row) Free slots events t2 all ev),
              stage_set slots s.slots.items seat Free all (seats m s I) (within (Insert key d) here refl),
            ),
          ),
        )

    -- ---- a scan ends

    pub close_call : (closed : Closed) (between : List (Slot O Key Recon Cond)) (x : Slot O Key Recon Cond) (new : Seen O Key Recon Cond) → slot_now ≡ x → ClosesFrom s.slots.items between seat closed x → IsRead (stage_of x) → ClosesScan seen new seat closed → IsCall m seen new seat (closes closed)
    close_call closed between Free new here h empty C = absurd h
    close_call closed between (Insert key d) new here h empty C = absurd h
    close_call closed between (Scan q) new here (items, closing) empty C = (q, stage_is s seen view seat ∙ ap stage_of here, empty, closing, C)
    close_call closed between (slot.Vacuum v) new here h empty C = absurd h

  -- ---- a section of a vacuum

  abbrev test : RowAt → Bool
  test = contains row_cmp s.targets.rows

  abbrev Sweeps : pages.Table → List (Slot O Key Recon Cond) → Stepped → Slot O Key Recon Cond → Type 0
  Sweeps t2 new stepped x = SweepsFrom m s.table t2 s.slots.items new test seat stepped x

  module _ (t2 : pages.Table) (events : List (Event O Key Recon Cond)) where
    abbrev shown : List (Slot O Key Recon Cond) → Seen O Key Recon Cond
    shown slots = seen_as events (map stage_of slots) t2 s.origin

    work_call : (v v2 : Vacuum) → slot_now ≡ slot.Vacuum v → (slots : List (Slot O Key Recon Cond)) (out : VacuumOut) (swept : List RowAt) → DoesWork s.table t2 v v2 test (horizon_of (stages m s I) v.stamp) seat out swept → KeepsWork m s.table t2 v v2 test (horizon_of (stages m s I) v.stamp) out swept →
        IsAfterWork (seen_of s) (shown slots) seat v2 swept out → IsShortAfter out (shown slots) → WorksOn m (seen_of s) (shown slots) seat out
    work_call v v2 here slots out swept D K after short = (swept, (v, v2, test, stage_get s.slots.items seat ∙ ap stage_of here, targets_told m s I seat v here, D, K, after, short))

    pub finish_call : (x : Slot O Key Recon Cond) → slot_now ≡ x → (between slots : List (Slot O Key Recon Cond)) (stepped : Stepped) (count : ℕ) → stepped.out ≡ work.Finished count → Sweeps t2 between stepped x → slots ≡ set between seat Free → events ≡ s.journal.events ++ CloseVacuum seat count ∷ [] →
        WorksOn m (seen_of s) (shown slots) seat stepped.out
    finish_call Free here between slots stepped count out h items ev = absurd h
    finish_call (Insert key d) here between slots stepped count out h items ev = absurd h
    finish_call (Scan q) here between slots stepped count out h items ev = absurd h
    finish_call (slot.Vacuum v) here between slots stepped count out (v2, made, at, D, K) items ev =
        let all : slots ≡ set s.slots.items seat Free = set_twice s.slots.items between slots seat (slot.Vacuum v2) Free made items in
        let after : IsAfterWork (seen_of s) (shown slots) seat v2 stepped.rows (work.Finished count) = (logged_is s (seen_of s) refl seat (CloseVacuum seat count) Free slots events t2 all ev, stage_set slots s.slots.items seat Free all (seats m s I) (within (slot.Vacuum v) here refl)) in
        work_call v v2 here slots stepped.out stepped.rows D K (subst (λ (o : VacuumOut). IsAfterWork (seen_of s) (shown slots) seat v2 stepped.rows o) (sym out) after) (subst (λ (o : VacuumOut). IsShortAfter o (shown slots)) (sym out) tt)

    going_on : (x : Slot O Key Recon Cond) → slot_now ≡ x → (slots : List (Slot O Key Recon Cond)) (stepped : Stepped) → ((count : ℕ) → stepped.out ≡ work.Finished count → ⊥) → Sweeps t2 slots stepped x → events ≡ s.journal.events ++ sweeps seat stepped.rows → IsShortAfter stepped.out (shown slots) → WorksOn m (seen_of s) (shown slots) seat stepped.out
    going_on Free here slots stepped k h ev short = absurd h
    going_on (Insert key d) here slots stepped k h ev short = absurd h
    going_on (Scan q) here slots stepped k h ev short = absurd h
    going_on (slot.Vacuum v) here slots stepped k (v2, items, at, D, K) ev short =
        work_call v v2 here slots stepped.out stepped.rows D K
        (after_work m s I seat t2 events v v2 here slots items stepped.rows ev stepped.out k (none_latched m s I seat t2 events v v2 stepped.out stepped.rows (horizon_of (stages m s I) v.stamp) D)) short

    pub going_call : (x : Slot O Key Recon Cond) → slot_now ≡ x → (slots : List (Slot O Key Recon Cond)) (stepped : Stepped) → ((count : ℕ) → stepped.out ≡ work.Finished count → ⊥) → Sweeps t2 slots stepped x → events ≡ s.journal.events ++ sweeps seat stepped.rows → length events < 2 ^ 64 → WorksOn m (seen_of s) (shown slots) seat stepped.out
    going_call x here slots stepped k h ev short = going_on x here slots stepped k h ev (short_after stepped.out (shown slots) short)

    pub latched_call : (x : Slot O Key Recon Cond) → slot_now ≡ x → (slots : List (Slot O Key Recon Cond)) (stepped : Stepped) (block by : ℕ) → stepped.out ≡ work.Latched block by → Sweeps t2 slots stepped x → events ≡ s.journal.events → WorksOn m (seen_of s) (shown slots) seat stepped.out
    latched_call Free here slots stepped block by out h ev = absurd h
    latched_call (Insert key d) here slots stepped block by out h ev = absurd h
    latched_call (Scan q) here slots stepped block by out h ev = absurd h
    latched_call (slot.Vacuum v) here slots stepped block by out (v2, items, at, D, K) ev =
        let none : stepped.rows ≡ [] = none_latched m s I seat t2 events v v2 stepped.out stepped.rows (horizon_of (stages m s I) v.stamp) D block by out in
        going_on (slot.Vacuum v) here slots stepped (λ count e. cc (sym out ∙ e)) (v2, items, at, D, K)
        (ev ∙ sym (ap (λ (l : List RowAt). s.journal.events ++ sweeps seat l) none ∙ append-nil s.journal.events)) (subst (λ (o : VacuumOut). IsShortAfter o (shown slots)) (sym out) tt)

  pub vacuums_seen : (seen : Seen O Key Recon Cond) → seen_of s ≡ seen → (new : Seen O Key Recon Cond) (out : VacuumOut) → WorksOn m (seen_of s) new seat out → WorksOn m seen new seat out
  vacuums_seen seen view new out h = subst (λ (v : Seen O Key Recon Cond). WorksOn m v new seat out) view h

  -- what it does to the pages
  module _ (v v2 : Vacuum) (here : slot_now ≡ slot.Vacuum v) (t2 : pages.Table) where
    abbrev horizon : ℕ
    horizon = horizon_of (stages m s I) v.stamp

    takes_rows : (swept : List RowAt) (out : VacuumOut) → DoesWork s.table t2 v v2 test horizon seat out swept → Takes m (sheets_of s.table) (sheets_of t2) t2.touched (spreads 0) horizon (HasRow swept) → ChangesPages m (past m s I) seat (sheets_of s.table) (sheets_of t2) t2.touched horizon
    takes_rows swept out D T =
        let fit : StageFits m s.table (past m s I) seat (sweeping v) = subst (λ (x : Slot O Key Recon Cond). StageFits m s.table (past m s I) seat (stage_of x)) here (fits m s I seat) in
        let (before, has, V) = fit in
        let A = work_swept m s.table t2 test horizon I.tells.holds.shape v v2 seat out swept D in
        inr (inr (inl (
          spreads 0,
          swept,
          takes_as m (sheets_of s.table) (sheets_of t2) t2.touched (spreads 0) horizon (HasRow swept) (Contains swept) (λ r h. has_contains swept r h) (λ r h. contains_has swept r h) T,
          λ r h.
              let target = (targets_agree before (past m s I) r I.right.legal).0 (sym (I.tells.kills.early seat before has r) ∙ A.0 r (contains_has swept r h)) in
              (target.1.0, target.1.1),
        )))

    changes_by : (out : VacuumOut) (swept : List RowAt) → DoesWork s.table t2 v v2 test horizon seat out swept → KeepsWork m s.table t2 v v2 test horizon out swept → ChangesPages m (past m s I) seat (sheets_of s.table) (sheets_of t2) t2.touched horizon
    changes_by work.Block swept D K = takes_rows swept work.Block D K.0
    changes_by work.Pending swept D K = takes_rows swept work.Pending D K.0
    changes_by (work.Latched block by) swept D K = inr (inr (inr (ap sheets_of (latched_stays s.table t2 v v2 test horizon seat block by D.1).0)))
    changes_by (work.Finished count) swept D K = inr (inr (inr (ap sheets_of D.3)))

  sweeps_pages : (x : Slot O Key Recon Cond) → slot_now ≡ x → (new : Seen O Key Recon Cond) (slots : List (Slot O Key Recon Cond)) (stepped : Stepped) → Sweeps new.table slots stepped x → SweepsPages m (seen_of s) new seat
  sweeps_pages Free here new slots stepped h = absurd h
  sweeps_pages (Insert key d) here new slots stepped h = absurd h
  sweeps_pages (Scan q) here new slots stepped h = absurd h
  sweeps_pages (slot.Vacuum v) here new slots stepped (v2, items, at, D, K) =
      let was : stage_in (stages m s I) seat ≡ sweeping v = stage_get s.slots.items seat ∙ ap stage_of here in
      let low_now = vacuum_calls.horizon_below (stages m s I) v.stamp seat v was in
      let since = (vacuum_calls.vacuum_covers m (fields_of s) seat v I was).past in
      (horizon_of (stages m s I) v.stamp, vacuum_calls.horizon_safe (stages m s I) v.stamp, omega arith, changes_by v v2 here new.table stepped.out stepped.rows D K)

  pub pages_seen : (seen : Seen O Key Recon Cond) → seen_of s ≡ seen → (x : Slot O Key Recon Cond) → slot_now ≡ x → (new : Seen O Key Recon Cond) (slots : List (Slot O Key Recon Cond)) (stepped : Stepped) → Sweeps new.table slots stepped x → SweepsPages m seen new seat
  pages_seen seen view x here new slots stepped h = subst (λ (v : Seen O Key Recon Cond). SweepsPages m v new seat) view (sweeps_pages x here new slots stepped h)

-- ---- what is given up

pub give_call : {O Key Recon Cond : Type 0} (m : Meaning Key Recon Cond) (old new : Seen O Key Recon Cond) (seat : ℕ) (why : Why) → (stage_at old seat ≡ free → ⊥) → MayDrop old.table why → GivesUp old new seat why → IsCall m old new seat (given (stage_at old seat) why)
give_call {O} {Key} {Recon} {Cond} m old new seat why apart may G = go (stage_at old seat) refl
  where
    go : (x : Stage O Key Recon Cond) → stage_at old seat ≡ x → IsCall m old new seat (given x why)
    go free e = absurd (apart e)
    go (descending key d) e = (key, d, e, refl, may, G)
    go (reading q) e = (subst (λ (x : Stage O Key Recon Cond). IsLeft x) (sym e) tt, why, G)
    go (sweeping v) e = (subst (λ (x : Stage O Key Recon Cond). IsLeft x) (sym e) tt, why, G)
