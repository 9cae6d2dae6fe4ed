-- The account is kept by what each call of a state does.
use Rattle.std.proofs.Common.{false, ◌≡◌, ◌<◌, ◌++◌, ℕ, true, List, [], ◌∷◌, Option, reverse, map, set, get_or, replicate, refl, sym, ap, ◌∙◌, subst, append-nil}
use Rattle.spg_base.specs.Row.{RowAt, row_cmp}
use Rattle.spg_base.specs.declared.recorded.Origin.{Origin}
use Rattle.std.specs.BTreeSet.{contains}
use Rattle.spg_opclass.specs.Meaning.{Meaning}
use Rattle.spg_opclass.specs.Laws.{AddLaw, SplitLaw}
use Rattle.spg_rows.specs.declared.event.Event.{Event}
use Rattle.spg_rows.specs.declared.event.Event.TheVariants as event
use Rattle.spg_rows.specs.declared.event.Why.{Why}
use Rattle.spg_tree.specs.Table.{Table, start_table}
use Rattle.spg_tree.specs.Descents.{Descending}
use Rattle.spg_scan.specs.declared.walk.ReadOut.{ReadOut}
use Rattle.spg_scan.specs.declared.scan_copy.ScanCopy.{ScanCopy}
use Rattle.spg_opclass.specs.declared.copied.Copied.{Copied}
use Rattle.spg_descend.specs.Enters.{opened_for}
use Rattle.spg_seats.specs.Opening.{sweeps}
use Rattle.spg_seats.specs.Drops.{MayDrop}
use Rattle.spg_seats.specs.Slots.{Stage, free, descending, reading, sweeping, is_open, stage_in, horizon_of, Fields}
use Rattle.spg_core.specs.declared.answer.InsertOut.{InsertOut}
use Rattle.spg_core.specs.declared.answer.InsertOut.TheVariants as outs
use Rattle.spg_core.specs.declared.answer.VacuumOut.{VacuumOut}
use Rattle.spg_core.specs.declared.answer.VacuumOut.TheVariants as work
use Rattle.spg_core.specs.declared.slot.Slot.{Slot}
use Rattle.spg_core.specs.declared.slot.Slot.TheVariants.{Free, Insert, Scan, Vacuum}
use Rattle.spg_core.specs.declared.kept.Kept.TheInside.{Inside}
use Rattle.spg_core.specs.declared.sweeping.Stepped.{Stepped}
use Rattle.spg_core.specs.Slot.{stage_of}
use Rattle.spg_core.specs.Stage.{given_up}
use Rattle.spg_core.specs.Seen.{Seen, moved, logged, logged_all, untouched}
use Rattle.spg_core.specs.Kept.{fields_of, seen_of, IsState}
use Rattle.spg_core.specs.Operations.{StepsFrom}
use Rattle.spg_core.specs.Sweeping.{SweepsFrom, DoesWork}
use Rattle.spg_core.specs.Sections.{ReadsFor}
use Rattle.spg_core.specs.Looking.{CopiesFor, SiftsFor}
use Rattle.spg_core.specs.Telling.{IsButLatches}
use Rattle.spg_core.proofs.Slots.{seen_as, set_twice, stages_set, stage_set, stage_get, stages_new}
use Rattle.spg_core.proofs.Steps.{seats, low}
use Rattle.spg_core.proofs.Bounded.{Turns, IsNoInsert, still, goes_bounded, put_bounded, work_bounded, end_bounded, opens_bounded, frees_bounded, drops_bounded}
use Rattle.spg_bounds.specs.Bounds.{AreBounded, IsAccounted, DropsAreLate, IsBounded}
use Rattle.spg_bounds.specs.Promises.{KeepsPromises}
use Rattle.spg_bounds.proofs.Beginning.{new_bounded}
use Rattle.spg_bounds.proofs.Bounds.{bounds_of, Logs, opens, IsLateEvent, event_logged, none_logged}

module _ {O Key Recon Cond : Type 0} (m : Meaning Key Recon Cond) (s : Inside O Key Recon Cond) (I : IsState m s) (B : IsBounded m (fields_of s)) where
  abbrev shown : Fields O Key Recon Cond → Seen O Key Recon Cond
  shown s2 = seen_as s2.journal s2.stages s2.table s2.origin

  -- nothing that the account looks at changed
  pub same_bounded : (s2 : Fields O Key Recon Cond) → shown s2 ≡ seen_of s → IsBounded m s2
  same_bounded s2 e = record {
    account = subst (λ (v : Seen O Key Recon Cond). IsAccounted v.origin v.table (reverse v.journal) v.stages) (sym e) B.account;
    drops = subst (λ (v : Seen O Key Recon Cond). DropsAreLate v.origin (reverse v.journal)) (sym e) B.drops;
    promises = subst (λ (v : Seen O Key Recon Cond). (seat : ℕ) (key : Option Key) (d : Descending Recon) → stage_in v.stages seat ≡ descending key d → KeepsPromises m v.table d) (sym e) B.promises;
  }

  module _ (seen : Seen O Key Recon Cond) (view : seen_of s ≡ seen) where
    turned : (seat : ℕ) (stage : Stage O Key Recon Cond) (es : List (Event O Key Recon Cond)) (t : Table) (s2 : Fields O Key Recon Cond) → shown s2 ≡ logged_all seen seat es stage t → stage_in s2.stages seat ≡ stage → Turns m (fields_of s) s2 seat stage
    turned seat stage es t s2 e here = record {
      stages = ap (λ (v : Seen O Key Recon Cond). v.stages) e ∙ ap (λ (v : Seen O Key Recon Cond). set v.stages seat stage) (sym view);
      here = here;
      origin = ap (λ (v : Seen O Key Recon Cond). v.origin) e ∙ ap (λ (v : Seen O Key Recon Cond). v.origin) (sym view);
    }

    in_journal : (seat : ℕ) (stage : Stage O Key Recon Cond) (es : List (Event O Key Recon Cond)) (t : Table) (s2 : Fields O Key Recon Cond) → shown s2 ≡ logged_all seen seat es stage t → s2.journal ≡ s.journal.events ++ es
    in_journal seat stage es t s2 e = ap (λ (v : Seen O Key Recon Cond). v.journal) e ∙ ap (λ (v : Seen O Key Recon Cond). v.journal ++ es) (sym view)

    in_table : (seat : ℕ) (stage : Stage O Key Recon Cond) (es : List (Event O Key Recon Cond)) (s2 : Fields O Key Recon Cond) → shown s2 ≡ logged_all seen seat es stage (untouched seen.table) → s2.table ≡ untouched s.table
    in_table seat stage es s2 e = ap (λ (v : Seen O Key Recon Cond). v.table) e ∙ ap (λ (v : Seen O Key Recon Cond). untouched v.table) (sym view)

    -- an event that opens no insert, at a stage that is none
    pub quiet_bounded : (seat : ℕ) (stage : Stage O Key Recon Cond) (e : Event O Key Recon Cond) → IsNoInsert m stage → opens e ≡ 0 → IsLateEvent s.origin (reverse s.journal.events) e → (s2 : Fields O Key Recon Cond) → shown s2 ≡ logged seen seat e stage (untouched seen.table) → stage_in s2.stages seat ≡ stage → IsBounded m s2
    quiet_bounded seat stage e idle none late s2 eq here =
        still m (fields_of s) s2 seat stage I B idle (turned seat stage (e ∷ []) (untouched seen.table) s2 eq here) (in_table seat stage (e ∷ []) s2 eq)
        (subst (λ n. Logs (fields_of s) s2 n) none (event_logged (fields_of s) s2 e (in_journal seat stage (e ∷ []) (untouched seen.table) s2 eq) late))

    pub moved_bounded : (seat : ℕ) (stage : Stage O Key Recon Cond) → IsNoInsert m stage → (s2 : Fields O Key Recon Cond) → shown s2 ≡ moved seen seat stage (untouched seen.table) → stage_in s2.stages seat ≡ stage → IsBounded m s2
    moved_bounded seat stage idle s2 eq here =
        let all : shown s2 ≡ logged_all seen seat [] stage (untouched seen.table) = eq ∙ ap (λ j. record (moved seen seat stage (untouched seen.table)) { journal = j }) (sym (append-nil seen.journal)) in
        still m (fields_of s) s2 seat stage I B idle (turned seat stage [] (untouched seen.table) s2 all here) (in_table seat stage [] s2 all) (none_logged (fields_of s) s2 (in_journal seat stage [] (untouched seen.table) s2 all))

    pub open_bounded : (seat : ℕ) (row : RowAt) (key : Option Key) (s2 : Fields O Key Recon Cond) → shown s2 ≡ logged seen seat (event.OpenInsert seat row key) (descending key (opened_for m row key)) (untouched seen.table) → stage_in s2.stages seat ≡ descending key (opened_for m row key) → IsBounded m s2
    open_bounded seat row key s2 eq here =
        let stage : Stage O Key Recon Cond = descending key (opened_for m row key) in
        let es : List (Event O Key Recon Cond) = event.OpenInsert seat row key ∷ [] in
        opens_bounded m (fields_of s) s2 I B seat row key (turned seat stage es (untouched seen.table) s2 eq here) (in_table seat stage es s2 eq) (in_journal seat stage es (untouched seen.table) s2 eq)

    pub read_bounded : (seat item : ℕ) (out : ReadOut) (x : Stage O Key Recon Cond) (s2 : Fields O Key Recon Cond) → ReadsFor m seen (shown s2) seat item out x → IsBounded m s2
    read_bounded seat item out free s2 h = absurd h
    read_bounded seat item out (descending key d) s2 h = absurd h
    read_bounded seat item out (reading q) s2 (q2, table, states, R, eq, here) = moved_bounded seat (reading q2) tt s2 eq here
    read_bounded seat item out (sweeping v) s2 h = absurd h

    pub copy_bounded : (seat item : ℕ) (out : ScanCopy O Key Recon Cond) (x : Stage O Key Recon Cond) (s2 : Fields O Key Recon Cond) → CopiesFor m seen (shown s2) seat item out x → IsBounded m s2
    copy_bounded seat item out free s2 h = absurd h
    copy_bounded seat item out (descending key d) s2 h = absurd h
    copy_bounded seat item out (reading q) s2 (q2, table, states, R, eq, here) = moved_bounded seat (reading q2) tt s2 eq here
    copy_bounded seat item out (sweeping v) s2 h = absurd h

    pub sift_bounded : (seat item : ℕ) (copied : Copied O Key Recon Cond) (x : Stage O Key Recon Cond) (s2 : Fields O Key Recon Cond) → SiftsFor m seen (shown s2) seat item copied x → IsBounded m s2
    sift_bounded seat item copied free s2 h = absurd h
    sift_bounded seat item copied (descending key d) s2 h = absurd h
    sift_bounded seat item copied (reading q) s2 (q2, R, eq, here) = moved_bounded seat (reading q2) tt s2 eq here
    sift_bounded seat item copied (sweeping v) s2 h = absurd h

    pub told_bounds : AreBounded seen.origin seen.table (reverse seen.journal)
    told_bounds = subst (λ (v : Seen O Key Recon Cond). AreBounded v.origin v.table (reverse v.journal)) view (bounds_of s.origin s.table (reverse s.journal.events) (map stage_of s.slots.items) B.account)

    pub told_late : DropsAreLate seen.origin (reverse seen.journal)
    told_late = subst (λ (v : Seen O Key Recon Cond). DropsAreLate v.origin (reverse v.journal)) view B.drops

  -- ---- by the slots

  slots_turn : (seat : ℕ) (slot : Slot O Key Recon Cond) (slots : List (Slot O Key Recon Cond)) (s2 : Fields O Key Recon Cond) → s2.stages ≡ map stage_of slots → s2.origin ≡ s.origin → slots ≡ set s.slots.items seat slot → seat < 64 → Turns m (fields_of s) s2 seat (stage_of slot)
  slots_turn seat slot slots s2 e o is low = record {
    stages = e ∙ stages_set slots s.slots.items seat slot is;
    here = ap (λ (l : List (Stage O Key Recon Cond)). stage_in l seat) e ∙ stage_set slots s.slots.items seat slot is (seats m s I) low;
    origin = o;
  }

  inside : (seat : ℕ) (x : Slot O Key Recon Cond) → get_or s.slots.items seat Free ≡ x → is_open (stage_of x) ≡ true → seat < 64
  inside seat x here going = low m s I seat (ap (λ (x : Slot O Key Recon Cond). is_open (stage_of x)) here ∙ going)

  -- a section of an insert that goes on, and one that puts
  pub step_bounded : AddLaw m → SplitLaw m → (seat : ℕ) (x : Slot O Key Recon Cond) → get_or s.slots.items seat Free ≡ x → (out : InsertOut) → (out ≡ outs.Put → ⊥) → (slots : List (Slot O Key Recon Cond)) (s2 : Fields O Key Recon Cond) → StepsFrom m s.table s2.table s.slots.items slots seat out x →
      s2.stages ≡ map stage_of slots → s2.origin ≡ s.origin → s2.journal ≡ s.journal.events → IsBounded m s2
  step_bounded adds splits seat Free here out goes slots s2 h e o j = absurd h
  step_bounded adds splits seat (Scan q) here out goes slots s2 h e o j = absurd h
  step_bounded adds splits seat (Vacuum v) here out goes slots s2 h e o j = absurd h
  step_bounded adds splits seat (Insert key d) here out goes slots s2 (d2, items, S) e o j =
      goes_bounded m adds splits (fields_of s) s2 I B seat key d d2 (stage_get s.slots.items seat ∙ ap stage_of here) out goes S (slots_turn seat (Insert key d2) slots s2 e o items (inside seat (Insert key d) here refl)) (j ∙ sym (append-nil s.journal.events))

  pub puts_bounded : AddLaw m → SplitLaw m → (seat : ℕ) (x : Slot O Key Recon Cond) → get_or s.slots.items seat Free ≡ x → (row : RowAt) (between slots : List (Slot O Key Recon Cond)) (s2 : Fields O Key Recon Cond) → StepsFrom m s.table s2.table s.slots.items between seat outs.Put x →
      slots ≡ set between seat Free → s2.stages ≡ map stage_of slots → s2.origin ≡ s.origin → s2.journal ≡ s.journal.events ++ event.Put seat row ∷ [] → IsBounded m s2
  puts_bounded adds splits seat Free here row between slots s2 h ended e o j = absurd h
  puts_bounded adds splits seat (Scan q) here row between slots s2 h ended e o j = absurd h
  puts_bounded adds splits seat (Vacuum v) here row between slots s2 h ended e o j = absurd h
  puts_bounded adds splits seat (Insert key d) here row between slots s2 (d2, items, S) ended e o j =
      put_bounded m adds splits (fields_of s) s2 I B seat key d d2 (stage_get s.slots.items seat ∙ ap stage_of here) S (slots_turn seat Free slots s2 e o (set_twice s.slots.items between slots seat (Insert key d2) Free items ended) (inside seat (Insert key d) here refl)) row j

  -- a section of a vacuum
  pub sweep_bounded : (seat : ℕ) (x : Slot O Key Recon Cond) → get_or s.slots.items seat Free ≡ x → (stepped : Stepped) → ((count : ℕ) → stepped.out ≡ work.Finished count → ⊥) → (slots : List (Slot O Key Recon Cond)) (s2 : Fields O Key Recon Cond) → SweepsFrom m s.table s2.table s.slots.items slots (contains row_cmp s.targets.rows) seat stepped x →
      s2.stages ≡ map stage_of slots → s2.origin ≡ s.origin → s2.journal ≡ s.journal.events ++ sweeps seat stepped.rows → IsBounded m s2
  sweep_bounded seat Free here stepped goes slots s2 h e o j = absurd h
  sweep_bounded seat (Insert key d) here stepped goes slots s2 h e o j = absurd h
  sweep_bounded seat (Scan q) here stepped goes slots s2 h e o j = absurd h
  sweep_bounded seat (Vacuum v) here stepped goes slots s2 (v2, items, at, D, K) e o j =
      work_bounded m (fields_of s) s2 I B seat (horizon_of (map stage_of s.slots.items) v.stamp) v v2 stepped.rows stepped.out goes D K (slots_turn seat (Vacuum v2) slots s2 e o items (inside seat (Vacuum v) here refl)) j

  pub latched_bounded : (seat : ℕ) (x : Slot O Key Recon Cond) → get_or s.slots.items seat Free ≡ x → (stepped : Stepped) (block by : ℕ) → stepped.out ≡ work.Latched block by → (slots : List (Slot O Key Recon Cond)) (s2 : Fields O Key Recon Cond) → SweepsFrom m s.table s2.table s.slots.items slots (contains row_cmp s.targets.rows) seat stepped x →
      s2.stages ≡ map stage_of slots → s2.origin ≡ s.origin → s2.journal ≡ s.journal.events → IsBounded m s2
  latched_bounded seat Free here stepped block by is slots s2 h e o j = absurd h
  latched_bounded seat (Insert key d) here stepped block by is slots s2 h e o j = absurd h
  latched_bounded seat (Scan q) here stepped block by is slots s2 h e o j = absurd h
  latched_bounded seat (Vacuum v) here stepped block by is slots s2 (v2, items, at, D, K) e o j =
      let none : stepped.rows ≡ [] = (subst (λ (z : VacuumOut). DoesWork s.table s2.table v v2 (contains row_cmp s.targets.rows) (horizon_of (map stage_of s.slots.items) v.stamp) seat z stepped.rows) is D).0 in
      sweep_bounded seat (Vacuum v) here stepped (λ count f. cc (sym is ∙ f)) slots s2 (v2, items, at, D, K) e o
      (j ∙ sym (ap (λ (l : List RowAt). s.journal.events ++ sweeps seat l) none ∙ append-nil s.journal.events))

  pub finish_bounded : (seat : ℕ) (x : Slot O Key Recon Cond) → get_or s.slots.items seat Free ≡ x → (stepped : Stepped) (count : ℕ) → stepped.out ≡ work.Finished count → (between slots : List (Slot O Key Recon Cond)) (s2 : Fields O Key Recon Cond) → SweepsFrom m s.table s2.table s.slots.items between (contains row_cmp s.targets.rows) seat stepped x →
      slots ≡ set between seat Free → s2.stages ≡ map stage_of slots → s2.origin ≡ s.origin → s2.journal ≡ s.journal.events ++ event.CloseVacuum seat count ∷ [] → IsBounded m s2
  finish_bounded seat Free here stepped count is between slots s2 h ended e o j = absurd h
  finish_bounded seat (Insert key d) here stepped count is between slots s2 h ended e o j = absurd h
  finish_bounded seat (Scan q) here stepped count is between slots s2 h ended e o j = absurd h
  finish_bounded seat (Vacuum v) here stepped count is between slots s2 (v2, items, at, D, K) ended e o j =
      end_bounded m (fields_of s) s2 I B seat (horizon_of (map stage_of s.slots.items) v.stamp) v v2 stepped.rows count
      (subst (λ (z : VacuumOut). DoesWork s.table s2.table v v2 (contains row_cmp s.targets.rows) (horizon_of (map stage_of s.slots.items) v.stamp) seat z stepped.rows) is D) (slots_turn seat Free slots s2 e o (set_twice s.slots.items between slots seat (Vacuum v2) Free items ended) (inside seat (Vacuum v) here refl)) j

  -- an operation that is given up
  pub gives_bounded : (seat : ℕ) (x : Stage O Key Recon Cond) (why : Why) (t : Table) → IsButLatches s.table t → MayDrop s.table why → (slots : List (Slot O Key Recon Cond)) (s2 : Fields O Key Recon Cond) → slots ≡ set s.slots.items seat Free → seat < 64 → s2.stages ≡ map stage_of slots → s2.origin ≡ s.origin →
      s2.table ≡ untouched t → s2.journal ≡ s.journal.events ++ given_up seat x why ∷ [] → IsBounded m s2
  gives_bounded seat free why t but may slots s2 items low e o is j = frees_bounded m (fields_of s) s2 I B seat (event.Leave seat) refl tt (slots_turn seat Free slots s2 e o items low) t but is j
  gives_bounded seat (descending key d) why t but may slots s2 items low e o is j = drops_bounded m (fields_of s) s2 I B seat d.row why may (slots_turn seat Free slots s2 e o items low) t but is j
  gives_bounded seat (reading q) why t but may slots s2 items low e o is j = frees_bounded m (fields_of s) s2 I B seat (event.Leave seat) refl tt (slots_turn seat Free slots s2 e o items low) t but is j
  gives_bounded seat (sweeping v) why t but may slots s2 items low e o is j = frees_bounded m (fields_of s) s2 I B seat (event.Leave seat) refl tt (slots_turn seat Free slots s2 e o items low) t but is j

-- a new state
pub new_account : {O Key Recon Cond : Type 0} (m : Meaning Key Recon Cond) (s : Inside O Key Recon Cond) (limit : ℕ) → s.origin ≡ record { limit = limit; pages = 3; clock = 0; loaded = false } → s.journal.events ≡ [] → s.slots.items ≡ replicate 64 Free → s.table ≡ start_table limit → IsBounded m (fields_of s)
new_account {O} {Key} {Recon} {Cond} m s limit origin_is events slots table =
    let B = new_bounded {O = O} m limit in
    let old : Seen O Key Recon Cond = seen_as [] (replicate 64 free) (start_table limit) (record { limit = limit; pages = 3; clock = 0; loaded = false }) in
    let e : seen_of s ≡ old =
    ap (λ j. seen_as j (map stage_of s.slots.items) s.table s.origin) events
    ∙ ap (λ (l : List (Slot O Key Recon Cond)). seen_as [] (map stage_of l) s.table s.origin) slots
    ∙ ap (λ (l : List (Stage O Key Recon Cond)). seen_as [] l s.table s.origin) (stages_new 64)
    ∙ ap (λ (t : Table). seen_as [] (replicate 64 free) t s.origin) table
    ∙ ap (λ (o : Origin). seen_as [] (replicate 64 free) (start_table limit) o) origin_is in
    record {
      account = subst (λ (v : Seen O Key Recon Cond). IsAccounted v.origin v.table (reverse v.journal) v.stages) (sym e) B.account;
      drops = subst (λ (v : Seen O Key Recon Cond). DropsAreLate v.origin (reverse v.journal)) (sym e) B.drops;
      promises = subst (λ (v : Seen O Key Recon Cond). (seat : ℕ) (key : Option Key) (d : Descending Recon) → stage_in v.stages seat ≡ descending key d → KeepsPromises m v.table d) (sym e) B.promises;
    }
