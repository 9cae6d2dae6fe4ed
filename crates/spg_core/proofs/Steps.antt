-- What the fields of a state keep: more room, the same pages and slots, and what each seat may do.
use Rattle.std.proofs.Common.{◌≡◌, ◌<◌, ◌≤◌, ◌+◌, inl, inr, ℕ, zero, suc, Bool, true, false, List, [], ◌∷◌, length, get_or, set, reverse, replicate, map, Option, None, Vec, is_some, refl, sym, ap, ◌∙◌, subst, arith}
use Rattle.std.proofs.Common.{Result, Ok, Err}
use Rattle.std.specs.Result.{OnOk, OnErr, IsErrAnd}
use Rattle.std.proofs.lemmas.Bool.{false≢true}
use Rattle.std.specs.BTreeSet.{contains, IsEmpty, IsUnchanged}
use Rattle.std.specs.declared.alloc.Global.{Global}
use Rattle.spg_base.specs.Row.{RowAt, row_cmp}
use Rattle.spg_base.specs.declared.row_set.RowSet.{RowSet}
use Rattle.spg_base.specs.declared.recorded.Origin.{Origin}
use Rattle.spg_opclass.specs.Meaning.{Meaning}
use Rattle.spg_forest.specs.Pages.{IsFresh}
use Rattle.spg_forest.specs.Shape.{spots}
use Rattle.spg_rows.specs.declared.event.Event.{Event}
use Rattle.spg_rows.specs.declared.table.RowState.TheVariants as row_state
use Rattle.spg_rows.specs.History.{Written, History, nothing, inserting, open_of}
use Rattle.spg_rows.specs.Rows.{is_claimed, held_by}
use Rattle.spg_rows.specs.Told.{IsUsed, StateTells}
use Rattle.spg_rows.specs.Vacuums.{find_end}
use Rattle.spg_rows.specs.Table.{Table, state_in, CanClaim}
use Rattle.spg_rows.specs.declared.table.RowState.{RowState}
use Rattle.spg_rows.proofs.Histories.{Sane, sane_from_legal}
use Rattle.spg_rows.proofs.Told.{states_tell}
use Rattle.spg_tree.specs.Table as pages
use Rattle.spg_tree.specs.Table.{sheets_of, latch_at}
use Rattle.spg_seats.specs.Slots.{Stage, free, stage_in, is_open, open_count, StageFits, stage_holds, Fields, IsKept}
use Rattle.spg_seats.specs.Latching.{AreHeld, rest_of}
use Rattle.spg_seats.specs.Opening.{new_fields, SameRows}
use Rattle.spg_seats.specs.Waiting.{waits_by}
use Rattle.spg_seats.proofs.Waiting.{waits_tell}
use Rattle.spg_seats.proofs.Beginning.{new_kept}
use Rattle.spg_seats.proofs.Slots.{more_room}
use Rattle.spg_seats.proofs.Holding.{latches_law}
use Rattle.spg_core.specs.declared.slot.Slot.{Slot}
use Rattle.spg_core.specs.declared.slot.Slot.TheVariants.{Free}
use Rattle.spg_core.specs.declared.kept.Kept.TheInside.{Inside}
use Rattle.spg_core.specs.Slot.{stage_of}
use Rattle.spg_core.specs.Kept.{fields_of, seen_of, IsState}
use Rattle.spg_core.specs.Waiting.{is_used}
use Rattle.spg_core.specs.Seen.{Seen, past_of, stage_at}
use Rattle.spg_core.proofs.Slots.{stage_get, stages_set, stages_count, open_count-closed, open_count-set-le, stages_new}
use Rattle.spg_core.proofs.Keeping.{fresh_row}

-- whether a set with these rows has a row
abbrev pub rows_in : List RowAt → RowAt → Bool
rows_in keys = contains row_cmp (record { keys = keys })

-- latches that are as they were
pub held_on : (t t2 : pages.Table) (seat : ℕ) (rest : ℕ → Option ℕ) (holds : ℕ → Bool) → ((b : ℕ) → latch_at t2 b ≡ latch_at t b) → AreHeld t seat rest holds → AreHeld t2 seat rest holds
held_on t t2 seat rest holds same h = record { latch = λ b. same b ∙ h.latch b; free = h.free; others = h.others }

-- a seat that has something open is one of the seats
pub open_within : {O Key Recon Cond : Type 0} (stages : List (Stage O Key Recon Cond)) (seat : ℕ) → is_open (get_or stages seat free) ≡ true → seat < length stages
open_within [] seat was = absurd (false≢true was)
open_within (x ∷ xs) zero was = omega arith
open_within (x ∷ xs) (suc seat) was = omega (arith, open_within xs seat was)

module _ {O Key Recon Cond : Type 0} (m : Meaning Key Recon Cond) where
  -- the state with these fields
  abbrev pub with_all : Inside O Key Recon Cond → pages.Table → Table O Key Recon Cond → Vec (Slot O Key Recon Cond) Global → Written O Key Recon Cond → List (ℕ × Option ℕ) → RowSet → RowSet → Inside O Key Recon Cond
  with_all s table rows slots journal vacuums targets later = record { alloc = s.alloc; table = table; rows = rows; slots = slots; journal = journal; vacuums = vacuums; targets = targets; later = later; origin = s.origin }

  abbrev pub with_fields : Inside O Key Recon Cond → pages.Table → Table O Key Recon Cond → Vec (Slot O Key Recon Cond) Global → Written O Key Recon Cond → Inside O Key Recon Cond
  with_fields s table rows slots journal = with_all s table rows slots journal s.vacuums s.targets s.later

  abbrev fields_as : List (Event O Key Recon Cond) → ℕ → List (Stage O Key Recon Cond) → pages.Table → Table O Key Recon Cond → (RowAt → Bool) → (RowAt → Bool) → List (ℕ × Option ℕ) → Origin → Fields O Key Recon Cond
  fields_as journal spare stages table rows targets later vacuums origin = record { journal = journal; spare = spare; stages = stages; table = table; rows = rows; targets = targets; later = later; vacuums = vacuums; origin = origin }

  -- nothing of rows and vacuums changes
  pub same_rows : (s : Inside O Key Recon Cond) (table : pages.Table) (slots : Vec (Slot O Key Recon Cond) Global) (journal : Written O Key Recon Cond) → SameRows (fields_of s) (fields_of (with_fields s table s.rows slots journal))
  same_rows s table slots journal = record { rows = refl; targets = λ r. refl; later = λ r. refl; vacuums = refl }

  -- more room, and nothing else
  pub kept_with : (s : Inside O Key Recon Cond) → IsState m s → (rows : Table O Key Recon Cond) (journal : Written O Key Recon Cond) → rows ≡ s.rows → journal.events ≡ s.journal.events → s.journal.spare ≤ journal.spare
      → IsState m (with_fields s s.table rows s.slots journal)
  kept_with s I rows journal rows_same events_are room =
      let T = fields_of s in
      let same : fields_of (with_fields s s.table rows s.slots journal) ≡ record (fields_of s) { spare = journal.spare } =
      ap (λ j. fields_as j journal.spare T.stages s.table rows T.targets T.later T.vacuums s.origin) events_are ∙ ap (λ r. fields_as s.journal.events journal.spare T.stages s.table r T.targets T.later T.vacuums s.origin) rows_same in
      subst (IsKept m) (sym same) (more_room m (fields_of s) journal.spare room I)

  -- the same rows in the set of those that were killed later
  pub kept_later : (s : Inside O Key Recon Cond) → IsState m s → (later : RowSet) → IsUnchanged s.later.rows later.rows → IsState m (with_all s s.table s.rows s.slots s.journal s.vacuums s.targets later)
  kept_later s I later same =
      let T = fields_of s in
      let e : fields_of (with_all s s.table s.rows s.slots s.journal s.vacuums s.targets later) ≡ fields_of s = ap (λ ks. fields_as s.journal.events s.journal.spare T.stages s.table s.rows T.targets (rows_in ks) T.vacuums s.origin) same in
      subst (IsKept m) (sym e) I

  -- the same table and slots
  pub kept_same : (s : Inside O Key Recon Cond) → IsState m s → (table : pages.Table) (slots : Vec (Slot O Key Recon Cond) Global) → table ≡ s.table → slots.items ≡ s.slots.items → IsState m (with_fields s table s.rows slots s.journal)
  kept_same s I table slots same items =
      let T = fields_of s in
      let e : fields_of (with_fields s table s.rows slots s.journal) ≡ fields_of s =
      ap (λ (l : List (Slot O Key Recon Cond)). fields_as s.journal.events s.journal.spare (map stage_of l) table s.rows T.targets T.later T.vacuums s.origin) items ∙ ap (λ (t : pages.Table). fields_as s.journal.events s.journal.spare T.stages t s.rows T.targets T.later T.vacuums s.origin) same in
      subst (IsKept m) (sym e) I

  module _ (s : Inside O Key Recon Cond) (I : IsState m s) where
    abbrev pub past : History O Key Recon Cond
    past = reverse s.journal.events

    abbrev pub stages : List (Stage O Key Recon Cond)
    stages = map stage_of s.slots.items

    pub sane : Sane past
    sane = sane_from_legal past I.right.legal

    pub seats : length s.slots.items ≡ 64
    seats = stages_count s.slots.items ∙ I.seats

    -- what a seat has open, and what it has latched
    pub fits : (seat : ℕ) → StageFits m s.table past seat (stage_of (get_or s.slots.items seat Free))
    fits seat = subst (λ (x : Stage O Key Recon Cond). StageFits m s.table past seat x) (stage_get s.slots.items seat) (I.stages seat)

    -- as callers see it
    pub seen_fits : (seen : Seen O Key Recon Cond) → seen_of s ≡ seen → (seat : ℕ) → StageFits m seen.table (past_of seen) seat (stage_at seen seat)
    seen_fits seen view seat = subst (λ (v : Seen O Key Recon Cond). StageFits m v.table (past_of v) seat (stage_at v seat)) view (I.stages seat)

    pub held : (seat : ℕ) → AreHeld s.table seat (rest_of s.table seat) (stage_holds (stage_of (get_or s.slots.items seat Free)))
    held seat = subst (λ (x : Stage O Key Recon Cond). AreHeld s.table seat (rest_of s.table seat) (stage_holds x)) (stage_get s.slots.items seat)
        ((latches_law O Key Recon Cond).begins s.table seat (stage_holds (stage_in stages seat)) (I.latches seat))

    -- a seat that has nothing open has nothing latched
    pub free_held : (seat : ℕ) → stage_of (get_or s.slots.items seat Free) ≡ free → AreHeld s.table seat (rest_of s.table seat) (λ b. false)
    free_held seat is = subst (λ (x : Stage O Key Recon Cond). AreHeld s.table seat (rest_of s.table seat) (stage_holds x)) is (held seat)

    pub free_open : (seat : ℕ) → stage_of (get_or s.slots.items seat Free) ≡ free → open_of seat past ≡ nothing
    free_open seat is = subst (λ (x : Stage O Key Recon Cond). StageFits m s.table past seat x) is (fits seat)

    pub low : (seat : ℕ) → is_open (stage_of (get_or s.slots.items seat Free)) ≡ true → seat < 64
    low seat was = omega (arith, I.seats, open_within stages seat (ap is_open (stage_get s.slots.items seat) ∙ was))

    -- ---- room for the events that end what is open

    -- room is left for the event that ends an operation
    pub room_left : (seat : ℕ) → is_open (stage_of (get_or s.slots.items seat Free)) ≡ true → 0 < s.journal.spare
    room_left seat was = omega (arith, I.tells.room, open_count-closed stages seat (ap is_open (stage_get s.slots.items seat) ∙ was))

    -- the operation goes on
    pub room_on : (seat : ℕ) (slot : Slot O Key Recon Cond) (slots : List (Slot O Key Recon Cond)) → slots ≡ set s.slots.items seat slot → is_open (stage_of (get_or s.slots.items seat Free)) ≡ true → open_count (map stage_of slots) ≤ s.journal.spare
    room_on seat slot slots are was = omega (arith, I.tells.room, ap open_count (stages_set slots s.slots.items seat slot are), open_count-set-le stages seat (stage_of slot) (ap is_open (stage_get s.slots.items seat) ∙ was))

    -- an event that ends the seat's operation
    pub room_ended : (seat : ℕ) (slots : List (Slot O Key Recon Cond)) (spare : ℕ) → slots ≡ set s.slots.items seat Free → spare + 1 ≡ s.journal.spare → is_open (stage_of (get_or s.slots.items seat Free)) ≡ true → open_count (map stage_of slots) ≤ spare
    room_ended seat slots spare are less was = omega (arith, I.tells.room, less, ap open_count (stages_set slots s.slots.items seat Free are), open_count-closed stages seat (ap is_open (stage_get s.slots.items seat) ∙ was))

    -- ---- the states of rows

    -- what the state of a row says of an insert of it
    tells : (row : RowAt) → StateTells past row (state_in s.rows row)
    tells row = subst (λ (x : RowState). StateTells past row x) (sym (I.tells.states row)) (states_tell past I.right.legal row)

    -- a row of which an insert is open, or that is there, is used
    pub used_row : (row : RowAt) → is_used (state_in s.rows row) ≡ true → IsUsed past row
    used_row row = go (state_in s.rows row) (tells row)
      where
        go : (state : RowState) → StateTells past row state → is_used state ≡ true → IsUsed past row
        go row_state.Free told is = absurd (false≢true is)
        go row_state.Claimed told is = told
        go row_state.Live told is = told
        go (row_state.Killed at) told is = told
        go (row_state.Swept vacuum) told is = absurd (false≢true is)

    -- another row is not claimed, where it waits for nobody
    pub unclaimed_row : (row : RowAt) → is_used (state_in s.rows row) ≡ false → held_by row past ≡ None → is_claimed row past ≡ false
    unclaimed_row row = go (state_in s.rows row) (tells row)
      where
        go : (state : RowState) → StateTells past row state → is_used state ≡ false → held_by row past ≡ None → is_claimed row past ≡ false
        go row_state.Free told is none = told.0
        go row_state.Claimed told is none = absurd (false≢true (sym is))
        go row_state.Live told is none = absurd (false≢true (sym is))
        go (row_state.Killed at) told is none = absurd (false≢true (sym is))
        go (row_state.Swept vacuum) told is none = told.0 ∙ ap is_some none

    -- the table takes an insert of it
    pub can_claim : (row : RowAt) → is_used (state_in s.rows row) ≡ false → CanClaim s.rows row
    can_claim row = go (state_in s.rows row) refl
      where
        go : (state : RowState) → state_in s.rows row ≡ state → is_used state ≡ false → CanClaim s.rows row
        go row_state.Free e is = inl e
        go row_state.Claimed e is = absurd (false≢true (sym is))
        go row_state.Live e is = absurd (false≢true (sym is))
        go (row_state.Killed at) e is = absurd (false≢true (sym is))
        go (row_state.Swept vacuum) e is = inr (vacuum, e)

    -- whom a row waits for, where it was swept
    pub swept_waits : (row : RowAt) (vacuum : ℕ) → state_in s.rows row ≡ row_state.Swept vacuum → held_by row past ≡ waits_by (find_end vacuum s.vacuums) stages
    swept_waits row vacuum is = waits_tell O Key Recon Cond m (fields_of s) row vacuum I (sym (I.tells.states row) ∙ is)

    -- another row waits for nobody
    pub others_wait : (row : RowAt) → ((vacuum : ℕ) → state_in s.rows row ≡ row_state.Swept vacuum → ⊥) → held_by row past ≡ None
    others_wait row = go (state_in s.rows row) (tells row)
      where
        go : (state : RowState) → StateTells past row state → ((vacuum : ℕ) → state ≡ row_state.Swept vacuum → ⊥) → held_by row past ≡ None
        go row_state.Free told apart = told.1
        go row_state.Claimed told apart = told.1
        go row_state.Live told apart = told.1
        go (row_state.Killed at) told apart = told.1
        go (row_state.Swept vacuum) told apart = absurd (apart vacuum refl)

    -- the row of an open insert is claimed in the table
    pub insert_claimed : (seat : ℕ) (row : RowAt) (key : Option Key) → open_of seat past ≡ inserting row key → state_in s.rows row ≡ row_state.Claimed
    insert_claimed seat row key has = I.tells.states row ∙ (sane.inserts seat row key has).state

    -- a row that is not claimed is no leaf's
    pub unclaimed_fresh : (row : RowAt) → is_claimed row past ≡ false → IsFresh (spots (sheets_of s.table)) row
    unclaimed_fresh row unclaimed = fresh_row m (fields_of s) I row unclaimed

-- what holds in any case holds of an error
pub on_err : {T E P : Type 0} (r : Result T E) → P → OnErr r P
on_err (Ok x) p = tt
on_err (Err e) p = p

-- what holds of a value says nothing of an error
pub no_ok : {T E : Type 0} (P : Type 0) (Q : E → Type 0) (r : Result T E) → IsErrAnd r Q → OnOk r P
no_ok P Q (Ok x) h = absurd h
no_ok P Q (Err e) h = tt

-- a new state
pub new_state : {O Key Recon Cond : Type 0} (m : Meaning Key Recon Cond) (s : Inside O Key Recon Cond) (limit : ℕ) → s.origin ≡ record { limit = limit; pages = 3; clock = 0; loaded = false } → s.journal.events ≡ [] → s.slots.items ≡ replicate 64 Free → s.table ≡ pages.start_table limit → s.rows ≡ [] →
    s.vacuums ≡ [] → IsEmpty s.targets.rows → IsEmpty s.later.rows → IsState m s
new_state {O} {Key} {Recon} {Cond} m s limit origin_is events slots table rows vacuums targets later =
    let T = fields_of s in
    let none : RowAt → Bool = λ r. false in
    let f : Fields O Key Recon Cond = fields_as m [] s.journal.spare (replicate 64 free) (pages.start_table limit) [] none none [] (record { limit = limit; pages = 3; clock = 0; loaded = false }) in
    let e : fields_of s ≡ f =
    ap (λ j. fields_as m j s.journal.spare T.stages s.table s.rows T.targets T.later T.vacuums s.origin) events
    ∙ ap (λ (l : List (Slot O Key Recon Cond)). fields_as m [] s.journal.spare (map stage_of l) s.table s.rows T.targets T.later T.vacuums s.origin) slots
    ∙ ap (λ (l : List (Stage O Key Recon Cond)). fields_as m [] s.journal.spare l s.table s.rows T.targets T.later T.vacuums s.origin) (stages_new 64)
    ∙ ap (λ (t : pages.Table). fields_as m [] s.journal.spare (replicate 64 free) t s.rows T.targets T.later T.vacuums s.origin) table
    ∙ ap (λ (r : Table O Key Recon Cond). fields_as m [] s.journal.spare (replicate 64 free) (pages.start_table limit) r T.targets T.later T.vacuums s.origin) rows
    ∙ ap (λ ks. fields_as m [] s.journal.spare (replicate 64 free) (pages.start_table limit) [] (rows_in ks) T.later T.vacuums s.origin) targets
    ∙ ap (λ ks. fields_as m [] s.journal.spare (replicate 64 free) (pages.start_table limit) [] none (rows_in ks) T.vacuums s.origin) later
    ∙ ap (λ (v : List (ℕ × Option ℕ)). fields_as m [] s.journal.spare (replicate 64 free) (pages.start_table limit) [] none none v s.origin) vacuums
    ∙ ap (λ (o : Origin). fields_as m [] s.journal.spare (replicate 64 free) (pages.start_table limit) [] none none [] o) origin_is in
    subst (IsKept m) (sym e) (more_room m (new_fields limit) s.journal.spare (omega arith) (new_kept m limit))
