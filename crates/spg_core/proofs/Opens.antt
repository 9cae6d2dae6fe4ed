-- An insert that opens, a row that is killed, and an operation that is given up.
use Rattle.std.proofs.Common.{◌≡◌, ◌<◌, ◌≤◌, ◌+◌, ◌∷◌, ◌++◌, [], ℕ, Bool, true, false, cond, List, length, get_or, map, Option, Some, None, Vec, set, refl, sym, ap, ◌∙◌, subst, arith}
use Rattle.std.specs.declared.alloc.Global.{Global}
use Rattle.std.proofs.lemmas.Bool.{false≢true}
use Rattle.std.proofs.lemmas.List.{length-reverse, length-set}
use Rattle.std.specs.BTreeSet.{Updates}
use Rattle.spg_base.specs.Row.{RowAt, row_cmp}
use Rattle.spg_base.specs.declared.row_set.RowSet.{RowSet}
use Rattle.spg_rows.specs.Vacuums.{newest_ends}
use Rattle.spg_opclass.specs.Meaning.{Meaning}
use Rattle.spg_rows.specs.declared.event.Event.{Event}
use Rattle.spg_rows.specs.declared.event.Event.TheVariants.{OpenInsert, Kill}
use Rattle.spg_rows.specs.declared.event.Why.{Why}
use Rattle.spg_rows.specs.declared.event.Why.TheVariants as cause
use Rattle.spg_rows.specs.declared.table.RowState.TheVariants as row_state
use Rattle.spg_rows.specs.History.{Written}
use Rattle.spg_rows.specs.Lives.{Life, lives}
use Rattle.spg_rows.specs.Rows.{live_in, is_claimed, is_live, state_of}
use Rattle.spg_rows.specs.States.{StateSays}
use Rattle.spg_rows.specs.declared.table.RowState.{RowState}
use Rattle.spg_rows.specs.Table.{Table, state_in, SetsState, SetsKey, SameKeys}
use Rattle.spg_tree.specs.Table as pages
use Rattle.spg_tree.specs.Table.{sheets_of, latch_at, with_latch}
use Rattle.spg_tree.specs.Descents.{Descending, in_nulls}
use Rattle.spg_descend.specs.Enters.{opened_for, CarriesNew}
use Rattle.spg_descend.specs.Leaves.{released, is_held}
use Rattle.spg_seats.specs.Descending.{Stands}
use Rattle.spg_seats.specs.Drops.{MayDrop}
use Rattle.spg_seats.specs.Latching.{HoldsNone, InsertHolds, rest_of}
use Rattle.spg_seats.specs.Slots.{free, descending, is_open, open_count, stage_in, stage_holds, StageFits}
use Rattle.spg_seats.proofs.Calls as calls
use Rattle.spg_seats.proofs.VacuumCalls as vacuum_calls
use Rattle.spg_seats.proofs.Holding.{latches_law}
use Rattle.spg_core.specs.declared.slot.Slot.{Slot}
use Rattle.spg_core.specs.declared.slot.Slot.TheVariants.{Free, Insert, Scan, Vacuum}
use Rattle.spg_core.specs.declared.kept.Kept.TheInside.{Inside}
use Rattle.spg_core.specs.Slot.{stage_of, GivesBack, ended_with}
use Rattle.spg_core.specs.Stage.{Stage, MayGiveUp, given_up}
use Rattle.spg_core.specs.Seen.{Seen, stage_at, past_of, logged, untouched}
use Rattle.spg_core.specs.Operations.{CanRelease}
use Rattle.spg_core.specs.Sections.{HasNone, OthersHold, IsReleased, KillsRow}
use Rattle.spg_core.specs.Telling.{IsButLatches}
use Rattle.spg_core.specs.Kept.{fields_of, seen_of, IsState}
use Rattle.spg_core.proofs.Stands.{here_there, above_there}
use Rattle.spg_core.proofs.Slots.{seen_as, past_is, set_itself, stages_set, stage_set, stage_get, open_count-all}
use Rattle.spg_core.proofs.Steps.{with_all, with_fields, held_on, past, stages, sane, seats, fits, free_held, free_open, room_ended, insert_claimed, unclaimed_fresh, low}

-- a row in the state of one that is live is live
pub live_state : {Key : Type 0} (state : RowState) (ls : List (Life Key)) → StateSays state ls → state ≡ row_state.Live → live_in ls ≡ true
live_state {Key} state ls says is = go ls (subst (λ (x : RowState). StateSays x ls) is says)
  where
    go : (ls : List (Life Key)) → StateSays row_state.Live ls → live_in ls ≡ true
    go [] h = absurd h
    go (l ∷ ls) (put, h) = rw (h.put, h.kill) refl

-- ---- latches that are given free

but_released : (t : pages.Table) (block : Option ℕ) (seat : ℕ) → IsButLatches t (released t block seat)
but_released t None seat = refl
but_released t (Some b) seat = go (is_held (latch_at t b) seat)
  where
    go : (k : Bool) → IsButLatches t (cond k (with_latch t b None) t)
    go true = refl
    go false = refl

pub but_freed : (t : pages.Table) (here above : Option ℕ) (seat : ℕ) → IsButLatches t (released (released t here seat) above seat)
but_freed t here above seat =
    let one = released t here seat in
    let two = released one above seat in
    but_released one above seat ∙ ap (λ (x : pages.Table). record x { latches = two.latches }) (but_released t here seat)

-- but for latches the pages are as they were, with none touched
pub but_untouched : (t t2 : pages.Table) → IsButLatches t t2 → IsReleased t (untouched t2)
but_untouched t t2 but = ap (λ (x : pages.Table). untouched x) but

-- the seat has nothing latched then, and the others have what they had
pub none_left_of : (t t2 : pages.Table) (seat : ℕ) → HoldsNone t2 seat (rest_of t seat) → HasNone (untouched t2) seat
none_left_of t t2 seat h b e = h.others b (sym (h.latch b) ∙ e)

pub others_left : (t t2 : pages.Table) (seat : ℕ) → HoldsNone t2 seat (rest_of t seat) → OthersHold t (untouched t2) seat
others_left t t2 seat h = (latches_law (Unit {0}) (Unit {0}) (Unit {0}) (Unit {0})).stay t (untouched t2) seat (λ b. false) (held_on t2 (untouched t2) seat (rest_of t seat) (λ b. false) (λ b. refl) h)

module _ {O Key Recon Cond : Type 0} where
  -- a slot without an insert holds nothing
  pub none_by : (slot : Slot O Key Recon Cond) → ((key : Option Key) (d : Descending Recon) → slot ≡ Insert key d → ⊥) → (b : ℕ) → stage_holds (stage_of slot) b ≡ false
  none_by Free apart b = refl
  none_by (Insert key d) apart b = absurd (apart key d refl)
  none_by (Scan s) apart b = refl
  none_by (Vacuum v) apart b = refl

pub opened_row : {Key Recon Cond : Type 0} (m : Meaning Key Recon Cond) (row : RowAt) (key : Option Key) → (opened_for m row key).row ≡ row
opened_row m row None = refl
opened_row m row (Some k) = refl

pub opened_stands : {Key Recon Cond : Type 0} (m : Meaning Key Recon Cond) (t : pages.Table) (row : RowAt) (key : Option Key) → Stands t (opened_for m row key)
opened_stands m t row None = refl
opened_stands m t row (Some k) = refl

-- at its start an insert holds nothing
pub opened_holds : {Key Recon Cond : Type 0} (m : Meaning Key Recon Cond) (t : pages.Table) (seat : ℕ) (rest : ℕ → Option ℕ) (row : RowAt) (key : Option Key) → HoldsNone t seat rest → InsertHolds t seat rest (opened_for m row key)
opened_holds m t seat rest row None none = none
opened_holds m t seat rest row (Some k) none = none

module _ {O Key Recon Cond : Type 0} (m : Meaning Key Recon Cond) (s : Inside O Key Recon Cond) (I : IsState m s) (seat : ℕ) where
  -- room for all seats' last events
  pub room_for_all : (slots : List (Slot O Key Recon Cond)) (spare after : ℕ) (slot : Slot O Key Recon Cond) → slots ≡ set s.slots.items seat slot → 65 ≤ spare → after + 1 ≡ spare → open_count (map stage_of slots) ≤ after
  room_for_all slots spare after slot are some less =
      let e : map stage_of slots ≡ set (stages m s I) seat (stage_of slot) = stages_set slots s.slots.items seat slot are in
      omega (arith, open_count-all (map stage_of slots) (ap length e ∙ length-set (stages m s I) seat (stage_of slot) ∙ I.seats), some, less)

  -- ---- an insert opens

  pub insert_opens : (row : RowAt) (key : Option Key) (d : Descending Recon) (rows : Table O Key Recon Cond) (slots : Vec (Slot O Key Recon Cond) Global) (journal : Written O Key Recon Cond) → d ≡ opened_for m row key → CarriesNew m d key → is_claimed row (past m s I) ≡ false
      → stage_of (get_or s.slots.items seat Free) ≡ free → seat < 64 → slots.items ≡ set s.slots.items seat (Insert key d) → journal.events ≡ s.journal.events ++ OpenInsert seat row key ∷ [] → SetsState s.rows rows row row_state.Claimed → SetsKey s.rows rows row (Some key) → open_count (map stage_of slots.items) ≤ journal.spare
      → IsState m (with_fields m s (untouched s.table) rows slots journal)
  insert_opens row key d rows slots journal e carries unclaimed none within items events states keys room =
      let of : d.row ≡ row = ap (λ (z : Descending Recon). z.row) e ∙ opened_row m row key in
      calls.kept_opens_insert
      m
      (fields_of s)
      (fields_of (with_fields m s (untouched s.table) rows slots journal))
      seat
      (descending key d)
      I
      (stages_set slots.items s.slots.items seat (Insert key d) items)
      (stage_set slots.items s.slots.items seat (Insert key d) items (seats m s I) within)
      (held_on s.table (untouched s.table) seat (rest_of s.table seat) (stage_holds {O = O} {Cond = Cond} (descending key d)) (λ b. refl)
      (subst (λ (z : Descending Recon). InsertHolds s.table seat (rest_of s.table seat) z) (sym e) (opened_holds m s.table seat (rest_of s.table seat) row key (free_held m s I seat none))))
      room
      refl
      refl
      refl
      row
      key
      d
      refl
      of
      (free_open m s I seat none)
      unclaimed
      (carries (sheets_of s.table) (unclaimed_fresh m s I d.row (ap (λ (r : RowAt). is_claimed r (past m s I)) of ∙ unclaimed)))
      (subst (λ (z : Descending Recon). Stands (untouched s.table) z) (sym e) (opened_stands m (untouched s.table) row key))
      events
      (record { row = (states, keys); targets = (λ r. refl, λ r. refl); vacuums = refl })

  -- ---- a row is killed

  pub live_there : (seen : Seen O Key Recon Cond) → seen_of s ≡ seen → (row : RowAt) → state_in s.rows row ≡ row_state.Live → is_live row (past_of seen) ≡ true
  live_there seen view row live = ap (is_live row) (past_is s seen view 0) ∙ live_state (state_of row (past m s I)) (lives row (past m s I)) ((sane m s I).says row) (sym (I.tells.states row) ∙ live)

  pub kills : (row : RowAt) (rows : Table O Key Recon Cond) (journal : Written O Key Recon Cond) → stage_of (get_or s.slots.items seat Free) ≡ free → state_in s.rows row ≡ row_state.Live → journal.events ≡ s.journal.events ++ Kill seat row ∷ [] → SetsState s.rows rows row (row_state.Killed (length s.journal.events)) → SameKeys s.rows rows
      → (later : RowSet) → Updates row_cmp s.later.rows later.rows row true → 64 ≤ journal.spare → IsState m (with_all m s (untouched s.table) rows s.slots journal s.vacuums s.targets later)
  kills row rows journal none live events states keys later put room =
      let at : stage_in (stages m s I) seat ≡ free = stage_get s.slots.items seat ∙ none in
      let most : open_count (stages m s I) ≤ 64 = open_count-all (stages m s I) I.seats in
      calls.kept_kill
      m
      (fields_of s)
      (fields_of (with_all m s (untouched s.table) rows s.slots journal s.vacuums s.targets later))
      seat
      free
      I
      (sym (set_itself (stages m s I) seat) ∙ ap (λ x. set (stages m s I) seat x) at)
      at
      (held_on s.table (untouched s.table) seat (rest_of s.table seat) (λ b. false) (λ b. refl) (free_held m s I seat none))
      (omega (arith, most, room))
      refl
      refl
      refl
      row
      refl
      (free_open m s I seat none)
      (live_state (state_of row (past m s I)) (lives row (past m s I)) ((sane m s I).says row) (sym (I.tells.states row) ∙ live))
      events
      (record {
        row = (subst (λ n. SetsState s.rows rows row (row_state.Killed n)) (sym (length-reverse s.journal.events)) states, keys);
        targets = (λ r. refl, put.0);
        vacuums = refl;
      })

  pub killed_seen : (seen : Seen O Key Recon Cond) (view : seen_of s ≡ seen) (row : RowAt) (events : List (Event O Key Recon Cond)) (t2 : pages.Table) → stage_at seen seat ≡ free → state_in s.rows row ≡ row_state.Live → events ≡ s.journal.events ++ Kill seat row ∷ [] → t2 ≡ untouched seen.table
      → KillsRow seen (seen_as events (stages m s I) t2 s.origin) seat row true
  killed_seen seen view row events t2 none live events_are table =
      let at : stage_in (stages m s I) seat ≡ free = ap (λ v. stage_at v seat) view ∙ none in
      let kept : stages m s I ≡ set (stages m s I) seat free = sym (set_itself (stages m s I) seat) ∙ ap (λ x. set (stages m s I) seat x) at in (
        ap (state_of row) (past_is s seen view 0) ∙ sym (I.tells.states row) ∙ live,
        ap (λ j. seen_as j (stages m s I) t2 s.origin) events_are ∙ ap (λ l. seen_as (s.journal.events ++ Kill seat row ∷ []) l t2 s.origin) kept ∙ ap (λ (v : Seen O Key Recon Cond). logged v seat (Kill seat row) free t2) view ∙ ap (λ (t : pages.Table). logged seen seat (Kill seat row) free t) table,
        at,
      )

  -- ---- an operation is given up

  -- the cause of an insert
  pub may_drop : (t : pages.Table) (stage : Stage O Key Recon Cond) (why : Why) → MayGiveUp t stage why → MayDrop t why
  may_drop t stage cause.Given may = tt
  may_drop t stage cause.Full may = may.1
  may_drop t stage cause.Clock may = may.1

  -- what an open operation holds can be given free
  pub can_release : (slot : Slot O Key Recon Cond) → StageFits m s.table (past m s I) seat (stage_of slot) → CanRelease s.table s.rows slot
  can_release Free has = tt
  can_release (Insert key d) has = (
    here_there m s.table (in_nulls d) d.stand d.parent I.tells.holds.shape has.2,
    above_there s.table (in_nulls d) d.stand d.parent has.2,
    insert_claimed m s I seat d.row key has.0,
  )
  can_release (Scan x) has = tt
  can_release (Vacuum v) has = tt

  module _ (t2 : pages.Table) (rows : Table O Key Recon Cond) (slots : Vec (Slot O Key Recon Cond) Global) (journal : Written O Key Recon Cond) (vacuums : List (ℕ × Option ℕ)) (why : Why) (items : slots.items ≡ set s.slots.items seat Free) (but : IsButLatches s.table t2) (none : HoldsNone t2 seat (rest_of s.table seat))
      (spare : journal.spare + 1 ≡ s.journal.spare) (was : is_open (stage_of (get_or s.slots.items seat Free)) ≡ true) (may : MayDrop s.table why) where
    -- the seat's stage
    was_at : (slot : Slot O Key Recon Cond) → get_or s.slots.items seat Free ≡ slot → stage_in (stages m s I) seat ≡ stage_of slot
    was_at slot here = stage_get s.slots.items seat ∙ ap stage_of here

    given : (slot : Slot O Key Recon Cond) → get_or s.slots.items seat Free ≡ slot → journal.events ≡ s.journal.events ++ given_up seat (stage_of slot) why ∷ [] → GivesBack slot s.rows rows → vacuums ≡ ended_with slot (length s.journal.events) s.vacuums → IsState m (with_all m s (untouched t2) rows slots journal vacuums s.targets s.later)
    given Free here events back ends = absurd (false≢true (ap (λ (x : Slot O Key Recon Cond). is_open (stage_of x)) (sym here) ∙ was))
    given (Insert key d) here events back ends = calls.kept_drops
        m
        (fields_of s)
        (fields_of (with_all m s (untouched t2) rows slots journal vacuums s.targets s.later))
        seat
        free
        I
        (stages_set slots.items s.slots.items seat Free items)
        (stage_set slots.items s.slots.items seat Free items (seats m s I) (low m s I seat was))
        (held_on t2 (untouched t2) seat (rest_of s.table seat) (λ b. false) (λ b. refl) none)
        (room_ended m s I seat slots.items journal.spare items spare was)
        (ap (λ (t : pages.Table). t.limit) but)
        refl
        (ap sheets_of but)
        d.row
        key
        why
        may
        refl
        (subst (λ (x : Slot O Key Recon Cond). StageFits m s.table (past m s I) seat (stage_of x)) here (fits m s I seat)).0
        events
        (record { row = back; targets = (λ r. refl, λ r. refl); vacuums = ends })
    given (Scan q) here events back ends = calls.kept_leaves
        m
        (fields_of s)
        (fields_of (with_all m s (untouched t2) rows slots journal vacuums s.targets s.later))
        seat
        free
        I
        (stages_set slots.items s.slots.items seat Free items)
        (stage_set slots.items s.slots.items seat Free items (seats m s I) (low m s I seat was))
        (held_on t2 (untouched t2) seat (rest_of s.table seat) (λ b. false) (λ b. refl) none)
        (room_ended m s I seat slots.items journal.spare items spare was)
        (ap (λ (t : pages.Table). t.limit) but)
        refl
        (ap sheets_of but)
        _
        refl
        (was_at (Scan q) here)
        events
        (record { rows = back; targets = λ r. refl; later = λ r. refl; vacuums = ends })
    given (Vacuum v) here events back ends = vacuum_calls.kept_leaves_vacuum
        m
        (fields_of s)
        (fields_of (with_all m s (untouched t2) rows slots journal vacuums s.targets s.later))
        seat
        free
        I
        (stages_set slots.items s.slots.items seat Free items)
        (stage_set slots.items s.slots.items seat Free items (seats m s I) (low m s I seat was))
        (held_on t2 (untouched t2) seat (rest_of s.table seat) (λ b. false) (λ b. refl) none)
        (room_ended m s I seat slots.items journal.spare items spare was)
        (ap (λ (t : pages.Table). t.limit) but)
        refl
        v
        (ap sheets_of but)
        refl
        (was_at (Vacuum v) here)
        events
        (record { rows = back; targets = λ r. refl; later = λ r. refl; vacuums = ends ∙ ap (λ n. newest_ends n s.vacuums) (sym (length-reverse s.journal.events)) })

    pub gives_up : journal.events ≡ s.journal.events ++ given_up seat (stage_of (get_or s.slots.items seat Free)) why ∷ [] → GivesBack (get_or s.slots.items seat Free) s.rows rows → vacuums ≡ ended_with (get_or s.slots.items seat Free) (length s.journal.events) s.vacuums → IsState m (with_all m s (untouched t2) rows slots journal vacuums s.targets s.later)
    gives_up events back ends = given (get_or s.slots.items seat Free) refl events back ends
