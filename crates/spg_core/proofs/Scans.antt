-- What a state keeps as a scan opens, reads and ends.
use Rattle.std.proofs.Common.{◌≡◌, ◌<◌, ◌≤◌, ◌+◌, ◌++◌, ◌∷◌, [], ◌||◌, ⊎_elim, ℕ, inl, true, false, List, length, get_or, map, Vec, set, refl, sym, ap, ◌∙◌, subst, arith}
use Rattle.std.specs.declared.alloc.Global.{Global}
use Rattle.std.proofs.lemmas.List.{length-set, length-reverse}
use Rattle.std.specs.BTreeSet.{contains, IsEmpty}
use Rattle.std.proofs.lemmas.Bool.{true≢false}
use Rattle.spg_base.specs.Row.{RowAt, row_cmp}
use Rattle.spg_opclass.specs.Meaning.{Meaning}
use Rattle.spg_opclass.specs.Laws.{KeptLaw, CodeLaw}
use Rattle.spg_opclass.specs.declared.query.Query.{Query}
use Rattle.spg_rows.specs.declared.event.Event.{Event}
use Rattle.spg_rows.specs.declared.event.Event.TheVariants.{OpenScan, CloseScan}
use Rattle.spg_forest.specs.Counts.{AreDistinct}
use Rattle.spg_forest.specs.Sheets.{Sheets}
use Rattle.spg_rows.specs.History.{Written, History}
use Rattle.spg_rows.specs.Rows.{state_of}
use Rattle.spg_rows.specs.Lives.{lives}
use Rattle.spg_rows.specs.Targets.{is_killed}
use Rattle.spg_rows.proofs.Histories.{sane_from_legal}
use Rattle.spg_rows.proofs.Uses.{present_state}
use Rattle.spg_scan.specs.Cover.{IsScanOf}
use Rattle.spg_tree.specs.Table as pages
use Rattle.spg_scan.specs.Scanning.{Scanning, IsClosing, is_live, opened, emptied}
use Rattle.spg_scan.specs.Parts.{EntriesLive}
use Rattle.spg_scan.specs.Items.{held, copied_rows}
use Rattle.spg_scan.proofs.Lists.{distinct_parts}
use Rattle.spg_scan.specs.Reading.{IsReadOut}
use Rattle.spg_scan.specs.declared.walk.ReadOut.{ReadOut}
use Rattle.spg_scan.specs.declared.walk.ReadOut.TheVariants.{Read, Latched}
use Rattle.spg_scan.specs.declared.walk.Closed.{Closed}
use Rattle.spg_seats.specs.Slots.{free, reading, is_open, open_count, stage_in, stage_holds, StageFits, IsKept}
use Rattle.spg_seats.specs.Latching.{AreHeld, rest_of}
use Rattle.spg_seats.proofs.Calls as calls
use Rattle.spg_core.specs.declared.slot.Slot.{Slot}
use Rattle.spg_core.specs.declared.slot.Slot.TheVariants.{Free, Insert, Scan, Vacuum}
use Rattle.spg_core.specs.declared.kept.Kept.TheInside.{Inside}
use Rattle.spg_core.specs.Slot.{stage_of}
use Rattle.spg_core.specs.Stage.{IsRead, held_count}
use Rattle.spg_core.specs.Seen.{Seen, moved, logged, untouched}
use Rattle.spg_core.specs.Operations.{CanRead, ReadsFrom, CanClose, ClosesFrom}
use Rattle.spg_core.specs.Sections.{ReadsFor, HasMet}
use Rattle.spg_core.specs.Kept.{fields_of, seen_of, IsState}
use Rattle.spg_core.proofs.Slots.{seen_as, set_twice, stages_set, stage_set, stage_get, table_is, past_is, logged_is, moved_is}
use Rattle.spg_core.proofs.Steps as steps

-- a scan that holds nothing took each row once
pub once_taken : {O Key Recon Cond : Type 0} {m : Meaning Key Recon Cond} {S : Sheets} {before past : History O Key Recon Cond} (q : Scanning O Key Recon Cond) → IsScanOf m S before past q → AreDistinct q.rows
once_taken q D = (distinct_parts q.rows (copied_rows q.items) D.once).0

module _ {O Key Recon Cond : Type 0} (m : Meaning Key Recon Cond) (s : Inside O Key Recon Cond) (I : IsState m s) (seat : ℕ) where
  abbrev slot_now : Slot O Key Recon Cond
  slot_now = get_or s.slots.items seat Free

  -- ---- a scan opens

  pub scan_opens : (query : Query O Key Recon Cond) (scan : Scanning O Key Recon Cond) (slots : Vec (Slot O Key Recon Cond) Global) (journal : Written O Key Recon Cond) → scan ≡ opened m query (length s.journal.events) s.table.clock → stage_of slot_now ≡ free → seat < 64 →
      slots.items ≡ set s.slots.items seat (Scan scan) → journal.events ≡ s.journal.events ++ OpenScan seat query ∷ [] → open_count (map stage_of slots.items) ≤ journal.spare → IsState m (steps.with_fields m s (untouched s.table) s.rows slots journal)
  scan_opens query scan slots journal is none within items events room = calls.kept_opens_scan
      m
      (fields_of s)
      (fields_of (steps.with_fields m s (untouched s.table) s.rows slots journal))
      seat
      (reading scan)
      I
      (stages_set slots.items s.slots.items seat (Scan scan) items)
      (stage_set slots.items s.slots.items seat (Scan scan) items (steps.seats m s I) within)
      (steps.held_on s.table (untouched s.table) seat (rest_of s.table seat) (λ b. false) (λ b. refl) (steps.free_held m s I seat none))
      room
      refl
      refl
      refl
      query
      (ap reading (is ∙ ap (λ n. opened m query n s.table.clock) (sym (length-reverse s.journal.events))))
      (steps.free_open m s I seat none)
      events
      (steps.same_rows m s (untouched s.table) slots journal)

  -- ---- a scan reads

  -- where no row is killed and not swept, each row that has an entry is live
  pub entries_live : IsEmpty s.targets.rows → IsEmpty s.later.rows → EntriesLive m (pages.sheets_of s.table) s.rows
  entries_live no_target none_later row key entry =
      let past = steps.past m s I in
      let present = (I.tells.holds.entries row key).0 entry in
      let says = (sane_from_legal past I.right.legal).says row in
      let not_killed : is_killed (state_of row past) ≡ false = sym (I.tells.kills.killed row) ∙ ap (λ (ks : List RowAt). steps.rows_in ks row || contains row_cmp s.later.rows row) no_target ∙ ap (λ (ks : List RowAt). steps.rows_in ks row) none_later in
      ⊎_elim (λ e. ap is_live (I.tells.states row ∙ e)) (λ (at, e). absurd (true≢false (sym (ap is_killed e) ∙ not_killed))) (present_state (state_of row past) (lives row past) says present.0)

  pub can_read : (slot : Slot O Key Recon Cond) (item : ℕ) → StageFits m s.table (steps.past m s I) seat (stage_of slot) → item < held_count (stage_of slot) → CanRead m s.table slot item
  can_read Free item has h = absurd (omega arith)
  can_read (Insert key d) item has h = absurd (omega arith)
  can_read (Vacuum v) item has h = absurd (omega arith)
  can_read (Scan q) item (before, has, D) h = (h, λ x r i. D.spots.sheltered (item, 0) x r (held x r, i, (refl, refl, refl)))

  module _ (q q2 : Scanning O Key Recon Cond) (item : ℕ) (slots : Vec (Slot O Key Recon Cond) Global) (here : slot_now ≡ Scan q) (items : slots.items ≡ set s.slots.items seat (Scan q2)) where
    was : is_open (stage_of slot_now) ≡ true
    was = ap (λ (x : Slot O Key Recon Cond). is_open (stage_of x)) here

    pub has : StageFits m s.table (steps.past m s I) seat (reading q)
    has = subst (λ (x : Slot O Key Recon Cond). StageFits m s.table (steps.past m s I) seat (stage_of x)) here (steps.fits m s I seat)

    -- it holds no latch
    pub none : AreHeld (untouched s.table) seat (rest_of s.table seat) (λ b. false)
    none = steps.held_on s.table (untouched s.table) seat (rest_of s.table seat) (λ b. false) (λ b. refl) (subst (λ (x : Slot O Key Recon Cond). AreHeld s.table seat (rest_of s.table seat) (stage_holds (stage_of x))) here (steps.held m s I seat))

    reads_at : (out : ReadOut) → KeptLaw m → CodeLaw m → IsReadOut m s.table s.rows q q2 item seat out → IsKept m (fields_of (steps.with_fields m s (untouched s.table) s.rows slots s.journal))
    reads_at Read K L (alone, R) = calls.kept_reads
        m
        (fields_of s)
        (fields_of (steps.with_fields m s (untouched s.table) s.rows slots s.journal))
        seat
        (reading q2)
        I
        (stages_set slots.items s.slots.items seat (Scan q2) items)
        (stage_set slots.items s.slots.items seat (Scan q2) items (steps.seats m s I) (steps.low m s I seat was))
        none
        (steps.room_on m s I seat (Scan q2) slots.items items was)
        refl
        refl
        K
        L
        q
        item
        R.item
        R.items
        R.found
        _
        (stage_get s.slots.items seat ∙ ap stage_of here)
        (ap reading R.after)
        R.at
        (inl R.reads)
        refl
        refl
        (steps.same_rows m s (untouched s.table) slots s.journal)
    reads_at (Latched block by) K L (place, latched, other, same) = calls.kept_still
        m
        (fields_of s)
        (fields_of (steps.with_fields m s (untouched s.table) s.rows slots s.journal))
        seat
        (reading q2)
        I
        (stages_set slots.items s.slots.items seat (Scan q2) items)
        (stage_set slots.items s.slots.items seat (Scan q2) items (steps.seats m s I) (steps.low m s I seat was))
        none
        (steps.room_on m s I seat (Scan q2) slots.items items was)
        refl
        refl
        refl
        refl
        (steps.same_rows m s (untouched s.table) slots s.journal)
        (subst (λ (z : Scanning O Key Recon Cond). StageFits m s.table (steps.past m s I) seat (reading z)) (sym same) has)

    -- ---- it ends

    closes_at : (closed : Closed) (ended : Vec (Slot O Key Recon Cond) Global) (journal : Written O Key Recon Cond) → q.items ≡ [] → IsClosing q closed → ended.items ≡ set s.slots.items seat Free → journal.events ≡ s.journal.events ++ CloseScan seat closed.rows ∷ [] → journal.spare + 1 ≡ s.journal.spare
        → IsKept m (fields_of (steps.with_fields m s (untouched s.table) s.rows ended journal))
    closes_at closed ended journal empty C all events less =
        let (before, opened_at, D) = has in
        calls.kept_closes_scan
        m
        (fields_of s)
        (fields_of (steps.with_fields m s (untouched s.table) s.rows ended journal))
        seat
        free
        I
        (stages_set ended.items s.slots.items seat Free all)
        (stage_set ended.items s.slots.items seat Free all (steps.seats m s I) (steps.low m s I seat was))
        none
        (steps.room_ended m s I seat ended.items journal.spare all less was)
        refl
        refl
        refl
        q
        closed.rows
        refl
        (stage_get s.slots.items seat ∙ ap stage_of here)
        empty
        C.same
        (C.ascending (once_taken q D))
        events
        (steps.same_rows m s (untouched s.table) ended journal)

  pub kept_reads : (item : ℕ) (out : ReadOut) (slots : Vec (Slot O Key Recon Cond) Global) → KeptLaw m → CodeLaw m → (slot : Slot O Key Recon Cond) → slot_now ≡ slot → ReadsFrom m s.table s.rows s.slots.items slots.items seat item out slot → IsState m (steps.with_fields m s (untouched s.table) s.rows slots s.journal)
  kept_reads item out slots K L Free here h = absurd h
  kept_reads item out slots K L (Insert key d) here h = absurd h
  kept_reads item out slots K L (Scan q) here (q2, items, R) = reads_at q q2 item slots here items out K L R
  kept_reads item out slots K L (Vacuum v) here h = absurd h

  pub reads_seen : (seen : Seen O Key Recon Cond) → seen_of s ≡ seen → (item : ℕ) (out : ReadOut) (slots : List (Slot O Key Recon Cond)) (t2 : pages.Table) → t2 ≡ untouched s.table → (slot : Slot O Key Recon Cond) → slot_now ≡ slot → ReadsFrom m s.table s.rows s.slots.items slots seat item out slot →
      ReadsFor m seen (seen_as s.journal.events (map stage_of slots) t2 s.origin) seat item out (stage_of slot)
  reads_seen seen view item out slots t2 table Free here h = absurd h
  reads_seen seen view item out slots t2 table (Insert key d) here h = absurd h
  reads_seen seen view item out slots t2 table (Vacuum v) here h = absurd h
  reads_seen seen view item out slots t2 table (Scan q) here (q2, items, R) = (
    q2,
    s.rows,
    λ row. I.tells.states row ∙ ap (state_of row) (sym (past_is s seen view 0)),
    subst (λ (t : pages.Table). IsReadOut m t s.rows q q2 item seat out) (sym (table_is s seen view 0)) R,
    moved_is s seen view seat (Scan q2) slots t2 items ∙ ap (λ (t : pages.Table). moved seen seat (reading q2) t) (table ∙ ap untouched (sym (table_is s seen view 0))),
    stage_set slots s.slots.items seat (Scan q2) items (steps.seats m s I) (steps.low m s I seat (ap (λ (x : Slot O Key Recon Cond). is_open (stage_of x)) here)),
  )

  -- ---- a scan ends

  pub is_read : (slot : Slot O Key Recon Cond) → IsRead (stage_of slot) → CanClose slot × (is_open (stage_of slot) ≡ true)
  is_read Free h = absurd h
  is_read (Insert key d) h = absurd h
  is_read (Scan q) h = (h, refl)
  is_read (Vacuum v) h = absurd h

  pub closes_seats : (closed : Closed) (between : List (Slot O Key Recon Cond)) (slot : Slot O Key Recon Cond) → ClosesFrom s.slots.items between seat closed slot → length between ≡ 64
  closes_seats closed between Free h = absurd h
  closes_seats closed between (Insert key d) h = absurd h
  closes_seats closed between (Vacuum v) h = absurd h
  closes_seats closed between (Scan q) (items, C) = ap length items ∙ length-set s.slots.items seat (Scan (emptied q)) ∙ steps.seats m s I

  pub kept_closes : (closed : Closed) (between slots : Vec (Slot O Key Recon Cond) Global) (journal : Written O Key Recon Cond) → (slot : Slot O Key Recon Cond) → slot_now ≡ slot → CanClose slot →
      ClosesFrom s.slots.items between.items seat closed slot → slots.items ≡ set between.items seat Free → journal.events ≡ s.journal.events ++ CloseScan seat closed.rows ∷ [] → journal.spare + 1 ≡ s.journal.spare → IsState m (steps.with_fields m s (untouched s.table) s.rows slots journal)
  kept_closes closed between slots journal Free here can h items events less = absurd h
  kept_closes closed between slots journal (Insert key d) here can h items events less = absurd h
  kept_closes closed between slots journal (Scan q) here empty (made, C) items events less = closes_at q (emptied q) 0 between here made closed slots journal empty C (set_twice s.slots.items between.items slots.items seat (Scan (emptied q)) Free made items) events less
  kept_closes closed between slots journal (Vacuum v) here can h items events less = absurd h

  pub closes_seen : (seen : Seen O Key Recon Cond) → seen_of s ≡ seen → (closed : Closed) (between slots : List (Slot O Key Recon Cond)) (events : List (Event O Key Recon Cond)) (t2 : pages.Table) → t2 ≡ untouched s.table → (slot : Slot O Key Recon Cond) → slot_now ≡ slot →
      ClosesFrom s.slots.items between seat closed slot → slots ≡ set between seat Free → events ≡ s.journal.events ++ CloseScan seat closed.rows ∷ [] →
      (seen_as events (map stage_of slots) t2 s.origin ≡ logged seen seat (CloseScan seat closed.rows) free (untouched seen.table)) × (stage_in (map stage_of slots) seat ≡ free) × HasMet (stage_of slot) closed.met
  closes_seen seen view closed between slots events t2 table Free here h items events_are = absurd h
  closes_seen seen view closed between slots events t2 table (Insert key d) here h items events_are = absurd h
  closes_seen seen view closed between slots events t2 table (Vacuum v) here h items events_are = absurd h
  closes_seen seen view closed between slots events t2 table (Scan q) here (made, C) items events_are =
      let all : slots ≡ set s.slots.items seat Free = set_twice s.slots.items between slots seat (Scan (emptied q)) Free made items in (
        logged_is s seen view seat (CloseScan seat closed.rows) Free slots events t2 all events_are ∙ ap (λ (t : pages.Table). logged seen seat (CloseScan seat closed.rows) free t) (table ∙ ap untouched (sym (table_is s seen view 0))),
        stage_set slots s.slots.items seat Free all (steps.seats m s I) (steps.low m s I seat (ap (λ (x : Slot O Key Recon Cond). is_open (stage_of x)) here)),
        C.met,
      )

  pub told_events : (told given : List RowAt) (events : List (Event O Key Recon Cond)) → events ≡ s.journal.events ++ CloseScan seat told ∷ [] → told ≡ given → events ≡ s.journal.events ++ CloseScan seat given ∷ []
  told_events told given events h e = h ∙ ap (λ l. s.journal.events ++ CloseScan seat l ∷ []) e
