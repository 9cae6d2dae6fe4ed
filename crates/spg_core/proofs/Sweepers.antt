-- Which seat has a vacuum open, and what a state keeps as one opens.
use Rattle.std.proofs.Common.{◌≡◌, ◌<◌, ◌≤◌, ◌↔◌, ◌||◌, ◌∷◌, ◌++◌, [], ⊎_elim, ℕ, zero, suc, Bool, true, false, List, length, get_or, set, map, reverse, Option, Some, None, Result, Ok, Err, IsErrOf, Vec, refl, sym, ap, ◌∙◌, subst, arith}
use Rattle.std.specs.BTreeSet.{IsEmpty}
use Rattle.std.specs.Result.{IsErrAnd}
use Rattle.std.specs.declared.alloc.Global.{Global}
use Rattle.std.proofs.lemmas.Bool.{false≢true, cases_eq, cases_lt}
use Rattle.std.proofs.lemmas.List.{get_or_past, length-reverse}
use Rattle.spg_base.specs.Row.{RowAt}
use Rattle.spg_base.specs.declared.row_set.RowSet.{RowSet}
use Rattle.spg_opclass.specs.Meaning.{Meaning}
use Rattle.spg_rows.specs.declared.event.Event.TheVariants.{OpenVacuum}
use Rattle.spg_rows.specs.History.{Written, History, vacuuming, open_of}
use Rattle.spg_rows.specs.Held.{or_then}
use Rattle.spg_rows.specs.Vacuums.{AreBefore}
use Rattle.spg_rows.proofs.Vacuums.{vacuums_in_order}
use Rattle.spg_vacuum.specs.declared.vacuum.Vacuum.{Vacuum}
use Rattle.spg_seats.specs.Latching.{rest_of}
use Rattle.spg_seats.specs.Opening.{opened_vacuum}
use Rattle.spg_seats.specs.Slots.{Stage, free, descending, reading, sweeping, stage_in, StageFits, NoneSweeps, open_count, Fields, IsKept}
use Rattle.spg_seats.specs.Waiting.{is_sweeping, lowest_seat}
use Rattle.spg_seats.proofs.VacuumCalls as vacuum_calls
use Rattle.spg_core.specs.declared.answer.VacuumRefused.{VacuumRefused}
use Rattle.spg_core.specs.declared.answer.VacuumRefused.TheVariants as refused
use Rattle.spg_core.specs.declared.slot.Slot.{Slot}
use Rattle.spg_core.specs.declared.slot.Slot.TheVariants as slot
use Rattle.spg_core.specs.declared.kept.Kept.TheInside.{Inside}
use Rattle.spg_core.specs.Stage.{IsSweeping}
use Rattle.spg_core.specs.Slot.{stage_of}
use Rattle.spg_core.specs.Seen.{Seen, stage_at, untouched}
use Rattle.spg_core.specs.Kept.{fields_of, seen_of, IsState}
use Rattle.spg_core.proofs.Slots.{stages_set, stage_set}
use Rattle.spg_core.proofs.Steps.{with_all, rows_in, held_on, past, stages, sane, seats, free_held, free_open}

or_empty : (a b c : Bool) → (a || b) ≡ c → b ≡ false → a ≡ c
or_empty true b c h e = h
or_empty false b c h e = sym e ∙ h

-- ---- the lowest seat of a test

module _ {O Key Recon Cond : Type 0} (test : Stage O Key Recon Cond → Bool) (all : List (Stage O Key Recon Cond)) where
  lowest_is : (n k : ℕ) → lowest_seat test n all ≡ Some k → test (stage_in all k) ≡ true
  lowest_is zero k e = absurd (cc e)
  lowest_is (suc n) k e = go (lowest_seat test n all) (λ h. lowest_is n k h) (test (stage_in all n)) refl e
    where
      go : (x : Option ℕ) → (x ≡ Some k → test (stage_in all k) ≡ true) → (b : Bool) → test (stage_in all n) ≡ b → or_then x b n ≡ Some k → test (stage_in all k) ≡ true
      go (Some j) below b t e = below e
      go None below true t e = let h : n ≡ k = cc e in subst (λ i. test (stage_in all i) ≡ true) h t
      go None below false t e = absurd (cc e)

  lowest_none : (n : ℕ) → lowest_seat test n all ≡ None → (k : ℕ) → k < n → test (stage_in all k) ≡ false
  lowest_none zero e k low = absurd (omega (arith, low))
  lowest_none (suc n) e k low = go (lowest_seat test n all) (λ q h. lowest_none n q k h) (test (stage_in all n)) refl e
    where
      go : (x : Option ℕ) → (x ≡ None → k < n → test (stage_in all k) ≡ false) → (b : Bool) → test (stage_in all n) ≡ b → or_then x b n ≡ None → test (stage_in all k) ≡ false
      go (Some j) below b t e = absurd (cc e)
      go None below true t e = absurd (cc e)
      go None below false t e = ⊎_elim (λ h. subst (λ i. test (stage_in all i) ≡ false) (sym h) t) (λ apart. below refl (omega (arith, low, apart))) (cases_eq k n)

module _ {O Key Recon Cond : Type 0} where
  sweeps_said : (stage : Stage O Key Recon Cond) → is_sweeping stage ≡ true → IsSweeping stage
  sweeps_said free h = absurd (false≢true h)
  sweeps_said (descending key d) h = absurd (false≢true h)
  sweeps_said (reading s) h = absurd (false≢true h)
  sweeps_said (sweeping v) h = tt

  says_sweeps : (stage : Stage O Key Recon Cond) → IsSweeping stage → is_sweeping stage ≡ true
  says_sweeps free h = absurd h
  says_sweeps (descending key d) h = absurd h
  says_sweeps (reading s) h = absurd h
  says_sweeps (sweeping v) h = refl

  -- where none is found no seat has a vacuum open
  pub none_found : (all : List (Stage O Key Recon Cond)) → length all ≡ 64 → lowest_seat is_sweeping 64 all ≡ None → (seat : ℕ) → IsSweeping (stage_in all seat) → ⊥
  none_found all count e seat is = ⊎_elim
      (λ low. false≢true (sym (lowest_none is_sweeping all 64 e seat low) ∙ says_sweeps (stage_in all seat) is))
      (λ high. subst IsSweeping (get_or_past all seat free (omega (arith, count, high))) is)
      (cases_lt seat 64)

  pub none_sweeps : (all : List (Stage O Key Recon Cond)) → length all ≡ 64 → lowest_seat is_sweeping 64 all ≡ None → NoneSweeps all
  none_sweeps all count e seat v is = none_found all count e seat (subst IsSweeping (sym is) tt)

module _ {O Key Recon Cond : Type 0} (m : Meaning Key Recon Cond) where
  -- a vacuum that is open by the stages is so by the journal
  opens : (f : Fields O Key Recon Cond) → IsKept m f → (seat : ℕ) → IsSweeping (stage_in f.stages seat) → (before : History O Key Recon Cond) × (open_of seat (reverse f.journal) ≡ vacuuming before)
  opens f kept seat is = go (stage_in f.stages seat) (kept.stages seat) is
    where
      go : (stage : Stage O Key Recon Cond) → StageFits m f.table (reverse f.journal) seat stage → IsSweeping stage → (before : History O Key Recon Cond) × (open_of seat (reverse f.journal) ≡ vacuuming before)
      go free fits is = absurd is
      go (descending key d) fits is = absurd is
      go (reading s) fits is = absurd is
      go (sweeping v) (before, has, V) is = (before, has)

  -- and the other way round
  none_open : (f : Fields O Key Recon Cond) → IsKept m f → NoneSweeps f.stages → (seat : ℕ) (before : History O Key Recon Cond) → open_of seat (reverse f.journal) ≡ vacuuming before → ⊥
  none_open f kept none seat before has = go (stage_in f.stages seat) refl (kept.stages seat)
    where
      go : (stage : Stage O Key Recon Cond) → stage_in f.stages seat ≡ stage → StageFits m f.table (reverse f.journal) seat stage → ⊥
      go free is fits = absurd (cc (sym fits ∙ has))
      go (descending key d) is fits = absurd (cc (sym fits.0 ∙ has))
      go (reading s) is (b, opens, D) = absurd (cc (sym opens ∙ has))
      go (sweeping v) is fits = none seat v is

  -- where none is open the killed rows may stand in either set
  pub kept_sets : (f : Fields O Key Recon Cond) → IsKept m f → NoneSweeps f.stages → (targets later : RowAt → Bool) → ((r : RowAt) → (targets r || later r) ≡ (f.targets r || f.later r)) → IsKept m (record f { targets = targets; later = later })
  kept_sets f kept none targets later same = record {
    right = kept.right;
    tells = record {
      holds = kept.tells.holds;
      heavy = kept.tells.heavy;
      states = kept.tells.states;
      keys = kept.tells.keys;
      kills = record {
        killed = λ r. same r ∙ kept.tells.kills.killed r;
        early = λ seat before has r. absurd (none_open f kept none seat before has);
        late = λ seat before has r. absurd (none_open f kept none seat before has);
      };
      vacuums = kept.tells.vacuums;
      room = kept.tells.room;
      limit = kept.tells.limit;
      drops = kept.tells.drops;
    };
    seats = kept.seats;
    stages = kept.stages;
    latches = kept.latches;
  }

  module _ (s : Inside O Key Recon Cond) (I : IsState m s) where
    -- the seat that is found has a vacuum open, and no other has
    pub found_sweeps : (seen : Seen O Key Recon Cond) → seen_of s ≡ seen → (by : ℕ) → lowest_seat is_sweeping 64 (map stage_of s.slots.items) ≡ Some by → IsSweeping (stage_at seen by)
    found_sweeps seen view by e = subst (λ (v : Seen O Key Recon Cond). IsSweeping (stage_at v by)) view (sweeps_said (stage_in (stages m s I) by) (lowest_is is_sweeping (stages m s I) 64 by e))

    pub one_sweeps : (seen : Seen O Key Recon Cond) → seen_of s ≡ seen → (a b : ℕ) → IsSweeping (stage_at seen a) → IsSweeping (stage_at seen b) → a ≡ b
    one_sweeps seen view a b here there =
        let (before, opens_a) = opens (fields_of s) I a (subst (λ (v : Seen O Key Recon Cond). IsSweeping (stage_at v a)) (sym view) here) in
        let (then, opens_b) = opens (fields_of s) I b (subst (λ (v : Seen O Key Recon Cond). IsSweeping (stage_at v b)) (sym view) there) in
        (sane m s I).vacuum.alone a b before then opens_a opens_b

    -- so the answer `Open` comes exactly with it
    pub open_by : (seen : Seen O Key Recon Cond) → seen_of s ≡ seen → (found : ℕ) → lowest_seat is_sweeping 64 (map stage_of s.slots.items) ≡ Some found → (by : ℕ) → IsErrOf {T = Unit {0}} (Err (refused.Open found)) (refused.Open by) ↔ IsSweeping (stage_at seen by)
    open_by seen view found e by = (
      λ h. let q : found ≡ by = cc h in subst (λ n. IsSweeping (stage_at seen n)) q (found_sweeps seen view found e),
      λ is. let q : found ≡ by = one_sweeps seen view found by (found_sweeps seen view found e) is in subst (λ n. IsErrOf {T = Unit {0}} (Err (refused.Open found)) (refused.Open n)) q refl,
    )

    pub none_by : (seen : Seen O Key Recon Cond) → seen_of s ≡ seen → lowest_seat is_sweeping 64 (map stage_of s.slots.items) ≡ None → (r : Result (Unit {0}) VacuumRefused) → ((by : ℕ) → IsErrOf r (refused.Open by) → ⊥) → (by : ℕ) → IsErrOf r (refused.Open by) ↔ IsSweeping (stage_at seen by)
    none_by seen view e r apart by = (
      λ h. absurd (apart by h),
      λ is. absurd (none_found (stages m s I) I.seats e by (subst (λ (v : Seen O Key Recon Cond). IsSweeping (stage_at v by)) (sym view) is)),
    )

    -- a vacuum opens behind all that there were
    pub opens_behind : AreBefore (length s.journal.events) s.vacuums
    opens_behind = subst (λ n. AreBefore n s.vacuums) (length-reverse s.journal.events) (rw I.tells.vacuums (vacuums_in_order (past m s I) I.right.legal).descend)

    pub opens_vacuum : (seat : ℕ) (slots : Vec (Slot O Key Recon Cond) Global) (journal : Written O Key Recon Cond) (vacuums : List (ℕ × Option ℕ)) (targets later : RowSet) → lowest_seat is_sweeping 64 (map stage_of s.slots.items) ≡ None → stage_of (get_or s.slots.items seat slot.Free) ≡ free → seat < 64 →
        slots.items ≡ set s.slots.items seat (slot.Vacuum (opened_vacuum (length s.journal.events) s.table.clock)) → journal.events ≡ s.journal.events ++ OpenVacuum seat ∷ [] → vacuums ≡ (length s.journal.events, None) ∷ s.vacuums →
        ((r : RowAt) → (rows_in targets.rows.keys r || rows_in later.rows.keys r) ≡ (rows_in s.targets.rows.keys r || rows_in s.later.rows.keys r)) → IsEmpty later.rows → open_count (map stage_of slots.items) ≤ journal.spare → IsState m (with_all m s (untouched s.table) s.rows slots journal vacuums targets later)
    opens_vacuum seat slots journal vacuums targets later none was within items events opened same empty room =
        let v : Vacuum = opened_vacuum (length s.journal.events) s.table.clock in
        let gone : (r : RowAt) → rows_in later.rows.keys r ≡ false = λ r. ap (λ ks. rows_in ks r) empty in
        vacuum_calls.kept_opens_vacuum
        m
        (fields_of s)
        (fields_of (with_all m s (untouched s.table) s.rows slots journal vacuums targets later))
        seat
        (sweeping v)
        I
        (stages_set slots.items s.slots.items seat (slot.Vacuum v) items)
        (stage_set slots.items s.slots.items seat (slot.Vacuum v) items (seats m s I) within)
        (held_on s.table (untouched s.table) seat (rest_of s.table seat) (λ b. false) (λ b. refl) (free_held m s I seat was))
        room
        refl
        refl
        refl
        (ap (λ n. sweeping (opened_vacuum n s.table.clock)) (sym (length-reverse s.journal.events)))
        (free_open m s I seat was)
        (none_sweeps (stages m s I) I.seats none)
        events
        (record {
          row = refl;
          targets = (λ r. or_empty (rows_in targets.rows.keys r) (rows_in later.rows.keys r) (rows_in s.targets.rows.keys r || rows_in s.later.rows.keys r) (same r) (gone r), gone);
          vacuums = opened ∙ ap (λ n. (n, None) ∷ s.vacuums) (sym (length-reverse s.journal.events));
        })

-- want of memory is no seat
pub no_seat : (r : Result (Unit {0}) VacuumRefused) → IsErrAnd r (λ e. e ≡ refused.Memory) → (by : ℕ) → IsErrOf r (refused.Open by) → ⊥
no_seat (Ok x) h by e = absurd h
no_seat (Err x) h by e = cc (h, e)
