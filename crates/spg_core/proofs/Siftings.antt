-- What a state keeps as a scan copies an item, and goes on by a copy.
use Rattle.std.proofs.Common.{◌≡◌, inl, inr, ℕ, true, List, [], ◌∷◌, Some, Vec, get_or, map, set, refl, sym, ap, ◌∙◌, subst}
use Rattle.std.specs.declared.alloc.Global.{Global}
use Rattle.spg_base.specs.Row.{RowAt}
use Rattle.spg_opclass.specs.Meaning.{Meaning}
use Rattle.spg_opclass.specs.Laws.{KeptLaw, CodeLaw}
use Rattle.spg_opclass.specs.declared.copied.Copied.{Copied}
use Rattle.spg_rows.specs.Rows.{state_of}
use Rattle.spg_tree.specs.Table as pages
use Rattle.spg_tree.specs.Table.{sheets_of}
use Rattle.spg_scan.specs.Items.{Item}
use Rattle.spg_scan.specs.Reading.{DoesItem}
use Rattle.spg_scan.specs.Scanning.{Scanning, replaced}
use Rattle.spg_scan.specs.Copying.{IsCopyOut, TakesIn}
use Rattle.spg_scan.specs.declared.scan_copy.ScanCopy.{ScanCopy}
use Rattle.spg_scan.specs.declared.scan_copy.ScanCopy.TheVariants.{Read, Latched, Sift}
use Rattle.spg_seats.specs.Slots.{reading, is_open, stage_in, StageFits, IsKept}
use Rattle.spg_seats.proofs.Calls as calls
use Rattle.std.specs.Prelude.{slice_get}
use Rattle.spg_core.specs.declared.slot.Slot.{Slot}
use Rattle.spg_core.specs.declared.slot.Slot.TheVariants.{Free, Insert, Scan, Vacuum}
use Rattle.spg_core.specs.declared.kept.Kept.TheInside.{Inside}
use Rattle.spg_core.specs.Slot.{stage_of}
use Rattle.spg_core.specs.Seen.{Seen, moved, untouched}
use Rattle.spg_core.specs.Looking.{CopiesFor, SiftsFor}
use Rattle.spg_core.specs.Sifting.{CopiesFrom, SiftsFrom}
use Rattle.spg_core.specs.Kept.{fields_of, seen_of, IsState}
use Rattle.spg_core.proofs.Slots.{seen_as, stages_set, stage_set, stage_get, table_is, past_is, moved_is}
use Rattle.spg_core.proofs.Scans as scans
use Rattle.spg_core.proofs.Steps as steps

module _ {O Key Recon Cond : Type 0} (m : Meaning Key Recon Cond) (s : Inside O Key Recon Cond) (I : IsState m s) (seat : ℕ) where
  abbrev slot_now : Slot O Key Recon Cond
  slot_now = get_or s.slots.items seat Free

  module _ (q q2 : Scanning O Key Recon Cond) (item : ℕ) (slots : Vec (Slot O Key Recon Cond) Global) (here : slot_now ≡ Scan q) (items : slots.items ≡ set s.slots.items seat (Scan q2)) where
    was : is_open (stage_of slot_now) ≡ true
    was = ap (λ (x : Slot O Key Recon Cond). is_open (stage_of x)) here

    -- an item is read, or copied
    does_at : KeptLaw m → CodeLaw m → (it : Item Recon) (ys : List (Item Recon)) (found : List RowAt) (met : ℕ) → slice_get q.items item ≡ Some it → DoesItem m (sheets_of s.table) s.rows q.query it ys found → q2 ≡ replaced q item ys found met
        → IsKept m (fields_of (steps.with_fields m s (untouched s.table) s.rows slots s.journal))
    does_at K L it ys found met at does after = calls.kept_reads
        m
        (fields_of s)
        (fields_of (steps.with_fields m s (untouched s.table) s.rows slots s.journal))
        seat
        (reading q2)
        I
        (stages_set slots.items s.slots.items seat (Scan q2) items)
        (stage_set slots.items s.slots.items seat (Scan q2) items (steps.seats m s I) (steps.low m s I seat was))
        (scans.none m s I seat q q2 item slots here items)
        (steps.room_on m s I seat (Scan q2) slots.items items was)
        refl
        refl
        K
        L
        q
        item
        it
        ys
        found
        met
        (stage_get s.slots.items seat ∙ ap stage_of here)
        (ap reading after)
        at
        does
        refl
        refl
        (steps.same_rows m s (untouched s.table) slots s.journal)

    -- nothing is done
    rests_at : q2 ≡ q → IsKept m (fields_of (steps.with_fields m s (untouched s.table) s.rows slots s.journal))
    rests_at same = calls.kept_still
        m
        (fields_of s)
        (fields_of (steps.with_fields m s (untouched s.table) s.rows slots s.journal))
        seat
        (reading q2)
        I
        (stages_set slots.items s.slots.items seat (Scan q2) items)
        (stage_set slots.items s.slots.items seat (Scan q2) items (steps.seats m s I) (steps.low m s I seat was))
        (scans.none m s I seat q q2 item slots here items)
        (steps.room_on m s I seat (Scan q2) slots.items items was)
        refl
        refl
        refl
        refl
        (steps.same_rows m s (untouched s.table) slots s.journal)
        (subst (λ (z : Scanning O Key Recon Cond). StageFits m s.table (steps.past m s I) seat (reading z)) (sym same) (scans.has m s I seat q q2 item slots here items))

    copies_at : (out : ScanCopy O Key Recon Cond) → KeptLaw m → CodeLaw m → IsCopyOut m s.table s.rows q q2 item seat out → IsKept m (fields_of (steps.with_fields m s (untouched s.table) s.rows slots s.journal))
    copies_at Read K L (alone, plain, R) = does_at K L R.item R.items R.found _ R.at (inl R.reads) R.after
    copies_at (Latched block by) K L (place, latched, other, same) = rests_at same
    copies_at (Sift copied) K L (inl (kept, same)) = rests_at same
    copies_at (Sift copied) K L (inr (alone, C)) = does_at K L _ (C.item ∷ []) [] _ C.at (inr C.copies) C.after

    sifts_at : (copied : Copied O Key Recon Cond) → KeptLaw m → CodeLaw m → TakesIn m q q2 item copied → IsKept m (fields_of (steps.with_fields m s (untouched s.table) s.rows slots s.journal))
    sifts_at copied K L T = does_at K L T.item T.items T.found 0 T.at (inl (T.reads (sheets_of s.table) s.rows)) T.after

    -- as callers see it
    moves_at : (seen : Seen O Key Recon Cond) → seen_of s ≡ seen → (t2 : pages.Table) → t2 ≡ untouched s.table → (seen_as s.journal.events (map stage_of slots.items) t2 s.origin ≡ moved seen seat (reading q2) (untouched seen.table)) × (stage_in (map stage_of slots.items) seat ≡ reading q2)
    moves_at seen view t2 table = (
      moved_is s seen view seat (Scan q2) slots.items t2 items ∙ ap (λ (t : pages.Table). moved seen seat (reading q2) t) (table ∙ ap untouched (sym (table_is s seen view 0))),
      stage_set slots.items s.slots.items seat (Scan q2) items (steps.seats m s I) (steps.low m s I seat was),
    )

  -- ---- an item is copied

  pub kept_copies : (item : ℕ) (out : ScanCopy O Key Recon Cond) (slots : Vec (Slot O Key Recon Cond) Global) → KeptLaw m → CodeLaw m → (slot : Slot O Key Recon Cond) → slot_now ≡ slot → CopiesFrom m s.table s.rows s.slots.items slots.items seat item out slot → IsState m (steps.with_fields m s (untouched s.table) s.rows slots s.journal)
  kept_copies item out slots K L Free here h = absurd h
  kept_copies item out slots K L (Insert key d) here h = absurd h
  kept_copies item out slots K L (Scan q) here (q2, items, C) = copies_at q q2 item slots here items out K L C
  kept_copies item out slots K L (Vacuum v) here h = absurd h

  pub copies_seen : (seen : Seen O Key Recon Cond) → seen_of s ≡ seen → (item : ℕ) (out : ScanCopy O Key Recon Cond) (slots : Vec (Slot O Key Recon Cond) Global) (t2 : pages.Table) → t2 ≡ untouched s.table → (slot : Slot O Key Recon Cond) → slot_now ≡ slot →
      CopiesFrom m s.table s.rows s.slots.items slots.items seat item out slot → CopiesFor m seen (seen_as s.journal.events (map stage_of slots.items) t2 s.origin) seat item out (stage_of slot)
  copies_seen seen view item out slots t2 table Free here h = absurd h
  copies_seen seen view item out slots t2 table (Insert key d) here h = absurd h
  copies_seen seen view item out slots t2 table (Vacuum v) here h = absurd h
  copies_seen seen view item out slots t2 table (Scan q) here (q2, items, C) =
      let (is, at) = moves_at q q2 item slots here items seen view t2 table in (
        q2,
        s.rows,
        λ row. I.tells.states row ∙ ap (state_of row) (sym (past_is s seen view 0)),
        subst (λ (t : pages.Table). IsCopyOut m t s.rows q q2 item seat out) (sym (table_is s seen view 0)) C,
        is,
        at,
      )

  -- ---- the scan goes on by a copy

  pub kept_sifts : (item : ℕ) (copied : Copied O Key Recon Cond) (slots : Vec (Slot O Key Recon Cond) Global) → KeptLaw m → CodeLaw m → (slot : Slot O Key Recon Cond) → slot_now ≡ slot → SiftsFrom m s.slots.items slots.items seat item copied slot → IsState m (steps.with_fields m s (untouched s.table) s.rows slots s.journal)
  kept_sifts item copied slots K L Free here h = absurd h
  kept_sifts item copied slots K L (Insert key d) here h = absurd h
  kept_sifts item copied slots K L (Scan q) here (q2, items, T) = sifts_at q q2 item slots here items copied K L T
  kept_sifts item copied slots K L (Vacuum v) here h = absurd h

  pub sifts_seen : (seen : Seen O Key Recon Cond) → seen_of s ≡ seen → (item : ℕ) (copied : Copied O Key Recon Cond) (slots : Vec (Slot O Key Recon Cond) Global) (t2 : pages.Table) → t2 ≡ untouched s.table → (slot : Slot O Key Recon Cond) → slot_now ≡ slot →
      SiftsFrom m s.slots.items slots.items seat item copied slot → SiftsFor m seen (seen_as s.journal.events (map stage_of slots.items) t2 s.origin) seat item copied (stage_of slot)
  sifts_seen seen view item copied slots t2 table Free here h = absurd h
  sifts_seen seen view item copied slots t2 table (Insert key d) here h = absurd h
  sifts_seen seen view item copied slots t2 table (Vacuum v) here h = absurd h
  sifts_seen seen view item copied slots t2 table (Scan q) here (q2, items, T) = let (is, at) = moves_at q q2 item slots here items seen view t2 table in (q2, T, is, at)
