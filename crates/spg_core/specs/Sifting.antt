-- What a section of the scan in a seat's slot does that copies an item, or goes on by a copy.
use Rattle.std.specs.Prelude.{◌≡◌, ℕ, List, slice_set, slice_index_or}
use Rattle.spg_opclass.specs.Meaning.{Meaning}
use Rattle.spg_opclass.specs.declared.copied.Copied.{Copied}
use Rattle.spg_rows.specs.Table as rows
use Rattle.spg_tree.specs.Table.{Table}
use Rattle.spg_scan.specs.Scanning.{Scanning}
use Rattle.spg_scan.specs.Copying.{IsCopyOut, TakesIn}
use Rattle.spg_scan.specs.declared.scan_copy.ScanCopy.{ScanCopy}
use Rattle.spg_core.specs.declared.slot.Slot.{Slot}
use Rattle.spg_core.specs.declared.slot.Slot.TheVariants.{Free, Insert, Scan, Vacuum}

abbrev pub CopiesFrom : {O Key Recon Cond : Type 0} → Meaning Key Recon Cond → Table → rows.Table O Key Recon Cond → List (Slot O Key Recon Cond) → List (Slot O Key Recon Cond) → ℕ → ℕ → ScanCopy O Key Recon Cond → Slot O Key Recon Cond → Type 0
CopiesFrom m t table old new seat item out Free = ⊥
CopiesFrom m t table old new seat item out (Insert key d) = ⊥
CopiesFrom {O} {Key} {Recon} {Cond} m t table old new seat item out (Scan s) = (s2 : Scanning O Key Recon Cond) × (new ≡ slice_set old seat (Scan s2)) × IsCopyOut m t table s s2 item seat out
CopiesFrom m t table old new seat item out (Vacuum v) = ⊥

abbrev pub CopiesSlot : {O Key Recon Cond : Type 0} → Meaning Key Recon Cond → Table → rows.Table O Key Recon Cond → List (Slot O Key Recon Cond) → List (Slot O Key Recon Cond) → ℕ → ℕ → ScanCopy O Key Recon Cond → Type 0
CopiesSlot m t table old new seat item out = CopiesFrom m t table old new seat item out (slice_index_or old seat Free)

abbrev pub SiftsFrom : {O Key Recon Cond : Type 0} → Meaning Key Recon Cond → List (Slot O Key Recon Cond) → List (Slot O Key Recon Cond) → ℕ → ℕ → Copied O Key Recon Cond → Slot O Key Recon Cond → Type 0
SiftsFrom m old new seat item copied Free = ⊥
SiftsFrom m old new seat item copied (Insert key d) = ⊥
SiftsFrom {O} {Key} {Recon} {Cond} m old new seat item copied (Scan s) = (s2 : Scanning O Key Recon Cond) × (new ≡ slice_set old seat (Scan s2)) × TakesIn m s s2 item copied
SiftsFrom m old new seat item copied (Vacuum v) = ⊥

abbrev pub SiftsSlot : {O Key Recon Cond : Type 0} → Meaning Key Recon Cond → List (Slot O Key Recon Cond) → List (Slot O Key Recon Cond) → ℕ → ℕ → Copied O Key Recon Cond → Type 0
SiftsSlot m old new seat item copied = SiftsFrom m old new seat item copied (slice_index_or old seat Free)
