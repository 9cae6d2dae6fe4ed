-- What the fields of a state keep.
use Rattle.std.specs.Prelude.{map, None}
use Rattle.std.specs.BTreeSet.{contains}
use Rattle.spg_base.specs.Row.{row_cmp}
use Rattle.spg_opclass.specs.Meaning.{Meaning}
use Rattle.spg_seats.specs.Slots.{Fields, IsKept}
pub use Rattle.spg_seats.specs.Slots.{RootsAreHeavy}
use Rattle.spg_core.specs.declared.kept.Kept.TheInside.{Inside}
use Rattle.spg_core.specs.Slot.{stage_of}
use Rattle.spg_core.specs.Seen.{Seen}

abbrev pub fields_of : {O Key Recon Cond : Type 0} → Inside O Key Recon Cond → Fields O Key Recon Cond
fields_of s = record { journal = s.journal.events; spare = s.journal.spare; stages = map stage_of s.slots.items; table = s.table; rows = s.rows; targets = contains row_cmp s.targets.rows; later = contains row_cmp s.later.rows; vacuums = s.vacuums; origin = s.origin }

abbrev pub seen_of : {O Key Recon Cond : Type 0} → Inside O Key Recon Cond → Seen O Key Recon Cond
seen_of s = record { journal = s.journal.events; stages = map stage_of s.slots.items; table = s.table; origin = s.origin; class = None }

abbrev pub IsState : {O Key Recon Cond : Type 0} → Meaning Key Recon Cond → Inside O Key Recon Cond → Type 0
IsState m s = IsKept m (fields_of s)
