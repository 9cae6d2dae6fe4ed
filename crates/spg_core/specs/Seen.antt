-- The state as contracts see it.
use Rattle.std.specs.Prelude.{◌≡◌, ℕ, List, [], ◌∷◌, ◌++◌, Option, Some, slice_set, reverse}
use Rattle.spg_base.specs.declared.recorded.Origin.{Origin}
use Rattle.spg_rows.specs.declared.event.Event.{Event}
use Rattle.spg_rows.specs.History.{History}
use Rattle.spg_tree.specs.Table.{Table, with_touched}
use Rattle.spg_seats.specs.Slots.{Stage, stage_in}
pub use Rattle.spg_rows.specs.Present.{IsPresentWith}

-- the journal, the oldest event first; the stage of each of the 64 seats; the pages; with what the state was made; its class, where it has one
pub record Seen (O Key Recon Cond : Type 0) : Type 0 where
  pub journal : List (Event O Key Recon Cond)
  pub stages : List (Stage O Key Recon Cond)
  pub table : Table
  pub origin : Origin
  pub class : Option O

abbrev pub stage_at : {O Key Recon Cond : Type 0} → Seen O Key Recon Cond → ℕ → Stage O Key Recon Cond
stage_at seen seat = stage_in seen.stages seat

-- the seat is then at this stage, with these pages, and nothing else changes
abbrev pub moved : {O Key Recon Cond : Type 0} → Seen O Key Recon Cond → ℕ → Stage O Key Recon Cond → Table → Seen O Key Recon Cond
moved seen seat stage table = record seen { stages = slice_set seen.stages seat stage; table = table }

-- the seat did this, and is then at this stage, with these pages
abbrev pub logged : {O Key Recon Cond : Type 0} → Seen O Key Recon Cond → ℕ → Event O Key Recon Cond → Stage O Key Recon Cond → Table → Seen O Key Recon Cond
logged seen seat event stage table = record seen { journal = seen.journal ++ event ∷ []; stages = slice_set seen.stages seat stage; table = table }

-- the seat did these one after another, and is then at this stage, with these pages
abbrev pub logged_all : {O Key Recon Cond : Type 0} → Seen O Key Recon Cond → ℕ → List (Event O Key Recon Cond) → Stage O Key Recon Cond → Table → Seen O Key Recon Cond
logged_all seen seat events stage table = record seen { journal = seen.journal ++ events; stages = slice_set seen.stages seat stage; table = table }

-- the journal, the newest event first
abbrev pub past_of : {O Key Recon Cond : Type 0} → Seen O Key Recon Cond → History O Key Recon Cond
past_of seen = reverse seen.journal

-- the pages, with none touched: what a call leaves that is no section of an insert or of a vacuum
abbrev pub untouched : Table → Table
untouched t = with_touched t []

-- ---- the class

-- the state has this class
abbrev pub HasClass : {O Key Recon Cond : Type 0} → Seen O Key Recon Cond → O → Type 0
HasClass seen class = seen.class ≡ Some class

-- the class is as before
abbrev pub KeepsClass : {O Key Recon Cond : Type 0} → Seen O Key Recon Cond → Seen O Key Recon Cond → Type 0
KeepsClass old new = new.class ≡ old.class

-- the same state, with this class
abbrev pub with_class : {O Key Recon Cond : Type 0} → Seen O Key Recon Cond → O → Seen O Key Recon Cond
with_class seen class = record seen { class = Some class }
