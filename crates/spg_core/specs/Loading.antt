-- A state that is made of the pages of an image.
use Rattle.std.specs.Prelude.{◌≡◌, List, [], ◌∷◌, ◌++◌, Some, true, length, replicate}
use Rattle.spg_base.specs.declared.recorded.Origin.{Origin}
use Rattle.spg_opclass.specs.Meaning.{Meaning}
use Rattle.spg_forest.specs.Shape.{Shape}
use Rattle.spg_rows.specs.declared.entry.Entry.{Entry}
use Rattle.spg_rows.specs.declared.event.Event.{Event}
use Rattle.spg_rows.specs.declared.event.Event.TheVariants.{OpenInsert, Put}
use Rattle.spg_rows.specs.declared.table.RowState.TheVariants as row_state
use Rattle.spg_rows.specs.Table as rows
use Rattle.spg_rows.specs.Loads.{load_events}
use Rattle.spg_tree.specs.Table.{Table, sheets_of}
use Rattle.spg_seats.specs.Slots.{free}
use Rattle.spg_keys.specs.declared.listing.Listed.{Listed}
use Rattle.spg_verdict.specs.Entries.{entries_of, AreEntries}
use Rattle.spg_core.specs.Seen.{Seen}

-- an entry's row is claimed with its key, and put
pub record LoadsRow {O Key Recon Cond : Type 0} (old new : rows.Table O Key Recon Cond) (e : Entry Key) : Type 0 where
  pub middle : rows.Table O Key Recon Cond
  pub claimed : rows.SetsState old middle e.row row_state.Claimed
  pub key : rows.SetsKey old middle e.row (Some e.key)
  pub put : rows.SetsState middle new e.row row_state.Live
  pub keys : rows.SameKeys middle new

-- with what the state of a table is made
abbrev pub origin_of : Table → Origin
origin_of t = record { limit = t.limit; pages = length t.pages; clock = t.clock; loaded = true }

-- the state has these pages, and the journal of the load of these entries; nothing is open
pub record IsLoaded {O Key Recon Cond : Type 0} (t : Table) (es : List (Listed Key)) (seen : Seen O Key Recon Cond) : Type 0 where
  pub journal : seen.journal ≡ load_events (entries_of es)
  pub stages : seen.stages ≡ replicate 64 free
  pub table : seen.table ≡ t
  pub origin : seen.origin ≡ origin_of t

-- the same of well formed pages and their entries, in order of block and offset
pub record IsAdopted {O Key Recon Cond : Type 0} (m : Meaning Key Recon Cond) (t : Table) (seen : Seen O Key Recon Cond) : Type 0 where
  pub entries : List (Listed Key)
  pub shape : Shape m (sheets_of t)
  pub exact : AreEntries m (sheets_of t) entries
  pub loaded : IsLoaded t entries seen
