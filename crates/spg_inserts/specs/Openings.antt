-- The inserts that opened in a journal, by row.
use Rattle.std.specs.Prelude.{◌≡◌, ◌<◌, ℕ, Bool, List, [], ◌∷◌, All, Contains, length, Option, Some, None, IsSome, slice_get, option_and_then, if◌then◌else◌}
use Rattle.std.specs.List.Sorted.{IsSorted}
use Rattle.std.specs.Ordering.{nat_cmp, ordering_then, is_lt}
use Rattle.std.specs.declared.cmp.Ordering.{Ordering}
use Rattle.spg_base.specs.Row.{RowAt, row_cmp, same_row}
use Rattle.spg_rows.specs.declared.event.Event.{Event}
use Rattle.spg_rows.specs.declared.event.Event.TheVariants.{OpenInsert, Put, Drop, Kill, OpenScan, CloseScan, OpenVacuum, Sweep, CloseVacuum, Leave}
use Rattle.spg_inserts.specs.declared.opening.Opening.{Opening}

-- the key, or the null, with which this event opens an insert of the row
abbrev pub opened_key : {O Key Recon Cond : Type 0} → RowAt → Event O Key Recon Cond → Option (Option Key)
opened_key r (OpenInsert seat row key) = if same_row row r then Some key else None
opened_key r (Put seat row) = None
opened_key r (Drop seat row why) = None
opened_key r (Kill seat row) = None
opened_key r (OpenScan seat query) = None
opened_key r (CloseScan seat rows) = None
opened_key r (OpenVacuum seat) = None
opened_key r (Sweep seat row) = None
opened_key r (CloseVacuum seat swept) = None
opened_key r (Leave seat) = None

-- the same of the event at a position
abbrev pub opened_at : {O Key Recon Cond : Type 0} → List (Event O Key Recon Cond) → RowAt → ℕ → Option (Option Key)
opened_at journal r at = option_and_then (opened_key r) (slice_get journal at)

-- the key, or the null, with which it opens one of any row
abbrev pub opening_key : {O Key Recon Cond : Type 0} → Event O Key Recon Cond → Option (Option Key)
opening_key (OpenInsert seat row key) = Some key
opening_key (Put seat row) = None
opening_key (Drop seat row why) = None
opening_key (Kill seat row) = None
opening_key (OpenScan seat query) = None
opening_key (CloseScan seat rows) = None
opening_key (OpenVacuum seat) = None
opening_key (Sweep seat row) = None
opening_key (CloseVacuum seat swept) = None
opening_key (Leave seat) = None

-- the opening of the event at this position, where it opens an insert
abbrev pub opening_of : {O Key Recon Cond : Type 0} → ℕ → Event O Key Recon Cond → List Opening
opening_of at (OpenInsert seat row key) = record { row = row; at = at } ∷ []
opening_of at (Put seat row) = []
opening_of at (Drop seat row why) = []
opening_of at (Kill seat row) = []
opening_of at (OpenScan seat query) = []
opening_of at (CloseScan seat rows) = []
opening_of at (OpenVacuum seat) = []
opening_of at (Sweep seat row) = []
opening_of at (CloseVacuum seat swept) = []
opening_of at (Leave seat) = []

-- by row, then by position
abbrev pub opening_cmp : Opening → Opening → Ordering
opening_cmp a b = ordering_then (row_cmp a.row b.row) (nat_cmp a.at b.at)

abbrev pub is_before : Opening → Opening → Bool
is_before x o = is_lt (opening_cmp o x)

-- these are the openings of the events before a position
pub record AreListed {O Key Recon Cond : Type 0} (n : ℕ) (openings : List Opening) (journal : List (Event O Key Recon Cond)) : Type 0 where
  pub each : All (λ o. IsSome (opened_at journal o.row o.at)) openings
  pub all : (r : RowAt) (at : ℕ) → at < n → IsSome (opened_at journal r at) → Contains openings (record { row = r; at = at })

-- they are those of the journal, in order
pub record AreOpenings {O Key Recon Cond : Type 0} (openings : List Opening) (journal : List (Event O Key Recon Cond)) : Type 0 where
  pub listed : AreListed (length journal) openings journal
  pub sorted : IsSorted opening_cmp openings

-- no insert of the row opened before the position
abbrev pub IsUnopened : {O Key Recon Cond : Type 0} → List (Event O Key Recon Cond) → RowAt → ℕ → Type 0
IsUnopened journal r to = (at : ℕ) → at < to → opened_at journal r at ≡ None

-- the last one that did opened at `at`
pub record IsLastOpening {O Key Recon Cond : Type 0} (journal : List (Event O Key Recon Cond)) (r : RowAt) (to at : ℕ) : Type 0 where
  pub before : at < to
  pub opens : IsSome (opened_at journal r at)
  pub last : (later : ℕ) → at < later → later < to → opened_at journal r later ≡ None
