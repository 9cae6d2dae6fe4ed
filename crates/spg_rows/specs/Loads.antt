-- The entries of a loaded image, and the events of a load.
use Rattle.std.specs.Prelude.{◌≡◌, ◌⊎◌, List, [], ◌∷◌, Option}
use Rattle.spg_base.specs.Row.{RowAt}
use Rattle.spg_rows.specs.declared.entry.Entry.{Entry}
use Rattle.spg_rows.specs.declared.event.Event.{Event}
use Rattle.spg_rows.specs.declared.event.Event.TheVariants.{OpenInsert, Put}

-- each entry is opened and put by seat 0
abbrev pub load_events : {O Key Recon Cond : Type 0} → List (Entry Key) → List (Event O Key Recon Cond)
load_events [] = []
load_events (e ∷ entries) = OpenInsert 0 e.row e.key ∷ Put 0 e.row ∷ load_events entries

abbrev pub IsListed : {Key : Type 0} → List (Entry Key) → RowAt → Option Key → Type 0
IsListed [] row key = ⊥
IsListed (e ∷ entries) row key = ((e.row ≡ row) × (e.key ≡ key)) ⊎ IsListed entries row key

-- no row stands twice in the list
abbrev pub AreApart : {Key : Type 0} → List (Entry Key) → Type 0
AreApart [] = Unit {0}
AreApart {Key} (e ∷ entries) = ((key : Option Key) → IsListed entries e.row key → ⊥) × AreApart entries
