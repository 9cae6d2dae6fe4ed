-- How many sections of a vacuum come at most.
use Rattle.std.specs.Prelude.{◌≡◌, ◌⊎◌, ◌<◌, ◌≤◌, ◌+◌, ◌-◌, ◌*◌, ℕ, zero, suc, Bool, List, [], ◌∷◌, ◌++◌, length, ⊤}
use Rattle.spg_base.specs.Row.{RowAt}
use Rattle.spg_opclass.specs.Meaning.{Meaning}
use Rattle.spg_forest.specs.View.{Place}
use Rattle.spg_forest.specs.Shape.{Shape}
use Rattle.spg_cover.specs.Vacuum.{Of, IsPlaceOf}
use Rattle.spg_tree.specs.Table.{Table, sheets_of}
use Rattle.spg_vacuum.specs.declared.done.Done.TheVariants.{Swept}
use Rattle.spg_vacuum.specs.declared.done.Work.TheVariants as works
use Rattle.spg_vacuum.specs.declared.vacuum.Vacuum.{Vacuum}
use Rattle.spg_vacuum.specs.Listing.{none_listed}
use Rattle.spg_vacuum.specs.Vacuums.{work_of, IsVacuum, BlockDone, FirstDone}

-- so many pages have no more places than this: each has fewer than 2,048 offsets
abbrev pub places_on : ℕ → ℕ
places_on pages = 2048 * pages

abbrev pub times : ℕ → ℕ → ℕ
times zero n = 0
times (suc k) n = n + times k n

-- of each block that is left one section and those of the places of a list; and of the list that there is those of the places that are not done
abbrev pub sections_at : ℕ → ℕ → List Place → List Place → ℕ
sections_at limit next done [] = times (limit - next) (places_on limit + 2)
sections_at limit next done (p ∷ ps) = times (limit - next) (places_on limit + 2) + (places_on limit + 1 - length done)

-- how many sections of the vacuum come at most, where there are never more pages than the limit
abbrev pub sections_left : ℕ → Vacuum → ℕ
sections_left limit v = sections_at limit v.next v.pending.done v.pending.todo

abbrev pub IsOnce : List Place → Type 0
IsOnce [] = ⊤
IsOnce (p ∷ ps) = (IsPlaceOf ps p → ⊥) × IsOnce ps

-- no place is listed twice
abbrev pub IsListedOnce : Vacuum → Type 0
IsListedOnce v = IsOnce (v.pending.done ++ v.pending.todo)

-- so a vacuum opens
abbrev pub OpensOnce : Type 0
OpensOnce = (v : Vacuum) → v.pending ≡ none_listed → IsListedOnce v

-- the section handles the next block, or the first place to do
abbrev pub Handles : Table → Table → Vacuum → Vacuum → (RowAt → Bool) → ℕ → ℕ → List RowAt → Type 0
Handles t t2 v v2 test horizon seat rows = ((work_of v t ≡ works.Block) × BlockDone t t2 v v2 test horizon seat (Swept rows)) ⊎ ((work_of v t ≡ works.Pending) × FirstDone t t2 v v2 test horizon seat (Swept rows))

-- such a section leaves fewer, and still no place is listed twice
abbrev pub SweepsFall : {Key Recon Cond : Type 0} → Meaning Key Recon Cond → Type 0
SweepsFall m = (limit : ℕ) (t t2 : Table) (v v2 : Vacuum) (test : RowAt → Bool) (horizon seat : ℕ) (rows : List RowAt) → Shape m (sheets_of t) → IsVacuum m t v (Of test) → length t.pages ≤ limit → IsListedOnce v →
    Handles t t2 v v2 test horizon seat rows → IsListedOnce v2 × (sections_left limit v2 < sections_left limit v)
