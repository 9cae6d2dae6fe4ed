-- What stands under names, and what calls make of it.
use Rattle.std.specs.Prelude.{◌≡◌, ◌≢◌, ℕ, ◌+◌, ◌*◌, ◌<◌, ◌≤◌, ◌⊎◌, Bool, true, false, List, [], ◌++◌, length, take, Option, Some, None, slice_range, Result, Ok, Err}
use Rattle.spg_io.specs.declared.sink.IoRefused.{IoRefused}
use Rattle.spg_io.specs.declared.sink.IoRefused.TheVariants.{Failed, Memory}

-- the bytes under each name; None where there is no such name
abbrev pub Holding : Type 0
Holding = List ℕ → Option (List ℕ)

-- the bytes of a page
abbrev pub page_size : ℕ
page_size = 8192

-- the bytes under a name, where no name holds none
abbrev pub or_empty : Option (List ℕ) → List ℕ
or_empty None = []
or_empty (Some bytes) = bytes

abbrev pub length_of : Option (List ℕ) → Option ℕ
length_of None = None
length_of (Some bytes) = Some (length bytes)

-- ---- the whole, where it is told

-- every name holds what it held
abbrev pub Stays : Option Holding → Option Holding → Type 0
Stays None now = Unit {0}
Stays (Some old) None = ⊥
Stays (Some old) (Some now) = (name : List ℕ) → now name ≡ old name

-- what this name held and holds is as P says, and every other name holds what it held
abbrev pub Changes : Option Holding → Option Holding → List ℕ → (Option (List ℕ) → Option (List ℕ) → Type 0) → Type 0
Changes None now name P = Unit {0}
Changes (Some old) None name P = ⊥
Changes (Some old) (Some now) name P = P (old name) (now name) × ((other : List ℕ) → other ≢ name → now other ≡ old other)

-- what this name holds is as P says
abbrev pub Holds : Option Holding → List ℕ → (Option (List ℕ) → Type 0) → Type 0
Holds None name P = Unit {0}
Holds (Some held) name P = P (held name)

-- ---- one name

-- it is there, with no bytes
abbrev pub IsCleared : Option (List ℕ) → Option (List ℕ) → Type 0
IsCleared old now = now ≡ Some []

-- it is there, and holds one page more
abbrev pub HasPageMore : List ℕ → Option (List ℕ) → Option (List ℕ) → Type 0
HasPageMore page old now = now ≡ Some (or_empty old ++ page)

-- it is as it was, or it is there and holds a front of the page more
abbrev pub HasFrontMore : List ℕ → Option (List ℕ) → Option (List ℕ) → Type 0
HasFrontMore page old now = (now ≡ old) ⊎ ((n : ℕ) × (now ≡ Some (or_empty old ++ take n page)))

-- the page is what stands at the block, or the block does not lie wholly inside the bytes under the name
abbrev pub IsBlock : ℕ → Bool → List ℕ → Option (List ℕ) → Type 0
IsBlock block true page held = (bytes : List ℕ) × (held ≡ Some bytes) × (page_size * block + page_size ≤ length bytes) × (page ≡ slice_range bytes (page_size * block) (page_size * block + page_size))
IsBlock block false page held = length (or_empty held) < page_size * block + page_size

-- ---- each call

-- what a clearing leaves
abbrev pub Clears : Option Holding → Option Holding → List ℕ → Result Unit IoRefused → Type 0
Clears old now name (Ok u) = Changes old now name IsCleared
Clears old now name (Err e) = Stays old now

-- what an added page leaves
abbrev pub Puts : Option Holding → Option Holding → List ℕ → List ℕ → Result Unit IoRefused → Type 0
Puts old now name page (Ok u) = Changes old now name (HasPageMore page)
Puts old now name page (Err Failed) = Changes old now name (HasFrontMore page)
Puts old now name page (Err Memory) = Stays old now
