-- The ends of a chain while it grows.
use Rattle.std.specs.Prelude.{ℕ, Option, Some, None}
use Rattle.spg_split.specs.declared.placing.Ends.{Ends}

-- its last offset
abbrev pub last_of : Option Ends → Option ℕ
last_of None = None
last_of (Some e) = Some e.last

-- its head, or another where there is none
abbrev pub head_or : Option Ends → Option ℕ → Option ℕ
head_or None o = o
head_or (Some e) o = Some e.head
