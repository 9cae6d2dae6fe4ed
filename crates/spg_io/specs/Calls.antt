-- The calls of an object of which some were named that fail.
use Rattle.std.specs.Prelude.{ℕ, ◌+◌, ◌-◌, ◌^◌, ◌==◌, Bool, List, min}
use Rattle.std.specs.List.{list_any}

pub record Calls : Type 0 where
  -- the numbers of the calls that fail, counted from 1
  pub fails : List ℕ
  -- how many calls were made, and how many of them failed
  pub made : ℕ
  pub faults : ℕ

-- one more, up to the type's end
abbrev pub one_more : ℕ → ℕ
one_more n = min (n + 1) (2 ^ 64 - 1)

-- no call was made
abbrev pub no_calls : List ℕ → Calls
no_calls fails = record { fails = fails; made = 0; faults = 0 }

-- the next call is one that was named
abbrev pub fails_next : Calls → Bool
fails_next c = list_any (λ n. n == one_more c.made) c.fails

-- a call went through
abbrev pub went_through : Calls → Calls
went_through c = record { fails = c.fails; made = one_more c.made; faults = c.faults }

-- a call failed
abbrev pub failed_once : Calls → Calls
failed_once c = record { fails = c.fails; made = one_more c.made; faults = one_more c.faults }
