-- The numbers that C is told.
use Rattle.std.specs.Prelude.{◌≡◌, ℕ, Result, Ok, Err}
use Rattle.spg_clauses.specs.declared.reason.Reason.{Reason}
use Rattle.spg_clauses.specs.declared.reason.Reason.TheVariants as reasons
use Rattle.spg_c.specs.declared.refused.Refused.{Refused}
use Rattle.spg_c.specs.declared.refused.Refused.TheVariants as refused

-- each cause has a number of its own
abbrev pub number_of : Refused → ℕ
number_of refused.Memory = 1
number_of refused.Range = 2
number_of refused.Closed = 3
number_of refused.Used = 4
number_of refused.Full = 5
number_of refused.Clock = 6
number_of refused.Absent = 7
number_of refused.Class = 8

-- 0 where the call was done
abbrev pub told_as : {T : Type 0} → Result T Refused → ℕ
told_as (Ok x) = 0
told_as (Err e) = number_of e

-- the number is that of an answer of which this holds
abbrev pub IsTold : {T : Type 0} → ℕ → (Result T Refused → Type 0) → Type 0
IsTold {T} number P = (answer : Result T Refused) × (number ≡ told_as answer) × P answer

-- an answer of which the first holds is handed out as the second says
abbrev pub IsHanded : {A : Type 0} → (A → Type 0) → (A → Type 0) → Type 0
IsHanded {A} P Q = (answer : A) × P answer × Q answer

-- the clauses of an image, in the order of docs/FORMAT.md
abbrev pub reason_number : Reason → ℕ
reason_number reasons.Missing = 0
reason_number reasons.Length = 1
reason_number reasons.Header = 2
reason_number reasons.Class = 3
reason_number reasons.Meta = 4
reason_number reasons.Items = 5
reason_number reasons.Tuple = 6
reason_number reasons.Kind = 7
reason_number reasons.Root = 8
reason_number reasons.Redirect = 9
reason_number reasons.Target = 10
reason_number reasons.Count = 11
reason_number reasons.Circle = 12
reason_number reasons.Key = 13
reason_number reasons.Row = 14
