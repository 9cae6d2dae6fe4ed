-- Numbers as keys, their bytes, and what a query asks of them.
use Rattle.std.specs.Prelude.{ℕ, ◌%◌, ◌^◌, ◌==◌, nat_lt, nat_le, Bool, ◌&&◌, if◌then◌else◌, List, length, Option, Some, None}
use Rattle.std.specs.Int.{w64, from_le_bytes, to_le_bytes}
use Rattle.spg_example_trie.specs.declared.number.Number.{Number}
use Rattle.spg_example_trie.specs.declared.number.NumberCond.{NumberCond}
use Rattle.spg_example_trie.specs.declared.number.NumberCond.TheVariants.{Eq, Between}

-- a number of 64 bits
abbrev pub is_number : Number → Bool
is_number key = nat_lt key.value (2 ^ 64)

-- its 8 bytes, the low one first
abbrev pub bytes_of : Number → List ℕ
bytes_of key = to_le_bytes w64 key.value

-- the number that bytes stand for: 0 where they are not 8
unfoldable pub number_of : List ℕ → ℕ
number_of bytes = if length bytes == 8 then from_le_bytes w64 bytes % 2 ^ 64 else 0

-- the key of a rest
unfoldable pub rebuilt : List ℕ → Option Number
rebuilt rest = if length rest == 8 then Some (record { value = number_of rest }) else None

-- the lowest and the highest number that is asked for
abbrev pub low_end : NumberCond → ℕ
low_end (Eq n) = n
low_end (Between low high) = low

abbrev pub high_end : NumberCond → ℕ
high_end (Eq n) = n
high_end (Between low high) = high

-- a condition holds of the numbers between its ends, both within
abbrev pub cond_holds : NumberCond → ℕ → Bool
cond_holds cond n = nat_le (low_end cond) n && nat_le n (high_end cond)
