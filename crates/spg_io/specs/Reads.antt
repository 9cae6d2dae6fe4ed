-- What each form of a source tells of one read.
use Rattle.std.specs.Prelude.{◌≡◌, ℕ, true, false, List, length, drop, min, Result, Ok, Err}
use Rattle.spg_base.specs.declared.memory.Failed.{Failed}
use Rattle.spg_io.specs.Calls.{Calls, fails_next, went_through, failed_once, one_more}

-- bytes in memory
pub record Stock : Type 0 where
  pub left : List ℕ
  -- the greatest number of bytes that one read gives
  pub most : ℕ

-- a read into a buffer takes as many bytes as there are, and as fit, up to the greatest number
abbrev pub given_of : Stock → List ℕ → ℕ
given_of s buf = min (min (length s.left) (length buf)) s.most

-- what is left behind it
abbrev pub stock_after : Stock → List ℕ → Stock
stock_after s buf = record { left = drop (given_of s buf) s.left; most = s.most }

-- no read fails
abbrev pub PlainRead : Stock → List ℕ → Result ℕ Failed → Stock → Type 0
PlainRead old buf (Ok n) new = (n ≡ given_of old buf) × (new ≡ stock_after old buf)
PlainRead old buf (Err e) new = ⊥

-- bytes in memory, and the calls on them
pub record FaultyStock : Type 0 where
  pub stock : Stock
  pub calls : Calls

-- a read fails exactly where its number was named
abbrev pub FaultyRead : FaultyStock → List ℕ → Result ℕ Failed → FaultyStock → Type 0
FaultyRead old buf (Ok n) new =
    (fails_next old.calls ≡ false) × (n ≡ given_of old.stock buf) × (new ≡ record { stock = stock_after old.stock buf; calls = went_through old.calls })
FaultyRead old buf (Err e) new =
    (fails_next old.calls ≡ true) × (new ≡ record { stock = old.stock; calls = failed_once old.calls })

-- a count of faults rises by one exactly where the reader refused
abbrev pub InputRead : ℕ → Result ℕ Failed → ℕ → Type 0
InputRead old (Ok n) new = new ≡ old
InputRead old (Err e) new = new ≡ one_more old
