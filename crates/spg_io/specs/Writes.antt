-- What each form of a sink tells of one write.
use Rattle.std.specs.Prelude.{◌≡◌, ℕ, true, false, List, ◌++◌, length, Result, Ok, Err}
use Rattle.spg_io.specs.declared.sink.IoRefused.{IoRefused}
use Rattle.spg_io.specs.declared.sink.IoRefused.TheVariants.{Failed, Memory}
use Rattle.spg_io.specs.Calls.{Calls, fails_next, went_through, failed_once, one_more}

-- no write fails, and each takes all of its piece
abbrev pub PlainWrite : List ℕ → List ℕ → Result ℕ IoRefused → List ℕ → Type 0
PlainWrite old piece (Ok n) new = (n ≡ length piece) × (new ≡ old ++ piece)
PlainWrite old piece (Err Failed) new = ⊥
PlainWrite old piece (Err Memory) new = new ≡ old

-- the bytes that were taken, and the calls that took them
pub record FaultyStore : Type 0 where
  pub bytes : List ℕ
  pub calls : Calls

-- a write fails exactly where its number was named; else it takes all of its piece, or meets want of memory and is not counted
abbrev pub FaultyWrite : FaultyStore → List ℕ → Result ℕ IoRefused → FaultyStore → Type 0
FaultyWrite old piece (Ok n) new =
    (fails_next old.calls ≡ false) × (n ≡ length piece) × (new ≡ record { bytes = old.bytes ++ piece; calls = went_through old.calls })
FaultyWrite old piece (Err Failed) new =
    (fails_next old.calls ≡ true) × (new ≡ record { bytes = old.bytes; calls = failed_once old.calls })
FaultyWrite old piece (Err Memory) new = (fails_next old.calls ≡ false) × (new ≡ old)

-- a count of faults rises by one exactly where a write failed, and no write answers want of memory
abbrev pub OutputWrite : ℕ → Result ℕ IoRefused → ℕ → Type 0
OutputWrite old (Ok n) new = new ≡ old
OutputWrite old (Err Failed) new = new ≡ one_more old
OutputWrite old (Err Memory) new = ⊥
