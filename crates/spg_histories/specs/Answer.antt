-- What is said of a run of commands, whatever its status.
use Rattle.std.specs.Prelude.{◌≡◌, ◌++◌, ℕ, List, Option}
use Rattle.std.specs.Io.KnownBytes.{Appends}
use Rattle.spg_histories.specs.Ending.{Writing, all_taken, write_failed, memory_wanting}

-- a sink took all of the text, or a front of it
abbrev pub Wrote : Writing → Option (List ℕ) → Option (List ℕ) → List ℕ → Type 0
Wrote all_taken old new whole = Appends old new whole
Wrote write_failed old new whole = (front : List ℕ) × (left : List ℕ) × Appends old new front × (whole ≡ front ++ left)
Wrote memory_wanting old new whole = (front : List ℕ) × (left : List ℕ) × Appends old new front × (whole ≡ front ++ left)
