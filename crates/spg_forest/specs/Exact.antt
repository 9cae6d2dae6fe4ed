-- That a section names exactly the blocks that it changes or adds.
use Rattle.std.specs.Prelude.{◌≡◌, ◌⊎◌, ℕ, ◌<◌, ◌≤◌, List, [], ◌∷◌, length}
use Rattle.spg_forest.specs.Tuples.{IsAmong}
use Rattle.spg_forest.specs.Sheets.{Sheets, sheet_at}

-- the tuples of the block's page have changed, or the block is new
abbrev pub IsWritten : Sheets → Sheets → ℕ → Type 0
IsWritten S S2 b = ((sheet_at S2 b).tuples ≡ (sheet_at S b).tuples → ⊥) ⊎ ((length S.sheets ≤ b) × (b < length S2.sheets))

-- none is named twice
abbrev pub AreOnce : List ℕ → Type 0
AreOnce [] = Unit {0}
AreOnce (b ∷ bs) = (IsAmong b bs → ⊥) × AreOnce bs

-- each block named is one that is written, each new one is named, and none twice. That each page which has changed is named, `others` of a section says
pub record IsExact (S S2 : Sheets) (touched : List ℕ) : Type 0 where
  pub each : (b : ℕ) → IsAmong b touched → IsWritten S S2 b
  pub added : (b : ℕ) → length S.sheets ≤ b → b < length S2.sheets → IsAmong b touched
  pub once : AreOnce touched
