-- Which inserts an index is created of: each row once, as the first insert of it says.
use Rattle.std.specs.Prelude.{◌≡◌, ◌⊎◌, ◌++◌, ℕ, suc, List, [], ◌∷◌, Option, Some}
use Rattle.spg_script.specs.declared.inserts.Insert.{Insert}
use Rattle.spg_script.specs.Speech.{Speech, key_or_null_in}
use Rattle.spg_build.specs.declared.entry.Entry.{Entry}
use Rattle.spg_build.specs.Built.{HasRowIn}

-- the class has the key of an insert
abbrev pub IsKnownInsert : {Key Cond : Type 0} → Speech Key Cond → Insert → Type 0
IsKnownInsert {Key} speech i = (key : Option Key) × (key_or_null_in speech i.key ≡ Some key)

-- The inserts behind the entries that are kept already lead to these entries, and so many are skipped. An insert whose row is there is skipped; any other comes last, with its key as the class has it
abbrev pub Keeps : {Key Cond : Type 0} → Speech Key Cond → List (Entry Key) → List Insert → List (Entry Key) → ℕ → Type 0
Keeps speech kept [] entries skipped = (entries ≡ kept) × (skipped ≡ 0)
Keeps {Key} speech kept (i ∷ inserts) entries skipped =
    (HasRowIn kept i.row × ((less : ℕ) × (skipped ≡ suc less) × Keeps speech kept inserts entries less))
    ⊎ ((HasRowIn kept i.row → ⊥) × ((key : Option Key) × (key_or_null_in speech i.key ≡ Some key) × Keeps speech (kept ++ record { row = i.row; key = key } ∷ []) inserts entries skipped))

-- the same of one insert: it is skipped since its row is there, or it comes last
abbrev pub KeepsOne : {Key Cond : Type 0} → Speech Key Cond → List (Entry Key) → Insert → List (Entry Key) → (skipped more : ℕ) → Type 0
KeepsOne {Key} speech kept i now skipped more =
    (HasRowIn kept i.row × (now ≡ kept) × (more ≡ suc skipped))
    ⊎ ((HasRowIn kept i.row → ⊥) × ((key : Option Key) × (key_or_null_in speech i.key ≡ Some key) × (now ≡ kept ++ record { row = i.row; key = key } ∷ [])) × (more ≡ skipped))
