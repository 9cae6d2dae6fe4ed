-- What comes into the caller's memory.
use Rattle.std.specs.Prelude.{◌≡◌, ℕ, ◌<◌, ◌≤◌, ◌⊎◌, List, ◌++◌, length, map, take, drop, Result, Ok, Err}
use Rattle.spg_c.specs.declared.refused.Refused.{Refused}
use Rattle.spg_c.specs.Told.{number_of}

-- the first places have what was found, each as C sees it, as far as there is room; the others stay
abbrev pub handed_out : {A B : Type 0} → (A → B) → List A → List B → List B
handed_out seen found old = map seen (take (length old) found) ++ drop (length found) old

-- and how many were found, whatever room there is; where there was a refusal, both stay
abbrev pub HandsOut : {A B : Type 0} → (A → B) → List B → List B → ℕ → ℕ → ℕ → Result (List A) Refused → Type 0
HandsOut seen old new before count number (Ok found) = (new ≡ handed_out seen found old) × (count ≡ length found) × (number ≡ 0)
HandsOut seen old new before count number (Err e) = (new ≡ old) × (count ≡ before) × (number ≡ number_of e)

-- the buffer begins with the bytes, where there is room for all; else it stays, and the number is 9. Their count is told both times
abbrev pub HandsBytes : List ℕ → List ℕ → ℕ → ℕ → ℕ → Result (List ℕ) Refused → Type 0
HandsBytes old new before len number (Ok bytes) =
    (len ≡ length bytes) × (((length bytes ≤ length old) × (new ≡ bytes ++ drop (length bytes) old) × (number ≡ 0)) ⊎ ((length old < length bytes) × (new ≡ old) × (number ≡ 9)))
HandsBytes old new before len number (Err e) = (new ≡ old) × (len ≡ before) × (number ≡ number_of e)
