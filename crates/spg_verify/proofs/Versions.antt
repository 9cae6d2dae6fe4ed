-- There are two versions.
use Rattle.std.proofs.Common.{◌≡◌, ℕ, Bool, true, false, if◌then◌else◌, ◌⊎◌, inl, inr, refl}
use Rattle.std.specs.Prelude.{◌==◌}
use Rattle.std.specs.List.{list_any}
use Rattle.spg_verify.specs.Versions.{second_codes, version_of}

pub known_version : (code : ℕ) → (version_of code ≡ 1) ⊎ (version_of code ≡ 2)
known_version code = by (list_any (λ c. c == code) second_codes)
  where
    number : Bool → ℕ
    number b = if b then 2 else 1

    by : (b : Bool) → (number b ≡ 1) ⊎ (number b ≡ 2)
    by true = inr refl
    by false = inl refl
