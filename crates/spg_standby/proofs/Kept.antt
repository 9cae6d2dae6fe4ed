-- A list whose last elements are taken off, and one without elements.
use Rattle.std.proofs.Common.{◌≡◌, ◌<◌, ◌≤◌, ◌+◌, ℕ, List, [], ◌∷◌, ◌++◌, length, length-append, take, refl, sym, ap, ◌∙◌, arith}
use Rattle.std.proofs.lemmas.List.{take_at, take-take}

-- what is left without the last one is a front still, and has as many as are to stay
pub kept_less : {A : Type 0} (all old new : List A) (last : A) (count : ℕ) → old ≡ new ++ last ∷ [] → count < length old → old ≡ take (length old) all → (count ≤ length new) × (new ≡ take (length new) all)
kept_less all old new last count is more before =
    let long : length old ≡ length new + 1 = ap length is ∙ length-append new (last ∷ []) in
    (omega arith, sym (take_at new (last ∷ []) (length new) refl) ∙ ap (take (length new)) (sym is ∙ before) ∙ take-take (length new) (length old) all (omega arith))

pub none_there : {A : Type 0} (items : List A) → length items ≡ 0 → items ≡ []
none_there [] h = refl
none_there (x ∷ items) h = absurd (omega arith)
