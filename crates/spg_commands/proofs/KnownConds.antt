-- The conditions of a class that a script names, one after another.
use Rattle.std.proofs.Common.{◌≡◌, ◌<◌, ◌+◌, ℕ, List, [], ◌∷◌, ◌++◌, length, drop, get_or, Option, Some, None, refl, sym, ap, ◌∙◌}
use Rattle.std.specs.Prelude.{option_map}
use Rattle.std.proofs.lemmas.List.{append_assoc, at_drop_more}
use Rattle.spg_script.specs.declared.any_cond.AnyCond.{AnyCond}
use Rattle.spg_script.specs.Speech.{Speech, conds_in}

module _ {Key Cond : Type 0} (speech : Speech Key Cond) where
  -- conditions that stand before those that are found
  abbrev pub before : List Cond → Option (List Cond) → Option (List Cond)
  before front found = option_map (λ more. front ++ more) found

  none_before : (found : Option (List Cond)) → found ≡ before [] found
  none_before None = refl
  none_before (Some found) = refl

  one_before : (front : List Cond) (d : Cond) (found : Option (List Cond)) → before front (option_map (λ more. d ∷ more) found) ≡ before (front ++ d ∷ []) found
  one_before front d None = refl
  one_before front d (Some found) = ap (λ l. Some l) (sym (append_assoc front (d ∷ []) found))

  pub known_start : (conds : List AnyCond) → conds_in speech conds ≡ before [] (conds_in speech conds)
  known_start conds = none_before (conds_in speech conds)

  module _ (front : List Cond) (conds : List AnyCond) (i : ℕ) (c : AnyCond) (within : i < length conds) (here : c ≡ get_or conds i c) (is : conds_in speech conds ≡ before front (conds_in speech (drop i conds))) where
    at_here : conds_in speech (drop i conds) ≡ conds_in speech (c ∷ drop (i + 1) conds)
    at_here = at_drop_more (conds_in speech) conds i c within ∙ ap (λ (x : AnyCond). conds_in speech (x ∷ drop (i + 1) conds)) (sym here)

    pub known_none : speech.cond_in c ≡ None → conds_in speech conds ≡ None
    known_none no_cond = let none : conds_in speech (drop i conds) ≡ None = at_here ∙ rw no_cond refl in is ∙ ap (before front) none

    pub known_more : (d : Cond) → speech.cond_in c ≡ Some d → conds_in speech conds ≡ before (front ++ d ∷ []) (conds_in speech (drop (i + 1) conds))
    known_more d found =
        let more : conds_in speech (drop i conds) ≡ option_map (λ rest. d ∷ rest) (conds_in speech (drop (i + 1) conds)) = at_here ∙ rw found refl in
        is ∙ ap (before front) more ∙ one_before front d (conds_in speech (drop (i + 1) conds))
