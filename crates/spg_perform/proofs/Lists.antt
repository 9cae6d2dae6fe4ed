-- A journal with events at its end.
use Rattle.std.proofs.Common.{◌≡◌, List, [], ◌∷◌, ◌++◌, reverse, ap, ◌∙◌}
use Rattle.std.proofs.lemmas.List.{append_assoc, reverse-append}

module _ {X : Type 0} where
  pub past_with : (old new : List X) (a : X) → new ≡ old ++ a ∷ [] → reverse new ≡ a ∷ reverse old
  past_with old new a is = ap reverse is ∙ reverse-append old (a ∷ [])

  pub past_with_two : (old new : List X) (a b : X) → new ≡ old ++ a ∷ b ∷ [] → reverse new ≡ b ∷ a ∷ reverse old
  past_with_two old new a b is = ap reverse is ∙ reverse-append old (a ∷ b ∷ [])

  pub two_events : (old opened new : List X) (a b : X) → opened ≡ old ++ a ∷ [] → new ≡ opened ++ b ∷ [] → new ≡ old ++ a ∷ b ∷ []
  two_events old opened new a b first second = second ∙ ap (λ j. j ++ b ∷ []) first ∙ append_assoc old (a ∷ []) (b ∷ [])
