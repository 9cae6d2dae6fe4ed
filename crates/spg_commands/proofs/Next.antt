-- A list, one item more.
use Rattle.std.proofs.Common.{◌≡◌, ◌<◌, ◌+◌, ℕ, List, [], ◌∷◌, ◌++◌, length, take, get_or, sym, ap, ◌∙◌}
use Rattle.std.proofs.lemmas.List.{take_more}

-- the item at an index
pub record IsNext {X : Type 0} (xs : List X) (i : ℕ) (x : X) : Type 0 where
  pub within : i < length xs
  pub here : x ≡ get_or xs i x

module _ {X : Type 0} where
  pub up_to_next : (xs : List X) (i : ℕ) (x : X) → IsNext xs i x → take (i + 1) xs ≡ take i xs ++ x ∷ []
  up_to_next xs i x next = take_more xs i x next.within ∙ ap (λ (y : X). take i xs ++ y ∷ []) (sym next.here)
