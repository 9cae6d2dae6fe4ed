-- How many values each node has.
use Rattle.std.specs.Prelude.{◌≡◌, ℕ, suc, ◌+◌, List, [], ◌∷◌, cond, nat_eq, get_or}

-- how often a node is named
abbrev pub count_in : ℕ → List ℕ → ℕ
count_in j [] = 0
count_in j (k ∷ ks) = cond (nat_eq k j) (suc (count_in j ks)) (count_in j ks)

-- node k has one value more, and the others stay
pub record CountsOne (ns ms : List ℕ) (k : ℕ) : Type 0 where
  pub one : (d : ℕ) → get_or ms k d ≡ get_or ns k d + 1
  pub others : (j : ℕ) (d : ℕ) → (j ≡ k → ⊥) → get_or ms j d ≡ get_or ns j d
