-- The same nodes by counting: what is below the median goes to node 0, and of its equals the first
-- ones, as many as are still wanted there.
use Rattle.std.specs.Prelude.{ℕ, ◌-◌, ◌/◌, ◌==◌, if◌then◌else◌, List, [], ◌∷◌, length, count_by, nat_lt}

-- how many values that equal the median go to node 0
unfoldable pub ties_of : ℕ → List ℕ → ℕ
ties_of p ks = length ks / 2 - count_by (λ k. nat_lt k p) ks

-- the nodes of values, where so many equals are still wanted in node 0
unfoldable pub sides : ℕ → ℕ → List ℕ → List ℕ
sides p t [] = []
sides p t (k ∷ ks) =
    if nat_lt k p then 0 ∷ sides p t ks
    else if nat_lt p k then 1 ∷ sides p t ks
    else if t == 0 then 1 ∷ sides p t ks
    else 0 ∷ sides p (t - 1) ks
