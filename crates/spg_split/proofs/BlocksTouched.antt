-- The blocks that a division below a root touches.
use Rattle.std.proofs.Common.{◌≡◌, ℕ, ◌+◌, ◌-◌, ◌≤◌, ◌<◌, List, [], ◌∷◌, ◌++◌, ◌⊎◌, ⊎_elim, length, length-append, sym, ◌∙◌, subst, inl, inr, arith}
use Rattle.std.specs.List.{range_with_len}
use Rattle.std.proofs.lemmas.Bool.{cases_lt}
use Rattle.std.proofs.lemmas.List.FromFn.{length-range_with_len}
use Rattle.spg_forest.specs.Tuples.{IsAmong}
use Rattle.spg_split.specs.declared.homes.Homes.{Homes}
use Rattle.spg_split.specs.Homes.{blocks_touched}
use Rattle.spg_tree.specs.Another.{another}
use Rattle.spg_tree.proofs.Among.{left_among, right_among, range_among, another_few, another_cases}

pub touched_few : (b p : ℕ) (h : Homes) (before now : ℕ) → now ≤ before + 4 → length (blocks_touched b p h before now) ≤ 8
touched_few b p h before now le =
    let x = another_few h.inner p before in let y = another_few h.rest b before in
    let a1 = length-append (b ∷ p ∷ []) (another h.inner p before) in
    let a2 = length-append ((b ∷ p ∷ []) ++ another h.inner p before) (another h.rest b before) in
    let a3 = length-append (((b ∷ p ∷ []) ++ another h.inner p before) ++ another h.rest b before) (range_with_len before (now - before)) in
    let r = length-range_with_len before (now - before) in omega arith

-- what is not touched
pub record IsAway (b p : ℕ) (h : Homes) (before now e : ℕ) : Type 0 where
  pub old : e ≡ b → ⊥
  pub above : e ≡ p → ⊥
  pub inner : e ≡ h.inner → ⊥
  pub rest : e ≡ h.rest → ⊥
  pub range : (e < before) ⊎ (now ≤ e)

pub away : (b p : ℕ) (h : Homes) (before now e : ℕ) → before ≤ now → h.inner < now → h.rest < now → (IsAmong e (blocks_touched b p h before now) → ⊥) → IsAway b p h before now e
away b p h before now e le hi hr none = record {
  old = old;
  above = above;
  inner = λ q. ⊎_elim (λ c. above (q ∙ c)) (λ c. ⊎_elim (λ g. new (omega arith) (omega arith)) (λ a. none (left_among e (xs ++ another h.rest b before) rs (left_among e xs (another h.rest b before) (right_among e (b ∷ p ∷ []) (another h.inner p before) (subst (λ k. IsAmong k (another h.inner p before)) (sym q) a))))) c) (another_cases h.inner p before);
  rest = λ q. ⊎_elim (λ c. old (q ∙ c)) (λ c. ⊎_elim (λ g. new (omega arith) (omega arith)) (λ a. none (left_among e (xs ++ another h.rest b before) rs (right_among e xs (another h.rest b before) (subst (λ k. IsAmong k (another h.rest b before)) (sym q) a)))) c) (another_cases h.rest b before);
  range = ⊎_elim (λ g. inl g) (λ g. ⊎_elim (λ k. absurd (new g k)) (λ k. inr k) (cases_lt e now)) (cases_lt e before);
}
  where
    xs : List ℕ
    xs = (b ∷ p ∷ []) ++ another h.inner p before

    rs : List ℕ
    rs = range_with_len before (now - before)

    old : e ≡ b → ⊥
    old q = none (left_among e (((b ∷ p ∷ []) ++ another h.inner p before) ++ another h.rest b before) (range_with_len before (now - before)) (left_among e ((b ∷ p ∷ []) ++ another h.inner p before) (another h.rest b before) (left_among e (b ∷ p ∷ []) (another h.inner p before) (inl q))))

    above : e ≡ p → ⊥
    above q = none (left_among e (((b ∷ p ∷ []) ++ another h.inner p before) ++ another h.rest b before) (range_with_len before (now - before)) (left_among e ((b ∷ p ∷ []) ++ another h.inner p before) (another h.rest b before) (left_among e (b ∷ p ∷ []) (another h.inner p before) (inr (inl q)))))

    new : before ≤ e → e < now → ⊥
    new g k = none (right_among e (((b ∷ p ∷ []) ++ another h.inner p before) ++ another h.rest b before) (range_with_len before (now - before)) (range_among (now - before) before e g (omega arith)))
