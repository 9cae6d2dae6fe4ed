-- The blocks that are touched where a longer tuple goes to a picked page.
use Rattle.std.proofs.Common.{◌≡◌, ℕ, ◌+◌, ◌-◌, ◌≤◌, ◌<◌, List, [], ◌∷◌, ◌++◌, ◌⊎◌, ⊎_elim, length, length-append, ◌∙◌, sym, subst, inl, inr, arith}
use Rattle.std.specs.List.{range_with_len}
use Rattle.std.proofs.lemmas.Bool.{cases_lt}
use Rattle.std.proofs.lemmas.List.FromFn.{length-range_with_len}
use Rattle.spg_forest.specs.Tuples.{IsAmong}
use Rattle.spg_tree.specs.Another.{another}
use Rattle.spg_move.specs.Widening.{blocks_shifted}
use Rattle.spg_tree.proofs.Among.{left_among, right_among, range_among, another_few, another_cases}

pub shifted_few : (o a b before now : ℕ) → now ≤ before + 3 → length (blocks_shifted o a b before now) ≤ 8
shifted_few o a b before now le =
    let x = another_few a o before in let y = another_few b a before in
    let a1 = length-append (o ∷ []) (another a o before) in
    let a2 = length-append ((o ∷ []) ++ another a o before) (another b a before) in
    let a3 = length-append (((o ∷ []) ++ another a o before) ++ another b a before) (range_with_len before (now - before)) in
    let r = length-range_with_len before (now - before) in omega arith

-- what is not touched
pub record IsAway (o a b before now e : ℕ) : Type 0 where
  pub old : e ≡ o → ⊥
  pub above : e ≡ a → ⊥
  pub picked : e ≡ b → ⊥
  pub range : (e < before) ⊎ (now ≤ e)

pub away : (o a b before now e : ℕ) → before ≤ now → a < before → b < now → (IsAmong e (blocks_shifted o a b before now) → ⊥) → IsAway o a b before now e
away o a b before now e le ha hb none = record {
  old = old;
  above = above;
  picked = λ q. ⊎_elim (λ c. above (q ∙ c)) (λ c. ⊎_elim (λ g. new (omega arith) (omega arith)) (λ k. none (left_among e (xs ++ another b a before) rs (right_among e xs (another b a before) (subst (λ i. IsAmong i (another b a before)) (sym q) k)))) c) (another_cases b a before);
  range = ⊎_elim (λ g. inl g) (λ g. ⊎_elim (λ k. absurd (new g k)) (λ k. inr k) (cases_lt e now)) (cases_lt e before);
}
  where
    xs : List ℕ
    xs = (o ∷ []) ++ another a o before

    rs : List ℕ
    rs = range_with_len before (now - before)

    front : IsAmong e ((o ∷ []) ++ another a o before) → ⊥
    front k = none (left_among e (((o ∷ []) ++ another a o before) ++ another b a before) (range_with_len before (now - before)) (left_among e ((o ∷ []) ++ another a o before) (another b a before) k))

    old : e ≡ o → ⊥
    old q = front (inl q)

    above : e ≡ a → ⊥
    above q = ⊎_elim (λ c. old (q ∙ c)) (λ c. ⊎_elim (λ g. absurd (omega arith)) (λ k. front (inr (subst (λ i. IsAmong i (another a o before)) (sym q) k))) c) (another_cases a o before)

    new : before ≤ e → e < now → ⊥
    new g k = none (right_among e (((o ∷ []) ++ another a o before) ++ another b a before) (range_with_len before (now - before)) (range_among (now - before) before e g (omega arith)))
