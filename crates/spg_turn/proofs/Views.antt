-- Tickets and views: how many are out, how many are live, which is whose.
use Rattle.std.proofs.Common.{◌≡◌, ℕ, zero, suc, ◌+◌, ◌<◌, ◌≤◌, ◌≢◌, ◌⊎◌, true, false, List, [], ◌∷◌, ◌++◌, length, set, Option, Some, None, sym, refl, ap, ◌∙◌, subst, inl, inr, ⊎_elim, arith}
use Rattle.std.proofs.lemmas.Bool.{false≢true}
use mathlib.Core.Option.{some, some-injective, some-ne-none}
use lib.ListN.{get_elem?}
use Rattle.atomic_table.proofs.Lists.{at_set}
use Rattle.spg_turn.specs.declared.rule.Stage.{Stage}
use Rattle.spg_turn.specs.declared.rule.Stage.TheVariants.{Idle, Waiting, Holding}
use Rattle.spg_turn.specs.declared.rule.View.{View}
use Rattle.spg_turn.specs.Rule.{ticket_of, weight, is_live, is_holding, tickets_out, live}

abbrev pub some_or : {A : Type 0} → A → Option A → A
some_or d None = d
some_or d (Some x) = x

abbrev pub carried_or : {A : Type 0} → A → List (ℕ × Option A) → A
carried_or d [] = d
carried_or d (x ∷ xs) = some_or d x.1

pub some_same : {A : Type 0} → (x y : A) → Some x ≡ Some y → x ≡ y
some_same x y e = cc

pub no_ticket : (t : ℕ) → None ≡ Some t → ⊥
no_ticket t e = cc

pub waiting_not_holding : (t u : ℕ) → Waiting t ≡ Holding u → ⊥
waiting_not_holding t u e = cc

pub idle_not_holding : (u : ℕ) → Idle ≡ Holding u → ⊥
idle_not_holding u e = cc

pub holds_some : (st : Stage) → is_holding st ≡ true → (t : ℕ) × (st ≡ Holding t)
holds_some Idle e = absurd (false≢true e)
holds_some (Waiting t) e = absurd (false≢true e)
holds_some (Holding t) e = (t, refl)

pub ticket_held : (st : Stage) (t : ℕ) → st ≡ Holding t → ticket_of st ≡ Some t
ticket_held st t e = ap ticket_of e

pub weight_below : (s : Stage) → weight s ≤ 1
weight_below Idle = omega arith
weight_below (Waiting t) = omega arith
weight_below (Holding t) = omega arith

-- the words after the first three
pub set_past : (a b c : ℕ) (bells : List ℕ) (w x : ℕ) → 3 ≤ w → (rest : List ℕ) × (set (a ∷ b ∷ c ∷ bells) w x ≡ a ∷ b ∷ c ∷ rest)
set_past a b c bells zero x past = absurd (omega arith)
set_past a b c bells (suc zero) x past = absurd (omega arith)
set_past a b c bells (suc (suc zero)) x past = absurd (omega arith)
set_past a b c bells (suc (suc (suc w))) x past = (set bells w x, refl)

module _ {E : Type 0} where
  pub tickets-set : (vs : List (View E)) (i : ℕ) (v w : View E) → get_elem? vs i ≡ some v → tickets_out (set vs i w) + weight v.stage ≡ tickets_out vs + weight w.stage
  tickets-set [] i v w e = absurd (some-ne-none v (sym e))
  tickets-set (x ∷ xs) zero v w e = let is : weight x.stage ≡ weight v.stage = ap (λ (m : View E). weight m.stage) (some-injective x v e) in omega arith
  tickets-set (x ∷ xs) (suc i) v w e = let r = tickets-set xs i v w e in omega arith

  pub live-set : (vs : List (View E)) (i : ℕ) (v w : View E) → get_elem? vs i ≡ some v → live (set vs i w) + is_live v.spent ≡ live vs + is_live w.spent
  live-set [] i v w e = absurd (some-ne-none v (sym e))
  live-set (x ∷ xs) zero v w e = let is : is_live x.spent ≡ is_live v.spent = ap (λ (m : View E). is_live m.spent) (some-injective x v e) in omega arith
  live-set (x ∷ xs) (suc i) v w e = let r = live-set xs i v w e in omega arith

  pub tickets_below : (vs : List (View E)) → tickets_out vs ≤ length vs
  tickets_below [] = omega arith
  tickets_below (x ∷ xs) = let r = tickets_below xs in let h = weight_below x.stage in omega arith

  pub at_end : (l : List (View E)) (a b : View E) (j : ℕ) → get_elem? (l ++ a ∷ []) j ≡ some b → (get_elem? l j ≡ some b) ⊎ ((j ≡ length l) × (a ≡ b))
  at_end [] a b zero e = inr (refl, some-injective a b e)
  at_end [] a b (suc j) e = absurd (some-ne-none b (sym e))
  at_end (x ∷ xs) a b zero e = inl e
  at_end (x ∷ xs) a b (suc j) e = ⊎_elim (λ h. inl h) (λ h. let n = h.0 in inr (omega arith, h.1)) (at_end xs a b j e)

  pub tickets-snoc : (l : List (View E)) (a : View E) → tickets_out (l ++ a ∷ []) ≡ tickets_out l + weight a.stage
  tickets-snoc [] a = omega arith
  tickets-snoc (x ∷ xs) a = let r = tickets-snoc xs a in omega arith

  pub live-snoc : (l : List (View E)) (a : View E) → live (l ++ a ∷ []) ≡ live l + is_live a.spent
  live-snoc [] a = omega arith
  live-snoc (x ∷ xs) a = let r = live-snoc xs a in omega arith

  pub live_some : (vs : List (View E)) (i : ℕ) (v : View E) → get_elem? vs i ≡ some v → v.spent ≡ false → 0 < live vs
  live_some [] i v e sp = absurd (some-ne-none v (sym e))
  live_some (x ∷ xs) zero v e sp = let is : is_live x.spent ≡ 1 = ap (λ (m : View E). is_live m.spent) (some-injective x v e) ∙ ap is_live sp in omega arith
  live_some (x ∷ xs) (suc i) v e sp = let r = live_some xs i v e sp in omega arith

  -- where one seat is left, it is this one
  pub one_live : (vs : List (View E)) (i j : ℕ) (v u : View E) → live vs ≡ 1 → get_elem? vs i ≡ some v → v.spent ≡ false → get_elem? vs j ≡ some u → u.spent ≡ false → j ≡ i
  one_live [] i j v u one e sp k sq = absurd (some-ne-none v (sym e))
  one_live (x ∷ xs) zero zero v u one e sp k sq = refl
  one_live (x ∷ xs) zero (suc j) v u one e sp k sq =
      let is : is_live x.spent ≡ 1 = ap (λ (m : View E). is_live m.spent) (some-injective x v e) ∙ ap is_live sp in
      let r = live_some xs j u k sq in absurd (omega arith)
  one_live (x ∷ xs) (suc i) zero v u one e sp k sq =
      let is : is_live x.spent ≡ 1 = ap (λ (m : View E). is_live m.spent) (some-injective x u k) ∙ ap is_live sq in
      let r = live_some xs i v e sp in absurd (omega arith)
  one_live (x ∷ xs) (suc i) (suc j) v u one e sp k sq =
      let r = live_some xs i v e sp in
      let one' : live xs ≡ 1 = omega arith in
      let h = one_live xs i j v u one' e sp k sq in omega arith

  pub at_only : (P : ℕ → View E → Type 0) (v : View E) → P 0 v → (j : ℕ) (u : View E) → get_elem? (v ∷ []) j ≡ some u → P j u
  at_only P v mine zero u q = subst (P 0) (some-injective v u q) mine
  at_only P v mine (suc j) u q = absurd (some-ne-none u (sym q))

  pub in_range : (vs : List (View E)) (i : ℕ) (v : View E) → get_elem? vs i ≡ some v → i < length vs
  in_range [] i v e = absurd (some-ne-none v (sym e))
  in_range (x ∷ xs) zero v e = omega arith
  in_range (x ∷ xs) (suc i) v e = let r = in_range xs i v e in omega arith

  pub same_there : (vs : List (View E)) (i : ℕ) (v w : View E) → get_elem? vs i ≡ some v → get_elem? vs i ≡ some w → v ≡ w
  same_there vs i v w a b = some-injective v w (sym a ∙ b)

  -- what is so of each view still is, once one of them has changed
  pub seats_stay : (P : ℕ → View E → Type 0) (vs : List (View E)) (me : ℕ) (w : View E) → P me w → ((j : ℕ) (u : View E) → j ≢ me → get_elem? vs j ≡ some u → P j u)
      → (j : ℕ) (u : View E) → get_elem? (set vs me w) j ≡ some u → P j u
  seats_stay P vs me w mine others j u e =
      ⊎_elim
      (λ (t : (j ≡ me) × (w ≡ u)). subst (λ (x : ℕ × View E). P x.0 x.1) (λ i. (sym t.0 i, t.1 i)) mine)
      (λ (t : (j ≢ me) × (get_elem? vs j ≡ some u)). others j u t.0 t.1)
      (at_set vs me j w u e)
