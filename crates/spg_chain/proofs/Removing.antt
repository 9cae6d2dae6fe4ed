-- The targets taken out of a root leaf page.
use Rattle.std.proofs.Common.{◌≡◌, ℕ, zero, suc, ◌-◌, ◌≤◌, ◌<◌, List, [], ◌∷◌, ⊎_elim, Bool, true, false, take, length, get_or, refl, sym, ap, ◌∙◌, arith}
use Rattle.std.specs.Prelude.{cond}
use Rattle.std.specs.List.{remove}
use Rattle.std.proofs.lemmas.Bool.{cases_Bool, cases_lt, cond-true, cond-false}
use Rattle.spg_base.specs.Row.{RowAt}
use Rattle.spg_forest.specs.View.{Leaf}
use Rattle.spg_forest.specs.Tuples.{Tuple, Live, Placeholder}
use Rattle.spg_forest.specs.Pages.{tuple_on, all_live}
use Rattle.spg_forest.specs.Sheets.{Sheet, with_tuples}
use Rattle.spg_cover.specs.Swept.{kept}
use Rattle.spg_chain.specs.Told.{is_target, without_targets}

module _ (test : RowAt → Bool) where
  pub gone_same : (us : List Tuple) (k : ℕ) → k < length us → is_target test (get_or us k Placeholder) ≡ true → without_targets test (remove us k) ≡ without_targets test us
  gone_same [] k h e = absurd (omega arith)
  gone_same (t ∷ ts) zero h e = sym (cond-true (is_target test t) (without_targets test ts) (t ∷ without_targets test ts) e)
  gone_same (t ∷ ts) (suc k) h e = ap (λ us. cond (is_target test t) us (t ∷ us)) (gone_same ts k (omega arith) e)

  pub gone_front : (us : List Tuple) (k : ℕ) → k < length us → take k (remove us k) ≡ take k us
  gone_front [] k h = absurd (omega arith)
  gone_front (t ∷ ts) zero h = refl
  gone_front (t ∷ ts) (suc k) h = ap (λ us. t ∷ us) (gone_front ts k (omega arith))

  pub gone_length : (us : List Tuple) (k : ℕ) → k < length us → suc (length (remove us k)) ≡ length us
  gone_length [] k h = absurd (omega arith)
  gone_length (t ∷ ts) zero h = refl
  gone_length (t ∷ ts) (suc k) h = ap (λ n. suc n) (gone_length ts k (omega arith))

  -- no target among the first k
  pub NoneIn : List Tuple → ℕ → Type 0
  NoneIn us k = (i : ℕ) → i < k → is_target test (get_or us i Placeholder) ≡ false

  pub none_gone : (us : List Tuple) → NoneIn us (length us) → without_targets test us ≡ us
  unfolding NoneIn
  none_gone [] h = refl
  none_gone (t ∷ ts) h = cond-false (is_target test t) (without_targets test ts) (t ∷ without_targets test ts) (h 0 (omega arith)) ∙ ap (λ us. t ∷ us) (none_gone ts (λ i l. h (suc i) (omega arith)))

  gone_get : (us : List Tuple) (k i : ℕ) → i < k → k < length us → get_or (remove us k) i Placeholder ≡ get_or us i Placeholder
  gone_get [] k i l h = absurd (omega arith)
  gone_get (t ∷ ts) zero i l h = absurd (omega arith)
  gone_get (t ∷ ts) (suc k) zero l h = refl
  gone_get (t ∷ ts) (suc k) (suc i) l h = gone_get ts k i (omega arith) (omega arith)

  pub record Removing (p0 page : Sheet) (index : ℕ) : Type 0 where
    pub page_is : page ≡ with_tuples p0 page.tuples
    pub whole : without_targets test page.tuples ≡ without_targets test p0.tuples
    pub none : NoneIn page.tuples index
    pub few : index ≤ length page.tuples

  pub removing_begun : (p0 : Sheet) → Removing p0 p0 0
  unfolding NoneIn
  removing_begun p0 = record { page_is = refl; whole = refl; none = λ i h. absurd (omega arith); few = omega arith }

  pub removing_target : (p0 page page2 : Sheet) (k j : ℕ) → j ≡ suc k → k < length page.tuples → is_target test (tuple_on page.tuples j) ≡ true → page2 ≡ with_tuples page (remove page.tuples (j - 1)) → Removing p0 page k → Removing p0 page2 k
  unfolding NoneIn
  removing_target p0 page page2 k j q h e s R =
      let d : j - 1 ≡ k = omega arith in
      let f : page2 ≡ with_tuples page (remove page.tuples k) = s ∙ ap (λ i. with_tuples page (remove page.tuples i)) d in
      let g : is_target test (get_or page.tuples k Placeholder) ≡ true = ap (λ i. is_target test (tuple_on page.tuples i)) (sym q) ∙ e in
      let n = gone_length page.tuples k h in
      let m = ap (λ (x : Sheet). length x.tuples) f in
      record {
        page_is = f ∙ ap (λ (x : Sheet). with_tuples x (remove page.tuples k)) R.page_is ∙ ap (λ (x : Sheet). with_tuples p0 x.tuples) (sym f);
        whole = ap (λ (x : Sheet). without_targets test x.tuples) f ∙ gone_same page.tuples k h g ∙ R.whole;
        none = λ i l. ap (λ (x : Sheet). is_target test (get_or x.tuples i Placeholder)) f ∙ ap (is_target test) (gone_get page.tuples k i l h) ∙ R.none i l;
        few = omega arith;
      }

  pub removing_other : (p0 page : Sheet) (k j : ℕ) → j ≡ suc k → k < length page.tuples → is_target test (tuple_on page.tuples j) ≡ false → Removing p0 page k → Removing p0 page j
  unfolding NoneIn
  removing_other p0 page k j q h e R = record {
    page_is = R.page_is;
    whole = R.whole;
    none = λ i l. ⊎_elim (λ a. R.none i a) (λ a. let b : i ≡ k = omega arith in ap (λ x. is_target test (get_or page.tuples x Placeholder)) b ∙ ap (λ x. is_target test (tuple_on page.tuples x)) (sym q) ∙ e) (cases_lt i k);
    few = omega arith;
  }

  pub removing_done : (p0 page : Sheet) (k : ℕ) → length page.tuples ≤ k → Removing p0 page k → page ≡ with_tuples p0 (without_targets test p0.tuples)
  unfolding NoneIn
  removing_done p0 page k h R = R.page_is ∙ ap (with_tuples p0) (sym (none_gone page.tuples (λ i l. R.none i (omega arith))) ∙ R.whole)

  pub root_swept : (ls : List Leaf) → without_targets test (all_live ls) ≡ all_live (kept test ls)
  root_swept [] = refl
  root_swept (l ∷ ls) = ⊎_elim
      (λ e. cond-true (test l.row) (without_targets test (all_live ls)) (Live l 0 ∷ without_targets test (all_live ls)) e ∙ root_swept ls ∙ ap all_live (sym (cond-true (test l.row) (kept test ls) (l ∷ kept test ls) e)))
      (λ e. cond-false (test l.row) (without_targets test (all_live ls)) (Live l 0 ∷ without_targets test (all_live ls)) e ∙ ap (λ us. Live l 0 ∷ us) (root_swept ls) ∙ ap all_live (sym (cond-false (test l.row) (kept test ls) (l ∷ kept test ls) e))) (cases_Bool (test l.row))
