-- A page that is handled, and whether that changes it.
use Rattle.std.proofs.Common.{◌≡◌, ℕ, suc, nat_eq, List, [], ◌∷◌, ⊎_elim, Bool, true, false, length, map, get_or, refl, sym, ap, ap₂, ◌∙◌, subst, arith}
use Rattle.std.specs.Prelude.{cond}
use Rattle.std.proofs.lemmas.Bool.{cases_Bool, cond-true, cond-false}
use Rattle.spg_base.specs.Row.{RowAt}
use Rattle.spg_forest.specs.View.{Place}
use Rattle.spg_forest.specs.Tuples.{Tuple, Inner, Live, Dead, Redirect, Placeholder}
use Rattle.spg_forest.specs.Sheets.{Sheet, with_tuples}
use Rattle.spg_page.specs.Changes.{trimmed}
use Rattle.spg_cover.specs.Swept.{IsSweptPage, targets_on, aged}
use Rattle.spg_chain.specs.Chained.{IsLeafPage}
use Rattle.spg_chain.specs.Told.{without_targets}
use Rattle.spg_chain.proofs.Idle.{nothing_swept}
use Rattle.spg_vacuum.specs.declared.handle.Handled.{Handled}
use Rattle.spg_vacuum.specs.Handled.{AreHandled, IsHandled, rows_at, found_at}

module _ (test : RowAt → Bool) where
  -- no targets are taken from a root's page
  pub none_taken : (ts : List Tuple) → targets_on test ts ≡ [] → without_targets test ts ≡ ts
  none_taken [] e = refl
  none_taken (Live l n ∷ ts) e = ⊎_elim
      (λ t. let q = sym (cond-true (test l.row) (l.row ∷ targets_on test ts) (targets_on test ts) t) ∙ e in cc)
      (λ f. cond-false (test l.row) (without_targets test ts) (Live l n ∷ without_targets test ts) f ∙ ap (λ us. Live l n ∷ us) (none_taken ts (sym (cond-false (test l.row) (l.row ∷ targets_on test ts) (targets_on test ts) f) ∙ e))) (cases_Bool (test l.row))
  none_taken (Inner w ns ∷ ts) e = ap (λ us. Inner w ns ∷ us) (none_taken ts e)
  none_taken (Dead ∷ ts) e = ap (λ us. Dead ∷ us) (none_taken ts e)
  none_taken (Redirect y u ∷ ts) e = ap (λ us. Redirect y u ∷ us) (none_taken ts e)
  none_taken (Placeholder ∷ ts) e = ap (λ us. Placeholder ∷ us) (none_taken ts e)

  -- tuples are told by their offsets
  same_list : (ts us : List Tuple) → length ts ≡ length us → ((k : ℕ) → get_or ts k Placeholder ≡ get_or us k Placeholder) → ts ≡ us
  same_list [] [] n h = refl
  same_list [] (u ∷ us) n h = absurd (omega arith)
  same_list (t ∷ ts) [] n h = absurd (omega arith)
  same_list (t ∷ ts) (u ∷ us) n h = ap₂ (λ x xs. x ∷ xs) (h 0) (same_list ts us (omega arith) (λ k. h (suc k)))

  swept_same : (s : Sheet) (vs : List Tuple) → IsLeafPage s.tuples → targets_on test s.tuples ≡ [] → IsSweptPage test s.tuples vs → vs ≡ s.tuples
  swept_same s vs P e (n, f) = let (a, (k, g)) = nothing_swept test s P e in
      same_list vs s.tuples n (λ i. ap (λ (T : ℕ → Tuple). T (suc i)) (f ∙ sym g))

  module _ (horizon : ℕ) (s : Sheet) (us : List Tuple) where
    -- nothing to sweep or to age
    pub idle_page : (root inner : Bool) → (root ≡ false → inner ≡ false → IsLeafPage s.tuples) → (inner ≡ false → targets_on test s.tuples ≡ []) → (root ≡ false → trimmed (map (aged horizon) s.tuples) ≡ s.tuples) → AreHandled root inner test horizon s.tuples us → us ≡ s.tuples
    idle_page true true P e t h = h
    idle_page true false P e t h = h ∙ none_taken s.tuples (e refl)
    idle_page false true P e t h = h ∙ t refl
    idle_page false false P e t (vs, w, h) = h ∙ ap (λ xs. trimmed (map (aged horizon) xs)) (swept_same s vs (P refl refl) (e refl) w) ∙ t refl

    -- nothing to sweep, but to age
    pub aged_page : (root inner : Bool) → root ≡ false → (root ≡ false → inner ≡ false → IsLeafPage s.tuples) → (inner ≡ false → targets_on test s.tuples ≡ []) → (trimmed (map (aged horizon) s.tuples) ≡ s.tuples → ⊥) → AreHandled root inner test horizon s.tuples us → us ≡ s.tuples → ⊥
    aged_page true inner r P e t h q = cc
    aged_page false true r P e t h q = t (sym h ∙ q)
    aged_page false false r P e t (vs, w, h) q = t (ap (λ xs. trimmed (map (aged horizon) xs)) (sym (swept_same s vs (P refl refl) (e refl) w)) ∙ sym h ∙ q)

  pub none_at : (s : Sheet) (rows : List RowAt) → rows ≡ rows_at test s → rows ≡ [] → s.inner ≡ false → targets_on test s.tuples ≡ []
  none_at s rows e n i = sym (ap (λ (k : Bool). cond k [] (targets_on test s.tuples)) i) ∙ sym e ∙ n

-- what is told of a page that is handled
pub page_is_handled : (root : Bool) (test : RowAt → Bool) (since horizon : ℕ) (s p q : Sheet) (rows : List RowAt) (found : List Place) (changed : Bool) → p ≡ s → q ≡ with_tuples p q.tuples → AreHandled root p.inner test horizon p.tuples q.tuples → rows ≡ rows_at test p → found ≡ found_at since p →
    (changed ≡ true → rows ≡ [] → AreHandled root s.inner test horizon s.tuples q.tuples → q.tuples ≡ s.tuples → ⊥) → (changed ≡ false → rows ≡ rows_at test s → AreHandled root s.inner test horizon s.tuples q.tuples → q.tuples ≡ s.tuples) →
    (let h : Handled = record { page = q; rows = rows; found = found; changed = changed } in IsHandled root test since horizon s h)
page_is_handled root test since horizon s p q rows found changed e f a r g yesno idle =
    let b : AreHandled root s.inner test horizon s.tuples q.tuples = subst (λ (x : Sheet). AreHandled root x.inner test horizon x.tuples q.tuples) e a in
    let k : rows ≡ rows_at test s = r ∙ ap (rows_at test) e in
    record {
      page = f ∙ ap (λ (x : Sheet). with_tuples x q.tuples) e;
      tuples = b;
      rows = k;
      found = g ∙ ap (found_at since) e;
      changed = λ c n. yesno c n b;
      idle = λ c. idle c k b;
    }

pub some_rows : (rs : List RowAt) → nat_eq (length rs) 0 ≡ false → rs ≡ [] → ⊥
some_rows rs e n = let q = sym (ap (λ (xs : List RowAt). nat_eq (length xs) 0) n) ∙ e in cc

pub apart : false ≡ true → ⊥
apart e = cc
