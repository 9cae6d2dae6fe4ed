-- What is told of a page, tuple after tuple.
use Rattle.std.proofs.Common.{◌≡◌, ℕ, suc, ◌+◌, ◌<◌, List, [], ◌∷◌, ◌++◌, ⊎_elim, Bool, true, false, take, length, get_or, append-nil, refl, sym, ap, ◌∙◌}
use Rattle.std.specs.Prelude.{nat_le}
use Rattle.std.proofs.lemmas.Bool.{cases_Bool, cond-true, cond-false}
use Rattle.std.proofs.lemmas.List.{take_more}
use Rattle.spg_base.specs.Row.{RowAt}
use Rattle.spg_forest.specs.Tuples.{Tuple, Inner, Live, Dead, Redirect, Placeholder}
use Rattle.spg_forest.specs.Pages.{tuple_on}
use Rattle.spg_page.specs.Reads.{leaf_in, target_in}
use Rattle.spg_page.specs.Kinds.{IsLive, IsRedirect}
use Rattle.spg_cover.specs.Swept.{targets_on, found_on}
use Rattle.spg_chain.specs.Told.{is_target, is_late}

module _ (test : RowAt → Bool) where
  targets_join : (ts us : List Tuple) → targets_on test (ts ++ us) ≡ targets_on test ts ++ targets_on test us
  targets_join [] us = refl
  targets_join (Live l n ∷ ts) us = ⊎_elim
      (λ e. cond-true (test l.row) (l.row ∷ targets_on test (ts ++ us)) (targets_on test (ts ++ us)) e ∙ ap (λ rs. l.row ∷ rs) (targets_join ts us) ∙ ap (λ rs. rs ++ targets_on test us) (sym (cond-true (test l.row) (l.row ∷ targets_on test ts) (targets_on test ts) e)))
      (λ e. cond-false (test l.row) (l.row ∷ targets_on test (ts ++ us)) (targets_on test (ts ++ us)) e ∙ targets_join ts us ∙ ap (λ rs. rs ++ targets_on test us) (sym (cond-false (test l.row) (l.row ∷ targets_on test ts) (targets_on test ts) e))) (cases_Bool (test l.row))
  targets_join (Inner w ns ∷ ts) us = targets_join ts us
  targets_join (Dead ∷ ts) us = targets_join ts us
  targets_join (Redirect y u ∷ ts) us = targets_join ts us
  targets_join (Placeholder ∷ ts) us = targets_join ts us

  one_target : (t : Tuple) → is_target test t ≡ true → targets_on test (t ∷ []) ≡ (leaf_in t).row ∷ []
  one_target (Live l n) e = cond-true (test l.row) (l.row ∷ []) [] e
  one_target (Inner w ns) e = cc
  one_target Dead e = cc
  one_target (Redirect y u) e = cc
  one_target Placeholder e = cc

  no_target : (t : Tuple) → is_target test t ≡ false → targets_on test (t ∷ []) ≡ []
  no_target (Live l n) e = cond-false (test l.row) (l.row ∷ []) [] e
  no_target (Inner w ns) e = refl
  no_target Dead e = refl
  no_target (Redirect y u) e = refl
  no_target Placeholder e = refl

  front : (ts : List Tuple) (k : ℕ) → k < length ts → targets_on test (take (k + 1) ts) ≡ targets_on test (take k ts) ++ targets_on test (tuple_on ts (suc k) ∷ [])
  front ts k h = ap (targets_on test) (take_more ts k Placeholder h) ∙ targets_join (take k ts) (get_or ts k Placeholder ∷ [])

  pub rows_more : (ts : List Tuple) (k j : ℕ) → j ≡ suc k → k < length ts → is_target test (tuple_on ts j) ≡ true → targets_on test (take (k + 1) ts) ≡ targets_on test (take k ts) ++ (leaf_in (tuple_on ts j)).row ∷ []
  rows_more ts k j q h e = front ts k h ∙ ap (λ rs. targets_on test (take k ts) ++ rs) (ap (λ i. targets_on test (tuple_on ts i ∷ [])) (sym q) ∙ one_target (tuple_on ts j) e)

  pub rows_same : (ts : List Tuple) (k j : ℕ) → j ≡ suc k → k < length ts → is_target test (tuple_on ts j) ≡ false → targets_on test (take (k + 1) ts) ≡ targets_on test (take k ts)
  rows_same ts k j q h e = front ts k h ∙ ap (λ rs. targets_on test (take k ts) ++ rs) (ap (λ i. targets_on test (tuple_on ts i ∷ [])) (sym q) ∙ no_target (tuple_on ts j) e) ∙ append-nil (targets_on test (take k ts))

  pub target_live : (t : Tuple) → is_target test t ≡ true → IsLive t
  target_live (Live l n) e = refl
  target_live (Inner w ns) e = cc
  target_live Dead e = cc
  target_live (Redirect y u) e = cc
  target_live Placeholder e = cc

module _ (c : ℕ) where
  found_join : (ts us : List Tuple) → found_on c (ts ++ us) ≡ found_on c ts ++ found_on c us
  found_join [] us = refl
  found_join (Redirect y u ∷ ts) us = ⊎_elim
      (λ e. cond-true (nat_le c u) (y ∷ found_on c (ts ++ us)) (found_on c (ts ++ us)) e ∙ ap (λ rs. y ∷ rs) (found_join ts us) ∙ ap (λ rs. rs ++ found_on c us) (sym (cond-true (nat_le c u) (y ∷ found_on c ts) (found_on c ts) e)))
      (λ e. cond-false (nat_le c u) (y ∷ found_on c (ts ++ us)) (found_on c (ts ++ us)) e ∙ found_join ts us ∙ ap (λ rs. rs ++ found_on c us) (sym (cond-false (nat_le c u) (y ∷ found_on c ts) (found_on c ts) e))) (cases_Bool (nat_le c u))
  found_join (Inner w ns ∷ ts) us = found_join ts us
  found_join (Dead ∷ ts) us = found_join ts us
  found_join (Live l n ∷ ts) us = found_join ts us
  found_join (Placeholder ∷ ts) us = found_join ts us

  one_late : (t : Tuple) → is_late c t ≡ true → found_on c (t ∷ []) ≡ target_in t ∷ []
  one_late (Redirect y u) e = cond-true (nat_le c u) (y ∷ []) [] e
  one_late (Inner w ns) e = cc
  one_late Dead e = cc
  one_late (Live l n) e = cc
  one_late Placeholder e = cc

  no_late : (t : Tuple) → is_late c t ≡ false → found_on c (t ∷ []) ≡ []
  no_late (Redirect y u) e = cond-false (nat_le c u) (y ∷ []) [] e
  no_late (Inner w ns) e = refl
  no_late Dead e = refl
  no_late (Live l n) e = refl
  no_late Placeholder e = refl

  found_front : (ts : List Tuple) (k : ℕ) → k < length ts → found_on c (take (k + 1) ts) ≡ found_on c (take k ts) ++ found_on c (tuple_on ts (suc k) ∷ [])
  found_front ts k h = ap (found_on c) (take_more ts k Placeholder h) ∙ found_join (take k ts) (get_or ts k Placeholder ∷ [])

  pub places_more : (ts : List Tuple) (k j : ℕ) → j ≡ suc k → k < length ts → is_late c (tuple_on ts j) ≡ true → found_on c (take (k + 1) ts) ≡ found_on c (take k ts) ++ target_in (tuple_on ts j) ∷ []
  places_more ts k j q h e = found_front ts k h ∙ ap (λ rs. found_on c (take k ts) ++ rs) (ap (λ i. found_on c (tuple_on ts i ∷ [])) (sym q) ∙ one_late (tuple_on ts j) e)

  pub places_same : (ts : List Tuple) (k j : ℕ) → j ≡ suc k → k < length ts → is_late c (tuple_on ts j) ≡ false → found_on c (take (k + 1) ts) ≡ found_on c (take k ts)
  places_same ts k j q h e = found_front ts k h ∙ ap (λ rs. found_on c (take k ts) ++ rs) (ap (λ i. found_on c (tuple_on ts i ∷ [])) (sym q) ∙ no_late (tuple_on ts j) e) ∙ append-nil (found_on c (take k ts))

  pub late_redirect : (t : Tuple) → is_late c t ≡ true → IsRedirect t
  late_redirect (Redirect y u) e = refl
  late_redirect (Inner w ns) e = cc
  late_redirect Dead e = cc
  late_redirect (Live l n) e = cc
  late_redirect Placeholder e = cc
