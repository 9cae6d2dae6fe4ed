-- Counts of one tuple or one page more.
use Rattle.std.proofs.Common.{◌≡◌, ◌∙◌, ℕ, suc, ◌+◌, ◌<◌, ◌≤◌, false, List, [], ◌∷◌, ◌++◌, length, take, get_or, sym, ap, arith}
use Rattle.std.proofs.lemmas.List.{take_more}
use Rattle.spg_forest.specs.Tuples.{Tuple, Inner, Live, Dead, Redirect, Placeholder}
use Rattle.spg_forest.specs.Pages.{tuple_on}
use Rattle.spg_forest.specs.Sheets.{Sheet, blank, gap}
use Rattle.spg_forest.specs.Walk.{is_live}
use Rattle.spg_tree.specs.Table.{sheet_of}
use Rattle.spg_core.specs.declared.stat.Counts.{Counts}
use Rattle.spg_core.specs.Counts.{is_inner, is_redirect, is_dead, count_on, count_in, one_of, counts_on, counts_in, plus, AreAtMost}

count_on-append : (f : Tuple → ℕ) (ts : List Tuple) (t : Tuple) → count_on f (ts ++ t ∷ []) ≡ count_on f ts + f t
count_on-append f [] t = omega arith
count_on-append f (x ∷ ts) t = omega (arith, count_on-append f ts t)

count_on-more : (f : Tuple → ℕ) (ts : List Tuple) (i : ℕ) → i < length ts → count_on f (take i ts) + f (tuple_on ts (i + 1)) ≡ count_on f (take (i + 1) ts)
count_on-more f ts i b =
    let e : i + 1 ≡ suc i = omega arith in
    ap (λ o. count_on f (take i ts) + f (tuple_on ts o)) e ∙ sym (ap (count_on f) (take_more ts i Placeholder b) ∙ count_on-append f (take i ts) (get_or ts i Placeholder))

count_in-append : (f : Tuple → ℕ) (ss : List Sheet) (s : Sheet) → count_in f (ss ++ s ∷ []) ≡ count_in f ss + count_on f s.tuples
count_in-append f [] s = omega arith
count_in-append f (x ∷ ss) s = omega (arith, count_in-append f ss s)

count_in-more : (f : Tuple → ℕ) (ss : List Sheet) (b : ℕ) → b < length ss → count_in f (take b ss) + count_on f (sheet_of ss b).tuples ≡ count_in f (take (b + 1) ss)
count_in-more f ss b h = sym (ap (count_in f) (take_more ss b (blank false) h) ∙ count_in-append f (take b ss) (sheet_of ss b))

pub one_more : (ts : List Tuple) (i : ℕ) → i < length ts → plus (counts_on (take i ts)) (one_of (tuple_on ts (i + 1))) ≡ counts_on (take (i + 1) ts)
one_more ts i b = λ k. record {
  inner = count_on-more is_inner ts i b k;
  leaf = count_on-more is_live ts i b k;
  redirect = count_on-more is_redirect ts i b k;
  dead = count_on-more is_dead ts i b k;
  placeholder = count_on-more gap ts i b k;
}

pub page_more : (ss : List Sheet) (b : ℕ) → b < length ss → plus (counts_in (take b ss)) (counts_on (sheet_of ss b).tuples) ≡ counts_in (take (b + 1) ss)
page_more ss b h = λ k. record {
  inner = count_in-more is_inner ss b h k;
  leaf = count_in-more is_live ss b h k;
  redirect = count_in-more is_redirect ss b h k;
  dead = count_in-more is_dead ss b h k;
  placeholder = count_in-more gap ss b h k;
}

pub one_few : (t : Tuple) → AreAtMost 1 (one_of t)
one_few (Inner w ns) = record { inner = omega arith; leaf = omega arith; redirect = omega arith; dead = omega arith; placeholder = omega arith }
one_few (Live l n) = record { inner = omega arith; leaf = omega arith; redirect = omega arith; dead = omega arith; placeholder = omega arith }
one_few Dead = record { inner = omega arith; leaf = omega arith; redirect = omega arith; dead = omega arith; placeholder = omega arith }
one_few (Redirect to stamp) = record { inner = omega arith; leaf = omega arith; redirect = omega arith; dead = omega arith; placeholder = omega arith }
one_few Placeholder = record { inner = omega arith; leaf = omega arith; redirect = omega arith; dead = omega arith; placeholder = omega arith }

pub few_up : (m n : ℕ) (a : Counts) → m ≤ n → AreAtMost m a → AreAtMost n a
few_up m n a h A = record {
  inner = omega (arith, A.inner);
  leaf = omega (arith, A.leaf);
  redirect = omega (arith, A.redirect);
  dead = omega (arith, A.dead);
  placeholder = omega (arith, A.placeholder);
}

pub few_plus : (m n : ℕ) (a b : Counts) → AreAtMost m a → AreAtMost n b → AreAtMost (m + n) (plus a b)
few_plus m n a b A B = record {
  inner = omega (arith, A.inner, B.inner);
  leaf = omega (arith, A.leaf, B.leaf);
  redirect = omega (arith, A.redirect, B.redirect);
  dead = omega (arith, A.dead, B.dead);
  placeholder = omega (arith, A.placeholder, B.placeholder);
}
