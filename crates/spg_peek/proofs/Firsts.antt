-- The first rows of those found.
use Rattle.std.proofs.Common.{◌≡◌, ◌<◌, ◌≤◌, ◌⊎◌, inl, inr, ℕ, zero, suc, min, List, [], ◌∷◌, ◌++◌, length, take, Contains, sym, ap, ◌∙◌, subst, arith}
use Rattle.std.specs.declared.cmp.Ordering.TheVariants.{Less}
use Rattle.std.specs.List.{AllByRecursion}
use Rattle.std.specs.List.Sorted.{IsPermutation, IsStrictlySortedBy}
use Rattle.std.proofs.lemmas.List.{length-take, take_all, get_or-take}
use Rattle.std.proofs.lemmas.List.Sorted.{IsPermutation-sym, length_permutation, Contains-permutation}
use Rattle.spg_base.specs.Row.{RowAt, row_cmp}
use Rattle.spg_opclass.specs.Meaning.{Meaning}
use Rattle.spg_forest.specs.Counts.{AreDistinct}
use Rattle.spg_forest.specs.Steps.{HasRow}
use Rattle.spg_rows.specs.Legal.{IsLegal}
use Rattle.spg_scan.specs.Items.{copied_rows}
use Rattle.spg_scan.specs.Scanning.{Scanning}
use Rattle.spg_scan.proofs.Ascending.{sorted_rows}
use Rattle.spg_core.specs.Seen.{Seen, past_of}
use Rattle.spg_whole.specs.Answers.{IsAnswer}
use Rattle.spg_whole.specs.Calls.{AllClosed}
use Rattle.spg_peek.specs.Peeking.{IsScanNow, AreFirst, AreSome}
use Rattle.spg_peek.proofs.Peeks.{asked_of, answer_of}

front_has : (xs ys : List RowAt) (r : RowAt) → HasRow xs r → HasRow (xs ++ ys) r
front_has [] ys r h = absurd h
front_has (x ∷ xs) ys r (inl e) = inl e
front_has (x ∷ xs) ys r (inr h) = inr (front_has xs ys r h)

pub front_distinct : (xs ys : List RowAt) → AreDistinct (xs ++ ys) → AreDistinct xs
front_distinct [] ys d = tt
front_distinct (x ∷ xs) ys (n, d) = (λ h. n (front_has xs ys x h), front_distinct xs ys d)

each_take : {X : Type 0} (P : X → Type 0) (n : ℕ) (xs : List X) → AllByRecursion P xs → AllByRecursion P (take n xs)
each_take P zero xs all = tt
each_take P (suc n) [] all = tt
each_take P (suc n) (x ∷ xs) (one, all) = (one, each_take P n xs all)

rising_take : (n : ℕ) (xs : List RowAt) → IsStrictlySortedBy row_cmp xs → IsStrictlySortedBy row_cmp (take n xs)
unfolding IsStrictlySortedBy
rising_take zero xs rises = tt
rising_take (suc n) [] rises = tt
rising_take (suc n) (x ∷ xs) (all, rises) = (each_take (λ y. row_cmp x y ≡ Less) n xs all, rising_take n xs rises)

in_take : (n : ℕ) (xs : List RowAt) (r : RowAt) → Contains (take n xs) r → Contains xs r
in_take n xs r (k, within, is) =
    let long = length-take n xs in
    (k, omega (arith, within, long), sym (get_or-take n xs k r (omega (arith, within, long))) ∙ is)

module _ {O Key Recon Cond : Type 0} (m : Meaning Key Recon Cond) (seen : Seen O Key Recon Cond) (legal : IsLegal (past_of seen)) (closed : AllClosed (past_of seen)) where
  pub are_some : (limit : ℕ) (s : Scanning O Key Recon Cond) (found rows : List RowAt) → IsScanNow m seen s → found ≡ s.rows → (s.items ≡ []) ⊎ (limit ≤ length found) → AreFirst limit found rows → AreSome m (past_of seen) s.query limit rows
  are_some limit s found rows N same end F = record {
    ascending = subst (IsStrictlySortedBy row_cmp) (sym F.first) (rising_take limit F.sorted rises);
    asked = λ r there. asked_of m seen legal closed s N r (subst (λ (l : List RowAt). Contains l r) same (Contains-permutation F.sorted found r (IsPermutation-sym found F.sorted F.moved) (in_take limit F.sorted r (subst (λ (l : List RowAt). Contains l r) F.first there))));
    few = omega (arith, long, short);
    all = λ less. whole less end;
  }
    where
      distinct : AreDistinct found
      distinct = subst AreDistinct (sym same) (front_distinct s.rows (copied_rows s.items) N.scan.once)

      rises : IsStrictlySortedBy row_cmp F.sorted
      rises = sorted_rows found F.sorted F.moved F.rises distinct

      count : length F.sorted ≡ length found
      count = length_permutation found F.sorted F.moved

      long : length rows ≡ length (take limit F.sorted)
      long = ap length F.first

      short : length (take limit F.sorted) ≡ min limit (length F.sorted)
      short = length-take limit F.sorted

      whole : length rows < limit → (s.items ≡ []) ⊎ (limit ≤ length found) → IsAnswer m (past_of seen) s.query rows
      whole less (inl none) =
          let is : rows ≡ F.sorted = F.first ∙ take_all limit F.sorted (omega (arith, less, long, short)) in
          answer_of m seen legal closed s rows N none
          (λ r. (
            λ h. subst (λ (l : List RowAt). Contains l r) same (Contains-permutation F.sorted found r (IsPermutation-sym found F.sorted F.moved) (subst (λ (l : List RowAt). Contains l r) is h)),
            λ h. subst (λ (l : List RowAt). Contains l r) (sym is) (Contains-permutation found F.sorted r F.moved (subst (λ (l : List RowAt). Contains l r) (sym same) h)),
          ))
          (subst (IsStrictlySortedBy row_cmp) (sym is) rises)
      whole less (inr enough) = absurd (omega (arith, less, long, short, count, enough))
