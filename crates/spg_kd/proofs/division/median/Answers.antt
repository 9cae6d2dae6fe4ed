use Rattle.std.proofs.Common.{◌≡◌, ◌∙◌, List, ℕ, subst, arith, rules, IsPermutation, ◌/◌, length}
use Rattle.std.proofs.lemmas.Grind.{get_or_default_zero}
use Rattle.std.proofs.lemmas.List.Sorted.{IsNonDecreasingBy-from_sort, length_permutation}
use Rattle.spg_kd.specs.KdLemmas.{median_sorted}
use Rattle.spg_kd.proofs.division.median.Goals as goal

pub returns : goal.returns
returns c =
    let ks = c.args.ks.now in
    let xs = c.sort.new.self.items in
    let moved : IsPermutation ks xs = subst (λ (l : List ℕ). IsPermutation l xs) c.in_ok-sorted.ensures.items c.in_ok-sort.ensures.permutation in
    let size = length_permutation ks xs moved in
    c.index.ensures ∙ get_or_default_zero xs (length ks / 2) c.index.result.now (omega (arith, c.requires)) ∙ median_sorted xs ks (IsNonDecreasingBy-from_sort (λ x. x) xs c.in_ok-sort.ensures.sorted) moved c.requires
