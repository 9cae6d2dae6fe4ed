use Rattle.std.proofs.Common.{◌≡◌, ℕ, List, [], ◌∷◌, ap, sym, subst}
use Rattle.spg_forest.specs.Spot.{Spot, Bucket, Nothing}
use Rattle.spg_forest.specs.Tuples.{Tuple, IsLaidOut, put_on}
use Rattle.spg_forest.specs.Pages.{tuple_on}
use Rattle.spg_forest.specs.Sheets.{Sheet}
use Rattle.spg_page.specs.Reads.{leaf_in}
use Rattle.spg_chain.proofs.Shown.{empty_laid_out, laid_chained}
use Rattle.spg_test_pages.proofs.chains.a_taken_chain_leaves_a_redirect.Goals as goal

pub take_chain-requires-clause-chained : goal.take_chain-requires-clause-chained
take_chain-requires-clause-chained g c =
    let e : c.in_ok-page.page.tuples ≡ [] = ap (λ (s : Sheet). s.tuples) c.in_ok-page.ensures in
    let L : IsLaidOut (tuple_on c.in_ok-page.page.tuples) (λ o. Nothing) = subst (λ (ts : List Tuple). IsLaidOut (tuple_on ts) (λ o. Nothing)) (sym e) empty_laid_out in
    laid_chained c.add_to_chain-head.new.page.tuples (put_on (λ o. Nothing) c.add_to_chain-head.result (Bucket (leaf_in c.in_ok-leaf.leaf ∷ [])))
    (c.add_to_chain-head.ensures.laid (λ o. Nothing) [] L tt)
