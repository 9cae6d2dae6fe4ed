use Rattle.std.proofs.Common.{ap}
use Rattle.spg_forest.specs.Sheets.{Sheet}
use Rattle.spg_page.specs.Reads.{leaf_in}
use Rattle.spg_test_pages.proofs.TwoLeaves.{two_leaves}
use Rattle.spg_test_pages.proofs.sweeps.chain_of_two.Goals as goal

pub returns : goal.returns
returns g c = two_leaves c.in_ok-page.page.tuples c.add_to_chain-head.new.page.tuples c.add_to_chain.new.page.tuples c.add_to_chain-head.result c.add_to_chain.result (leaf_in c.in_ok-first.first) (leaf_in c.in_ok-second.second)
    (ap (λ (s : Sheet). s.tuples) c.in_ok-page.ensures) c.add_to_chain-head.ensures.at c.add_to_chain-head.ensures.laid c.add_to_chain.ensures.laid
