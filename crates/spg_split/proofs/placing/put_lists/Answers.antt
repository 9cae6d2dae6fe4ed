use Rattle.spg_split.specs.Placing.{taken_by}
use Rattle.spg_split.proofs.Lists.{all_placed}
use Rattle.spg_split.proofs.placing.put_lists.Goals as goal

pub returns-clause-links : goal.returns-clause-links
returns-clause-links c = all_placed c.args.block c.args.page.now.tuples (λ j. taken_by j c.args.leaves.now c.args.node_of.now) c.args.links.now c.put_range.new.links c.len-nodes.result c.len-nodes.ensures c.put_range.ensures.links
