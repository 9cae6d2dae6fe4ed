use Rattle.std.proofs.Common.{arith}
use Rattle.spg_tree.specs.Table.{tuples_at}
use Rattle.spg_split.specs.Placing.{taken_by}
use Rattle.spg_split.proofs.Both.{first_length, both_links_are}
use Rattle.spg_split.proofs.write.put_both.Goals as goal

pub put_some-requires-2-clause-within : goal.put_some-requires-2-clause-within
put_some-requires-2-clause-within c =
    let n = first_length c.args.block (tuples_at c.args.table.now c.args.block) (λ j. taken_by j c.args.leaves.now c.args.node_of.now) c.args.cut c.args.links.now c.put_some.new.links c.requires.within.0 c.put_some.ensures.links in
    let e = c.len-nodes.ensures in
    let w = c.requires.within.0 in let v = c.requires.within.1 in
    (omega arith, omega arith, omega arith)

pub returns-clause-links : goal.returns-clause-links
returns-clause-links c = both_links_are c.args.table.now c.put_some.new.table c.args.block c.args.other (λ j. taken_by j c.args.leaves.now c.args.node_of.now) c.args.cut c.len-nodes.result c.args.links.now c.put_some.new.links c.put_some-2.new.links
    c.requires.within.0 c.len-nodes.ensures c.put_some.ensures.table c.put_some.ensures.links c.put_some-2.ensures.links
