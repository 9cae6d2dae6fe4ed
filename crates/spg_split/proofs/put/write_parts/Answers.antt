use Rattle.std.proofs.Common.{length, ap, ◌∙◌, arith}
use Rattle.spg_split.specs.Placing.{taken_by}
use Rattle.spg_split.proofs.Chaining.{downlinks_length, downlinks_positive}
use Rattle.spg_split.proofs.put.write_parts.Goals as goal

pub make_inner_root-requires-clause-inner : goal.make_inner_root-requires-clause-inner
make_inner_root-requires-clause-inner c =
    let e = c.as_slice.ensures ∙ c.put_lists.ensures.links in
    let n = ap length e ∙ downlinks_length c.args.block c.page_mut.result.now.tuples (λ j. taken_by j c.args.leaves.now c.args.node_of.now) 0 (length c.args.links.now) in
    rw n c.requires.inner

pub make_inner_root-requires-clause-to : goal.make_inner_root-requires-clause-to
make_inner_root-requires-clause-to c =
    let e = c.as_slice.ensures ∙ c.put_lists.ensures.links in
    λ i y a. downlinks_positive c.args.block c.page_mut.result.now.tuples (λ j. taken_by j c.args.leaves.now c.args.node_of.now) 0 (length c.args.links.now) i y c.requires.block.0 (rw e at a)

pub make_inner_root-requires-clause-count : goal.make_inner_root-requires-clause-count
make_inner_root-requires-clause-count c =
    let e = c.as_slice.ensures ∙ c.put_lists.ensures.links in
    let n = ap length e ∙ downlinks_length c.args.block c.page_mut.result.now.tuples (λ j. taken_by j c.args.leaves.now c.args.node_of.now) 0 (length c.args.links.now) in
    let k = c.requires.count in omega arith
