use Rattle.std.proofs.Common.{length, take, ap, ◌-◌, arith}
use Rattle.spg_forest.specs.Sheets.{weight}
use Rattle.spg_split.proofs.Totals.{take_live}
use Rattle.spg_split.proofs.Sizes.{rest_lighter}
use Rattle.spg_split.proofs.plan.plan_lists.Goals as goal

pub plan_of-requires-clause-leaves : goal.plan_of-requires-clause-leaves
plan_of-requires-clause-leaves c = rw c.as_slice-leaves.ensures (take_live c.args.parts.now.leaves (length c.args.parts.now.leaves - 1) c.requires.parts.leaves)

pub returns-clause-fits : goal.returns-clause-fits
returns-clause-fits c =
    let e = c.plan_of.ensures.bytes in
    let a = rest_lighter c.plan_of.result.cut (take (length c.as_slice-leaves.result.now - 1) c.as_slice-leaves.result.now) c.as_slice-node_of.result.now in
    let b = ap (λ ts. weight (take (length ts - 1) ts)) c.as_slice-leaves.ensures in
    let o = c.requires.others in omega arith
