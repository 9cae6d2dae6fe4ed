use Rattle.std.proofs.Common.{arith}
use Rattle.spg_build.proofs.Runs.{values_end}
use Rattle.spg_build.proofs.run.values_in.Goals as goal

pub returns : goal.returns
returns g c =
    let z = values_end c.args.groups.now c.loop-group.group-index (let f = c.loop-group-test.false in omega arith) in
    let a = c.loop-group.invariant.0 in
    let b = c.loop-group.invariant.1 in
    omega arith
