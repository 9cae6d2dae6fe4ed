use Rattle.std.proofs.Common.{arith}
use Rattle.spg_perform.proofs.Tasks.{parts_count}
use Rattle.spg_perform.proofs.count.count_commands.Goals as goal

pub loop-block-preserved : goal.loop-block-preserved
loop-block-preserved c =
    let more = parts_count 0 c.args.blocks.now c.loop-block.block-index c.block-item.result (omega arith) c.block-item.is in
    omega (arith, more, c.loop-block.invariant, c.in_ok-count_part.ensures, c.in_ok-count.ensures)
