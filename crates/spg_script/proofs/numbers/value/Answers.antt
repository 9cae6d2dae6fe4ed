use Rattle.std.proofs.Common.{sym, arith}
use Rattle.spg_script.proofs.Values.{value_from-small}
use Rattle.spg_script.proofs.numbers.value.Goals as goal

pub loop-b-init : goal.loop-b-init
loop-b-init c = (sym (value_from-small 0 c.args.bytes.now (omega arith)), omega arith)
