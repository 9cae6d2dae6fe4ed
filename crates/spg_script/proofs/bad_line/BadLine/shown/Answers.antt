use Rattle.std.proofs.Common.{sym, arith, length-take}
use Rattle.std.proofs.lemmas.List.{take_all}
use Rattle.spg_script.proofs.bad_line.BadLine.shown.Goals as goal

pub slice_bounds-result-end : goal.slice_bounds-result-end
slice_bounds-result-end c = omega (arith, length-take 60 c.args.self.now.text.now)

pub returns-else-self-gt-SHOWN : goal.returns-else-self-gt-SHOWN
returns-else-self-gt-SHOWN c = sym (take_all 60 c.args.self.now.text.now (omega arith))
