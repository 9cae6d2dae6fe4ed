use Rattle.spg_rows.proofs.RunRows.{rises_none}
use Rattle.spg_rows.proofs.run.Run.new.Goals as goal

pub invariant_of-result : goal.invariant_of-result
invariant_of-result g c = rw c.new.ensures.items rises_none
