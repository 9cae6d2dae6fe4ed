use Rattle.spg_survey.proofs.Differing.{Rise}
use Rattle.spg_survey.proofs.apart.ascend.Given as goal

abbrev pub invariant-loop-index : goal.invariant-loop-index
invariant-loop-index l = Rise l.rows l.index
