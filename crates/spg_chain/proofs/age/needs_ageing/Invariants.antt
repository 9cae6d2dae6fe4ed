use Rattle.spg_chain.proofs.Trimming.{NoneOld}
use Rattle.spg_chain.proofs.age.needs_ageing.Given as goal

abbrev pub invariant-loop-index : goal.invariant-loop-index
invariant-loop-index l = NoneOld l.horizon l.page.tuples l.index
