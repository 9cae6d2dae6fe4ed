use Rattle.spg_tree.specs.Vacancies.{AreBare}
use Rattle.spg_tree.proofs.vacancies.marked_within.Given as goal

abbrev pub invariant-loop-block : goal.invariant-loop-block
invariant-loop-block l = AreBare l.blocks l.from l.block
