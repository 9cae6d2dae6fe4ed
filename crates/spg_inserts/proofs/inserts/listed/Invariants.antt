use Rattle.spg_inserts.specs.Openings.{AreListed}
use Rattle.spg_inserts.proofs.inserts.listed.Given as goal

abbrev pub invariant-loop-at : goal.invariant-loop-at
invariant-loop-at g l = AreListed l.at l.openings.items l.journal
