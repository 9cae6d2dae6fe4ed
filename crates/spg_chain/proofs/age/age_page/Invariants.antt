use Rattle.std.proofs.Common.{◌≡◌}
use Rattle.spg_forest.specs.Sheets.{with_tuples}
use Rattle.spg_chain.proofs.Ageing.{aged_front}
use Rattle.spg_chain.proofs.age.age_page.Given as goal

abbrev pub invariant-loop-index : goal.invariant-loop-index
invariant-loop-index l = l.page ≡ with_tuples l.fn.page (aged_front l.horizon l.index l.fn.page.tuples)
