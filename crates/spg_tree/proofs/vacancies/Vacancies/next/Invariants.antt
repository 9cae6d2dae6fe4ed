use Rattle.std.proofs.Common.{◌≡◌, ℕ, ◌<◌, ◌≤◌, ◌/◌, false, get_or}
use Rattle.spg_tree.specs.declared.vacancies.TheConstants.{GROUP}
use Rattle.spg_tree.proofs.vacancies.Vacancies.next.Given as goal

abbrev pub invariant-loop-group : goal.invariant-loop-group
invariant-loop-group l = record {
  same : l.self ≡ l.fn.self;
  bare : (b : ℕ) → l.from ≤ b → b / GROUP < l.group → get_or l.fn.self b false ≡ false;
}
