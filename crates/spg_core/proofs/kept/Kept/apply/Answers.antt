use Rattle.std.proofs.Common.{⊎_elim}
use Rattle.spg_tree.specs.declared.stand.StepRefused.TheVariants.{IndexFull, Memory}
use Rattle.spg_core.proofs.Refusals.{not_err}
use Rattle.spg_core.proofs.kept.Kept.apply.Goals as goal

pub returns-in-Ok-clause-no_page : goal.returns-in-Ok-clause-no_page
returns-in-Ok-clause-no_page g c = λ none apart. ⊎_elim (λ h. absurd (not_err _ IndexFull h)) (λ h. absurd (not_err _ Memory h)) (c.in-Ok.ensures.no_page none apart)
