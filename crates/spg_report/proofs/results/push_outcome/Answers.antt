use Rattle.std.proofs.Common.{◌∙◌, refl}
use Rattle.std.proofs.lemmas.Result.{on_ok_weaker}
use Rattle.spg_report.proofs.results.push_outcome.Goals as goal

pub returns-in-RowHeld-clause-text : goal.returns-in-RowHeld-clause-text
returns-in-RowHeld-clause-text c = on_ok_weaker c.named.result (λ named. named ∙ rw (c.in-RowHeld.is, c.from.ensures, c.number.ensures.value) refl) c.named.ensures.text

pub returns-in-ImageFault-clause-text : goal.returns-in-ImageFault-clause-text
returns-in-ImageFault-clause-text c = rw c.in-ImageFault.is c.extend-in-ImageFault.ensures
