use Rattle.std.proofs.Common.{◌∙◌}
use Rattle.std.proofs.lemmas.Result.{on_ok_weaker}
use Rattle.std.proofs.lemmas.List.{append_assoc}
use Rattle.spg_report.proofs.events.push_insert.Goals as goal

pub returns-clause-text : goal.returns-clause-text
returns-clause-text g c = on_ok_weaker c.push_key.result (λ pushed. pushed ∙ rw (c.in_ok-push.ensures, c.in_ok-push_on_row.ensures.text) (simp append_assoc)) c.push_key.ensures
