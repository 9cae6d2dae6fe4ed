use Rattle.std.proofs.Common.{◌∙◌, ◌++◌, ap}
use Rattle.std.proofs.lemmas.Result.{on_ok_weaker}
use Rattle.spg_report.specs.Text.{valued_text}
use Rattle.spg_report.proofs.Plain.{values_fit}
use Rattle.spg_report.proofs.values.push_valued_result.Goals as goal

pub push_result-requires : goal.push_result-requires
push_result-requires g c = values_fit g.O.Spoken.speech c.args.inserts.now c.args.done.now c.as_slice.result.now (c.as_slice.ensures.value ∙ c.in_ok-set_values.ensures)

pub returns-clause-text : goal.returns-clause-text
returns-clause-text g c = on_ok_weaker c.push_result.result
    (λ put. put ∙ ap (λ vs. c.args.line.now ++ valued_text c.args.number c.args.done.now vs) (c.as_slice.ensures.value ∙ c.in_ok-set_values.ensures)) c.push_result.ensures.text
