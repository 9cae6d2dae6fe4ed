use Rattle.std.proofs.Common.{◌≡◌, ◌++◌, codes, drop}
use Rattle.spg_script.specs.Spelling.{conds_text}
use Rattle.spg_report.proofs.events.push_conds.Given as goal

abbrev pub invariant-loop-cond : goal.invariant-loop-cond
invariant-loop-cond g l = l.line ++ conds_text g.O.Spoken.speech.cond_text l.word (drop l.cond-index l.conds) ≡ l.initial.line ++ conds_text g.O.Spoken.speech.cond_text (codes "where ") l.conds
