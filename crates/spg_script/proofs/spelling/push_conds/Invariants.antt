use Rattle.std.proofs.Common.{◌≡◌, ◌++◌, codes, drop}
use Rattle.spg_script.specs.Spelling.{conds_text}
use Rattle.spg_script.specs.Speech.{any_cond_text}
use Rattle.spg_script.proofs.spelling.push_conds.Given as goal

abbrev pub invariant-loop-cond : goal.invariant-loop-cond
invariant-loop-cond l = l.text ++ conds_text any_cond_text l.word (drop l.cond-index l.conds) ≡ l.initial.text ++ conds_text any_cond_text (codes "where ") l.conds
