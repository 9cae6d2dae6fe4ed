use Rattle.std.proofs.Common.{sym, ◌∙◌}
use Rattle.spg_words.proofs.ImageNames.{no_name, no_text}
use Rattle.spg_words.proofs.check_line.image_name.Goals.{in_default-via-in-Ok+else-is_name, in_default-via-in_default}
use Rattle.spg_words.proofs.check_line.image_name.Goals as goal

pub returns-in_default : goal.returns-in_default
returns-in_default c = elim c.in_default.branch [
  | in_default-via-in-Ok+else-is_name w ↦ no_name c.args.word.now w.in-Ok.name.now w.in-Ok.ensures.cases.0 (sym w.is_name.ensures ∙ w.if-is_name.false)
  | in_default-via-in_default w ↦ no_text c.args.word.now w.in_default.ensures.cases.0
]
