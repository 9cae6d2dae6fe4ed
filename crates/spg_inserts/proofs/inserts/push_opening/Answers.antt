use Rattle.std.proofs.Common.{◌++◌, sym, ap, ◌∙◌, append-nil}
use Rattle.spg_inserts.proofs.Searches.{no_opening}
use Rattle.spg_inserts.proofs.inserts.push_opening.Goals as goal

pub returns-in_default : goal.returns-in_default
returns-in_default g c = sym (append-nil c.args.openings.now.items) ∙ ap (λ l. c.args.openings.now.items ++ l) (sym (no_opening c.args.event.now c.args.at c.in_default.not-OpenInsert).0)
