use Rattle.std.proofs.Common.{sym, ◌∙◌}
use Rattle.spg_core.proofs.bare.Bare.open_insert.Goals as goal

pub returns-clause-row_held : goal.returns-clause-row_held
returns-clause-row_held g c = rw (sym (c.deref_mut.ensures.value ∙ c.self.view_is)) c.open_insert.ensures.row_held
