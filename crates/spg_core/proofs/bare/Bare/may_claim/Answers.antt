use Rattle.std.proofs.Common.{sym, ◌∙◌}
use Rattle.spg_core.proofs.bare.Bare.may_claim.Goals as goal

pub returns-clause-row_held : goal.returns-clause-row_held
returns-clause-row_held g c = rw (sym (c.deref.ensures ∙ c.self.view_is)) c.may_claim.ensures.row_held
