use Rattle.std.proofs.Common.{sym, ap, ◌∙◌}
use Rattle.spg_rows.specs.Run.{IsAt}
use Rattle.spg_rows.proofs.RunRows.{entry_at}
use Rattle.spg_rows.proofs.run.Run.get.Goals as goal
use Rattle.std.proofs.Common.{Some}

pub returns-in-Some : goal.returns-in-Some
returns-in-Some g c =
    let stands : IsAt c.self.inside.entries.items c.args.row c.in-Some.at = rw c.self.view_is c.in-Some.ensures.at in
    rw (← c.self.view_is) (ap (λ e. Some e.1) c.index.ensures ∙ sym (entry_at _ c.self.invariant _ _ stands c.index.result.now))
