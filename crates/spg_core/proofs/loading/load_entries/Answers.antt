use Rattle.std.proofs.Common.{reverse, sym, subst}
use Rattle.spg_seats.specs.Opening.{RowsTell}
use Rattle.spg_core.proofs.loading.load_entries.Goals as goal

pub returns-clause-rows : goal.returns-clause-rows
returns-clause-rows g c = subst (λ es. RowsTell c.in_ok-rows.rows (reverse es)) (sym c.in_ok-journal.ensures) c.in_ok-rows.ensures
