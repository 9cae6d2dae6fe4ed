use Rattle.std.proofs.Common.{sym, ◌∙◌}
use Rattle.spg_rows.proofs.Tables.{found_first, found_second}
use Rattle.spg_rows.proofs.table.RowTable.entry.Goals as goal

pub returns-in-Some : goal.returns-in-Some
returns-in-Some g c = rw (← c.self.view_is) (sym (found_first c.self.inside.run c.self.inside.others.entries c.args.row c.in-Some.entry.now (sym c.in-Some.ensures)))

pub returns-in-None : goal.returns-in-None
returns-in-None g c = rw (← c.self.view_is) (c.get-in-None.ensures.value ∙ sym (found_second c.self.inside.run c.self.inside.others.entries c.args.row (sym c.in-None.ensures)))
