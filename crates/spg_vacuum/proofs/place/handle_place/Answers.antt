use Rattle.std.proofs.Common.{sym, ap, ◌∙◌, subst}
use Rattle.spg_forest.specs.Pages.{tuple_on}
use Rattle.spg_forest.specs.Sheets.{Sheet}
use Rattle.spg_cover.specs.Vacuum.{AreHigh, leads_to}
use Rattle.spg_tree.specs.Table.{sheets_of}
use Rattle.spg_vacuum.proofs.High.{leads_high}
use Rattle.spg_vacuum.proofs.place.handle_place.Goals as goal

pub list_all-requires : goal.list_all-requires
list_all-requires g c = subst AreHigh (sym (c.as_slice.ensures ∙ c.in_ok-found.ensures ∙ ap (λ (s : Sheet). leads_to (tuple_on s.tuples c.args.place.offset)) c.page-page.ensures)) (leads_high g.O.OpClass.meaning (sheets_of c.args.table.now) c.requires.shape c.args.place)
