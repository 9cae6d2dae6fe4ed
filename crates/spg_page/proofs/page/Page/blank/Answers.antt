use Rattle.std.proofs.Common.{ap}
use Rattle.spg_page.specs.declared.tuple.Tuple.TheVariants.{Placeholder}
use Rattle.spg_page.specs.Told.{told}
use Rattle.spg_page.specs.Inside.{told_page}
use Rattle.spg_forest.specs.Sheets.{with_tuples}
use Rattle.spg_page.proofs.Marked.{map_blanked}
use Rattle.spg_page.proofs.page.Page.blank.Goals as goal

pub returns : goal.returns
returns c = rw (← c.self.view_is, c.blank.ensures) (ap (with_tuples (told_page c.self.inside.stored)) (map_blanked told Placeholder c.args.marked.now c.self.inside.stored.tuples))
