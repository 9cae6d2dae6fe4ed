use Rattle.std.proofs.Common.{ap, ◌∙◌}
use Rattle.spg_tree.specs.Table.{Table, sheet_at}
use Rattle.spg_test_states.proofs.Seeing.{found}
use Rattle.spg_test_states.proofs.small.looks.redirects.Goals as goal

pub returns-in-Some : goal.returns-in-Some
returns-in-Some g c = λ so. found c.args.bare.now.table c.args.block c.in-Some.field-0 c.args.since c.page.result.now (c.page.ensures ∙ ap (λ (t : Table). sheet_at t c.args.block) c.pages-table.ensures.value) c.in-Some.ensures
