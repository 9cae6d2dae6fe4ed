use Rattle.std.proofs.Common.{◌≡◌}
use Rattle.spg_page.specs.declared.tuple.Tuple.TheVariants.{Placeholder}
use Rattle.spg_page.proofs.Marked.{blanked_upto}
use Rattle.spg_page.proofs.stored.StoredPage.blank.Given as goal

abbrev pub invariant-loop-index : goal.invariant-loop-index
invariant-loop-index l = l.self ≡ record l.fn.self { tuples = blanked_upto Placeholder l.marked l.fn.self.tuples l.index }
