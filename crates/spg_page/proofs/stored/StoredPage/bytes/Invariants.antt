use Rattle.spg_page.proofs.Images.{IsImage}
use Rattle.spg_page.proofs.stored.StoredPage.bytes.Given as goal

abbrev pub invariant-loop-index : goal.invariant-loop-index
invariant-loop-index l = IsImage l.bytes l.fn.self.kind l.fn.self.nulls l.fn.self.tuples l.index l.upper
