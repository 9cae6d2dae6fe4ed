use Rattle.std.proofs.Common.{◌≡◌, ◌+◌, ◌*◌, take}
use Rattle.spg_page.specs.Stored.{used, placeholder_count}
use Rattle.spg_page.proofs.area.TupleArea.press.Given as goal

abbrev pub invariant-loop-index : goal.invariant-loop-index
invariant-loop-index l = (l.self.tuples ≡ take l.index l.fn.self.tuples) × (l.self.gap + used l.self.tuples ≡ 8160 + 16 * placeholder_count l.self.tuples)
