use Rattle.std.proofs.Common.{◌≡◌, ◌≤◌, ◌*◌, take}
use Rattle.spg_forest.specs.Sheets.{weight}
use Rattle.spg_chain.proofs.leaves.bytes_of.Given as goal

abbrev pub invariant-loop-leaf : goal.invariant-loop-leaf
invariant-loop-leaf l = (l.bytes ≡ weight (take l.leaf-index l.leaves)) × (l.bytes ≤ 8160 * l.leaf-index)
