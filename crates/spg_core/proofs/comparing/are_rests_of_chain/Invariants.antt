use Rattle.std.proofs.Common.{◌≡◌, ◌++◌, ◌∷◌, [], take, length}
use Rattle.spg_forest.specs.Divisions.{rests_of}
use Rattle.spg_chain.specs.Chains.{chain_members, leaves_of}
use Rattle.spg_descend.specs.Carried.{carried}
use Rattle.spg_core.proofs.comparing.are_rests_of_chain.Given as goal

abbrev pub invariant-loop-leaf : goal.invariant-loop-leaf
invariant-loop-leaf g l = (l.at ≡ length l.yielded) × (take l.at l.rests ≡ take l.at (rests_of (leaves_of (chain_members l.page.tuples l.fn.head) ++ carried l.descent ∷ [])))
