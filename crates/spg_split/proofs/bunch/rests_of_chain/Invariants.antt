use Rattle.std.proofs.Common.{◌≡◌, map}
use Rattle.spg_chain.specs.Chains.{member_of, leaves_of}
use Rattle.spg_forest.specs.Divisions.{rests_of}
use Rattle.spg_split.proofs.bunch.rests_of_chain.Given as goal

abbrev pub invariant-loop-leaf : goal.invariant-loop-leaf
invariant-loop-leaf l = l.rests ≡ rests_of (leaves_of (map member_of l.yielded))
