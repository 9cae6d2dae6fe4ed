use Rattle.std.proofs.Common.{◌≡◌, map}
use Rattle.spg_forest.specs.Pages.{all_live}
use Rattle.spg_chain.specs.Chains.{member_of, leaves_of}
use Rattle.spg_move.proofs.moving.chain_tuples.Given as goal

abbrev pub invariant-loop-leaf : goal.invariant-loop-leaf
invariant-loop-leaf l = l.leaves ≡ all_live (leaves_of (map member_of l.yielded))
