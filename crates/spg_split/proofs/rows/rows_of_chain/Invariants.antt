use Rattle.std.proofs.Common.{◌≡◌, map}
use Rattle.spg_chain.specs.Chains.{member_of, leaves_of}
use Rattle.spg_split.specs.Dividing.{rows_of}
use Rattle.spg_split.proofs.rows.rows_of_chain.Given as goal

abbrev pub invariant-loop-leaf : goal.invariant-loop-leaf
invariant-loop-leaf l = l.rows ≡ rows_of (leaves_of (map member_of l.yielded))
