use Rattle.std.proofs.Common.{◌≡◌, map}
use Rattle.spg_chain.specs.Chains.{member_of, offsets_of}
use Rattle.spg_chain.proofs.chain.chain_offsets.Given as goal

abbrev pub invariant-loop-leaf : goal.invariant-loop-leaf
invariant-loop-leaf l = l.offsets ≡ offsets_of (map member_of l.yielded)
