use Rattle.std.proofs.Common.{◌≡◌, take}
use Rattle.spg_example_trie.proofs.trie.copies.Given as goal

abbrev pub invariant-loop-rest : goal.invariant-loop-rest
invariant-loop-rest l = l.copies ≡ take l.rest-index l.rests
