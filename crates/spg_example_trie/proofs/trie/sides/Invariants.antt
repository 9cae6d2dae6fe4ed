use Rattle.std.proofs.Common.{◌≡◌, map, take}
use Rattle.spg_example_trie.specs.Numbers.{number_of}
use Rattle.spg_example_trie.specs.Trie.{side}
use Rattle.spg_example_trie.proofs.trie.sides.Given as goal

abbrev pub invariant-loop-rest : goal.invariant-loop-rest
invariant-loop-rest l = l.nodes ≡ map (λ r. side l.fork (number_of r)) (take l.rest-index l.rests)
