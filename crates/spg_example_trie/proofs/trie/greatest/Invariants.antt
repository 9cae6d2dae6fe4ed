use Rattle.std.proofs.Common.{◌≡◌, take}
use Rattle.std.specs.List.{fold}
use Rattle.spg_example_trie.specs.Trie.{higher}
use Rattle.spg_example_trie.proofs.trie.greatest.Given as goal

abbrev pub invariant-loop-rest : goal.invariant-loop-rest
invariant-loop-rest l = l.high ≡ fold higher 0 (take l.rest-index l.rests)
