use Rattle.std.proofs.Common.{◌≡◌, ◌-◌, ◌^◌, take}
use Rattle.std.specs.List.{fold}
use Rattle.spg_example_trie.specs.Trie.{lower}
use Rattle.spg_example_trie.proofs.trie.least.Given as goal

abbrev pub invariant-loop-rest : goal.invariant-loop-rest
invariant-loop-rest l = l.low ≡ fold lower (2 ^ 64 - 1) (take l.rest-index l.rests)
