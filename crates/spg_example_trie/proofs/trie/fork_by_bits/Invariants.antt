use Rattle.std.proofs.Common.{◌≡◌, ◌-◌}
use Rattle.spg_example_trie.specs.Trie.{fork}
use Rattle.spg_example_trie.proofs.trie.fork_by_bits.Given as goal

abbrev pub invariant-loop-turn : goal.invariant-loop-turn
invariant-loop-turn l = fork 64 l.low l.high ≡ fork (64 - l.turn) l.low l.high
