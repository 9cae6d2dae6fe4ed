use Rattle.std.proofs.Common.{rules}
use Rattle.spg_example_trie.specs.Forks.{forks_of_64}
use Rattle.spg_example_trie.proofs.trie.fork.Goals as goal

pub returns-clause-parts : goal.returns-clause-parts
returns-clause-parts c less = rw c.fork_by_bits.ensures (forks_of_64 c.args.low c.args.high (search rules) (search rules) less)
