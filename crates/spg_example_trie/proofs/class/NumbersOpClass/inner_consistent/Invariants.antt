use Rattle.std.proofs.Common.{◌≡◌}
use Rattle.spg_opclass.specs.Indices.{kept_below}
use Rattle.spg_example_trie.specs.Trie.{is_wanted}
use Rattle.spg_example_trie.proofs.class.NumbersOpClass.inner_consistent.Given as goal

abbrev pub invariant-loop-node : goal.invariant-loop-node
invariant-loop-node l = l.kept.items ≡ kept_below (is_wanted l.tuple l.conds) l.node
