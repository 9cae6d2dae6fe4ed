use Rattle.std.proofs.Common.{ap, sym, ◌∙◌, arith, ◌++◌, ◌∷◌, [], ◌%◌}
use Rattle.std.proofs.lemmas.List.FromFn.{map-range_with_len_more}
use Rattle.spg_split.proofs.division.nodes_in_turn.Goals as goal

pub loop-index-preserved : goal.loop-index-preserved
loop-index-preserved c = c.in_ok-push.ensures.ok ∙ ap (λ ns. ns ++ c.loop-index.index % 8 ∷ []) c.loop-index.invariant ∙ sym (map-range_with_len_more (λ i. i % 8) 0 c.loop-index.index c.loop-index.index (omega arith))
