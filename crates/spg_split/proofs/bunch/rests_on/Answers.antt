use Rattle.std.proofs.Common.{ap, sym, ◌∙◌, arith, ◌++◌, ◌∷◌, [], ◌<◌, length}
use Rattle.std.proofs.Common.{◌+◌}
use Rattle.spg_forest.specs.Pages.{tuple_on}
use Rattle.spg_page.specs.Reads.{leaf_in}
use Rattle.spg_forest.specs.Divisions.{rests_of}
use Rattle.spg_split.proofs.Reading.{live_there, rests_more, all_read}
use Rattle.spg_split.proofs.bunch.rests_on.Goals as goal

pub rest_at-requires-clause-live : goal.rest_at-requires-clause-live
rest_at-requires-clause-live c = live_there c.args.page.now.tuples c.loop-index.index c.requires (let n = c.count-index-end.ensures.value in let h = c.loop-index-test.true in omega arith)

pub loop-index-preserved : goal.loop-index-preserved
loop-index-preserved c =
    let ts = c.args.page.now.tuples in
    let h : c.loop-index.index < length ts = let n = c.count-index-end.ensures.value in let h = c.loop-index-test.true in omega arith in
    c.in_ok-push.ensures.ok ∙ ap (λ r. c.loop-index.rests ++ r ∷ []) (c.in_ok-copy.ensures ∙ c.rest_at.ensures.value) ∙ ap (λ rs. rs ++ (leaf_in (tuple_on ts (c.loop-index.index + 1))).rest ∷ []) c.loop-index.invariant ∙ sym (rests_more ts c.loop-index.index c.requires h)

pub returns : goal.returns
returns c =
    let a = all_read c.args.page.now.tuples c.loop-index.index c.requires (let n = c.count-index-end.ensures.value in let h = c.loop-index-test.false in let k = c.loop-index.auto.index-end in omega arith) in
    c.loop-index.invariant ∙ ap rests_of a
