use Rattle.std.proofs.Common.{sym, ◌∙◌, ap₂, arith, ◌++◌, ◌∷◌, [], ◌<◌, ℕ, List, length, take}
use Rattle.std.proofs.lemmas.List.{get_or_read}
use Rattle.spg_forest.specs.Pages.{all_live}
use Rattle.spg_split.specs.Placing.{leaves_with}
use Rattle.spg_base.specs.Row.{RowAt}
use Rattle.spg_forest.specs.Tuples.{Live}
use Rattle.spg_split.proofs.Reading.{leaves_more}
use Rattle.spg_split.proofs.parts.leaf_tuples.Goals as goal

pub loop-index-preserved : goal.loop-index-preserved
loop-index-preserved c =
    let i = c.loop-index.index in
    let h : i < length c.args.rests.now = let a = c.loop-index-test.true in let b = c.requires.each in omega arith in
    let e = leaves_more c.args.rows.now c.args.rests.now i c.index-rows-index.result c.loop-index-test.true h in
    c.in_ok-push.ensures.ok ∙ ap₂ (λ us t. us ++ t ∷ []) c.loop-index.invariant c.in_ok-leaf_tuple.ensures
    ∙ ap₂ (λ (r : RowAt) (q : List ℕ). all_live (leaves_with (take i c.args.rows.now) (take i c.args.rests.now)) ++ Live (record { row = r; rest = q }) 0 ∷ []) c.index-rows-index.is (c.as_slice.ensures.value ∙ get_or_read c.args.rests.now i c.index-rests-index.result h c.index-rests-index.is [])
    ∙ sym e
