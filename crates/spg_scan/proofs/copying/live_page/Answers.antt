use Rattle.std.proofs.Common.{◌≡◌, ◌∙◌, ◌+◌, ◌<◌, ◌++◌, ◌∷◌, [], length, take, ap, sym, arith}
use Rattle.std.proofs.lemmas.List.{length-map}
use Rattle.spg_forest.specs.View.{Leaf}
use Rattle.spg_forest.specs.Links.{leaves_on}
use Rattle.spg_forest.specs.Pages.{tuple_on}
use Rattle.spg_page.specs.Reads.{leaf_in}
use Rattle.spg_scan.specs.Items.{rows_of}
use Rattle.spg_scan.specs.Reading.{live_leaves}
use Rattle.spg_scan.specs.Copying.{rests_of}
use Rattle.spg_scan.proofs.Gathers.{leaves_on-more, leaves_live}
use Rattle.spg_scan.proofs.Lives.{rows-more, rests-more}
use Rattle.spg_scan.proofs.copying.live_page.Goals as goal

pub loop-index-preserved : goal.loop-index-preserved
loop-index-preserved g c =
    let table = c.args.table.now in
    let ts = c.args.page.now.tuples in
    let i = c.loop-index.index in
    let b : i < length ts = omega arith in
    let l = leaf_in (tuple_on ts (i + 1)) in
    let ls = leaves_on (take i ts) in
    let e : record { row = c.row_at.result; rest = c.rest_at.result.now } ≡ l = λ k. record { row = c.row_at.ensures k; rest = c.rest_at.ensures.value k } in (
      c.in_ok-copy_leaf.ensures.rows ∙ ap (λ z. z ++ rows_of (live_leaves table (record { row = c.row_at.result; rest = c.rest_at.result.now } ∷ []))) c.loop-index.invariant.0
          ∙ ap (λ (x : Leaf). rows_of (live_leaves table ls) ++ rows_of (live_leaves table (x ∷ []))) e ∙ rows-more table ls (l ∷ []) ∙ ap (λ k. rows_of (live_leaves table k)) (sym (leaves_on-more ts i c.requires b)),
      c.in_ok-copy_leaf.ensures.rests ∙ ap (λ z. z ++ rests_of (live_leaves table (record { row = c.row_at.result; rest = c.rest_at.result.now } ∷ []))) c.loop-index.invariant.1
          ∙ ap (λ (x : Leaf). rests_of (live_leaves table ls) ++ rests_of (live_leaves table (x ∷ []))) e ∙ rests-more table ls (l ∷ []) ∙ ap (λ k. rests_of (live_leaves table k)) (sym (leaves_on-more ts i c.requires b)),
    )

pub returns-clause-met : goal.returns-clause-met
returns-clause-met g c =
    let ts = c.args.page.now.tuples in
    c.from-met.ensures ∙ c.count.ensures.value ∙ sym (ap length (leaves_live ts c.requires) ∙ length-map ts leaf_in)
