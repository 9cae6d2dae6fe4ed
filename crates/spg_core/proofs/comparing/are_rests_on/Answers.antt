use Rattle.std.proofs.Common.{◌≡◌, ◌<◌, ◌+◌, ◌++◌, ◌∷◌, [], ℕ, List, Some, length, take, sym, ap, ◌∙◌, subst, arith}
use Rattle.std.specs.Prelude.{slice_get}
use Rattle.std.proofs.lemmas.Bool.{false≢true}
use Rattle.spg_forest.specs.Divisions.{rests_of}
use Rattle.spg_forest.specs.Links.{leaves_on}
use Rattle.spg_descend.specs.Carried.{carried}
use Rattle.spg_split.proofs.Reading.{live_there}
use Rattle.spg_core.proofs.Resting.{one_more, ends_same, page_rest, page_last, page_count}
use Rattle.spg_core.proofs.comparing.are_rests_on.Goals as goal

pub rest_at-requires-clause-live : goal.rest_at-requires-clause-live
rest_at-requires-clause-live g c = live_there c.args.page.now.tuples c.loop-index.index c.requires (let n = c.count-index-end.ensures.value in let h = c.loop-index-test.true in omega arith)

pub loop-index-preserved : goal.loop-index-preserved
loop-index-preserved g c =
    let ts = c.args.page.now.tuples in
    let k = c.loop-index.index in
    let h : k < length ts = let n = c.count-index-end.ensures.value in let t = c.loop-index-test.true in omega arith in
    one_more c.args.rests.now (rests_of (leaves_on ts ++ carried c.args.descent.now ∷ [])) k c.rest_at.result.now c.loop-index.invariant (c.has_at.ensures.0 c.if-not-has_at.false)
    (page_rest ts (carried c.args.descent.now) c.requires k h ∙ ap Some (sym c.rest_at.ensures.value))

pub returns-then-not-has_at : goal.returns-then-not-has_at
returns-then-not-has_at g c =
    let ts = c.args.page.now.tuples in
    let k = c.loop-index.index in
    let h : k < length ts = let n = c.count-index-end.ensures.value in let t = c.loop-index-test.true in omega arith in (
      λ t. absurd (false≢true t),
      λ e. absurd (false≢true (sym c.if-not-has_at.true ∙ c.has_at.ensures.1 (ap (λ (l : List (List ℕ)). slice_get l k) e ∙ page_rest ts (carried c.args.descent.now) c.requires k h ∙ ap Some (sym c.rest_at.ensures.value)))),
    )

pub returns : goal.returns
returns g c =
    let ts = c.args.page.now.tuples in
    let new = carried c.args.descent.now in
    let all = rests_of (leaves_on ts ++ new ∷ []) in
    let rests = c.args.rests.now in
    let n : c.count.result ≡ length ts = c.count.ensures.value in
    let k : c.loop-index.index ≡ length ts = let a = c.count-index-end.ensures.value in let t = c.loop-index-test.false in let i = c.loop-index.auto.index-end in omega arith in
    let last : slice_get all c.count.result ≡ Some c.as_slice.result.now = ap (λ (i : ℕ). slice_get all i) n ∙ page_last ts new c.requires ∙ ap Some (sym (c.as_slice.ensures.value ∙ c.rest.ensures)) in (
      λ t.
          let (count, there) = c.ends_at.ensures.0 t in
          ends_same rests all c.count.result c.as_slice.result.now (subst (λ (i : ℕ). take i rests ≡ take i all) (k ∙ sym n) c.loop-index.invariant) there last count (page_count ts new c.requires ∙ ap (λ (i : ℕ). i + 1) (sym n)),
      λ e. c.ends_at.ensures.1 (ap length e ∙ page_count ts new c.requires ∙ ap (λ (i : ℕ). i + 1) (sym n), ap (λ (l : List (List ℕ)). slice_get l c.count.result) e ∙ last),
    )
