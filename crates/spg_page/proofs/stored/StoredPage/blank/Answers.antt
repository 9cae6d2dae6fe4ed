use Rattle.std.proofs.Common.{◌<◌, length, set, refl, ap, ◌∙◌, arith}
use Rattle.spg_page.specs.declared.tuple.Tuple.TheVariants.{Placeholder}
use Rattle.spg_page.specs.Stored.{Stored}
use Rattle.spg_page.proofs.Marked.{upto_none, upto_marked, upto_kept, upto_all, length-upto}
use Rattle.spg_page.proofs.stored.StoredPage.blank.Goals.{then-marked-index, else-marked-index}
use Rattle.spg_page.proofs.stored.StoredPage.blank.Goals as goal

pub loop-index-init : goal.loop-index-init
loop-index-init c = rw (upto_none Placeholder c.args.marked.now c.args.self.now.tuples) refl

pub blank_one-requires : goal.blank_one-requires
blank_one-requires c =
    let l : c.loop-index.index < length c.args.self.now.tuples = omega (arith, c.count-index-end.ensures.value, c.loop-index-test.true) in
    rw c.loop-index.invariant (omega (arith, l, length-upto Placeholder c.args.marked.now c.args.self.now.tuples c.loop-index.index (omega (arith, l))))

pub loop-index-preserved : goal.loop-index-preserved
loop-index-preserved c =
    let l : c.loop-index.index < length c.args.self.now.tuples = omega (arith, c.count-index-end.ensures.value, c.loop-index-test.true) in
    elim c.if-marked-index.branch [
      | then-marked-index w ↦ w.self-is ∙ w.blank_one.ensures ∙ ap (λ (s : Stored). record s { tuples = set s.tuples c.loop-index.index Placeholder }) c.loop-index.invariant
          ∙ ap (λ us. record c.args.self.now { tuples = us }) (upto_marked Placeholder c.args.marked.now c.args.self.now.tuples c.loop-index.index Placeholder l w.if-marked-index.true)
      | else-marked-index w ↦ w.self-is ∙ c.loop-index.invariant ∙ ap (λ us. record c.args.self.now { tuples = us }) (upto_kept Placeholder c.args.marked.now c.args.self.now.tuples c.loop-index.index Placeholder l w.if-marked-index.false)
    ]

pub returns : goal.returns
returns c = c.loop-index.invariant ∙ ap (λ us. record c.args.self.now { tuples = us }) (upto_all Placeholder c.args.marked.now c.args.self.now.tuples c.loop-index.index (omega (arith, c.count-index-end.ensures.value, c.loop-index-test.false)))
