use Rattle.std.proofs.Common.{Bool, List, true, false, get_or, length, refl, sym, ap, ◌∙◌, arith}
use Rattle.std.proofs.lemmas.List.{get_or-replicate, length-set}
use Rattle.spg_forest.specs.Pages.{tuple_on}
use Rattle.spg_chain.proofs.Matching.{led_begun, led_step, led_marked}
use Rattle.spg_chain.proofs.heads.led_offsets.Goals.{then-next-lt409, else-next-lt409}
use Rattle.spg_chain.proofs.heads.led_offsets.Goals as goal

pub loop-index-init : goal.loop-index-init
loop-index-init c = (refl, λ o h b. get_or-replicate 409 o false false b ∙ sym (led_begun (tuple_on c.args.page.now.tuples) o refl h))

pub loop-index-preserved : goal.loop-index-preserved
loop-index-preserved c =
    let (n, i) = c.loop-index.invariant in
    elim c.if-next-lt409.branch [
      | then-next-lt409 w ↦
          let t = w.if-next-lt409.true in (
            ap length w.led-is ∙ length-set c.loop-index.led c.next_number-next.result true ∙ n,
            λ o h b. ap (λ (xs : List Bool). get_or xs o false) w.led-is ∙ led_marked (tuple_on c.args.page.now.tuples) c.loop-index.led c.loop-index.index c.next_number-next.result o c.next_number-next.ensures (omega arith) (i o h b),
          )
      | else-next-lt409 w ↦
          let f = w.if-next-lt409.false in (
            ap length w.led-is ∙ n,
            λ o h b. ap (λ (xs : List Bool). get_or xs o false) w.led-is ∙ i o h b ∙ sym (led_step (tuple_on c.args.page.now.tuples) c.loop-index.index o (λ e. let m = c.next_number-next.ensures in absurd (omega arith))),
          )
    ]
