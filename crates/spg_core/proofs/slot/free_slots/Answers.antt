use Rattle.std.proofs.Common.{◌≡◌, ℕ, ap, ◌∙◌, arith, replicate}
use Rattle.spg_core.specs.declared.slot.Slot.TheVariants.{Free}
use Rattle.spg_core.proofs.slot.free_slots.Goals as goal

pub returns : goal.returns
returns g c =
    let e : c.loop-i._i ≡ 64 = omega (arith, c.loop-i.auto._i-end, c.loop-i-test.false) in
    c.loop-i.invariant ∙ ap (λ (n : ℕ). replicate n Free) e
