use Rattle.std.proofs.Common.{false, refl}
use Rattle.spg_core.proofs.Slots.{all_stages_free}
use Rattle.spg_core.proofs.Steps.{new_state}
use Rattle.spg_core.proofs.Bounding.{new_account}
use Rattle.spg_core.specs.declared.kept.Kept.TheInside.{Inside}
use Rattle.spg_core.proofs.kept.Kept.new.Goals as goal

pub invariant_of-result : goal.invariant_of-result
invariant_of-result g c =
    let m = g.O.OpClass.meaning in
    let s : Inside _ _ _ _ = record { alloc = c.args.alloc; table = c.in_ok-new.field-0; rows = c.new-2.result; slots = c.in_ok-free_slots.field-0; journal = c.new-3.result; vacuums = c.new-4.result; targets = c.new-5.result; later = c.new-6.result; origin = record { limit = c.args.limit; pages = 3; clock = 0; loaded = false } } in (
      new_state m s c.args.limit refl c.new-3.ensures.events c.in_ok-free_slots.ensures c.in_ok-new.ensures c.new-2.ensures c.new-4.ensures c.new-5.ensures c.new-6.ensures,
      new_account m s c.args.limit refl c.new-3.ensures.events c.in_ok-free_slots.ensures c.in_ok-new.ensures,
    )

pub returns : goal.returns
returns g c = record {
  journal = c.new-3.ensures.events;
  stages = rw c.in_ok-free_slots.ensures (λ s. all_stages_free 64 s);
  table = c.in_ok-new.ensures;
  origin = refl;
}
