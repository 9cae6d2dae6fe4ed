use Rattle.std.proofs.Common.{◌≡◌, ◌<◌, length, refl, ap, ◌∙◌, arith}
use Rattle.spg_page.specs.Layout.{begin_at}
use Rattle.spg_page.proofs.Areas.{known, area_long, next_area}
use Rattle.spg_page.proofs.area.TupleArea.set_next.Goals as goal

pub overflow_mul-index : goal.overflow_mul-index
overflow_mul-index c = let v = known c.self.invariant c.self.view_is in omega (arith, v.count, v.bound, c.requires.index)

pub overflow_add-index : goal.overflow_add-index
overflow_add-index c = let v = known c.self.invariant c.self.view_is in omega (arith, v.count, v.bound, c.requires.index)

pub two_at-begin-requires : goal.two_at-begin-requires
two_at-begin-requires c = let v = known c.self.invariant c.self.view_is in rw (c.as_slice.ensures, c.deref.ensures) (omega (arith, c.self.invariant.len, v.count, v.bound, c.requires.index))

pub put_two-requires : goal.put_two-requires
put_two-requires c = let v = known c.self.invariant c.self.view_is in
    let eq : c.two_at-begin.result ≡ begin_at c.self.inside.bytes.value c.args.index = c.two_at-begin.ensures ∙ rw (c.as_slice.ensures, c.deref.ensures) refl in
    let l : c.args.index < c.self.inside.count = omega (arith, v.count, c.requires.index) in
    rw c.deref_mut.ensures.value (omega (arith, v.within c.args.index l, area_long c.self.invariant c.args.index l, eq, c.self.invariant.len))

pub invariant_of-self : goal.invariant_of-self
invariant_of-self c =
    let eq : c.two_at-begin.result ≡ begin_at c.self.inside.bytes.value c.args.index = c.two_at-begin.ensures ∙ rw (c.as_slice.ensures, c.deref.ensures) refl in
    (next_area c.self.inside.bytes.value c.put_two.new.bytes c.self.inside.count c.self.inside.upper c.self.inside.placeholders c.self.inside.waste c.args.index c.next_number.result c.args.next c.args.self.now c.self.invariant c.self.view_is c.requires.index c.requires.live c.requires.next c.next_number.ensures (omega (arith, c.next_number.type_inv))
    (omega (arith, c.put_two.auto.bytes, ap length c.deref_mut.ensures.value, c.self.invariant.len)) (rw eq at c.put_two.ensures.low) (rw eq at c.put_two.ensures.high) (rw (eq, c.deref_mut.ensures.value) at c.put_two.ensures.others)).0

pub returns : goal.returns
returns c =
    let eq : c.two_at-begin.result ≡ begin_at c.self.inside.bytes.value c.args.index = c.two_at-begin.ensures ∙ rw (c.as_slice.ensures, c.deref.ensures) refl in
    (next_area c.self.inside.bytes.value c.put_two.new.bytes c.self.inside.count c.self.inside.upper c.self.inside.placeholders c.self.inside.waste c.args.index c.next_number.result c.args.next c.args.self.now c.self.invariant c.self.view_is c.requires.index c.requires.live c.requires.next c.next_number.ensures (omega (arith, c.next_number.type_inv))
    (omega (arith, c.put_two.auto.bytes, ap length c.deref_mut.ensures.value, c.self.invariant.len)) (rw eq at c.put_two.ensures.low) (rw eq at c.put_two.ensures.high) (rw (eq, c.deref_mut.ensures.value) at c.put_two.ensures.others)).1
