use Rattle.std.proofs.Common.{◌≡◌, ◌≢◌, ◌<◌, length, set, refl, sym, ap, ◌∙◌, arith}
use Rattle.spg_page.specs.declared.tuple.Tuple.TheVariants.{Placeholder}
use Rattle.spg_page.specs.Layout.{size_at}
use Rattle.spg_page.specs.Spelling.{tag_of}
use Rattle.spg_page.specs.Stored.{tuple_at}
use Rattle.spg_page.proofs.Areas.{known, blanked_area}
use Rattle.spg_page.proofs.area.TupleArea.blank.Goals as goal

pub overflow_mul-index : goal.overflow_mul-index
overflow_mul-index c = let v = known c.self.invariant c.self.view_is in omega (arith, v.count, v.bound, c.requires)

pub overflow_add-index : goal.overflow_add-index
overflow_add-index c = let v = known c.self.invariant c.self.view_is in omega (arith, v.count, v.bound, c.requires)

pub two_at-requires : goal.two_at-requires
two_at-requires c = let v = known c.self.invariant c.self.view_is in rw (c.as_slice.ensures, c.deref.ensures) (omega (arith, c.self.invariant.len, v.count, v.bound, c.requires))

pub overflow_add-self : goal.overflow_add-self
overflow_add-self c = let v = known c.self.invariant c.self.view_is in
    let l : c.args.index < c.self.inside.count = omega (arith, v.count, c.requires) in
    let e : c.two_at.result ≡ size_at c.self.inside.bytes.value c.args.index = c.two_at.ensures ∙ rw (c.as_slice.ensures, c.deref.ensures) refl in
    omega (arith, v.top, v.within c.args.index l, e)

pub put_pointer-requires : goal.put_pointer-requires
put_pointer-requires c = let v = known c.self.invariant c.self.view_is in rw c.deref_mut.ensures.value (omega (arith, c.self.invariant.len, v.count, v.bound, c.requires))

pub invariant_of-self : goal.invariant_of-self
invariant_of-self c = let v = known c.self.invariant c.self.view_is in
    let l : c.args.index < c.self.inside.count = omega (arith, v.count, c.requires) in
    let ne : tag_of (tuple_at c.self.inside.bytes.value c.args.index) ≢ 5 = (λ e. c.if-tag_at-eq-PLACEHOLDER_TAG.false (c.tag_at.ensures ∙ ap tag_of (sym (v.value c.args.index l)) ∙ e)) in
    (blanked_area c.self.inside.bytes.value c.put_pointer.new.bytes c.self.inside.count c.self.inside.upper c.self.inside.placeholders c.self.inside.waste c.two_at.result c.args.index c.self.invariant
    l ne (c.two_at.ensures ∙ rw (c.as_slice.ensures, c.deref.ensures) refl) (omega (arith, c.put_pointer.auto.bytes, ap length c.deref_mut.ensures.value, c.self.invariant.len))
    c.put_pointer.ensures.begin c.put_pointer.ensures.size (rw c.deref_mut.ensures.value at c.put_pointer.ensures.below) (rw c.deref_mut.ensures.value at c.put_pointer.ensures.above)).0

pub returns-clause-tuples : goal.returns-clause-tuples
returns-clause-tuples c = let v = known c.self.invariant c.self.view_is in
    let l : c.args.index < c.self.inside.count = omega (arith, v.count, c.requires) in
    let ne : tag_of (tuple_at c.self.inside.bytes.value c.args.index) ≢ 5 = (λ e. c.if-tag_at-eq-PLACEHOLDER_TAG.false (c.tag_at.ensures ∙ ap tag_of (sym (v.value c.args.index l)) ∙ e)) in
    (blanked_area c.self.inside.bytes.value c.put_pointer.new.bytes c.self.inside.count c.self.inside.upper c.self.inside.placeholders c.self.inside.waste c.two_at.result c.args.index c.self.invariant
    l ne (c.two_at.ensures ∙ rw (c.as_slice.ensures, c.deref.ensures) refl) (omega (arith, c.put_pointer.auto.bytes, ap length c.deref_mut.ensures.value, c.self.invariant.len))
    c.put_pointer.ensures.begin c.put_pointer.ensures.size (rw c.deref_mut.ensures.value at c.put_pointer.ensures.below) (rw c.deref_mut.ensures.value at c.put_pointer.ensures.above)).1 ∙ ap (λ ts. set ts c.args.index Placeholder) v.tuples

pub returns-clause-fits : goal.returns-clause-fits
returns-clause-fits c = let v = known c.self.invariant c.self.view_is in omega (arith, v.used_is)
