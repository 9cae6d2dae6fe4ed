use Rattle.std.proofs.Common.{◌++◌, ◌∷◌, [], length, ap, ◌∙◌, arith}
use Rattle.spg_page.specs.declared.tuple.Tuple.TheVariants.{Placeholder}
use Rattle.spg_page.proofs.Areas.{known, grown_area}
use Rattle.spg_page.proofs.area.TupleArea.grow.Goals as goal

pub put_pointer-requires : goal.put_pointer-requires
put_pointer-requires c = let v = known c.self.invariant c.self.view_is in rw c.deref_mut.ensures.value (omega (arith, c.self.invariant.len, v.bound))

pub invariant_of-self : goal.invariant_of-self
invariant_of-self c = let v = known c.self.invariant c.self.view_is in
    let k = grown_area c.self.inside.bytes.value c.put_pointer.new.bytes c.self.inside.count c.self.inside.upper c.self.inside.placeholders c.self.inside.waste c.self.invariant
    (omega (arith, v.gap, c.requires.room)) (rw v.tuples c.requires.fits) (omega (arith, c.put_pointer.auto.bytes, ap length c.deref_mut.ensures.value, c.self.invariant.len))
    c.put_pointer.ensures.begin c.put_pointer.ensures.size (rw c.deref_mut.ensures.value at c.put_pointer.ensures.below) (rw c.deref_mut.ensures.value at c.put_pointer.ensures.above) in
    k.0

pub returns-clause-tuples : goal.returns-clause-tuples
returns-clause-tuples c = let v = known c.self.invariant c.self.view_is in
    let k = grown_area c.self.inside.bytes.value c.put_pointer.new.bytes c.self.inside.count c.self.inside.upper c.self.inside.placeholders c.self.inside.waste c.self.invariant
    (omega (arith, v.gap, c.requires.room)) (rw v.tuples c.requires.fits) (omega (arith, c.put_pointer.auto.bytes, ap length c.deref_mut.ensures.value, c.self.invariant.len))
    c.put_pointer.ensures.begin c.put_pointer.ensures.size (rw c.deref_mut.ensures.value at c.put_pointer.ensures.below) (rw c.deref_mut.ensures.value at c.put_pointer.ensures.above) in
    k.1 ∙ ap (λ ts. ts ++ Placeholder ∷ []) v.tuples
