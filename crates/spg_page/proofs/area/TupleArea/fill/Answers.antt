use Rattle.std.proofs.Common.{◌≡◌, ◌-◌, ◌<◌, length, set, ap, ◌∙◌, arith}
use Rattle.spg_page.specs.Spelling.{tag_of, tuple_of}
use Rattle.spg_page.proofs.Areas.{known, some_empty, filled_area}
use Rattle.spg_page.proofs.area.TupleArea.fill.Goals as goal

pub put_piece-requires : goal.put_piece-requires
put_piece-requires c = let v = known c.self.invariant c.self.view_is in rw c.deref_mut.ensures.value (omega (arith, c.self.invariant.len, v.gap, v.top, c.requires.room))

pub put_pointer-requires : goal.put_pointer-requires
put_pointer-requires c = let v = known c.self.invariant c.self.view_is in rw c.deref_mut-2.ensures.value (omega (arith, c.put_piece.auto.bytes, ap length c.deref_mut.ensures.value, c.self.invariant.len, v.count, v.bound, c.requires.index))

pub invariant_of-self : goal.invariant_of-self
invariant_of-self c = let v = known c.self.invariant c.self.view_is in
    let l : c.args.index < c.self.inside.count = omega (arith, v.count, c.requires.index) in
    let some = some_empty c.self.invariant c.self.view_is c.args.index c.requires.index c.requires.empty in
    let len1 : length c.put_piece.new.bytes ≡ 8192 = omega (arith, c.put_piece.auto.bytes, ap length c.deref_mut.ensures.value, c.self.invariant.len) in
    (filled_area c.self.inside.bytes.value c.put_piece.new.bytes c.put_pointer.new.bytes c.args.piece.now c.self.inside.count c.self.inside.upper (c.self.inside.upper - length c.args.piece.now) c.self.inside.placeholders (c.self.inside.placeholders - 1) c.self.inside.waste c.args.index c.self.invariant
    l (ap tag_of (v.value c.args.index l) ∙ c.requires.empty) c.requires.spelled c.requires.other (rw v.tuples c.requires.fits) (omega (arith, v.gap, c.requires.room)) (omega (arith, v.gap, c.requires.room)) (omega (arith, some)) len1 (omega (arith, c.put_pointer.auto.bytes, ap length c.deref_mut-2.ensures.value, len1))
    c.put_piece.ensures.here (rw c.deref_mut.ensures.value at c.put_piece.ensures.below) (rw c.deref_mut.ensures.value at c.put_piece.ensures.above) c.put_pointer.ensures.begin c.put_pointer.ensures.size (rw c.deref_mut-2.ensures.value at c.put_pointer.ensures.below) (rw c.deref_mut-2.ensures.value at c.put_pointer.ensures.above)).0

pub returns-clause-tuples : goal.returns-clause-tuples
returns-clause-tuples c = let v = known c.self.invariant c.self.view_is in
    let l : c.args.index < c.self.inside.count = omega (arith, v.count, c.requires.index) in
    let some = some_empty c.self.invariant c.self.view_is c.args.index c.requires.index c.requires.empty in
    let len1 : length c.put_piece.new.bytes ≡ 8192 = omega (arith, c.put_piece.auto.bytes, ap length c.deref_mut.ensures.value, c.self.invariant.len) in
    (filled_area c.self.inside.bytes.value c.put_piece.new.bytes c.put_pointer.new.bytes c.args.piece.now c.self.inside.count c.self.inside.upper (c.self.inside.upper - length c.args.piece.now) c.self.inside.placeholders (c.self.inside.placeholders - 1) c.self.inside.waste c.args.index c.self.invariant
    l (ap tag_of (v.value c.args.index l) ∙ c.requires.empty) c.requires.spelled c.requires.other (rw v.tuples c.requires.fits) (omega (arith, v.gap, c.requires.room)) (omega (arith, v.gap, c.requires.room)) (omega (arith, some)) len1 (omega (arith, c.put_pointer.auto.bytes, ap length c.deref_mut-2.ensures.value, len1))
    c.put_piece.ensures.here (rw c.deref_mut.ensures.value at c.put_piece.ensures.below) (rw c.deref_mut.ensures.value at c.put_piece.ensures.above) c.put_pointer.ensures.begin c.put_pointer.ensures.size (rw c.deref_mut-2.ensures.value at c.put_pointer.ensures.below) (rw c.deref_mut-2.ensures.value at c.put_pointer.ensures.above)).1 ∙ ap (λ ts. set ts c.args.index (tuple_of c.args.piece.now)) v.tuples
