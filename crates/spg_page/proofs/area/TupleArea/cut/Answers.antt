use Rattle.std.proofs.Common.{◌-◌, ◌<◌, length, ap, ◌∙◌, arith}
use Rattle.std.specs.List.{remove}
use Rattle.spg_page.specs.Spelling.{tag_of}
use Rattle.spg_page.proofs.Areas.{known, some_empty, cut_area}
use Rattle.spg_page.proofs.area.TupleArea.cut.Goals as goal

pub overflow_mul-behind : goal.overflow_mul-behind
overflow_mul-behind c = let v = known c.self.invariant c.self.view_is in omega (arith, v.count, v.bound, c.requires.index, c.self.invariant.len)

pub overflow_add-behind-2 : goal.overflow_add-behind-2
overflow_add-behind-2 c = let v = known c.self.invariant c.self.view_is in omega (arith, v.count, v.bound, c.requires.index, c.self.invariant.len)

pub overflow_mul-index : goal.overflow_mul-index
overflow_mul-index c = let v = known c.self.invariant c.self.view_is in omega (arith, v.count, v.bound, c.requires.index, c.self.invariant.len)

pub overflow_add-index : goal.overflow_add-index
overflow_add-index c = let v = known c.self.invariant c.self.view_is in omega (arith, v.count, v.bound, c.requires.index, c.self.invariant.len)

pub copy_within-requires-clause-start_le_end : goal.copy_within-requires-clause-start_le_end
copy_within-requires-clause-start_le_end c = let v = known c.self.invariant c.self.view_is in omega (arith, v.count, v.bound, c.requires.index, c.self.invariant.len)

pub copy_within-requires-clause-in_bounds : goal.copy_within-requires-clause-in_bounds
copy_within-requires-clause-in_bounds c = let v = known c.self.invariant c.self.view_is in omega (arith, v.count, v.bound, c.requires.index, c.self.invariant.len)

pub copy_within-requires-clause-dest_in_bounds : goal.copy_within-requires-clause-dest_in_bounds
copy_within-requires-clause-dest_in_bounds c = let v = known c.self.invariant c.self.view_is in omega (arith, v.count, v.bound, c.requires.index, c.self.invariant.len)

pub invariant_of-self : goal.invariant_of-self
invariant_of-self c = let v = known c.self.invariant c.self.view_is in
    let l : c.args.index < c.self.inside.count = omega (arith, v.count, c.requires.index) in
    let some = some_empty c.self.invariant c.self.view_is c.args.index c.requires.index c.requires.empty in
    (cut_area c.self.inside.bytes.value c.copy_within.new.self c.self.inside.count (c.self.inside.count - 1) c.self.inside.upper c.self.inside.placeholders (c.self.inside.placeholders - 1) c.self.inside.waste c.args.index c.self.invariant
    l (omega (arith, l)) (omega (arith, some)) (ap tag_of (v.value c.args.index l) ∙ c.requires.empty) (omega (arith, c.copy_within.ensures.len, ap length c.deref_mut.ensures.value, c.self.invariant.len)) (rw c.deref_mut.ensures.value at c.copy_within.ensures.by_index)).0

pub returns : goal.returns
returns c = let v = known c.self.invariant c.self.view_is in
    let l : c.args.index < c.self.inside.count = omega (arith, v.count, c.requires.index) in
    let some = some_empty c.self.invariant c.self.view_is c.args.index c.requires.index c.requires.empty in
    (cut_area c.self.inside.bytes.value c.copy_within.new.self c.self.inside.count (c.self.inside.count - 1) c.self.inside.upper c.self.inside.placeholders (c.self.inside.placeholders - 1) c.self.inside.waste c.args.index c.self.invariant
    l (omega (arith, l)) (omega (arith, some)) (ap tag_of (v.value c.args.index l) ∙ c.requires.empty) (omega (arith, c.copy_within.ensures.len, ap length c.deref_mut.ensures.value, c.self.invariant.len)) (rw c.deref_mut.ensures.value at c.copy_within.ensures.by_index)).1 ∙ ap (λ ts. remove ts c.args.index) v.tuples
