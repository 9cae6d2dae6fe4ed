use Rattle.std.proofs.Common.{◌≡◌, ◌<◌, refl, arith, ◌∙◌, sym}
use Rattle.spg_page.proofs.Areas.{known, area_long}
use Rattle.spg_page.specs.Layout.{begin_at}
use Rattle.spg_page.proofs.area.TupleArea.tag_at.Goals as goal

pub overflow_mul-index : goal.overflow_mul-index
overflow_mul-index c = let v = known c.self.invariant c.self.view_is in omega (arith, v.count, v.bound, c.requires)

pub overflow_add-index : goal.overflow_add-index
overflow_add-index c = let v = known c.self.invariant c.self.view_is in omega (arith, v.count, v.bound, c.requires)

pub two_at-begin-requires : goal.two_at-begin-requires
two_at-begin-requires c = let v = known c.self.invariant c.self.view_is in rw (c.as_slice.ensures, c.deref.ensures) (omega (arith, c.self.invariant.len, v.count, v.bound, c.requires))

pub bounds-deref-begin : goal.bounds-deref-begin
bounds-deref-begin c = let v = known c.self.invariant c.self.view_is in
    let l : c.args.index < c.self.inside.count = omega (arith, v.count, c.requires) in
    let e : c.two_at-begin.result ≡ begin_at c.self.inside.bytes.value c.args.index = c.two_at-begin.ensures ∙ rw (c.as_slice.ensures, c.deref.ensures) refl in
    let within = v.within c.args.index l in
    let some = area_long c.self.invariant c.args.index l in
    omega (arith, e, within, some)

pub returns : goal.returns
returns c = let v = known c.self.invariant c.self.view_is in
    let l : c.args.index < c.self.inside.count = omega (arith, v.count, c.requires) in
    let e : c.two_at-begin.result ≡ begin_at c.self.inside.bytes.value c.args.index = c.two_at-begin.ensures ∙ rw (c.as_slice.ensures, c.deref.ensures) refl in
    rw (c.deref-2.ensures, e) (sym (v.tagged c.args.index l))
