use Rattle.std.proofs.Common.{◌≡◌, ◌+◌, ◌<◌, length, refl, ap, ◌∙◌, arith}
use Rattle.std.specs.Prelude.{slice_index_or}
use Rattle.spg_page.specs.Layout.{begin_at}
use Rattle.spg_page.specs.Stored.{node_begin}
use Rattle.spg_page.specs.declared.tuple.Tuple.TheVariants.{Placeholder}
use Rattle.spg_page.proofs.Codec.{spelled_as}
use Rattle.spg_page.proofs.Areas.{known}
use Rattle.spg_page.proofs.Links.{link_area, length-link_bytes}
use Rattle.spg_page.proofs.area.TupleArea.set_link.Goals as goal

pub overflow_mul-index : goal.overflow_mul-index
overflow_mul-index c = let v = known c.self.invariant c.self.view_is in omega (arith, v.count, v.bound, c.requires.index)

pub overflow_add-index : goal.overflow_add-index
overflow_add-index c = let v = known c.self.invariant c.self.view_is in omega (arith, v.count, v.bound, c.requires.index)

pub two_at-begin-requires : goal.two_at-begin-requires
two_at-begin-requires c = let v = known c.self.invariant c.self.view_is in rw (c.as_slice.ensures, c.deref.ensures) (omega (arith, c.self.invariant.len, v.count, v.bound, c.requires.index))

pub put_piece-requires : goal.put_piece-requires
put_piece-requires c = let v = known c.self.invariant c.self.view_is in
    let six : length c.as_slice-2.result.now ≡ 6 = ap length (c.as_slice-2.ensures ∙ c.link_bytes-link.ensures.bytes) ∙ length-link_bytes c.args.to in
    let eq : c.two_at-begin.result ≡ begin_at c.self.inside.bytes.value c.args.index = c.two_at-begin.ensures ∙ rw (c.as_slice.ensures, c.deref.ensures) refl in
    let l : c.args.index < c.self.inside.count = omega (arith, v.count, c.requires.index) in
    let size = (spelled_as c.piece.result.now (slice_index_or c.args.self.now.tuples c.args.index Placeholder) c.piece.ensures.spelled c.piece.ensures.value).size in
    rw c.deref_mut.ensures.value (omega (arith, six, eq, v.within c.args.index l, size, v.sized c.args.index l, c.node_begin-at.ensures.bound, c.self.invariant.len))

pub invariant_of-self : goal.invariant_of-self
invariant_of-self c =
    let six : length c.as_slice-2.result.now ≡ 6 = ap length (c.as_slice-2.ensures ∙ c.link_bytes-link.ensures.bytes) ∙ length-link_bytes c.args.to in
    let eq : c.two_at-begin.result ≡ begin_at c.self.inside.bytes.value c.args.index = c.two_at-begin.ensures ∙ rw (c.as_slice.ensures, c.deref.ensures) refl in
    let at : c.two_at-begin.result + c.node_begin-at.result ≡ begin_at c.self.inside.bytes.value c.args.index + node_begin (slice_index_or c.args.self.now.tuples c.args.index Placeholder) c.args.node = rw (eq, c.node_begin-at.ensures.value, c.piece.ensures.value) refl in
    (link_area c.self.inside.bytes.value c.put_piece.new.bytes c.self.inside.count c.self.inside.upper c.self.inside.placeholders c.self.inside.waste c.args.index c.args.node (c.two_at-begin.result + c.node_begin-at.result) c.args.to c.args.self.now c.self.invariant c.self.view_is c.requires.index c.requires.node c.requires.to c.link_bytes-link.ensures.fits
    (omega (arith, c.put_piece.auto.bytes, ap length c.deref_mut.ensures.value, c.self.invariant.len)) at
    ((rw six at c.put_piece.ensures.here) ∙ c.as_slice-2.ensures ∙ c.link_bytes-link.ensures.bytes) (rw c.deref_mut.ensures.value at c.put_piece.ensures.below) (rw (six, c.deref_mut.ensures.value) at c.put_piece.ensures.above)).0

pub returns : goal.returns
returns c =
    let six : length c.as_slice-2.result.now ≡ 6 = ap length (c.as_slice-2.ensures ∙ c.link_bytes-link.ensures.bytes) ∙ length-link_bytes c.args.to in
    let eq : c.two_at-begin.result ≡ begin_at c.self.inside.bytes.value c.args.index = c.two_at-begin.ensures ∙ rw (c.as_slice.ensures, c.deref.ensures) refl in
    let at : c.two_at-begin.result + c.node_begin-at.result ≡ begin_at c.self.inside.bytes.value c.args.index + node_begin (slice_index_or c.args.self.now.tuples c.args.index Placeholder) c.args.node = rw (eq, c.node_begin-at.ensures.value, c.piece.ensures.value) refl in
    (link_area c.self.inside.bytes.value c.put_piece.new.bytes c.self.inside.count c.self.inside.upper c.self.inside.placeholders c.self.inside.waste c.args.index c.args.node (c.two_at-begin.result + c.node_begin-at.result) c.args.to c.args.self.now c.self.invariant c.self.view_is c.requires.index c.requires.node c.requires.to c.link_bytes-link.ensures.fits
    (omega (arith, c.put_piece.auto.bytes, ap length c.deref_mut.ensures.value, c.self.invariant.len)) at
    ((rw six at c.put_piece.ensures.here) ∙ c.as_slice-2.ensures ∙ c.link_bytes-link.ensures.bytes) (rw c.deref_mut.ensures.value at c.put_piece.ensures.below) (rw (six, c.deref_mut.ensures.value) at c.put_piece.ensures.above)).1
