use Rattle.std.proofs.Common.{◌≡◌, ◌+◌, ◌≤◌, ◌++◌, ◌∷◌, [], length, get_or, take, refl, sym, ap, ◌∙◌, arith}
use Rattle.std.proofs.lemmas.List.{take_more, take_all}
use Rattle.spg_page.specs.declared.tuple.Tuple.TheVariants.{Placeholder}
use Rattle.spg_page.specs.Spelling.{tuple_of}
use Rattle.spg_page.specs.Layout.{piece_at}
use Rattle.spg_page.specs.Stored.{used, free_of, placeholder_count}
use Rattle.spg_page.proofs.Areas.{known, pressed_room}
use Rattle.spg_page.proofs.area.TupleArea.press.Goals as goal

pub piece_at-requires-clause-pointer : goal.piece_at-requires-clause-pointer
piece_at-requires-clause-pointer c = let v = known c.self.invariant c.self.view_is in rw (c.as_slice.ensures, c.deref.ensures) (omega (arith, c.self.invariant.len, v.bound, c.loop-index-test.true))

pub piece_at-requires-clause-within : goal.piece_at-requires-clause-within
piece_at-requires-clause-within c = let v = known c.self.invariant c.self.view_is in rw (c.as_slice.ensures, c.deref.ensures) (omega (arith, c.self.invariant.len, v.within c.loop-index.index c.loop-index-test.true))

pub append-requires-clause-spelled : goal.append-requires-clause-spelled
append-requires-clause-spelled c = let v = known c.self.invariant c.self.view_is in rw (c.piece_at.ensures, c.as_slice.ensures, c.deref.ensures) (v.spelled c.loop-index.index c.loop-index-test.true)

pub append-requires-clause-fits : goal.append-requires-clause-fits
append-requires-clause-fits c = let v = known c.self.invariant c.self.view_is in
    let e : c.piece_at.result.now ≡ piece_at c.self.inside.bytes.value c.loop-index.index = c.piece_at.ensures ∙ ap (λ b. piece_at b c.loop-index.index) (c.as_slice.ensures ∙ c.deref.ensures) in
    rw (e, c.loop-index.invariant.0) (pressed_room v c.loop-index.index c.loop-index-test.true)

pub append-requires-clause-room : goal.append-requires-clause-room
append-requires-clause-room c = let v = known c.self.invariant c.self.view_is in
    let e : c.piece_at.result.now ≡ piece_at c.self.inside.bytes.value c.loop-index.index = c.piece_at.ensures ∙ ap (λ b. piece_at b c.loop-index.index) (c.as_slice.ensures ∙ c.deref.ensures) in
    let room : length (piece_at c.self.inside.bytes.value c.loop-index.index) + 4 ≤ free_of c.loop-index.self.tuples = rw c.loop-index.invariant.0 (pressed_room v c.loop-index.index c.loop-index-test.true) in
    rw e (omega (arith, room, c.loop-index.invariant.1))

pub loop-index-init : goal.loop-index-init
loop-index-init c = (c.clear.ensures.tuples, rw (c.clear.ensures.tuples, c.clear.ensures.gap) refl)

pub loop-index-preserved : goal.loop-index-preserved
loop-index-preserved c = let v = known c.self.invariant c.self.view_is in
    let e : c.piece_at.result.now ≡ piece_at c.self.inside.bytes.value c.loop-index.index = c.piece_at.ensures ∙ ap (λ b. piece_at b c.loop-index.index) (c.as_slice.ensures ∙ c.deref.ensures) in
    let t : tuple_of c.piece_at.result.now ≡ get_or c.args.self.now.tuples c.loop-index.index Placeholder = ap tuple_of e ∙ v.value c.loop-index.index c.loop-index-test.true in (
      c.append.ensures.tuples ∙ ap (λ ts. ts ++ tuple_of c.piece_at.result.now ∷ []) c.loop-index.invariant.0 ∙ ap (λ u. take c.loop-index.index c.args.self.now.tuples ++ u ∷ []) t
          ∙ sym (take_more c.args.self.now.tuples c.loop-index.index Placeholder (omega (arith, v.count, c.loop-index-test.true))),
      omega (arith, c.append.ensures.gap, c.loop-index.invariant.1),
    )

pub returns-clause-tuples : goal.returns-clause-tuples
returns-clause-tuples c = let v = known c.self.invariant c.self.view_is in c.loop-index.invariant.0 ∙ take_all c.loop-index.index c.args.self.now.tuples (omega (arith, v.count, c.loop-index-test.false))

pub returns-clause-room : goal.returns-clause-room
returns-clause-room c = let v = known c.self.invariant c.self.view_is in
    let same : c.loop-index.self.tuples ≡ c.args.self.now.tuples = c.loop-index.invariant.0 ∙ take_all c.loop-index.index c.args.self.now.tuples (omega (arith, v.count, c.loop-index-test.false)) in
    let u : used c.loop-index.self.tuples ≡ used c.args.self.now.tuples = ap used same in
    let p : placeholder_count c.loop-index.self.tuples ≡ placeholder_count c.args.self.now.tuples = ap placeholder_count same in
    omega (arith, u, p, v.used_is, c.loop-index.invariant.1)
