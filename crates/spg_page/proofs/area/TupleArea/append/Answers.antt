use Rattle.std.proofs.Common.{◌≡◌, ◌≢◌, ◌∷◌, ◌++◌, [], set, length-append, refl, sym, ap, ◌∙◌, arith}
use Rattle.spg_page.specs.declared.tuple.Tuple.TheVariants.{Placeholder}
use Rattle.spg_page.specs.Spelling.{tag_of, tuple_of}
use Rattle.spg_page.specs.Stored.{one_if_placeholder}
use Rattle.spg_page.proofs.Codec.{spelled_as}
use Rattle.spg_page.proofs.StoredLaws.{first_byte, placeholder_tag}
use Rattle.spg_page.proofs.Areas.{known, grown_counts, pushed_counts, other_one, last_tag, last_set}
use Rattle.spg_page.proofs.area.TupleArea.append.Goals as goal

pub bounds-piece-0 : goal.bounds-piece-0
bounds-piece-0 c = omega (arith, (spelled_as c.args.piece.now (tuple_of c.args.piece.now) c.requires.spelled refl).low)

pub grow-requires-clause-fits : goal.grow-requires-clause-fits
grow-requires-clause-fits c = omega (arith, c.requires.fits, (spelled_as c.args.piece.now (tuple_of c.args.piece.now) c.requires.spelled refl).low)

pub fill-requires-clause-index : goal.fill-requires-clause-index
fill-requires-clause-index c = let v = known c.self.invariant c.self.view_is in rw c.grow.ensures.tuples (omega (arith, v.count, length-append c.args.self.now.tuples (Placeholder ∷ [])))

pub fill-requires-clause-empty : goal.fill-requires-clause-empty
fill-requires-clause-empty c = let v = known c.self.invariant c.self.view_is in rw (c.grow.ensures.tuples, ← v.count) (last_tag c.args.self.now.tuples)

pub fill-requires-clause-other : goal.fill-requires-clause-other
fill-requires-clause-other c = λ e. c.if-piece-ne-PLACEHOLDER_TAG.true (first_byte c.args.piece.now (tuple_of c.args.piece.now) (sym c.requires.spelled.spelled) ∙ e)

pub fill-requires-clause-fits : goal.fill-requires-clause-fits
fill-requires-clause-fits c = let g = grown_counts c.args.self.now.tuples in rw c.grow.ensures.tuples (omega (arith, g.0, c.requires.fits))

pub fill-requires-clause-room : goal.fill-requires-clause-room
fill-requires-clause-room c = omega (arith, c.grow.ensures.gap, c.requires.room)

pub returns-then-piece-ne-PLACEHOLDER_TAG-clause-tuples : goal.returns-then-piece-ne-PLACEHOLDER_TAG-clause-tuples
returns-then-piece-ne-PLACEHOLDER_TAG-clause-tuples c = let v = known c.self.invariant c.self.view_is in
    c.fill.ensures.tuples ∙ ap (λ ts. set ts c.self.inside.count (tuple_of c.args.piece.now)) c.grow.ensures.tuples ∙ ap (λ k. set (c.args.self.now.tuples ++ Placeholder ∷ []) k (tuple_of c.args.piece.now)) (sym v.count) ∙ last_set c.args.self.now.tuples Placeholder (tuple_of c.args.piece.now)

pub returns-then-piece-ne-PLACEHOLDER_TAG-clause-gap : goal.returns-then-piece-ne-PLACEHOLDER_TAG-clause-gap
returns-then-piece-ne-PLACEHOLDER_TAG-clause-gap c = let v = known c.self.invariant c.self.view_is in
    let list : c.fill.new.self.tuples ≡ c.args.self.now.tuples ++ tuple_of c.args.piece.now ∷ [] = c.fill.ensures.tuples ∙ ap (λ ts. set ts c.self.inside.count (tuple_of c.args.piece.now)) c.grow.ensures.tuples ∙ ap (λ k. set (c.args.self.now.tuples ++ Placeholder ∷ []) k (tuple_of c.args.piece.now)) (sym v.count) ∙ last_set c.args.self.now.tuples Placeholder (tuple_of c.args.piece.now) in
    let ne : tag_of (tuple_of c.args.piece.now) ≢ 5 = (λ e. c.if-piece-ne-PLACEHOLDER_TAG.true (first_byte c.args.piece.now (tuple_of c.args.piece.now) (sym c.requires.spelled.spelled) ∙ e)) in
    let one : one_if_placeholder (tuple_of c.args.piece.now) ≡ 0 = other_one (tuple_of c.args.piece.now) ne in
    let size = (spelled_as c.args.piece.now (tuple_of c.args.piece.now) c.requires.spelled refl).size in
    let counts = pushed_counts c.args.self.now.tuples (tuple_of c.args.piece.now) in
    rw list (omega (arith, counts.0, counts.1, one, size, c.grow.ensures.gap, c.fill.ensures.gap))

pub returns-else-piece-ne-PLACEHOLDER_TAG-clause-tuples : goal.returns-else-piece-ne-PLACEHOLDER_TAG-clause-tuples
returns-else-piece-ne-PLACEHOLDER_TAG-clause-tuples c =
    let t : tuple_of c.args.piece.now ≡ Placeholder = placeholder_tag (tuple_of c.args.piece.now) (sym (first_byte c.args.piece.now (tuple_of c.args.piece.now) (sym c.requires.spelled.spelled)) ∙ c.if-piece-ne-PLACEHOLDER_TAG.false) in
    c.grow.ensures.tuples ∙ ap (λ u. c.args.self.now.tuples ++ u ∷ []) (sym t)
