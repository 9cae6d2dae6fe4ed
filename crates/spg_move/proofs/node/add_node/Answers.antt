use Rattle.std.proofs.Common.{rules, ◌≡◌, ℤ, true, false, ◌+◌, ◌≤◌, length, ap, ap₂, sym, ◌∙◌, subst, inl, inr}
use Rattle.std.specs.Prelude.{◌^◌, IsErrOf}
use Rattle.std.specs.Int.{w16}
use Rattle.std.proofs.lemmas.Int.{to_z-of_z}
use Rattle.spg_forest.specs.View.{Place}
use Rattle.spg_forest.specs.Tuples.{Tuple}
use Rattle.spg_forest.specs.Pages.{tuple_on}
use Rattle.spg_forest.specs.Sheets.{Sheet, size_of, links}
use Rattle.spg_page.specs.Kinds.{IsOffset}
use Rattle.spg_tree.specs.Table.{tuples_at, tuple_at}
use Rattle.spg_tree.specs.Descents.{Descending, in_nulls}
use Rattle.spg_tree.specs.Pick.{IsFull}
use Rattle.spg_tree.specs.declared.stand.StepRefused.TheVariants.{IndexFull, ClockFull}
use Rattle.spg_descend.specs.Follows.{tuple_place}
use Rattle.spg_move.specs.Nodes.{FitsWider}
use Rattle.spg_move.specs.Widening.{widened, widened_table, node_want, IsShiftedFrom}
use Rattle.spg_tree.specs.Writes.{FitsInPlace}
use Rattle.spg_move.proofs.NodeStanding.{within, place_within, small, not_wider}
use Rattle.spg_move.proofs.NodeLaw.{added_here, exact_here}
use Rattle.spg_move.proofs.NodeMoved.{shifted_out, exact_out}
use Rattle.spg_move.proofs.Held.{widened_held}
use Rattle.spg_move.proofs.Tables.{node_not_full}
use Rattle.spg_move.proofs.node.add_node.Goals as goal

pub longer_tuple-requires-clause-offset : goal.longer_tuple-requires-clause-offset
longer_tuple-requires-clause-offset g c =
    let eh : c.tuple_place-here.result ≡ tuple_place c.args.descent.now.stand = c.tuple_place-here.ensures ∙ ap tuple_place c.stand.ensures in
    subst (λ (s : Sheet). IsOffset s.tuples c.tuple_place-here.result.offset) (sym c.page.ensures) (subst (λ (z : Place). IsOffset (tuples_at c.args.table.now z.block) z.offset) (sym eh) (within g.O.OpClass.meaning g.O.OpClass.adds g.O.OpClass.codes c.args.table.now c.args.descent.now c.args.at c.args.label c.requires.shape c.requires.spot c.requires.main c.requires.of_key c.requires.answer))

pub longer_tuple-requires-clause-at : goal.longer_tuple-requires-clause-at
longer_tuple-requires-clause-at g c =
    let eh : c.tuple_place-here.result ≡ tuple_place c.args.descent.now.stand = c.tuple_place-here.ensures ∙ ap tuple_place c.stand.ensures in
    subst (λ (s : Sheet). c.args.at ≤ length (links (tuple_on s.tuples c.tuple_place-here.result.offset))) (sym c.page.ensures) (subst (λ (z : Place). c.args.at ≤ length (links (tuple_at c.args.table.now z))) (sym eh) (place_within g.O.OpClass.meaning g.O.OpClass.adds g.O.OpClass.codes c.args.table.now c.args.descent.now c.args.at c.args.label c.requires.shape c.requires.spot c.requires.main c.requires.of_key c.requires.answer))

pub longer_tuple-requires-clause-size : goal.longer_tuple-requires-clause-size
longer_tuple-requires-clause-size g c =
    let eh : c.tuple_place-here.result ≡ tuple_place c.args.descent.now.stand = c.tuple_place-here.ensures ∙ ap tuple_place c.stand.ensures in
    subst (λ (s : Sheet). size_of (widened (tuple_on s.tuples c.tuple_place-here.result.offset) c.args.at c.args.label) ≤ 8156) (sym c.page.ensures) (subst (λ (z : Place). size_of (widened (tuple_at c.args.table.now z) c.args.at c.args.label) ≤ 8156) (sym eh) (small g.O.OpClass.meaning g.O.OpClass.adds g.O.OpClass.codes c.args.table.now c.args.descent.now c.args.at c.args.label c.requires.shape c.requires.spot c.requires.main c.requires.of_key c.requires.answer))

pub returns-then-fits_in_place-clause-ok : goal.returns-then-fits_in_place-clause-ok
returns-then-fits_in_place-clause-ok g c =
    let eh : c.tuple_place-here.result ≡ tuple_place c.args.descent.now.stand = c.tuple_place-here.ensures ∙ ap tuple_place c.stand.ensures in
    let el : c.in_ok-longer.longer ≡ widened (tuple_at c.args.table.now (tuple_place c.args.descent.now.stand)) c.args.at c.args.label =
    c.in_ok-longer.ensures ∙ ap (λ (z : ℤ). widened (tuple_on c.page.result.now.tuples c.tuple_place-here.result.offset) c.args.at z) (to_z-of_z w16 c.args.label c.ranges.label) ∙ ap (λ (s : Sheet). widened (tuple_on s.tuples c.tuple_place-here.result.offset) c.args.at c.args.label) c.page.ensures ∙ ap (λ (z : Place). widened (tuple_at c.args.table.now z) c.args.at c.args.label) eh in
    let room : FitsInPlace c.page-2.result.now.tuples c.tuple_place-here.result.offset c.in_ok-longer.longer = c.fits_in_place.ensures.0 c.if-fits_in_place.true in
    added_here g.O.OpClass.meaning g.O.OpClass.adds g.O.OpClass.codes c.args.table.now c.args.descent.now c.args.at c.args.label c.requires.shape c.requires.spot c.requires.main c.requires.of_key c.requires.answer
    (subst (λ (u : Tuple). FitsInPlace (tuples_at c.args.table.now (tuple_place c.args.descent.now.stand).block) (tuple_place c.args.descent.now.stand).offset u) el
    (subst (λ (z : Place). FitsInPlace (tuples_at c.args.table.now z.block) z.offset c.in_ok-longer.longer) eh (subst (λ (s : Sheet). FitsInPlace s.tuples c.tuple_place-here.result.offset c.in_ok-longer.longer) c.page-2.ensures room)))
    c.widen_here.new.table c.note_node.new.self (c.widen_here.ensures ∙ ap₂ (λ (z : Place) (u : Tuple). widened_table c.args.table.now z u) eh el) c.note_node.ensures

pub returns-clause-ok : goal.returns-clause-ok
returns-clause-ok g c =
    let eh : c.tuple_place-here.result ≡ tuple_place c.args.descent.now.stand = c.tuple_place-here.ensures ∙ ap tuple_place c.stand.ensures in
    let el : c.in_ok-longer.longer ≡ widened (tuple_at c.args.table.now (tuple_place c.args.descent.now.stand)) c.args.at c.args.label =
    c.in_ok-longer.ensures ∙ ap (λ (z : ℤ). widened (tuple_on c.page.result.now.tuples c.tuple_place-here.result.offset) c.args.at z) (to_z-of_z w16 c.args.label c.ranges.label) ∙ ap (λ (s : Sheet). widened (tuple_on s.tuples c.tuple_place-here.result.offset) c.args.at c.args.label) c.page.ensures ∙ ap (λ (z : Place). widened (tuple_at c.args.table.now z) c.args.at c.args.label) eh in
    let wide : FitsWider c.args.table.now c.args.descent.now c.args.at c.args.label → ⊥ = not_wider c.args.table.now c.args.descent.now c.args.at c.args.label c.page-2.result.now c.tuple_place-here.result c.in_ok-longer.longer c.page-2.ensures eh el (λ f. let k : true ≡ false = sym (c.fits_in_place.ensures.1 f) ∙ c.if-fits_in_place.false in cc) in
    shifted_out g.O.OpClass.meaning g.O.OpClass.adds g.O.OpClass.codes c.args.table.now c.args.descent.now c.args.at c.args.label c.requires.shape c.requires.spot c.requires.main c.requires.of_key c.requires.answer wide c.shift_tuple.new.table c.note_shift.new.descent c.in_ok-longer.longer c.args.seat c.in_ok-to.to c.in_ok-to.ensures.ok el c.note_shift.ensures

pub returns-in_err-to-clause-full : goal.returns-in_err-to-clause-full
returns-in_err-to-clause-full g c =
    let eh : c.tuple_place-here.result ≡ tuple_place c.args.descent.now.stand = c.tuple_place-here.ensures ∙ ap tuple_place c.stand.ensures in
    let el : c.in_ok-longer.longer ≡ widened (tuple_at c.args.table.now (tuple_place c.args.descent.now.stand)) c.args.at c.args.label =
    c.in_ok-longer.ensures ∙ ap (λ (z : ℤ). widened (tuple_on c.page.result.now.tuples c.tuple_place-here.result.offset) c.args.at z) (to_z-of_z w16 c.args.label c.ranges.label) ∙ ap (λ (s : Sheet). widened (tuple_on s.tuples c.tuple_place-here.result.offset) c.args.at c.args.label) c.page.ensures ∙ ap (λ (z : Place). widened (tuple_at c.args.table.now z) c.args.at c.args.label) eh in
    let wide : FitsWider c.args.table.now c.args.descent.now c.args.at c.args.label → ⊥ = not_wider c.args.table.now c.args.descent.now c.args.at c.args.label c.page-2.result.now c.tuple_place-here.result c.in_ok-longer.longer c.page-2.ensures eh el (λ f. let k : true ≡ false = sym (c.fits_in_place.ensures.1 f) ∙ c.if-fits_in_place.false in cc) in
    let f : IsErrOf c.from_residual-in_err-to.result IndexFull → IsFull c.args.table.now (node_want (in_nulls c.args.descent.now) (tuple_place c.args.descent.now.stand).block (size_of c.in_ok-longer.longer) c.args.seat) = search rules in
    λ e. (wide, subst (λ (u : Tuple). IsFull c.args.table.now (node_want (in_nulls c.args.descent.now) (tuple_place c.args.descent.now.stand).block (size_of u) c.args.seat)) el (f e))

pub returns-in_err-to-clause-clock : goal.returns-in_err-to-clause-clock
returns-in_err-to-clause-clock g c =
    let eh : c.tuple_place-here.result ≡ tuple_place c.args.descent.now.stand = c.tuple_place-here.ensures ∙ ap tuple_place c.stand.ensures in
    let el : c.in_ok-longer.longer ≡ widened (tuple_at c.args.table.now (tuple_place c.args.descent.now.stand)) c.args.at c.args.label =
    c.in_ok-longer.ensures ∙ ap (λ (z : ℤ). widened (tuple_on c.page.result.now.tuples c.tuple_place-here.result.offset) c.args.at z) (to_z-of_z w16 c.args.label c.ranges.label) ∙ ap (λ (s : Sheet). widened (tuple_on s.tuples c.tuple_place-here.result.offset) c.args.at c.args.label) c.page.ensures ∙ ap (λ (z : Place). widened (tuple_at c.args.table.now z) c.args.at c.args.label) eh in
    let wide : FitsWider c.args.table.now c.args.descent.now c.args.at c.args.label → ⊥ = not_wider c.args.table.now c.args.descent.now c.args.at c.args.label c.page-2.result.now c.tuple_place-here.result c.in_ok-longer.longer c.page-2.ensures eh el (λ f. let k : true ≡ false = sym (c.fits_in_place.ensures.1 f) ∙ c.if-fits_in_place.false in cc) in
    let f : IsErrOf c.from_residual-in_err-to.result ClockFull → c.args.table.now.clock + 1 ≡ 2 ^ 48 = search rules in
    λ e. (wide, f e)

pub returns-then-fits_in_place-clause-held : goal.returns-then-fits_in_place-clause-held
returns-then-fits_in_place-clause-held g c = widened_held c.args.table.now c.widen_here.new.table c.args.descent.now c.args.seat c.tuple_place-here.result c.in_ok-longer.longer c.requires.spot (c.tuple_place-here.ensures ∙ ap tuple_place c.stand.ensures) c.widen_here.ensures

pub returns-then-fits_in_place-clause-stands : goal.returns-then-fits_in_place-clause-stands
returns-then-fits_in_place-clause-stands g c = inl (ap (λ (x : Descending _). x.stand) c.note_node.ensures)

pub returns-clause-stands : goal.returns-clause-stands
returns-clause-stands g c = inr (c.in_ok-to.to, ap (λ (x : Descending _). x.stand) c.note_shift.ensures, c.in_ok-to.ensures.home)

pub returns-then-fits_in_place-clause-table : goal.returns-then-fits_in_place-clause-table
returns-then-fits_in_place-clause-table g c =
    let eh : c.tuple_place-here.result ≡ tuple_place c.args.descent.now.stand = c.tuple_place-here.ensures ∙ ap tuple_place c.stand.ensures in
    let el : c.in_ok-longer.longer ≡ widened (tuple_at c.args.table.now (tuple_place c.args.descent.now.stand)) c.args.at c.args.label =
    c.in_ok-longer.ensures ∙ ap (λ (z : ℤ). widened (tuple_on c.page.result.now.tuples c.tuple_place-here.result.offset) c.args.at z) (to_z-of_z w16 c.args.label c.ranges.label) ∙ ap (λ (s : Sheet). widened (tuple_on s.tuples c.tuple_place-here.result.offset) c.args.at c.args.label) c.page.ensures ∙ ap (λ (z : Place). widened (tuple_at c.args.table.now z) c.args.at c.args.label) eh in
    let room : FitsInPlace c.page-2.result.now.tuples c.tuple_place-here.result.offset c.in_ok-longer.longer = c.fits_in_place.ensures.0 c.if-fits_in_place.true in
    inl (
      (subst (λ (u : Tuple). FitsInPlace (tuples_at c.args.table.now (tuple_place c.args.descent.now.stand).block) (tuple_place c.args.descent.now.stand).offset u) el
          (subst (λ (z : Place). FitsInPlace (tuples_at c.args.table.now z.block) z.offset c.in_ok-longer.longer) eh (subst (λ (s : Sheet). FitsInPlace s.tuples c.tuple_place-here.result.offset c.in_ok-longer.longer) c.page-2.ensures room))),
      c.widen_here.ensures ∙ ap₂ (λ (z : Place) (u : Tuple). widened_table c.args.table.now z u) eh el,
    )

pub returns-clause-table : goal.returns-clause-table
returns-clause-table g c =
    let eh : c.tuple_place-here.result ≡ tuple_place c.args.descent.now.stand = c.tuple_place-here.ensures ∙ ap tuple_place c.stand.ensures in
    let el : c.in_ok-longer.longer ≡ widened (tuple_at c.args.table.now (tuple_place c.args.descent.now.stand)) c.args.at c.args.label =
    c.in_ok-longer.ensures ∙ ap (λ (z : ℤ). widened (tuple_on c.page.result.now.tuples c.tuple_place-here.result.offset) c.args.at z) (to_z-of_z w16 c.args.label c.ranges.label) ∙ ap (λ (s : Sheet). widened (tuple_on s.tuples c.tuple_place-here.result.offset) c.args.at c.args.label) c.page.ensures ∙ ap (λ (z : Place). widened (tuple_at c.args.table.now z) c.args.at c.args.label) eh in
    let wide : FitsWider c.args.table.now c.args.descent.now c.args.at c.args.label → ⊥ = not_wider c.args.table.now c.args.descent.now c.args.at c.args.label c.page-2.result.now c.tuple_place-here.result c.in_ok-longer.longer c.page-2.ensures eh el (λ f. let k : true ≡ false = sym (c.fits_in_place.ensures.1 f) ∙ c.if-fits_in_place.false in cc) in
    inr (wide, c.in_ok-to.to, ap (λ (x : Descending _). x.stand) c.note_shift.ensures, subst (λ (u : Tuple). IsShiftedFrom c.args.table.now c.shift_tuple.new.table c.args.descent.now u c.args.seat c.in_ok-to.to) el c.in_ok-to.ensures.ok)

pub returns-then-fits_in_place-clause-clock_first : goal.returns-then-fits_in_place-clause-clock_first
returns-then-fits_in_place-clause-clock_first g c = λ n k.
    let eh : c.tuple_place-here.result ≡ tuple_place c.args.descent.now.stand = c.tuple_place-here.ensures ∙ ap tuple_place c.stand.ensures in
    let el : c.in_ok-longer.longer ≡ widened (tuple_at c.args.table.now (tuple_place c.args.descent.now.stand)) c.args.at c.args.label =
    c.in_ok-longer.ensures ∙ ap (λ (z : ℤ). widened (tuple_on c.page.result.now.tuples c.tuple_place-here.result.offset) c.args.at z) (to_z-of_z w16 c.args.label c.ranges.label) ∙ ap (λ (s : Sheet). widened (tuple_on s.tuples c.tuple_place-here.result.offset) c.args.at c.args.label) c.page.ensures ∙ ap (λ (z : Place). widened (tuple_at c.args.table.now z) c.args.at c.args.label) eh in
    let room : FitsInPlace c.page-2.result.now.tuples c.tuple_place-here.result.offset c.in_ok-longer.longer = c.fits_in_place.ensures.0 c.if-fits_in_place.true in
    absurd (n (subst (λ (u : Tuple). FitsInPlace (tuples_at c.args.table.now (tuple_place c.args.descent.now.stand).block) (tuple_place c.args.descent.now.stand).offset u) el
    (subst (λ (z : Place). FitsInPlace (tuples_at c.args.table.now z.block) z.offset c.in_ok-longer.longer) eh (subst (λ (s : Sheet). FitsInPlace s.tuples c.tuple_place-here.result.offset c.in_ok-longer.longer) c.page-2.ensures room))))

pub returns-then-fits_in_place-clause-exact : goal.returns-then-fits_in_place-clause-exact
returns-then-fits_in_place-clause-exact g c =
    let eh : c.tuple_place-here.result ≡ tuple_place c.args.descent.now.stand = c.tuple_place-here.ensures ∙ ap tuple_place c.stand.ensures in
    let el : c.in_ok-longer.longer ≡ widened (tuple_at c.args.table.now (tuple_place c.args.descent.now.stand)) c.args.at c.args.label =
    c.in_ok-longer.ensures ∙ ap (λ (z : ℤ). widened (tuple_on c.page.result.now.tuples c.tuple_place-here.result.offset) c.args.at z) (to_z-of_z w16 c.args.label c.ranges.label) ∙ ap (λ (s : Sheet). widened (tuple_on s.tuples c.tuple_place-here.result.offset) c.args.at c.args.label) c.page.ensures ∙ ap (λ (z : Place). widened (tuple_at c.args.table.now z) c.args.at c.args.label) eh in
    exact_here g.O.OpClass.meaning g.O.OpClass.adds g.O.OpClass.codes c.args.table.now c.args.descent.now c.args.at c.args.label c.requires.shape c.requires.spot c.requires.main c.requires.of_key c.requires.answer c.widen_here.new.table (c.widen_here.ensures ∙ ap₂ (λ (z : Place) (u : Tuple). widened_table c.args.table.now z u) eh el)

pub returns-clause-exact : goal.returns-clause-exact
returns-clause-exact g c =
    let eh : c.tuple_place-here.result ≡ tuple_place c.args.descent.now.stand = c.tuple_place-here.ensures ∙ ap tuple_place c.stand.ensures in
    let el : c.in_ok-longer.longer ≡ widened (tuple_at c.args.table.now (tuple_place c.args.descent.now.stand)) c.args.at c.args.label =
    c.in_ok-longer.ensures ∙ ap (λ (z : ℤ). widened (tuple_on c.page.result.now.tuples c.tuple_place-here.result.offset) c.args.at z) (to_z-of_z w16 c.args.label c.ranges.label) ∙ ap (λ (s : Sheet). widened (tuple_on s.tuples c.tuple_place-here.result.offset) c.args.at c.args.label) c.page.ensures ∙ ap (λ (z : Place). widened (tuple_at c.args.table.now z) c.args.at c.args.label) eh in
    exact_out g.O.OpClass.meaning g.O.OpClass.adds g.O.OpClass.codes c.args.table.now c.args.descent.now c.args.at c.args.label c.requires.shape c.requires.spot c.requires.main c.requires.of_key c.requires.answer c.shift_tuple.new.table c.in_ok-longer.longer c.args.seat c.in_ok-to.to c.in_ok-to.ensures.ok el

pub returns-then-fits_in_place-clause-not_full : goal.returns-then-fits_in_place-clause-not_full
returns-then-fits_in_place-clause-not_full g c =
    let eh : c.tuple_place-here.result ≡ tuple_place c.args.descent.now.stand = c.tuple_place-here.ensures ∙ ap tuple_place c.stand.ensures in
    let el : c.in_ok-longer.longer ≡ widened (tuple_at c.args.table.now (tuple_place c.args.descent.now.stand)) c.args.at c.args.label =
    c.in_ok-longer.ensures ∙ ap (λ (z : ℤ). widened (tuple_on c.page.result.now.tuples c.tuple_place-here.result.offset) c.args.at z) (to_z-of_z w16 c.args.label c.ranges.label) ∙ ap (λ (s : Sheet). widened (tuple_on s.tuples c.tuple_place-here.result.offset) c.args.at c.args.label) c.page.ensures ∙ ap (λ (z : Place). widened (tuple_at c.args.table.now z) c.args.at c.args.label) eh in
    let room : FitsInPlace c.page-2.result.now.tuples c.tuple_place-here.result.offset c.in_ok-longer.longer = c.fits_in_place.ensures.0 c.if-fits_in_place.true in
    node_not_full c.args.table.now c.widen_here.new.table c.args.descent.now c.note_node.new.self c.args.at c.args.label c.args.seat
    (inl (
      (subst (λ (u : Tuple). FitsInPlace (tuples_at c.args.table.now (tuple_place c.args.descent.now.stand).block) (tuple_place c.args.descent.now.stand).offset u) el
          (subst (λ (z : Place). FitsInPlace (tuples_at c.args.table.now z.block) z.offset c.in_ok-longer.longer) eh (subst (λ (s : Sheet). FitsInPlace s.tuples c.tuple_place-here.result.offset c.in_ok-longer.longer) c.page-2.ensures room))),
      c.widen_here.ensures ∙ ap₂ (λ (z : Place) (u : Tuple). widened_table c.args.table.now z u) eh el,
    ))

pub returns-clause-not_full : goal.returns-clause-not_full
returns-clause-not_full g c =
    let eh : c.tuple_place-here.result ≡ tuple_place c.args.descent.now.stand = c.tuple_place-here.ensures ∙ ap tuple_place c.stand.ensures in
    let el : c.in_ok-longer.longer ≡ widened (tuple_at c.args.table.now (tuple_place c.args.descent.now.stand)) c.args.at c.args.label =
    c.in_ok-longer.ensures ∙ ap (λ (z : ℤ). widened (tuple_on c.page.result.now.tuples c.tuple_place-here.result.offset) c.args.at z) (to_z-of_z w16 c.args.label c.ranges.label) ∙ ap (λ (s : Sheet). widened (tuple_on s.tuples c.tuple_place-here.result.offset) c.args.at c.args.label) c.page.ensures ∙ ap (λ (z : Place). widened (tuple_at c.args.table.now z) c.args.at c.args.label) eh in
    let wide : FitsWider c.args.table.now c.args.descent.now c.args.at c.args.label → ⊥ = not_wider c.args.table.now c.args.descent.now c.args.at c.args.label c.page-2.result.now c.tuple_place-here.result c.in_ok-longer.longer c.page-2.ensures eh el (λ f. let k : true ≡ false = sym (c.fits_in_place.ensures.1 f) ∙ c.if-fits_in_place.false in cc) in
    node_not_full c.args.table.now c.shift_tuple.new.table c.args.descent.now c.note_shift.new.descent c.args.at c.args.label c.args.seat
    (inr (wide, c.in_ok-to.to, ap (λ (x : Descending _). x.stand) c.note_shift.ensures, subst (λ (u : Tuple). IsShiftedFrom c.args.table.now c.shift_tuple.new.table c.args.descent.now u c.args.seat c.in_ok-to.to) el c.in_ok-to.ensures.ok))
