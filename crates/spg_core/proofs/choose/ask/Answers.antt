use Rattle.std.proofs.Common.{◌≡◌, ℕ, ◌<◌, Some, length, refl, sym, ap, ◌∙◌, subst}
use Rattle.spg_opclass.specs.Copies.{AtTuple}
use Rattle.spg_opclass.specs.InPlace.{shown}
use Rattle.spg_forest.specs.View.{Place}
use Rattle.spg_forest.specs.Spot.{Frame}
use Rattle.spg_forest.specs.Pages.{tuple_on}
use Rattle.spg_forest.specs.Sheets.{Sheet}
use Rattle.spg_page.specs.Reads.{frame_in}
use Rattle.spg_tree.specs.Table.{Table, sheet_at, tuple_at}
use Rattle.spg_tree.specs.declared.stand.Stand.{Stand}
use Rattle.spg_descend.specs.Follows.{tuple_place}
use Rattle.spg_descend.proofs.FollowLaw.{is_within, has_label}
use Rattle.spg_core.specs.Stepping.{named}
use Rattle.spg_core.specs.Guides.{IsSpottedAt}
use Rattle.spg_core.proofs.Looks.{to_follow}
use Rattle.spg_core.proofs.choose.ask.Goals as goal

-- what is read in place is the tuple at which the insert stands
tuple_is : (t : Table) (stand : Stand) (at : Place) (page : Sheet) (v : Frame) → at ≡ tuple_place stand → page ≡ sheet_at t at.block → v ≡ frame_in (tuple_on page.tuples at.offset) → v ≡ frame_in (tuple_at t (tuple_place stand))
tuple_is t stand at page v e ep ev = ev ∙ ap (λ (s : Sheet). frame_in (tuple_on s.tuples at.offset)) ep ∙ ap (λ (x : Place). frame_in (tuple_at t x)) e

pub inner_at-tuple-requires-clause-offset : goal.inner_at-tuple-requires-clause-offset
inner_at-tuple-requires-clause-offset g c =
    let e = c.tuple_place-at.ensures ∙ ap tuple_place c.stand.ensures in
    rw (c.page.ensures, e) (is_within c.args.table.now c.args.descent.now.stand c.requires.inner)

pub down_in_place-requires : goal.down_in_place-requires
down_in_place-requires g c =
    let t = c.args.table.now in
    let d = c.args.descent.now in
    let m = g.O.OpClass.meaning in
    let (key, C) = c.requires.can.of_key in
    let v : Frame = shown c.inner_at-tuple.result in
    let ew : v ≡ frame_in (tuple_at t (tuple_place d.stand)) = tuple_is t d.stand c.tuple_place-at.result c.page.result.now v (c.tuple_place-at.ensures ∙ ap tuple_place c.stand.ensures) c.page.ensures c.inner_at-tuple.ensures.value in
    let x : AtTuple _ = record { recon = c.in-Some.recon.now; tuple = v; rest = c.as_slice.result.now } in
    let S : IsSpottedAt t d x = (c.requires.inner, sym c.in-Some.ensures.value, ew, c.as_slice.ensures.value ∙ c.rest.ensures) in
    let low : t.counter < 8 = c.counter.ensures.in_range in
    let n : c.named-node.result ≡ named t.counter v c.in-Match.node = c.named-node.ensures ∙ ap (λ (k : ℕ). named k v c.in-Match.node) c.counter.ensures.value in
    let there = (to_follow m g.O.OpClass.matches t d c.requires.can.shape c.requires.can.stands key C x S c.in-Match.node c.named-node.result c.in-Match.rest v.all_same (Some (m.down x.recon v c.named-node.result)) low (sym c.in_ok-node.ensures ∙ c.in-Match.is) n refl refl).0 in
    subst (λ (w : Frame). c.named-node.result < length w.labels) (sym ew) (has_label m t (tuple_place d.stand) c.named-node.result c.requires.can.shape c.requires.inner.2 there)

pub go_down-requires-clause-chosen : goal.go_down-requires-clause-chosen
go_down-requires-clause-chosen g c =
    let t = c.args.table.now in
    let d = c.args.descent.now in
    let m = g.O.OpClass.meaning in
    let (key, C) = c.requires.can.of_key in
    let v : Frame = shown c.inner_at-tuple.result in
    let ew : v ≡ frame_in (tuple_at t (tuple_place d.stand)) = tuple_is t d.stand c.tuple_place-at.result c.page.result.now v (c.tuple_place-at.ensures ∙ ap tuple_place c.stand.ensures) c.page.ensures c.inner_at-tuple.ensures.value in
    let x : AtTuple _ = record { recon = c.in-Some.recon.now; tuple = v; rest = c.as_slice.result.now } in
    let S : IsSpottedAt t d x = (c.requires.inner, sym c.in-Some.ensures.value, ew, c.as_slice.ensures.value ∙ c.rest.ensures) in
    let n : c.named-node.result ≡ named t.counter v c.in-Match.node = c.named-node.ensures ∙ ap (λ (k : ℕ). named k v c.in-Match.node) c.counter.ensures.value in
    to_follow m g.O.OpClass.matches t d c.requires.can.shape c.requires.can.stands key C x S c.in-Match.node c.named-node.result c.in-Match.rest v.all_same (Some c.in_ok-below-in-Match.below) c.counter.ensures.in_range (sym c.in_ok-node.ensures ∙ c.in-Match.is) n refl (ap Some c.in_ok-below-in-Match.ensures)
