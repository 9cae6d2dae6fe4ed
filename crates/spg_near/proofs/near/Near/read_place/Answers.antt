use Rattle.std.proofs.Common.{◌≡◌, ◌∙◌, ℕ, Some, map, refl, sym, ap, subst}
use Rattle.std.specs.Prelude.{slice_get}
use Rattle.std.proofs.lemmas.Option.{same_Some}
use Rattle.spg_base.specs.declared.point.Point.{Point}
use Rattle.spg_forest.specs.Shape.{spots}
use Rattle.spg_tree.specs.Table.{sheets_of, latch_at}
use Rattle.spg_scan.proofs.Readings.{other_some, other_none}
use Rattle.spg_scan.proofs.Outcomes.{on_err}
use Rattle.spg_near.specs.Held.{item_of}
use Rattle.spg_near.specs.Nearing.{LeafSpot, near_replaced, live_of}
use Rattle.spg_near.specs.Reads.{IsFreeItem}
use Rattle.spg_near.proofs.Looks.{block_there}
use Rattle.spg_near.proofs.Needed.{live_spot, needed_whole}
use Rattle.spg_near.proofs.NearFields.{item_here}
use Rattle.spg_near.proofs.near.Near.read_place.Given.{Over}
use Rattle.spg_near.proofs.near.Near.read_place.Goals as goal
use Rattle.spg_near.proofs.near.Near.read_place.Goals.{In-None}

pub held_by_other-requires : goal.held_by_other-requires
held_by_other-requires g c =
    let s = c.self.inside in
    let w = c.index-held.result.now in
    let here = item_here s.target s.limit s.at s.stamp s.items.items s.found.items s.met c.args.item c.args.self.now c.self.view_is w c.index-held.ensures c.requires.item in
    block_there g.O.OpClass.meaning g.O.NearClass.box_below (sheets_of c.args.table.now) c.requires.shape g.O.OpClass.codes s.target c.args.self.now.stamp (item_of w) (c.requires.held (item_of w) here)

pub returns-in-Some-clause-ok : goal.returns-in-Some-clause-ok
returns-in-Some-clause-ok g c =
    let s = c.self.inside in
    let w = c.index-held.result.now in
    let here = item_here s.target s.limit s.at s.stamp s.items.items s.found.items s.met c.args.item c.args.self.now c.self.view_is w c.index-held.ensures c.requires.item in
    let t = other_some c.args.seat c.in-Some.by (latch_at c.args.table.now w.place.block) (sym c.held_by_other.ensures ∙ c.in-Some.is) in
    ((item_of w, here, refl), t.0, t.1, refl)

pub returns-in-Some-clause-all : goal.returns-in-Some-clause-all
returns-in-Some-clause-all g c = λ h.
    let s = c.self.inside in
    let w = c.index-held.result.now in
    let here = item_here s.target s.limit s.at s.stamp s.items.items s.found.items s.met c.args.item c.args.self.now c.self.view_is w c.index-held.ensures c.requires.item in
    let t = other_some c.args.seat c.in-Some.by (latch_at c.args.table.now w.place.block) (sym c.held_by_other.ensures ∙ c.in-Some.is) in
    ((item_of w, here, refl), t.0, t.1, refl)

pub look-requires-clause-held : goal.look-requires-clause-held
look-requires-clause-held g c =
    let s = c.self.inside in
    let w = c.index-held.result.now in
    let here = item_here s.target s.limit s.at s.stamp s.items.items s.found.items s.met c.args.item c.args.self.now c.self.view_is w c.index-held.ensures c.requires.item in
    (c.args.self.now.stamp, c.requires.held (item_of w) here)

-- where the branch for None is taken, no other seat holds the block
free : (g : Over) (c : In-None g) → IsFreeItem c.args.table.now c.args.self.now c.args.item c.args.seat
free g c = λ it by a e.
    let s = c.self.inside in
    let w = c.index-held.result.now in
    let here = item_here s.target s.limit s.at s.stamp s.items.items s.found.items s.met c.args.item c.args.self.now c.self.view_is w c.index-held.ensures c.requires.item in
    let one : Some it ≡ Some (item_of w) = sym a ∙ here in
    let same : it ≡ item_of w = same_Some it (item_of w) one in
    other_none c.args.seat by (latch_at c.args.table.now w.place.block) (sym c.held_by_other.ensures ∙ c.in-None.is) (ap (λ z. latch_at c.args.table.now z.place.block) (sym same) ∙ e)

pub returns-in_ok-take-in-None-clause-ok : goal.returns-in_ok-take-in-None-clause-ok
returns-in_ok-take-in-None-clause-ok g c =
    let m = g.O.OpClass.meaning in
    let s = c.self.inside in
    let now = c.args.self.now in
    let w = c.index-held.result.now in
    let S = sheets_of c.args.table.now in
    let kids = map item_of c.in_ok-step-in-None.step.kids.items in
    let leaves = c.in_ok-step-in-None.step.leaves.items in
    let live = live_of c.args.rows.now leaves in
    let here : slice_get now.items c.args.item ≡ Some (item_of w) = item_here s.target s.limit s.at s.stamp s.items.items s.found.items s.met c.args.item now c.self.view_is w c.index-held.ensures c.requires.item in
    let gives : LeafSpot m g.O.NearClass.box_below now.target (item_of w) (spots S w.place) kids leaves = subst (λ (p : Point). LeafSpot m g.O.NearClass.box_below p (item_of w) (spots S w.place) kids leaves) (ap (λ z. z.target) c.self.view_is) c.in_ok-step-in-None.ensures.gives in
    let (found, needed, after) = c.in_ok-take-in-None.ensures.ok in (
      free g ((goal.at.returns-in_ok-take-in-None-clause-ok g c).In-None),
      record {
        item = item_of w;
        items = kids;
        live = live;
        found = found;
        at = here;
        reads = live_spot m g.O.NearClass.box_below c.args.rows.now now.target (item_of w) (spots S w.place) kids leaves gives;
        kept = needed;
        after = after ∙ ap (λ (k : ℕ). near_replaced now c.args.item kids found k) c.in_ok-step-in-None.ensures.met;
      },
    )

pub returns-in_ok-take-in-None-clause-all : goal.returns-in_ok-take-in-None-clause-all
returns-in_ok-take-in-None-clause-all g c = λ h.
    let m = g.O.OpClass.meaning in
    let s = c.self.inside in
    let now = c.args.self.now in
    let w = c.index-held.result.now in
    let S = sheets_of c.args.table.now in
    let kids = map item_of c.in_ok-step-in-None.step.kids.items in
    let leaves = c.in_ok-step-in-None.step.leaves.items in
    let live = live_of c.args.rows.now leaves in
    let here : slice_get now.items c.args.item ≡ Some (item_of w) = item_here s.target s.limit s.at s.stamp s.items.items s.found.items s.met c.args.item now c.self.view_is w c.index-held.ensures c.requires.item in
    let gives : LeafSpot m g.O.NearClass.box_below now.target (item_of w) (spots S w.place) kids leaves = subst (λ (p : Point). LeafSpot m g.O.NearClass.box_below p (item_of w) (spots S w.place) kids leaves) (ap (λ z. z.target) c.self.view_is) c.in_ok-step-in-None.ensures.gives in (
      free g ((goal.at.returns-in_ok-take-in-None-clause-all g c).In-None),
      (
        record {
          item = item_of w;
          items = kids;
          live = live;
          found = live;
          at = here;
          reads = live_spot m g.O.NearClass.box_below c.args.rows.now now.target (item_of w) (spots S w.place) kids leaves gives;
          kept = needed_whole now.limit now.found live;
          after = c.in_ok-take-in-None.ensures.all h ∙ ap (λ (k : ℕ). near_replaced now c.args.item kids live k) c.in_ok-step-in-None.ensures.met;
        },
        refl,
      ),
    )

pub returns-in_err-step-in-None-clause-latched : goal.returns-in_err-step-in-None-clause-latched
returns-in_err-step-in-None-clause-latched g c = on_err c.from_residual.result (free g ((goal.at.returns-in_err-step-in-None-clause-latched g c).In-None))

pub returns-in_err-take-in-None-clause-latched : goal.returns-in_err-take-in-None-clause-latched
returns-in_err-take-in-None-clause-latched g c = on_err c.from_residual-in_err-take-in-None.result (free g ((goal.at.returns-in_err-take-in-None-clause-latched g c).In-None))
