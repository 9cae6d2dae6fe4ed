use Rattle.std.proofs.Common.{ap, ◌∙◌, subst, refl}
use Rattle.std.proofs.lemmas.Option.{slice_get_within}
use Rattle.spg_scan.specs.declared.walk.ReadOut.{ReadOut}
use Rattle.spg_near.specs.Nearing.{Nearing}
use Rattle.spg_near.specs.Reads.{IsNearOut}
use Rattle.spg_near.proofs.Moments.{is_held, reads, falls}
use Rattle.spg_near.proofs.moment.read_all.Goals as goal

pub loop-item-init : goal.loop-item-init
loop-item-init g c = (λ past A. A, refl, refl)

pub read_item-requires-clause-shape : goal.read_item-requires-clause-shape
read_item-requires-clause-shape g c =
    let (past, before) = c.requires.begun in
    (c.loop-item.invariant.0 past before).now.holds.shape

pub read_item-requires-clause-item : goal.read_item-requires-clause-item
read_item-requires-clause-item g c =
    let (it, near, few) = c.in-Some.ensures.some in
    slice_get_within c.loop-item.near.items c.in-Some.item it near.at

pub read_item-requires-clause-held : goal.read_item-requires-clause-held
read_item-requires-clause-held g c = λ it at.
    let (past, before) = c.requires.begun in
    is_held g.O.OpClass.meaning g.O.NearClass.box_below c.args.seat past c.args.table.now c.args.rows.now c.loop-item.near (c.loop-item.invariant.0 past before) c.in-Some.item it at

pub loop-item-preserved : goal.loop-item-preserved
loop-item-preserved g c =
    let m = g.O.OpClass.meaning in
    let out = subst (λ (o : ReadOut). IsNearOut m g.O.NearClass.box_below c.args.table.now c.args.rows.now c.loop-item.near c.read_item.new.self c.in-Some.item c.args.seat o) c.in-Read.is c.in_ok-read_item-in-Some.ensures.ok in
    let R = out.1 in
    let (all, target, limit) = c.loop-item.invariant in (
      λ past before. reads m g.O.NearClass.box_below c.args.seat past c.args.table.now c.args.rows.now g.O.OpClass.keeps g.O.OpClass.codes g.met.O.NearClass.cuts g.met.O.NearClass.narrows g.met.O.NearClass.points c.loop-item.near c.read_item.new.self c.in-Some.item c.in-Some.ensures.some R (all past before),
      ap (λ (n : Nearing _). n.target) R.after ∙ target,
      ap (λ (n : Nearing _). n.limit) R.after ∙ limit,
    )

pub loop-item-smaller : goal.loop-item-smaller
loop-item-smaller g c =
    let m = g.O.OpClass.meaning in
    let (past, before) = c.requires.begun in
    let out = subst (λ (o : ReadOut). IsNearOut m g.O.NearClass.box_below c.args.table.now c.args.rows.now c.loop-item.near c.read_item.new.self c.in-Some.item c.args.seat o) c.in-Read.is c.in_ok-read_item-in-Some.ensures.ok in
    falls m g.O.NearClass.box_below c.args.seat past c.args.table.now c.args.rows.now c.loop-item.near c.read_item.new.self c.in-Some.item out.1 (c.loop-item.invariant.0 past before)
