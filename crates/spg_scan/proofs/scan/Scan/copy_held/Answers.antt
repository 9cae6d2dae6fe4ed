use Rattle.std.proofs.Common.{refl, sym, ◌∙◌}
use Rattle.std.proofs.lemmas.Result.{IfOk-weaker, on_err_weaker}
use Rattle.spg_tree.specs.Table.{sheets_of, latch_at}
use Rattle.spg_scan.specs.Reading.{IsFreeFor}
use Rattle.spg_scan.specs.Copying.{IsPlaceOut, IsCopyOut}
use Rattle.spg_scan.proofs.Readings.{page_there, other_some}
use Rattle.spg_scan.proofs.Outcomes.{place_out, free_at}
use Rattle.spg_scan.proofs.scan.Scan.copy_held.Given.{Over}
use Rattle.spg_scan.proofs.scan.Scan.copy_held.Goals as goal
use Rattle.spg_scan.proofs.scan.Scan.copy_held.Goals.{In-None}

pub held_by_other-requires : goal.held_by_other-requires
held_by_other-requires g c = page_there g.O.OpClass.meaning (sheets_of c.args.table.now) c.requires.shape c.args.self.now c.args.item c.requires.held c.place_at-place.result c.place_at-place.ensures

pub returns-in-Some-clause-ok : goal.returns-in-Some-clause-ok
returns-in-Some-clause-ok g c =
    let place = c.place_at-place.result in
    let t = other_some c.args.seat c.in-Some.by (latch_at c.args.table.now place.block) (sym c.held_by_other.ensures ∙ c.in-Some.is) in
    let p = c.place_at-place.ensures in
    ((place, p.0, p.1, refl), t.0, t.1, refl)

-- where the branch for None is taken, no other seat holds the block
free : (g : Over) (c : In-None g) → IsFreeFor c.args.table.now c.args.self.now c.args.item c.args.seat
free g c = free_at c.args.self.now c.args.item c.args.table.now c.args.seat c.place_at-place.result c.place_at-place.ensures (sym c.held_by_other.ensures ∙ c.in-None.is)

pub returns-in-None-clause-ok : goal.returns-in-None-clause-ok
returns-in-None-clause-ok g c =
    let t = c.args.table.now in
    let now = c.args.self.now in
    let new = c.copy_at.new.self in
    IfOk-weaker c.copy_at.result (λ out. IsPlaceOut g.O.OpClass.meaning (sheets_of t) c.args.rows.now now new c.args.item out) (λ out. IsCopyOut g.O.OpClass.meaning t c.args.rows.now now new c.args.item c.args.seat out)
    (λ out h. place_out now c.args.item g.O.OpClass.meaning t c.args.rows.now new c.args.seat (free g ((goal.at.returns-in-None-clause-ok g c).In-None)) out h) c.copy_at.ensures.ok

pub returns-in-None-clause-latched : goal.returns-in-None-clause-latched
returns-in-None-clause-latched g c = on_err_weaker c.copy_at.result (λ _. free g ((goal.at.returns-in-None-clause-latched g c).In-None)) c.copy_at.ensures.err
