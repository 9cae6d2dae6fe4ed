use Rattle.std.proofs.Common.{refl, sym, ◌∙◌}
use Rattle.spg_tree.specs.Table.{sheets_of, latch_at}
use Rattle.spg_scan.proofs.Readings.{page_there, other_some}
use Rattle.spg_scan.proofs.Outcomes.{on_err, free_at}
use Rattle.spg_scan.specs.Reading.{IsFreeFor}
use Rattle.spg_scan.proofs.scan.Scan.read_held.Given.{Over}
use Rattle.spg_scan.proofs.scan.Scan.read_held.Goals as goal
use Rattle.spg_scan.proofs.scan.Scan.read_held.Goals.{In-None}

pub held_by_other-requires : goal.held_by_other-requires
held_by_other-requires g c = page_there g.O.OpClass.meaning (sheets_of c.args.table.now) c.requires.shape c.args.self.now c.args.item c.requires.held c.place_at-place.result c.place_at-place.ensures

pub returns-in-Some-clause-ok : goal.returns-in-Some-clause-ok
returns-in-Some-clause-ok g c =
    let place = c.place_at-place.result in
    let t = other_some c.args.seat c.in-Some.by (latch_at c.args.table.now place.block) (sym c.held_by_other.ensures ∙ c.in-Some.is) in
    let p = c.place_at-place.ensures in
    ((place, p.0, p.1, refl), t.0, t.1, refl)

-- where the branch for None is taken, no other seat holds the block
free : (g : Over) (c : In-None g) → IsFreeFor c.args.table.now c.args.self.now c.args.item c.args.seat
free g c = free_at c.args.self.now c.args.item c.args.table.now c.args.seat c.place_at-place.result c.place_at-place.ensures (sym c.held_by_other.ensures ∙ c.in-None.is)

pub returns-in_ok-read_at-in-None-clause-ok : goal.returns-in_ok-read_at-in-None-clause-ok
returns-in_ok-read_at-in-None-clause-ok g c = (free g ((goal.at.returns-in_ok-read_at-in-None-clause-ok g c).In-None), c.in_ok-read_at-in-None.ensures.ok)

pub returns-in_err-read_at-in-None-clause-latched : goal.returns-in_err-read_at-in-None-clause-latched
returns-in_err-read_at-in-None-clause-latched g c = on_err c.from_residual.result (free g ((goal.at.returns-in_err-read_at-in-None-clause-latched g c).In-None))
