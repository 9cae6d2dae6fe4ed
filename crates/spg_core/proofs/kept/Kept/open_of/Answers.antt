use Rattle.std.proofs.Common.{get_or}
use Rattle.spg_core.specs.declared.slot.Slot.TheVariants.{Free}
use Rattle.spg_core.specs.Slot.{stage_of}
use Rattle.spg_core.proofs.Slots.{stage_is, past_is, fits_stage}
use Rattle.spg_core.proofs.Steps.{fits, seen_fits, past}
use Rattle.spg_core.proofs.kept.Kept.open_of.Goals as goal

pub returns-clause-journal : goal.returns-clause-journal
returns-clause-journal g c =
    let m = g.O.OpClass.meaning in
    let s = c.self.inside in
    rw (past_is s c.args.self.now c.self.view_is 0, stage_is s c.args.self.now c.self.view_is c.args.seat)
    (fits_stage m s.table (past m s c.self.invariant.0) c.args.seat (stage_of (get_or s.slots.items c.args.seat Free)) (fits m s c.self.invariant.0 c.args.seat))

pub returns-clause-fits : goal.returns-clause-fits
returns-clause-fits g c =
    let m = g.O.OpClass.meaning in
    let s = c.self.inside in
    seen_fits m s c.self.invariant.0 c.args.self.now c.self.view_is c.args.seat
