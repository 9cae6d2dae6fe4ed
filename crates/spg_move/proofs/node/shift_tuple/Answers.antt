use Rattle.std.proofs.Common.{sym, ◌∙◌}
use Rattle.spg_tree.specs.Descents.{in_nulls}
use Rattle.spg_descend.specs.Held.{TouchesFree, IsFreeHome}
use Rattle.spg_tree.proofs.Outcomes.{on_ok_then, if_ok_then}
use Rattle.spg_move.specs.Widening.{IsShifted}
use Rattle.spg_move.proofs.NodeStanding.{hung_at, no_other}
use Rattle.spg_move.proofs.Held.{shifted_held, shifted_home}
use Rattle.spg_move.proofs.node.shift_tuple.Goals as goal
use Rattle.spg_move.proofs.node.shift_tuple.Goals.{in_default-via-in-At+in_default, in_default-via-in_default}

pub shift-requires-clause-hung : goal.shift-requires-clause-hung
shift-requires-clause-hung g c = hung_at g.O.OpClass.meaning c.args.table.now c.requires.shape (in_nulls c.args.descent.now) c.args.descent.now.stand c.args.descent.now.parent c.in-At-Some.at c.in-At-Some.parent c.in-At-Some.node
    (sym c.in-At-Some.ensures) (sym c.in-At-Some.ensures'.value) c.requires.spot

pub unreachable-requires : goal.unreachable-requires
unreachable-requires g c = no_other g.O.OpClass.meaning c.args.table.now c.requires.shape (in_nulls c.args.descent.now) c.args.descent.now.stand c.args.descent.now.parent c.args.longer.now c.requires.spot c.requires.size c.requires.no_room
    (λ x p i es ep. elim c.in_default.branch [ in_default-via-in-At+in_default w ↦ (let e = sym w.in_default.is-1 ∙ c.parent.ensures.value ∙ ep in cc) | in_default-via-in_default w ↦ w.in_default.not-At-0 x (c.stand.ensures ∙ es) ])

pub returns-clause-held : goal.returns-clause-held
returns-clause-held g c = on_ok_then c.shift.result (λ to. IsShifted c.args.table.now c.shift.new.table c.is_nulls.result c.in-At-Some.at c.in-At-Some.parent c.in-At-Some.node c.args.longer.now c.args.seat to) (TouchesFree c.args.table.now c.shift.new.table c.args.descent.now c.args.seat)
    (λ to P. shifted_held c.args.table.now c.shift.new.table c.args.descent.now c.is_nulls.result c.in-At-Some.at c.in-At-Some.parent c.in-At-Some.node c.args.longer.now c.args.seat to (sym c.in-At-Some.ensures) (sym c.in-At-Some.ensures'.value) c.shift.ensures.sound.latched P) c.shift.ensures.ok

pub returns-clause-home : goal.returns-clause-home
returns-clause-home g c = if_ok_then c.shift.result (λ to. IsShifted c.args.table.now c.shift.new.table c.is_nulls.result c.in-At-Some.at c.in-At-Some.parent c.in-At-Some.node c.args.longer.now c.args.seat to)
    (λ to. IsFreeHome c.args.table.now c.shift.new.table c.args.descent.now.parent to.block c.args.seat)
    (λ to P. shifted_home c.args.table.now c.shift.new.table c.args.descent.now c.is_nulls.result c.in-At-Some.at c.in-At-Some.parent c.in-At-Some.node c.args.longer.now c.args.seat to
    (hung_at g.O.OpClass.meaning c.args.table.now c.requires.shape (in_nulls c.args.descent.now) c.args.descent.now.stand c.args.descent.now.parent c.in-At-Some.at c.in-At-Some.parent c.in-At-Some.node (sym c.in-At-Some.ensures) (sym c.in-At-Some.ensures'.value) c.requires.spot).above.1 P) c.shift.ensures.ok
