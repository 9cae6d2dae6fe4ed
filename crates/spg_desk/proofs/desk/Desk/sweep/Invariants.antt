use Rattle.std.proofs.Common.{◌≡◌, ◌∷◌, [], List}
use Rattle.spg_base.specs.Row.{RowAt}
use Rattle.spg_rows.specs.declared.event.Event.{Event}
use Rattle.spg_rows.specs.declared.event.Event.TheVariants.{OpenVacuum}
use Rattle.spg_turn.specs.declared.rule.View.{View}
use Rattle.spg_turn.specs.Passes.{pass_turn, pass_view}
use Rattle.spg_calls.specs.Doing.{sweeps}
use Rattle.spg_desk.specs.Knowing.{doing_at}
use Rattle.spg_desk.specs.Told.{Told}
use Rattle.spg_desk.specs.Passes.{desk_id}
use Rattle.spg_desk.proofs.Composing.{swept_rows}
use Rattle.spg_desk.proofs.desk.Desk.sweep.Given as goal

abbrev pub invariant-loop : goal.invariant-loop
invariant-loop g l = record {
  own : pass_turn l.going.pass ≡ desk_id l.self;
  sweeping : doing_at (pass_view l.going.pass) ≡ sweeps;
  told : (v : View (Event g.row.O.Denot g.row.O-Key.Denot g.row.O-Recon.Denot g.row.O-Cond.Denot)) → Told g.O.OpClass.meaning v (pass_view l.fn.going.pass) l.fn.opened (OpenVacuum v.number ∷ []) → (rows : List RowAt) × Told g.O.OpClass.meaning v (pass_view l.going.pass) l.span (OpenVacuum v.number ∷ swept_rows v.number rows);
}
