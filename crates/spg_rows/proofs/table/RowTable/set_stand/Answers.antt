use Rattle.std.proofs.Common.{◌≡◌, false, Some, is_some, sym, ◌∙◌, ap, cond}
use Rattle.std.specs.Option.{option_copied_mut}
use Rattle.spg_base.specs.Row.{same_row}
use Rattle.spg_rows.specs.declared.table.RowEntry.{RowEntry}
use Rattle.spg_rows.specs.Table.{entry_in, entry_with}
use Rattle.spg_rows.proofs.Tables.{stand_front, stand_back, in_neither}
use Rattle.spg_rows.proofs.table.RowTable.set_stand.Goals.{in-Some, in_default}
use Rattle.spg_rows.proofs.table.RowTable.set_stand.Goals as goal

pub returns-then-set_stand : goal.returns-then-set_stand
returns-then-set_stand g c = rw (← c.self.view_is) (stand_front _ _ _ c.args.row c.args.stand (sym c.set_stand.ensures.found ∙ c.if-set_stand.true) c.set_stand.ensures.set)

pub returns : goal.returns
returns g c =
    let run = c.self.inside.run in
    let others = c.self.inside.others.entries in
    let absent : is_some (entry_in run c.args.row) ≡ false = sym c.set_stand.ensures.found ∙ c.if-set_stand.false in
    elim c.match-get_mut.branch [
      | in-Some w ↦
          let next : RowEntry g.row.O.Denot g.row.O-Key.Denot g.row.O-Recon.Denot g.row.O-Cond.Denot = record { stand = c.args.stand; key = w.in-Some.entry.now.key } in
          let had : entry_in others c.args.row ≡ Some w.in-Some.entry.now = sym c.get_mut.ensures.value ∙ ap option_copied_mut w.in-Some.is in
          let set = ((c.get_mut.follows.holds next).3 (ap is_some had)).0 in
          rw (w.self-inside-is, ← c.self.view_is)
          (stand_back run c.set_stand.new.self others (c.get_mut.follows.lender next).entries c.args.row c.args.stand absent c.set_stand.ensures.set
          (λ r. set r ∙ ap (λ o. cond (same_row c.args.row r) (entry_with c.args.stand o) (entry_in others r)) (sym had)))
      | in_default w ↦
          let none = sym c.get_mut.ensures.value ∙ ap option_copied_mut w.in_default.is in
          in_neither run others c.args.row absent none (rw c.self.view_is c.requires)
    ]
