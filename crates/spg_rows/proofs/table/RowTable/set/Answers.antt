use Rattle.std.proofs.lemmas.Result.{on_ok_weaker}
use Rattle.spg_rows.proofs.Tables.{front_sets, given_back}
use Rattle.spg_rows.proofs.table.RowTable.set.Goals.{in-Some+in-Some-branch-3, in-Some+in-None-1, in-None-1}
use Rattle.spg_rows.proofs.table.RowTable.set.Goals as goal

pub returns-then-is_behind-clause-ok : goal.returns-then-is_behind-clause-ok
returns-then-is_behind-clause-ok g c = rw (← c.self.view_is) (on_ok_weaker c.push.result (λ says. front_sets c.self.inside.run c.push.new.self c.self.inside.others.entries c.args.row c.args.entry says) c.push.ensures.ok)

pub returns-in_ok-insert-clause-ok : goal.returns-in_ok-insert-clause-ok
returns-in_ok-insert-clause-ok g c =
    let sets = given_back c.self.inside.run c.replace.new.self c.self.inside.others.entries c.insert.new.self.entries c.args.row c.args.entry c.in-Some.entry c.in-Some.ensures.back c.in_ok-insert.ensures.updates.0 in
    elim c.match-branch-2.branch [
      | in-Some+in-Some-branch-3 w ↦ rw (w.self-is, ← c.self.view_is) sets
      | in-Some+in-None-1 w ↦ rw (w.self-is, ← c.self.view_is) sets
      | in-None-1 w ↦ rw (w.self-is, ← c.self.view_is) sets
    ]

pub returns-in_default-clause-ok : goal.returns-in_default-clause-ok
returns-in_default-clause-ok g c = rw (← c.self.view_is) (front_sets c.self.inside.run c.replace.new.self c.self.inside.others.entries c.args.row c.args.entry c.in_default.ensures.taken)
