use Rattle.std.proofs.Common.{sym, ◌∙◌}
use Rattle.spg_rows.proofs.RunRows.{behind_last, behind_absent, is_last}
use Rattle.spg_rows.proofs.run.Run.place.Goals as goal

pub returns-in-Less-clause-none : goal.returns-in-Less-clause-none
returns-in-Less-clause-none g c =
    let item = c.in-Some.ensures.item in
    rw (← c.self.view_is, ← c.deref.ensures.value)
    (behind_absent _ (rw c.deref.ensures.value c.self.invariant) c.args.row (behind_last _ (rw c.deref.ensures.value c.self.invariant) c.args.row c.in-Some.last.now item.3.0 (sym (item.3.1 c.in-Some.last.now)) (sym c.cmp.ensures ∙ c.in-Less.is)))

pub returns-in-Equal-clause-at : goal.returns-in-Equal-clause-at
returns-in-Equal-clause-at g c =
    let item = c.in-Some.ensures.item in
    rw (c.len.ensures, ← c.deref.ensures.len, ← c.self.view_is, ← c.deref.ensures.value)
    (is_last _ (rw c.deref.ensures.value c.self.invariant) c.args.row c.in-Some.last.now item.3.0 (sym (item.3.1 c.in-Some.last.now)) (sym c.cmp.ensures ∙ c.in-Equal.is))
