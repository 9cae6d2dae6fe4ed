use Rattle.spg_base.specs.Row.{row_cmp}
use Rattle.spg_rows.proofs.RowOrder.{row_total}
use Rattle.spg_rows.proofs.Runs.{finds_push, rises_push}
use Rattle.spg_rows.proofs.run.Run.push.Goals as goal

pub invariant_of-self-2 : goal.invariant_of-self-2
invariant_of-self-2 g c = rw c.in_ok-push.ensures.items (rises_push row_cmp row_total _ _ _ c.self.invariant (rw c.self.view_is c.requires))

pub returns-clause-ok : goal.returns-clause-ok
returns-clause-ok g c = rw (c.note.ensures, c.in_ok-push.ensures.items, ← c.self.view_is) (finds_push row_cmp row_total _ _ _ (rw c.self.view_is c.requires))
