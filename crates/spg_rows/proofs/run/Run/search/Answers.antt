use Rattle.std.proofs.Common.{rules}
use Rattle.std.proofs.lemmas.List.Sorted.{answers_always}
use Rattle.spg_rows.proofs.RunRows.{searched}
use Rattle.spg_rows.proofs.run.Run.search.Goals as goal

-- the closure gives an entry's row, and the slice is the run's entries
pub returns : goal.returns
returns g c =
    let facts = c.binary_search_by_key.ensures in
    let by_key = facts.position (λ entry. entry.0) (answers_always _ _ _ (λ f a r h called. search rules)) in
    rw (← c.self.view_is, ← c.deref.ensures.value) (searched _ (rw c.deref.ensures.value c.self.invariant) c.args.row _ facts.bound by_key)
