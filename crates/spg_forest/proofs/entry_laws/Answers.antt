use Rattle.spg_forest.proofs.Counts.{rows_are_entries}
use Rattle.spg_forest.proofs.entry_laws.Goals as goal

pub returns : goal.returns
returns g c = rows_are_entries _
