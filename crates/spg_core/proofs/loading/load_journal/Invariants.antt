use Rattle.std.proofs.Common.{◌≡◌, take}
use Rattle.spg_rows.specs.Loads.{load_events}
use Rattle.spg_verdict.specs.Entries.{entries_of}
use Rattle.spg_core.proofs.loading.load_journal.Given as goal

abbrev pub invariant-loop-one : goal.invariant-loop-one
invariant-loop-one g l = l.journal.events ≡ load_events (entries_of (take l.one-index l.listed))
