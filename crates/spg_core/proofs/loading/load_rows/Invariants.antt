use Rattle.std.proofs.Common.{map, take, reverse}
use Rattle.spg_rows.specs.Loads.{load_events}
use Rattle.spg_seats.specs.Opening.{RowsTell}
use Rattle.spg_verdict.specs.Entries.{entries_of}
use Rattle.spg_core.proofs.loading.load_rows.Given as goal

abbrev pub invariant-loop-one : goal.invariant-loop-one
invariant-loop-one g l = RowsTell l.rows (reverse (load_events (entries_of (take l.one-index (map (λ b. b.now) l.one-items)))))
