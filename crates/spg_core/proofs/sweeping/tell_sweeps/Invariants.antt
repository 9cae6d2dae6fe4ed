use Rattle.std.proofs.Common.{◌≡◌, ◌≤◌, ◌+◌, ◌++◌, length, take}
use Rattle.std.specs.BTreeSet.{contains}
use Rattle.spg_base.specs.Row.{row_cmp}
use Rattle.spg_rows.specs.Table.{SameKeys}
use Rattle.spg_seats.specs.Opening.{sweeps}
use Rattle.spg_core.specs.Sweeping.{SetsSwept, LeaveSet}
use Rattle.spg_core.proofs.sweeping.tell_sweeps.Given as goal

abbrev pub invariant-loop-row : goal.invariant-loop-row
invariant-loop-row g l =
    (l.journal.events ≡ l.fn.journal.events ++ sweeps l.seat (take l.row-index l.swept))
    × (l.journal.spare + l.row-index ≡ l.fn.journal.spare)
    × SetsSwept l.fn.rows l.rows l.vacuum (take l.row-index l.swept)
    × SameKeys l.fn.rows l.rows
    × LeaveSet (contains row_cmp l.fn.targets.rows) (contains row_cmp l.targets.rows) (take l.row-index l.swept)
    × (l.row-index ≤ length l.swept)
