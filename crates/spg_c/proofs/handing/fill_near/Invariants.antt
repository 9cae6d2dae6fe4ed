use Rattle.std.proofs.Common.{◌≡◌, ◌++◌, map, take, drop}
use Rattle.spg_c.specs.Shown.{told_near}
use Rattle.spg_c.proofs.handing.fill_near.Given as goal

abbrev pub invariant-loop-i : goal.invariant-loop-i
invariant-loop-i l = l.rows ≡ map told_near (take l.i l.found) ++ drop l.i l.initial.rows
