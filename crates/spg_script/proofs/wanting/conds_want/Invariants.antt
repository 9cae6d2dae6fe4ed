use Rattle.std.proofs.Common.{◌≡◌, ◌-◌}
use Rattle.spg_script.specs.Wanting.{conds_want}
use Rattle.spg_script.proofs.wanting.conds_want.Given as goal

abbrev pub invariant-loop-read : goal.invariant-loop-read
invariant-loop-read l = conds_want 8 l.fn.bytes ≡ conds_want (8 - l._read) l.rest
