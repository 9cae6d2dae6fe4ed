use Rattle.std.proofs.Common.{◌≡◌, ◌≤◌, ◌-◌, length}
use Rattle.spg_script.specs.Reading.{conds_of, put_before}
use Rattle.spg_script.proofs.conditions.conds.Given as goal

-- what is read is what stands before, and what the rest is read as
abbrev pub invariant-loop-rest : goal.invariant-loop-rest
invariant-loop-rest l = record {
  read : conds_of l.keys 8 l.fn.bytes ≡ put_before l.conds (conds_of l.keys (8 - length l.conds) l.rest);
  few : length l.conds ≤ 8;
}

abbrev pub decreases-loop-rest : goal.decreases-loop-rest
decreases-loop-rest l = 8 - length l.conds
