use Rattle.std.proofs.Common.{◌≡◌, ◌+◌, ◌-◌, ◌≤◌, length, drop}
use Rattle.spg_script.specs.Reading.{len_before}
use Rattle.spg_script.proofs.bytes.len_before_far.Given as goal

-- the bytes before this one are others
abbrev pub invariant-loop-at : goal.invariant-loop-at
invariant-loop-at l = record {
  counted : l.at + len_before l.fn.stop (drop l.at l.fn.bytes) ≡ len_before l.fn.stop l.fn.bytes;
  within : l.at ≤ length l.fn.bytes;
}

abbrev pub decreases-loop-at : goal.decreases-loop-at
decreases-loop-at l = length l.fn.bytes - l.at

abbrev pub invariant-loop-at-2 : goal.invariant-loop-at-2
invariant-loop-at-2 l = record {
  counted : l.at + len_before l.fn.stop (drop l.at l.fn.bytes) ≡ len_before l.fn.stop l.fn.bytes;
  within : l.at ≤ length l.fn.bytes;
}

abbrev pub decreases-loop-at-2 : goal.decreases-loop-at-2
decreases-loop-at-2 l = length l.fn.bytes - l.at
