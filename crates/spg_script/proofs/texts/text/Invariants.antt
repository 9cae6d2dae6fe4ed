use Rattle.std.proofs.Common.{◌≡◌, ◌≤◌, ◌-◌, length}
use Rattle.spg_script.specs.Reading.{text_of, put_bytes}
use Rattle.spg_script.proofs.texts.text.Given as goal

-- what is read is what stands before, and what the rest is read as
abbrev pub invariant-loop-rest : goal.invariant-loop-rest
invariant-loop-rest l = record {
  read : text_of 3901 l.fn.bytes ≡ put_bytes l.text (text_of (3901 - length l.text) l.rest);
  few : length l.text ≤ 3901;
}

abbrev pub decreases-loop-rest : goal.decreases-loop-rest
decreases-loop-rest l = 3901 - length l.text
