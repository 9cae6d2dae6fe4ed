use Rattle.std.proofs.Common.{◌≡◌, ◌++◌, take}
use Rattle.spg_script.specs.Printing.{lanes_text}
use Rattle.spg_script.proofs.printing.push_lanes.Given as goal

abbrev pub invariant-loop-lane : goal.invariant-loop-lane
invariant-loop-lane l = l.text ≡ l.initial.text ++ lanes_text (take l.lane-index l.lanes)
