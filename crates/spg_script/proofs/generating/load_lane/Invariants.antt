use Rattle.std.proofs.Common.{◌≡◌}
use Rattle.spg_script.specs.Generated.{load_lane}
use Rattle.spg_script.proofs.generating.load_lane.Given as goal

abbrev pub invariant-loop-i : goal.invariant-loop-i
invariant-loop-i l = l.lane ≡ load_lane l.fn.class l.i l.fn.seed l.fn.lanes l.fn.l
