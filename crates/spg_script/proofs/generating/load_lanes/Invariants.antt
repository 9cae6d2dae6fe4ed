use Rattle.std.proofs.Common.{◌≡◌, map}
use Rattle.std.specs.List.{range_with_len}
use Rattle.spg_script.specs.Generated.{load_lane}
use Rattle.spg_script.proofs.generating.load_lanes.Given as goal

abbrev pub invariant-loop-l : goal.invariant-loop-l
invariant-loop-l l = l.made ≡ map (load_lane l.fn.class l.fn.count l.fn.seed l.fn.lanes) (range_with_len 0 l.l)
