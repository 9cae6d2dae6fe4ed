use Rattle.std.proofs.Common.{◌≡◌, take}
use Rattle.spg_kd.specs.Kd.{levels}
use Rattle.spg_kd.proofs.division.raised_levels.Given as goal

abbrev pub invariant-loop-rest : goal.invariant-loop-rest
invariant-loop-rest l = l.ks.items ≡ levels l.odd (take l.rest-index l.rests)
