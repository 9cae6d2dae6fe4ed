use Rattle.std.proofs.Common.{◌≡◌, map, take, Some}
use Rattle.spg_c.specs.Conds.{point_cond_of}
use Rattle.spg_c.proofs.conds.point_conds.Given as goal

abbrev pub invariant-loop-cond : goal.invariant-loop-cond
invariant-loop-cond l = map Some l.list ≡ map point_cond_of (take l.cond-index l.conds)
