use Rattle.std.proofs.Common.{◌≡◌, map, take, Some}
use Rattle.spg_c.specs.Conds.{text_cond_of}
use Rattle.spg_c.proofs.conds.text_conds.Given as goal

abbrev pub invariant-loop-cond : goal.invariant-loop-cond
invariant-loop-cond l = map Some l.list ≡ map (text_cond_of l.bytes) (take l.cond-index l.conds)
