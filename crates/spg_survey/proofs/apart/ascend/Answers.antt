use Rattle.std.proofs.Common.{◌≡◌, ◌<◌, ◌+◌, ℕ, arith}
use Rattle.spg_survey.proofs.Differing.{strict}
use Rattle.spg_survey.proofs.apart.ascend.Goals as goal

pub returns : goal.returns
returns c t = strict c.args.rows.now (λ i j d e l. c.loop-index.invariant i j d e (let a = c.loop-index-test.false in omega arith))
