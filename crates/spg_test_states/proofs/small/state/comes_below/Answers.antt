use Rattle.spg_core.specs.Seen.{stage_at}
use Rattle.spg_test_states.proofs.Working.{still_done}
use Rattle.spg_test_states.proofs.small.state.comes_below.Goals as goal

pub returns-then-goes_below : goal.returns-then-goes_below
returns-then-goes_below g c = λ apart next done so. still_done (stage_at c.args.state.now c.args.sweeper) (stage_at c.goes_below.new.state c.args.sweeper) (stage_at c.waits_for.new.state c.args.sweeper) next done (c.goes_below.ensures c.args.sweeper apart) (c.waits_for.ensures.more so) (c.waits_for.ensures.stays so)
