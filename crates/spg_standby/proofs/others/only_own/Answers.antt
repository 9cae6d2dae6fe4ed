use Rattle.spg_whole.proofs.Alone.{own_latches}
use Rattle.spg_standby.proofs.others.only_own.Goals as goal

pub returns : goal.returns
returns g c = λ alone latched. own_latches c.args.state.now c.args.seat c.args.block c.args.by alone c.pages.ensures.latches c.open_of.ensures.journal latched
