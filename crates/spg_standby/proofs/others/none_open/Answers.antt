use Rattle.spg_whole.proofs.Alone.{free_by}
use Rattle.spg_standby.proofs.others.none_open.Goals as goal

pub returns : goal.returns
returns g c = λ closed. free_by c.args.state.now c.args.by closed c.open_of.ensures.journal
