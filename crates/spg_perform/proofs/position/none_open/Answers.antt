use Rattle.spg_whole.proofs.Alone.{free_by}
use Rattle.spg_perform.proofs.position.none_open.Goals as goal

pub returns : goal.returns
returns g c = free_by c.args.state.now c.args.by c.requires.closed c.open_of.ensures.journal
