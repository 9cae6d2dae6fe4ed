use Rattle.spg_core.specs.Seen.{past_of}
use Rattle.spg_whole.proofs.Puts.{waits_not}
use Rattle.spg_standby.proofs.others.none_waits.Goals as goal

pub returns : goal.returns
returns g c = λ closed held. waits_not (past_of c.args.state.now) c.args.row c.args.by c.journal.ensures.right.legal closed held
