use Rattle.spg_script.specs.declared.command.Command.TheVariants.{Delete}
use Rattle.spg_standby.specs.Writes.{Deleted}
use Rattle.spg_mirror.proofs.Pairs.{delete_acts, writes}
use Rattle.spg_mirror.proofs.writes.delete.Goals as goal

pub returns : goal.returns
returns g c =
    writes g.O.OpClass.meaning g.O.Spoken.speech c.args.pair.now c.kill-wrote.new.self (Delete c.args.row) _ (Deleted c.args.pair.now.primary c.kill-wrote.new.self.primary 0 c.args.row) c.kill-wrote.result.0 c.wrote_outcome.ensures c.kill-wrote.ensures.span
    (delete_acts g.O.OpClass.meaning g.O.Spoken.speech c.args.pair.now.primary c.kill-wrote.new.self.primary c.position.ensures.free c.position-2.ensures.free c.position-2.ensures.right c.args.row)
    c.kill-wrote.ensures.lag c.position-2.ensures.right c.position-2.ensures.closed c.kill-wrote.ensures.wrote
