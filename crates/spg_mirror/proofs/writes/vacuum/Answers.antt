use Rattle.spg_script.specs.declared.command.Command.TheVariants.{Vacuum}
use Rattle.spg_standby.specs.Writes.{Vacuumed}
use Rattle.spg_mirror.proofs.Pairs.{vacuum_acts, writes}
use Rattle.spg_mirror.proofs.writes.vacuum.Goals as goal

pub returns : goal.returns
returns g c =
    writes g.O.OpClass.meaning g.O.Spoken.speech c.args.pair.now c.vacuum-wrote.new.self Vacuum _ (Vacuumed c.args.pair.now.primary c.vacuum-wrote.new.self.primary 0) c.vacuum-wrote.result.0 c.wrote_outcome.ensures c.vacuum-wrote.ensures.span
    (vacuum_acts g.O.OpClass.meaning g.O.Spoken.speech c.args.pair.now.primary c.vacuum-wrote.new.self.primary c.position.ensures.free c.position-2.ensures.free c.position-2.ensures.right c.position.ensures.closed)
    c.vacuum-wrote.ensures.lag c.position-2.ensures.right c.position-2.ensures.closed c.vacuum-wrote.ensures.wrote
