use Rattle.std.proofs.Common.{sym, ◌∙◌}
use Rattle.spg_script.specs.declared.command.Command.TheVariants.{Insert}
use Rattle.spg_mirror.proofs.Pairs.{insert_acts, writes, writes_nothing}
use Rattle.spg_mirror.proofs.writes.insert.Goals as goal
use Rattle.spg_standby.specs.Writes.{Inserted}
use Rattle.std.proofs.Common.{refl}

pub returns-in-Err : goal.returns-in-Err
returns-in-Err g c =
    writes_nothing g.O.OpClass.meaning g.O.Spoken.speech c.args.pair.now (Insert c.args.row c.args.key.now) _ (record { outcome_is = refl; from_is = c.position-from.ensures.count; to_is = c.position-from.ensures.count }) c.position-from.ensures.free c.position-from.ensures.right c.position-from.ensures.closed

pub returns : goal.returns
returns g c =
    writes g.O.OpClass.meaning g.O.Spoken.speech c.args.pair.now c.insert-wrote.new.self (Insert c.args.row c.args.key.now) _ (Inserted g.O.OpClass.meaning c.args.pair.now.primary c.insert-wrote.new.self.primary 0 c.args.row c.in-Ok-Some.found) c.insert-wrote.result.0 c.wrote_outcome.ensures c.insert-wrote.ensures.span
    (insert_acts g.O.OpClass.meaning g.O.Spoken.speech c.args.pair.now.primary c.insert-wrote.new.self.primary c.position-from.ensures.free c.position.ensures.free c.position.ensures.right c.args.row c.args.key.now c.in-Ok-Some.found (sym c.in-Ok-Some.ensures ∙ c.in-Ok-Some.field-0-is) c.position-from.ensures.limit)
    c.insert-wrote.ensures.lag c.position.ensures.right c.position.ensures.closed c.insert-wrote.ensures.wrote
