use Rattle.std.proofs.lemmas.List.Elements.{All-from_recursion, All-same}
use Rattle.spg_script.specs.Script.{IsLaneCommand}
use Rattle.spg_script.specs.Speech.{IsKnown}
use Rattle.spg_mirror.proofs.Beginning.{all_known, begins, mirrored_to}
use Rattle.spg_mirror.proofs.performing.perform_on.Goals as goal

pub commands-requires-clause-known : goal.commands-requires-clause-known
commands-requires-clause-known g c = λ lives outlives. All-same (IsKnown g.O.Spoken.speech) c.as_slice-all.result.now c.args.sequence.now.commands c.as_slice-all.ensures (all_known g.O.Spoken.speech c.args.sequence.now c.requires.written c.requires.of_class)

pub commands-requires-clause-lane : goal.commands-requires-clause-lane
commands-requires-clause-lane g c = λ lives outlives. All-same IsLaneCommand c.as_slice-all.result.now c.args.sequence.now.commands c.as_slice-all.ensures (All-from_recursion IsLaneCommand c.args.sequence.now.commands c.requires.lane)

pub returns : goal.returns
returns g c =
    mirrored_to g.O.OpClass.meaning g.O.Spoken.speech c.args.limit c.args.lag c.in_ok-pair.pair c.commands.new.pair c.in_ok-book.book.records c.commands.new.book.records c.into_records.result c.as_slice-all.result.now c.args.sequence.now.commands c.into_primary.result c.commands.ensures
    (begins g.O.OpClass.meaning g.O.Spoken.speech c.args.limit c.args.lag c.in_ok-pair.pair c.in_ok-book.book.records c.in_ok-book.ensures.records c.in_ok-pair.ensures.primary c.in_ok-pair.ensures.queued c.in_ok-pair.ensures.lag c.position.ensures.right c.position.ensures.closed)
    c.as_slice-all.ensures c.into_primary.ensures c.into_records.ensures
