use Rattle.std.proofs.Common.{arith, sym, subst}
use Rattle.std.proofs.lemmas.List.Elements.{All-get_or}
use Rattle.spg_script.specs.declared.command.Command.{Command}
use Rattle.spg_script.specs.Script.{IsLaneCommand}
use Rattle.spg_script.specs.Speech.{IsKnown}
use Rattle.spg_commands.proofs.Next.{IsNext}
use Rattle.spg_mirror.proofs.Runs.{leads_on, all_led}
use Rattle.spg_mirror.proofs.performing.commands.Goals as goal

pub command-requires-clause-known : goal.command-requires-clause-known
command-requires-clause-known g c =
    subst (λ (x : Command). IsKnown g.O.Spoken.speech x) (sym c.one-item.is) (All-get_or (IsKnown g.O.Spoken.speech) c.args.commands.now c.loop-one.one-index c.one-item.result c.loop-one-test.true c.requires.known)

pub command-requires-clause-lane : goal.command-requires-clause-lane
command-requires-clause-lane g c =
    subst (λ (x : Command). IsLaneCommand x) (sym c.one-item.is) (All-get_or IsLaneCommand c.args.commands.now c.loop-one.one-index c.one-item.result c.loop-one-test.true c.requires.lane)

pub loop-one-preserved : goal.loop-one-preserved
loop-one-preserved g c =
    let next : IsNext c.args.commands.now c.loop-one.one-index c.one-item.result = record { within = c.loop-one-test.true; here = c.one-item.is } in
    record {
      leads = leads_on g.O.OpClass.meaning g.O.Spoken.speech c.args.pair.now c.loop-one.pair c.command.new.pair c.args.book.now.records c.loop-one.book.records c.add.new.self.records c.args.commands.now c.loop-one.one-index c.one-item.result c.command.result next c.add.ensures.records
          c.loop-one.invariant.leads c.command.ensures;
      room = omega (arith, c.loop-one.invariant.room, c.add.ensures.spare);
    }

pub returns : goal.returns
returns g c = all_led g.O.OpClass.meaning g.O.Spoken.speech c.args.pair.now c.loop-one.pair c.args.book.now.records c.loop-one.book.records c.args.commands.now c.loop-one.one-index (omega (arith, c.loop-one-test.false)) c.loop-one.invariant.leads
