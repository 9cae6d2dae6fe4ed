use Rattle.std.proofs.Common.{arith, sym, subst}
use Rattle.std.proofs.lemmas.List.Elements.{All-get_or}
use Rattle.spg_script.specs.Blocks.{Part}
use Rattle.spg_commands.specs.Acted.{CanBlock}
use Rattle.spg_perform.specs.Session.{standing}
use Rattle.spg_commands.proofs.Next.{IsNext}
use Rattle.spg_perform.proofs.BlocksTasks.{parts_left}
use Rattle.spg_perform.proofs.BlocksLeading.{parts_lead, parts_led}
use Rattle.spg_perform.proofs.blocks.parts.Goals as goal

pub part-state-requires-clause-room : goal.part-state-requires-clause-room
part-state-requires-clause-room g c =
    let next : IsNext c.args.blocks.now c.loop-block.block-index c.block-item.result = record { within = c.loop-block-test.true; here = c.block-item.is } in
    omega (arith, parts_left c.args.blocks.now c.loop-block.block-index c.block-item.result next, c.loop-block.invariant.room)

pub part-state-requires-clause-can : goal.part-state-requires-clause-can
part-state-requires-clause-can g c κs within =
    subst (λ (p : Part). CanBlock g.O.Spoken.speech p) (sym c.block-item.is) (All-get_or (CanBlock g.O.Spoken.speech) c.args.blocks.now c.loop-block.block-index c.block-item.result c.loop-block-test.true c.requires.can)

pub loop-block-preserved : goal.loop-block-preserved
loop-block-preserved g c =
    let next : IsNext c.args.blocks.now c.loop-block.block-index c.block-item.result = record { within = c.loop-block-test.true; here = c.block-item.is } in
    record {
      leads = parts_lead g.O.OpClass.meaning g.O.Spoken.speech g.O.OpClass.code_number
          (standing c.args.state (g.M.Images.held c.args.images.now) (g.M.Images.faults c.args.images.now) c.args.book.now.records)
          (standing c.loop-block.state (g.M.Images.held c.loop-block.images) (g.M.Images.faults c.loop-block.images) c.loop-block.book.records)
          (standing c.part-state.result (g.M.Images.held c.part-state.new.images) (g.M.Images.faults c.part-state.new.images) c.part-state.new.book.records)
          c.args.blocks.now c.loop-block.block-index c.block-item.result next c.loop-block.invariant.leads c.part-state.ensures.leads;
      closed = c.part-state.ensures.closed;
      room = omega (arith, parts_left c.args.blocks.now c.loop-block.block-index c.block-item.result next, c.loop-block.invariant.room, c.part-state.ensures.room);
    }

pub returns : goal.returns
returns g c =
    parts_led g.O.OpClass.meaning g.O.Spoken.speech g.O.OpClass.code_number
    (standing c.args.state (g.M.Images.held c.args.images.now) (g.M.Images.faults c.args.images.now) c.args.book.now.records)
    (standing c.loop-block.state (g.M.Images.held c.loop-block.images) (g.M.Images.faults c.loop-block.images) c.loop-block.book.records)
    c.loop-block.block-index c.args.blocks.now (omega (arith, c.loop-block-test.false)) c.loop-block.invariant.leads
