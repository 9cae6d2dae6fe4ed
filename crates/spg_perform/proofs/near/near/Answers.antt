use Rattle.std.proofs.Common.{length, sym, ◌∙◌}
use Rattle.spg_perform.specs.Outcomes.{near_outcome}
use Rattle.spg_commands.proofs.Acting.{Spans}
use Rattle.spg_perform.proofs.Nearest.{answered, nearest}
use Rattle.spg_perform.proofs.near.near.Goals as goal

pub near_outcome-requires : goal.near_outcome-requires
near_outcome-requires g c = answered g.O.OpClass.meaning g.O.Spoken.speech c.args.state.now c.near-found.new.state c.args.seat c.args.target c.args.limit c.requires.known c.near-found.result c.near-found.ensures.ok

pub returns : goal.returns
returns g c =
    let spans : Spans c.recorded.result (near_outcome c.near-found.result) (length c.args.state.now.journal) (length c.near-found.new.state.journal) =
    record { outcome_is = c.recorded.ensures.outcome ∙ c.near_outcome.ensures; from_is = c.recorded.ensures.from ∙ c.position-from.ensures.count; to_is = c.recorded.ensures.to } in
    nearest g.O.OpClass.meaning g.O.Spoken.speech c.args.state.now c.near-found.new.state c.args.seat c.none_open.ensures c.none_open-2.ensures c.recorded.ensures.right c.args.target c.args.limit c.requires.known c.recorded.result c.near-found.result
    c.near-found.ensures.ok c.near-found.ensures.err spans
