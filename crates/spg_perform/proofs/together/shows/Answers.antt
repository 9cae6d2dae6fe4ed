use Rattle.std.proofs.Common.{ap, ◌∙◌}
use Rattle.spg_core.specs.Seen.{past_of}
use Rattle.spg_perform.proofs.TogetherLeads.{tell_drops}
use Rattle.spg_perform.proofs.together.shows.Goals as goal

pub returns-clause-drops : goal.returns-clause-drops
returns-clause-drops g c = tell_drops (past_of c.args.state.now) c.args.state.now.table c.args.state.now.origin.limit c.pages.ensures.drops (c.origin.ensures.limit ∙ ap (λ o. o.limit) c.origin.ensures.value)
