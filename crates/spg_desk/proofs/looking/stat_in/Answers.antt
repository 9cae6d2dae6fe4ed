use Rattle.std.proofs.Common.{ap, ◌∙◌}
use Rattle.spg_base.specs.declared.recorded.Origin.{Origin}
use Rattle.spg_desk.proofs.looking.stat_in.Goals as goal

pub returns : goal.returns
returns g c = (c.args.bare.now.table, record { holds = c.pages.ensures.represents; bounds = c.pages.ensures.bounds; limit = c.origin.ensures.limit ∙ ap (λ (o : Origin). o.limit) c.origin.ensures.value }, c.stat.ensures)
