use Rattle.std.proofs.Common.{◌∙◌, length, ap}
use Rattle.spg_follow.specs.Step.{Step}
use Rattle.spg_standby.proofs.record.Record.stand_at.Goals as goal

pub returns : goal.returns
returns g c = λ copies.
    let table = c.pages-table.ensures.value in
    let pages = ap (λ (s : Step). s.pages) c.self.view_is ∙ copies in
    let count = c.page_count-self-inside.ensures.value ∙ ap (λ t. length t.pages) table in
    let clock = c.at-self-inside.ensures ∙ c.clock.ensures.value ∙ ap (λ t. t.clock) table in
    let to = c.len-self-inside.ensures ∙ ap (λ xs. length xs) c.journal.ensures.events in
    λ j. record { pages = pages j; count = count j; clock = clock j; to = to j }
