use Rattle.std.proofs.Common.{ap, ◌∙◌}
use Rattle.spg_descend.specs.Follows.{tuple_place}
use Rattle.spg_descend.proofs.FollowLaw.{is_within}
use Rattle.spg_test_states.proofs.sections.answers.answered.Goals as goal

pub view_at-requires-clause-offset : goal.view_at-requires-clause-offset
view_at-requires-clause-offset g c =
    let e = c.tuple_place-at.ensures ∙ ap tuple_place c.stand.ensures in
    rw (c.page.ensures, e) (is_within c.args.table.now c.args.descent.now.stand c.requires)
