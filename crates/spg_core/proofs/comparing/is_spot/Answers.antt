use Rattle.std.proofs.Common.{ap, ◌∙◌}
use Rattle.spg_descend.specs.Follows.{tuple_place}
use Rattle.spg_descend.proofs.FollowLaw.{is_within}
use Rattle.spg_core.proofs.comparing.is_spot.Goals as goal

pub inner_at-tuple-requires-clause-offset : goal.inner_at-tuple-requires-clause-offset
inner_at-tuple-requires-clause-offset g c =
    let e = c.tuple_place-at.ensures ∙ ap tuple_place c.stand.ensures in
    rw (c.page.ensures, e) (is_within c.args.table.now c.args.descent.now.stand c.requires.inner)
