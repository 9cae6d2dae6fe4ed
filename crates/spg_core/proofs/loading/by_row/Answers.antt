use Rattle.std.proofs.Common.{◌∙◌}
use Rattle.spg_core.proofs.Loads.{nows_moved, take_whole}
use Rattle.spg_core.proofs.loading.by_row.Goals as goal

pub returns : goal.returns
returns g c = nows_moved _ _ _ (c.loop-one.invariant ∙ take_whole c.args.listed.now c.loop-one.one-index c.loop-one-test.false) c.sort_unstable_by_key.ensures.permutation
