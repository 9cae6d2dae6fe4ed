use Rattle.std.proofs.Common.{◌∙◌, subst}
use Rattle.std.specs.Result.{OnErr}
use Rattle.spg_core.specs.Blocked.{IsItemFree}
use Rattle.spg_core.specs.Seen.{Seen}
use Rattle.spg_core.proofs.bare.Bare.scan_read.Goals as goal

pub returns-clause-latched : goal.returns-clause-latched
returns-clause-latched g c = subst (λ (v : Seen _ _ _ _). OnErr c.scan_read.result (IsItemFree v c.args.seat c.args.item)) (c.deref_mut.ensures.value ∙ c.self.view_is) c.scan_read.ensures.latched
