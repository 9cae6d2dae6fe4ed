use Rattle.std.proofs.Common.{ap, ◌∙◌}
use Rattle.std.proofs.lemmas.Int.{to_z-of_z}
use Rattle.std.specs.Int.{w16}
use Rattle.spg_radix.specs.Tuples.{text_of}
use Rattle.spg_radix.proofs.VisitingLemmas.{ruled_out}
use Rattle.spg_radix.proofs.visit.is_ruled_out.Goals as goal

pub returns-in-Some-Some : goal.returns-in-Some-Some
returns-in-Some-Some c text same ruled =
    let at = c.in-Some-Some in
    let is = c.in-Some.ensures ∙ ap text_of (to_z-of_z w16 c.args.label c.ranges.label) in
    ruled_out c.args.label c.in-Some.byte c.args.conds.now c.args.standings.now text at.cond.now at.standing.now same at.ensures.value at.ensures'.value is (c.asks_for_another.ensures ruled)
