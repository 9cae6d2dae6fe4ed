use Rattle.std.proofs.Common.{◌≡◌, ◌+◌, ℤ, drop, true, false, subst, arith, rules, FitsSigned, to_z, of_z}
use Rattle.std.specs.Prelude.{int_lt}
use Rattle.std.specs.Int.{w16}
use Rattle.std.proofs.lemmas.Int.{to_z-of_z}
use Rattle.std.proofs.lemmas.Option.{slice_get_within}
use Rattle.spg_opclass.specs.StoredLabels.{labels_in}
use Rattle.spg_radix.specs.Choosing.{place_of}
use Rattle.spg_radix.proofs.ChoosingLemmas.{place_behind, place_here}
use Rattle.spg_radix.proofs.choose.place.Goals as goal

pub loop-at-preserved : goal.loop-at-preserved
loop-at-preserved c =
    let ls = labels_in c.args.labels in
    let label = to_z w16 (of_z w16 c.args.label) in
    let at = c.loop-at.at in
    let x = c.at.result in
    let fits : FitsSigned w16 x = search rules in
    let less = subst (λ (l : ℤ). int_lt l label ≡ true) (to_z-of_z w16 x fits) c.if-at-label.true in
    record {
      within = omega (arith, slice_get_within ls at x c.at.ensures);
      so_far = place_behind label ls at x c.at.ensures less c.loop-at.invariant.so_far;
    }

pub returns-else-at-label-clause-found : goal.returns-else-at-label-clause-found
returns-else-at-label-clause-found c =
    let ls = labels_in c.args.labels in
    let label = c.args.label in
    let back = to_z-of_z w16 label c.ranges.label in
    let at = c.loop-at.at in
    let x = c.at.result in
    let fits : FitsSigned w16 x = search rules in
    let not_less = subst (λ (l : ℤ). int_lt x l ≡ false) back (subst (λ (l : ℤ). int_lt l (to_z w16 (of_z w16 label)) ≡ false) (to_z-of_z w16 x fits) c.if-at-label.false) in
    place_here label ls at x c.at.ensures not_less (subst (λ (l : ℤ). place_of l ls ≡ at + place_of l (drop at ls)) back c.loop-at.invariant.so_far)
