use Rattle.std.proofs.Common.{◌≡◌, ◌≤◌, true, false, length, sym, ap, ◌∙◌, subst, arith}
use Rattle.std.specs.List.Sorted.{IsPartitionPoint}
use Rattle.std.specs.declared.cmp.Ordering.TheVariants.{Less}
use Rattle.std.specs.Ordering.{is_eq}
use Rattle.spg_inserts.specs.Openings.{is_before, IsUnopened, IsLastOpening}
use Rattle.spg_inserts.proofs.Searches.{opening, none_before, other_before, last_before, row_apart}
use Rattle.spg_rows.proofs.RowOrder.{row-equal}
use Rattle.spg_inserts.proofs.inserts.Inserts.last_before.Goals as goal

pub returns-then-count-eq0-clause-none : goal.returns-then-count-eq0-clause-none
returns-then-count-eq0-clause-none g c =
    let n = c.count_before-count.result in
    let x = opening c.args.row c.args.to in
    let point = subst (λ os. IsPartitionPoint (λ o. is_before x o ≡ true) (λ o. is_before x o ≡ false) os n) c.as_slice.ensures.value c.count_before-count.ensures.point in
    subst (λ j. IsUnopened j c.args.row c.args.to) c.self.view_is (none_before c.self.inside.journal.now c.self.inside.openings.items c.self.invariant c.args.row c.args.to n point (omega arith))

pub returns-in-Less-clause-none : goal.returns-in-Less-clause-none
returns-in-Less-clause-none g c =
    let n = c.count_before-count.result in
    let x = opening c.args.row c.args.to in
    let last = c.index.result.now in
    let point = subst (λ os. IsPartitionPoint (λ o. is_before x o ≡ true) (λ o. is_before x o ≡ false) os n) c.as_slice.ensures.value c.count_before-count.ensures.point in
    let bound = subst (λ os. n ≤ length os) c.as_slice.ensures.value c.count_before-count.ensures.bound in
    subst (λ j. IsUnopened j c.args.row c.args.to) c.self.view_is
    (other_before c.self.inside.journal.now c.self.inside.openings.items c.self.invariant c.args.row c.args.to n point last (omega arith) bound c.index.ensures
    (row_apart last.row c.args.row Less (sym c.cmp.ensures ∙ c.in-Less.is) (λ same. (cc))))

pub returns-in-Equal-clause-some : goal.returns-in-Equal-clause-some
returns-in-Equal-clause-some g c =
    let n = c.count_before-count.result in
    let x = opening c.args.row c.args.to in
    let last = c.index.result.now in
    let point = subst (λ os. IsPartitionPoint (λ o. is_before x o ≡ true) (λ o. is_before x o ≡ false) os n) c.as_slice.ensures.value c.count_before-count.ensures.point in
    let bound = subst (λ os. n ≤ length os) c.as_slice.ensures.value c.count_before-count.ensures.bound in
    let same = row-equal last.row c.args.row (ap is_eq (sym c.cmp.ensures ∙ c.in-Equal.is)) in
    subst (λ j. IsLastOpening j c.args.row c.args.to last.at) c.self.view_is
    (last_before c.self.inside.journal.now c.self.inside.openings.items c.self.invariant c.args.row c.args.to n point last (omega arith) bound c.index.ensures same)
