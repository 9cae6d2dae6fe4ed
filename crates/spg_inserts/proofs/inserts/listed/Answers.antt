use Rattle.std.proofs.Common.{◌+◌, ◌≡◌, length, sym, ap, ◌∙◌, subst, arith, Some}
use Rattle.std.proofs.lemmas.Option.{slice_get-get_or}
use Rattle.spg_inserts.specs.Openings.{AreListed}
use Rattle.spg_inserts.proofs.Searches.{listed_next}
use Rattle.spg_inserts.proofs.inserts.listed.Goals as goal

pub loop-at-preserved : goal.loop-at-preserved
loop-at-preserved g c =
    let e = c.index-journal-at.result in
    let there = slice_get-get_or c.args.journal.now c.loop-at.at e (omega arith) ∙ ap (λ x. Some x) (sym c.index-journal-at.is) in
    subst (λ os. AreListed (c.loop-at.at + 1) os c.args.journal.now) (sym c.in_ok-push_opening.ensures) (listed_next c.args.journal.now c.loop-at.at c.loop-at.openings.items e there c.loop-at.invariant)

pub returns : goal.returns
returns g c =
    let all : c.loop-at.at ≡ length c.args.journal.now = omega arith in
    subst (λ n. AreListed n c.loop-at.openings.items c.args.journal.now) all c.loop-at.invariant
