use Rattle.std.proofs.Common.{◌+◌, ◌≤◌, ◌∷◌, [], take, refl, sym, ap, ◌∙◌, subst}
use Rattle.spg_forest.specs.View.{Place}
use Rattle.spg_vacuum.specs.Listing.{with_listed}
use Rattle.spg_vacuum.proofs.Places.{place_at, listed_more, unlisted}
use Rattle.spg_vacuum.proofs.pending.Pending.list_all.Goals as goal

pub list-requires : goal.list-requires
list-requires c = subst (λ (p : Place). 3 ≤ p.block) (sym c.place-item.is) (c.requires _ (place_at c.args.places.now c.loop-place.place-index c.place-item.result c.loop-place-test.true))

pub overflow_sub-len : goal.overflow_sub-len
overflow_sub-len c = (unlisted c.args.self.now c.list.new.self (take c.loop-place.place-index c.args.places.now) c.len-before.result c.len.result (c.in-Err.ensures.err ∙ c.loop-place.invariant) c.len-before.ensures c.len.ensures).0

pub returns-in-Err-clause-err : goal.returns-in-Err-clause-err
returns-in-Err-clause-err c = c.drop_last.ensures ∙ (unlisted c.args.self.now c.list.new.self (take c.loop-place.place-index c.args.places.now) c.len-before.result c.len.result (c.in-Err.ensures.err ∙ c.loop-place.invariant) c.len-before.ensures c.len.ensures).1

pub loop-place-preserved : goal.loop-place-preserved
loop-place-preserved c = c.in-Ok.ensures.ok ∙ ap (λ (p : Place). with_listed c.loop-place.self (p ∷ [])) c.place-item.is
    ∙ listed_more c.args.self.now c.loop-place.self c.args.places.now c.loop-place.place-index (c.loop-place.place-index + 1) c.place-item.result refl c.loop-place-test.true c.loop-place.invariant
