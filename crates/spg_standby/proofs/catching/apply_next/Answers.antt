use Rattle.std.proofs.Common.{◌<◌, length, refl, sym, subst, arith}
use Rattle.spg_tree.specs.Table.{IsSound}
use Rattle.spg_follow.specs.Events.{OpensFirst}
use Rattle.spg_standby.specs.declared.follower.ApplyOut.TheVariants.{Applied}
use Rattle.spg_standby.specs.Standing.{AppliesOut}
use Rattle.spg_standby.proofs.Finding.{may_apply, may_first, applied_one, none_holds}
use Rattle.spg_standby.proofs.catching.apply_next.Goals as goal

pub take_over-requires-clause-first : goal.take_over-requires-clause-first
take_over-requires-clause-first g c =
    let q = c.args.queue.now.records in
    let some : 0 < length q.items = (let a = q.ok.0 in let b = c.in-Some.ensures.variant.0 refl in omega arith) in
    subst (λ xs. OpensFirst c.args.follower.now.applied c.in-Some.step.now.to xs) (sym c.journal.ensures.events)
    (may_first g.O.OpClass.meaning c.args.state.now c.args.follower.now q.items c.requires.paired c.in-Some.step.now some c.in-Some.ensures.lookup (subst IsSound c.pages.ensures.value c.page_count.ensures.sound))

pub take_over-requires-clause-limit : goal.take_over-requires-clause-limit
take_over-requires-clause-limit g c =
    let q = c.args.queue.now.records in
    let some : 0 < length q.items = (let a = q.ok.0 in let b = c.in-Some.ensures.variant.0 refl in omega arith) in
    may_apply g.O.OpClass.meaning c.args.state.now c.args.follower.now q.items c.requires.paired c.in-Some.step.now some c.in-Some.ensures.lookup (subst IsSound c.pages.ensures.value c.page_count.ensures.sound)

pub take_over-requires-clause-free : goal.take_over-requires-clause-free
take_over-requires-clause-free g c = none_holds c.journal.result.now.events c.args.follower.now c.in-Some.step.now c.requires.idle

pub returns-clause-paired : goal.returns-clause-paired
returns-clause-paired g c =
    let q = c.args.queue.now.records in
    let some : 0 < length q.items = (let a = q.ok.0 in let b = c.in-Some.ensures.variant.0 refl in omega arith) in
    let out = subst (λ xs. AppliesOut g.O.OpClass.meaning xs c.args.follower.now c.take_over.new.self c.in-Some.step.now Applied) c.journal.ensures.events c.in_ok-take_over.ensures.ok in
    applied_one g.O.OpClass.meaning c.args.state.now c.args.follower.now q.items c.requires.paired c.in-Some.step.now some c.in-Some.ensures.lookup c.take_over.new.self c.drop_oldest.new.queue.records.items c.drop_oldest.ensures.rest out
