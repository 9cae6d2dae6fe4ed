use Rattle.std.proofs.Common.{◌<◌, length, refl, sym, subst, arith}
use Rattle.spg_tree.specs.Table.{IsSound}
use Rattle.spg_follow.specs.Events.{OpensFirst}
use Rattle.spg_standby.specs.declared.follower.ApplyOut.{ApplyOut}
use Rattle.spg_standby.specs.Standing.{AppliesOut}
use Rattle.spg_standby.proofs.Finding.{may_apply, may_first, applied_one, offered_off, offered_back}
use Rattle.spg_standby.proofs.catching.offer_oldest.Goals as goal

pub apply-requires-clause-first : goal.apply-requires-clause-first
apply-requires-clause-first g c =
    let q = c.args.queue.now.records in
    let some : 0 < length q.items = (let a = q.ok.0 in let b = c.in-Some.ensures.variant.0 refl in omega arith) in
    subst (λ xs. OpensFirst c.args.follower.now.applied c.in-Some.step.now.to xs) (sym c.journal.ensures.events)
    (may_first g.O.OpClass.meaning c.args.state.now c.args.follower.now q.items c.requires.paired c.in-Some.step.now some c.in-Some.ensures.lookup (subst IsSound c.pages.ensures.value c.page_count.ensures.sound))

pub apply-requires-clause-limit : goal.apply-requires-clause-limit
apply-requires-clause-limit g c =
    let q = c.args.queue.now.records in
    let some : 0 < length q.items = (let a = q.ok.0 in let b = c.in-Some.ensures.variant.0 refl in omega arith) in
    may_apply g.O.OpClass.meaning c.args.state.now c.args.follower.now q.items c.requires.paired c.in-Some.step.now some c.in-Some.ensures.lookup (subst IsSound c.pages.ensures.value c.page_count.ensures.sound)

pub returns-in-Applied-clause-paired : goal.returns-in-Applied-clause-paired
returns-in-Applied-clause-paired g c =
    let q = c.args.queue.now.records in
    let some : 0 < length q.items = (let a = q.ok.0 in let b = c.in-Some.ensures.variant.0 refl in omega arith) in
    let out = subst (λ (o : ApplyOut). AppliesOut g.O.OpClass.meaning c.args.state.now.journal c.args.follower.now c.apply.new.self c.in-Some.step.now o) c.in-Applied.is
    (subst (λ xs. AppliesOut g.O.OpClass.meaning xs c.args.follower.now c.apply.new.self c.in-Some.step.now c.in_ok-apply.field-0) c.journal.ensures.events c.in_ok-apply.ensures.ok) in
    applied_one g.O.OpClass.meaning c.args.state.now c.args.follower.now q.items c.requires.paired c.in-Some.step.now some c.in-Some.ensures.lookup c.apply.new.self c.drop_oldest.new.queue.records.items c.drop_oldest.ensures.rest out

pub returns-in-Applied-clause-ok : goal.returns-in-Applied-clause-ok
returns-in-Applied-clause-ok g c =
    let q = c.args.queue.now.records in
    let some : 0 < length q.items = (let a = q.ok.0 in let b = c.in-Some.ensures.variant.0 refl in omega arith) in
    let out = subst (λ (o : ApplyOut). AppliesOut g.O.OpClass.meaning c.args.state.now.journal c.args.follower.now c.apply.new.self c.in-Some.step.now o) c.in-Applied.is
    (subst (λ xs. AppliesOut g.O.OpClass.meaning xs c.args.follower.now c.apply.new.self c.in-Some.step.now c.in_ok-apply.field-0) c.journal.ensures.events c.in_ok-apply.ensures.ok) in
    offered_off g.O.OpClass.meaning c.args.state.now c.args.follower.now q.items c.requires.paired c.in-Some.step.now some c.in-Some.ensures.lookup c.args.state.now.journal c.apply.new.self c.drop_oldest.new.queue.records.items c.drop_oldest.ensures.rest out

pub returns-in-Held-clause-ok : goal.returns-in-Held-clause-ok
returns-in-Held-clause-ok g c =
    let q = c.args.queue.now.records in
    let some : 0 < length q.items = (let a = q.ok.0 in let b = c.in-Some.ensures.variant.0 refl in omega arith) in
    let out = subst (λ (o : ApplyOut). AppliesOut g.O.OpClass.meaning c.args.state.now.journal c.args.follower.now c.apply.new.self c.in-Some.step.now o) c.in-Held.is
    (subst (λ xs. AppliesOut g.O.OpClass.meaning xs c.args.follower.now c.apply.new.self c.in-Some.step.now c.in_ok-apply.field-0) c.journal.ensures.events c.in_ok-apply.ensures.ok) in
    offered_back g.O.OpClass.meaning c.args.state.now c.args.follower.now q.items c.requires.paired c.in-Some.step.now some c.in-Some.ensures.lookup c.args.state.now.journal c.apply.new.self q.items c.in-Held.by refl out
