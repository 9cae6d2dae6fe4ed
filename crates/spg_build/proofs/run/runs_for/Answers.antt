use Rattle.std.proofs.Common.{◌≡◌, ◌+◌, ◌<◌, ◌++◌, vec_len, refl, ap, ◌∙◌, arith}
use Rattle.spg_build.specs.Posts.{groups_at}
use Rattle.spg_build.specs.Runs.{posts_in}
use Rattle.spg_build.proofs.Turns.{none_left}
use Rattle.spg_build.proofs.Runs.{filling_turn, filling_next, filling_end}
use Rattle.spg_build.proofs.run.runs_for.Goals as goal
use Rattle.spg_build.proofs.run.runs_for.Goals.{then-worker-wanted+in_ok-push, else-worker-wanted}

pub loop-group-preserved : goal.loop-group-preserved
loop-group-preserved g c =
    let now = c.loop-group.group-iterator.rest.items in
    let next = c.next.new.self.rest.items in
    let i = c.loop-group.invariant in
    let m = c.min-wanted.ensures in
    elim c.if-worker-wanted.branch [
      | then-worker-wanted+in_ok-push w ↦
          let a : vec_len c.if-worker-wanted.runs ≡ vec_len c.loop-group.runs + 1 = ap vec_len w.runs-is ∙ w.in_ok-push.ensures.len in
          let b : c.if-worker-wanted.worker ≡ c.min-wanted.result = w.worker-is in
          let t : c.loop-group.worker < c.min-wanted.result = w.if-worker-wanted.true in
          let f = i.few in
          let h = filling_next c.loop-group.runs.items c.if-worker-wanted.runs.items _ c.loop-group.posts.items c.if-worker-wanted.posts.items now c.args.round (ap (λ v. v.items) w.runs-is ∙ w.in_ok-push.ensures.items) refl (ap (λ v. v.items) w.posts-is ∙ w.new-posts-then-worker-wanted.ensures.items) i.groups in
          record {
            groups = filling_turn c.if-worker-wanted.runs.items c.if-worker-wanted.posts.items c.push-in-loop-group.new.self.items _ now next c.args.round c.in_ok-push-2.ensures.items c.in-Some.ensures.steps.0 h;
            few = omega arith;
            most = omega arith;
          }
      | else-worker-wanted w ↦
          let a : vec_len c.if-worker-wanted.runs ≡ vec_len c.loop-group.runs = ap vec_len w.runs-is in
          let b : c.if-worker-wanted.worker ≡ c.loop-group.worker = w.worker-is in
          let f = i.few in
          let k = i.most in
          let h = ap (λ v. groups_at (posts_in v.items ++ c.if-worker-wanted.posts.items) ++ now) w.runs-is ∙ ap (λ v. groups_at (posts_in c.loop-group.runs.items ++ v.items) ++ now) w.posts-is ∙ i.groups in
          record {
            groups = filling_turn c.if-worker-wanted.runs.items c.if-worker-wanted.posts.items c.push-in-loop-group.new.self.items _ now next c.args.round c.in_ok-push-2.ensures.items c.in-Some.ensures.steps.0 h;
            few = omega arith;
            most = omega arith;
          }
    ]

pub returns-clause-groups : goal.returns-clause-groups
returns-clause-groups g c =
    let now = c.loop-group.group-iterator.rest.items in
    filling_end c.loop-group.runs.items c.push-2.new.self.items _ c.loop-group.posts.items now c.args.round c.in_ok-push-3.ensures.items refl (none_left now _ c.loop-group.group-iterator.rest.ok.0 c.in-None.ensures.steps.0) c.loop-group.invariant.groups
