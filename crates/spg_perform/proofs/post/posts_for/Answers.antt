use Rattle.std.proofs.Common.{List, length, get_or, sym, ap, ◌∙◌, subst, arith}
use Rattle.std.proofs.lemmas.List.{get_or_default}
use Rattle.spg_script.specs.declared.command.Command.{Command}
use Rattle.spg_perform.specs.Posts.{IsVacant}
use Rattle.spg_perform.proofs.Besides.{push_each}
use Rattle.spg_perform.proofs.post.posts_for.Goals as goal

pub loop-lane-preserved : goal.loop-lane-preserved
loop-lane-preserved g c =
    let lanes = c.args.lanes.now in
    let k = c.loop-lane.lane-index in
    let within = c.loop-lane-test.true in
    record {
      count = omega (arith, c.in_ok-push.ensures.len, c.loop-lane.invariant.count);
      vacant = λ i d cs below. rw c.in_ok-push.ensures.items
          (push_each (λ n x. (cs : List Command) → IsVacant (get_or lanes n cs) x.task) c.loop-lane.posts.items k c.new.result (sym c.loop-lane.posts.ok.0 ∙ c.loop-lane.invariant.count) (λ n e under cs. c.loop-lane.invariant.vacant n e cs under)
          (λ cs. subst (IsVacant (get_or lanes k cs)) (sym c.new.ensures.task) record {
            lane = c.as_slice.ensures ∙ (c.lane-item.is ∙ get_or_default lanes k c.lane-item.result cs within);
            empty = c.in_ok-records.ensures.items;
            room = omega (arith, c.in_ok-records.ensures.capacity, c.len-in-loop-lane.ensures, ap length (c.lane-item.is ∙ get_or_default lanes k c.lane-item.result cs within));
          }) i d below cs);
    }

pub returns-clause-vacant : goal.returns-clause-vacant
returns-clause-vacant g c = λ i d cs below. c.loop-lane.invariant.vacant i d cs (omega (arith, below, c.loop-lane-test.false))
