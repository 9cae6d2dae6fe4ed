use Rattle.std.proofs.Common.{◌≡◌, [], ◌∷◌, sym, ap, ◌∙◌, subst, refl}
use Rattle.spg_turn.specs.Passes.{pass_view}
use Rattle.spg_desk.proofs.Sweeping.{sweep_step, sweep_still, sweep_ends}
use Rattle.spg_desk.proofs.desk.Desk.sweep.Goals as goal

pub loop-init : goal.loop-init
loop-init g c = record { own = c.requires.own; sweeping = c.requires.sweeping; told = λ v told. ([], told) }

pub sweep_once-next-requires-clause-own : goal.sweep_once-next-requires-clause-own
sweep_once-next-requires-clause-own g c = c.loop.invariant.own

pub sweep_once-next-requires-clause-sweeping : goal.sweep_once-next-requires-clause-sweeping
sweep_once-next-requires-clause-sweeping g c = c.loop.invariant.sweeping

pub returns-in-Some-end-clause-told : goal.returns-in-Some-end-clause-told
returns-in-Some-end-clause-told g c =
    λ v told. rw c.joined-span.ensures (sweep_ends g.O.OpClass.meaning v (pass_view c.loop.going.pass) (pass_view c.sweep_once-next.result.0.pass) c.loop.span c.sweep_once-next.result.1 c.sweep_once-next.result.2 c.in-Some-end.end (c.loop.invariant.told v told) c.sweep_once-next.ensures.told (sym c.sweep_end-end.ensures ∙ c.in-Some-end.is))

pub loop-preserved : goal.loop-preserved
loop-preserved g c =
    let v1 = pass_view c.loop.going.pass in
    let w = pass_view c.sweep_once-next.result.0.pass in
    let out = c.sweep_once-next.result.2 in
    let on = sym c.sweep_end-end.ensures ∙ c.in_default.is in
    record {
      own = c.sweep_once-next.ensures.own;
      sweeping = sweep_still g.O.OpClass.meaning v1 w c.sweep_once-next.result.1 out c.loop.invariant.sweeping c.sweep_once-next.ensures.told on;
      told = λ v told. rw c.joined-span.ensures (sweep_step g.O.OpClass.meaning v v1 w c.loop.span c.sweep_once-next.result.1 out (c.loop.invariant.told v told) c.sweep_once-next.ensures.told on);
    }
