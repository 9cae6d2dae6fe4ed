use Rattle.std.proofs.Common.{subst}
use Rattle.spg_core.specs.Seen.{Seen, stage_at, with_class}
use Rattle.spg_core.specs.Calls.{IsCall, given}
use Rattle.spg_core.proofs.Classed.{gives_up_of, call_of}
use Rattle.spg_core.proofs.state.State.abandon.Goals as goal

pub returns-clause-up : goal.returns-clause-up
returns-clause-up g c = gives_up_of c.self.inside.class g.O.OpClass.meaning c.self.inside.bare c.abandon.new.self c.args.seat c.args.self.now c.self.view_is c.args.why c.abandon.ensures.up

pub returns-clause-call : goal.returns-clause-call
returns-clause-call g c =
    let told = call_of c.self.inside.class g.O.OpClass.meaning c.self.inside.bare c.abandon.new.self c.args.seat c.args.self.now c.self.view_is (given (stage_at c.self.inside.bare c.args.seat) c.args.why) c.abandon.ensures.call in
    subst (λ (v : Seen _ _ _ _). IsCall g.O.OpClass.meaning c.args.self.now (with_class c.abandon.new.self c.self.inside.class) c.args.seat (given (stage_at v c.args.seat) c.args.why)) c.self.view_is told
