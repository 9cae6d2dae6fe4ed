use Rattle.std.proofs.Common.{◌≡◌, ◌+◌, ◌^◌, ◌⊎◌, sym, subst}
use Rattle.std.specs.Result.{IfOk, IsErrOf}
use Rattle.std.proofs.lemmas.Result.{IfOk-weaker}
use Rattle.spg_tree.specs.Table.{sheets_of}
use Rattle.spg_tree.specs.declared.stand.StepRefused.TheVariants.{IndexFull, ClockFull, Memory}
use Rattle.spg_scan.specs.Others.{ChangesPages}
use Rattle.spg_core.specs.Seen.{Seen, past_of}
use Rattle.spg_core.specs.Sections.{SeatFindsNoPage, SeatTicks}
use Rattle.spg_core.specs.Stepping.{IsNearLimit, MakesAtMostOne}
use Rattle.spg_core.proofs.Classed.{insert_out_of, tells_of, latches_of, ends_of, heavy_of, inserts_of}
use Rattle.spg_core.proofs.state.State.insert_step.Goals as goal

pub returns-clause-ok : goal.returns-clause-ok
returns-clause-ok g c = IfOk-weaker c.insert_step.result _ _ (insert_out_of c.self.inside.class g.O.OpClass.meaning c.self.inside.bare c.insert_step.new.self c.args.seat c.args.self.now c.self.view_is) c.insert_step.ensures.ok

pub returns-clause-call : goal.returns-clause-call
returns-clause-call g c = IfOk-weaker c.insert_step.result _ _ (inserts_of c.self.inside.class g.O.OpClass.meaning c.self.inside.bare c.insert_step.new.self c.args.seat c.args.self.now c.self.view_is) c.insert_step.ensures.call

pub returns-clause-told : goal.returns-clause-told
returns-clause-told g c = IfOk-weaker c.insert_step.result _ _ (tells_of c.self.inside.class g.O.OpClass.meaning c.self.inside.bare c.insert_step.new.self c.args.seat c.args.self.now c.self.view_is) c.insert_step.ensures.told

pub returns-clause-latches : goal.returns-clause-latches
returns-clause-latches g c = IfOk-weaker c.insert_step.result _ _ (latches_of c.self.inside.class g.O.OpClass.meaning c.self.inside.bare c.insert_step.new.self c.args.seat c.args.self.now c.self.view_is) c.insert_step.ensures.latches

pub returns-clause-ends : goal.returns-clause-ends
returns-clause-ends g c = IfOk-weaker c.insert_step.result _ _ (ends_of c.self.inside.class g.O.OpClass.meaning c.self.inside.bare c.insert_step.new.self c.args.seat c.args.self.now c.self.view_is) c.insert_step.ensures.ends

pub returns-clause-full : goal.returns-clause-full
returns-clause-full g c =
    let e = c.self.view_is in λ is. (
      heavy_of c.self.inside.class g.O.OpClass.meaning c.self.inside.bare c.insert_step.new.self c.args.seat c.args.self.now e (c.insert_step.ensures.full is).0,
      subst (λ (v : Seen _ _ _ _). IsNearLimit v.table) e (c.insert_step.ensures.full is).1,
    )

pub returns-clause-clock : goal.returns-clause-clock
returns-clause-clock g c =
    let e = c.self.view_is in λ is. (
      heavy_of c.self.inside.class g.O.OpClass.meaning c.self.inside.bare c.insert_step.new.self c.args.seat c.args.self.now e (c.insert_step.ensures.clock is).0,
      subst (λ (v : Seen _ _ _ _). v.table.clock + 1 ≡ 2 ^ 48) e (c.insert_step.ensures.clock is).1,
    )

pub returns-clause-others : goal.returns-clause-others
returns-clause-others g c = rw (sym c.self.view_is) c.insert_step.ensures.others

pub returns-clause-changes : goal.returns-clause-changes
returns-clause-changes g c = subst (λ (v : Seen _ _ _ _). IfOk c.insert_step.result (λ _. ChangesPages g.O.OpClass.meaning (past_of v) c.args.seat (sheets_of v.table) (sheets_of c.insert_step.new.self.table) c.insert_step.new.self.table.touched 0)) c.self.view_is c.insert_step.ensures.changes

pub returns-clause-no_page : goal.returns-clause-no_page
returns-clause-no_page g c =
    let m = g.O.OpClass.meaning in
    subst (λ (v : Seen _ _ _ _). SeatFindsNoPage m v c.args.seat → (SeatTicks m v c.args.seat → v.table.clock + 1 ≡ 2 ^ 48 → ⊥) → IsErrOf c.insert_step.result IndexFull ⊎ IsErrOf c.insert_step.result Memory) c.self.view_is c.insert_step.ensures.no_page

pub returns-clause-makes : goal.returns-clause-makes
returns-clause-makes g c = subst (λ (v : Seen _ _ _ _). IfOk c.insert_step.result (λ _. MakesAtMostOne v.table c.insert_step.new.self.table)) c.self.view_is c.insert_step.ensures.makes
