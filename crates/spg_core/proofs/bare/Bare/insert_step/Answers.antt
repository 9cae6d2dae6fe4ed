use Rattle.std.proofs.Common.{◌≡◌, ◌+◌, ◌^◌, ◌⊎◌, sym, ◌∙◌, subst}
use Rattle.std.specs.Result.{IfOk, IsErrOf}
use Rattle.spg_tree.specs.Table.{sheets_of}
use Rattle.spg_tree.specs.declared.stand.StepRefused.TheVariants.{IndexFull, Memory}
use Rattle.spg_scan.specs.Others.{ChangesPages}
use Rattle.spg_core.specs.Seen.{Seen, past_of}
use Rattle.spg_core.specs.Sections.{SeatFindsNoPage, SeatTicks}
use Rattle.spg_core.specs.Stepping.{MakesAtMostOne}
use Rattle.spg_core.specs.Calls.{Inserts}
use Rattle.spg_core.proofs.bare.Bare.insert_step.Goals as goal

pub returns-clause-others : goal.returns-clause-others
returns-clause-others g c = rw (sym (c.deref_mut.ensures.value ∙ c.self.view_is)) c.insert_step.ensures.others

pub returns-clause-changes : goal.returns-clause-changes
returns-clause-changes g c = subst (λ (v : Seen _ _ _ _). IfOk c.insert_step.result (λ _. ChangesPages g.O.OpClass.meaning (past_of v) c.args.seat (sheets_of v.table) (sheets_of c.insert_step.new.self.table) c.insert_step.new.self.table.touched 0)) (c.deref_mut.ensures.value ∙ c.self.view_is) c.insert_step.ensures.changes

pub returns-clause-no_page : goal.returns-clause-no_page
returns-clause-no_page g c =
    let m = g.O.OpClass.meaning in
    subst (λ (v : Seen _ _ _ _). SeatFindsNoPage m v c.args.seat → (SeatTicks m v c.args.seat → v.table.clock + 1 ≡ 2 ^ 48 → ⊥) → IsErrOf c.insert_step.result IndexFull ⊎ IsErrOf c.insert_step.result Memory) (c.deref_mut.ensures.value ∙ c.self.view_is) c.insert_step.ensures.no_page

pub returns-clause-makes : goal.returns-clause-makes
returns-clause-makes g c = subst (λ (v : Seen _ _ _ _). IfOk c.insert_step.result (λ _. MakesAtMostOne v.table c.insert_step.new.self.table)) (c.deref_mut.ensures.value ∙ c.self.view_is) c.insert_step.ensures.makes

pub returns-clause-call : goal.returns-clause-call
returns-clause-call g c = subst (λ (v : Seen _ _ _ _). IfOk c.insert_step.result (λ out. Inserts g.O.OpClass.meaning v c.insert_step.new.self c.args.seat out)) (c.deref_mut.ensures.value ∙ c.self.view_is) c.insert_step.ensures.call
