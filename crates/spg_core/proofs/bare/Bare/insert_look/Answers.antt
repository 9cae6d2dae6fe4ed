use Rattle.std.proofs.Common.{◌≡◌, ◌+◌, ◌^◌, ◌⊎◌, sym, ◌∙◌, subst}
use Rattle.std.specs.Result.{IfOk, IsErrOf}
use Rattle.spg_tree.specs.declared.stand.StepRefused.TheVariants.{IndexFull, ClockFull, Memory}
use Rattle.spg_core.specs.Seen.{Seen}
use Rattle.spg_core.specs.Looking.{Asks}
use Rattle.spg_core.specs.Sections.{SeatFindsNoPage, SeatTicks}
use Rattle.spg_core.specs.Calls.{Looks}
use Rattle.spg_core.proofs.bare.Bare.insert_look.Goals as goal

pub returns-clause-others : goal.returns-clause-others
returns-clause-others g c = rw (sym (c.deref_mut.ensures.value ∙ c.self.view_is)) c.insert_look.ensures.others

pub returns-clause-clock_first : goal.returns-clause-clock_first
returns-clause-clock_first g c =
    let m = g.O.OpClass.meaning in
    subst (λ (v : Seen _ _ _ _). (Asks v c.args.seat → ⊥) → SeatTicks m v c.args.seat → v.table.clock + 1 ≡ 2 ^ 48 → IsErrOf c.insert_look.result ClockFull ⊎ IsErrOf c.insert_look.result Memory) (c.deref_mut.ensures.value ∙ c.self.view_is) c.insert_look.ensures.clock_first

pub returns-clause-no_page : goal.returns-clause-no_page
returns-clause-no_page g c =
    let m = g.O.OpClass.meaning in
    subst (λ (v : Seen _ _ _ _). (Asks v c.args.seat → ⊥) → SeatFindsNoPage m v c.args.seat → (SeatTicks m v c.args.seat → v.table.clock + 1 ≡ 2 ^ 48 → ⊥) → IsErrOf c.insert_look.result IndexFull ⊎ IsErrOf c.insert_look.result Memory) (c.deref_mut.ensures.value ∙ c.self.view_is) c.insert_look.ensures.no_page

pub returns-clause-call : goal.returns-clause-call
returns-clause-call g c = subst (λ (v : Seen _ _ _ _). IfOk c.insert_look.result (λ look. Looks g.O.OpClass.meaning v c.insert_look.new.self c.args.seat look)) (c.deref_mut.ensures.value ∙ c.self.view_is) c.insert_look.ensures.call
