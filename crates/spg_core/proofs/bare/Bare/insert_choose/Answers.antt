use Rattle.std.proofs.Common.{◌≡◌, ◌+◌, ◌^◌, ◌⊎◌, sym, ◌∙◌, subst}
use Rattle.std.specs.Result.{IfOk, IsErrOf}
use Rattle.spg_core.specs.declared.look.ApplyRefused.TheVariants.{IndexFull, Memory}
use Rattle.spg_core.specs.Seen.{Seen}
use Rattle.spg_core.specs.Looking.{IsSpotted}
use Rattle.spg_core.specs.Sections.{SeatFindsNoPage, SeatTicks}
use Rattle.spg_core.specs.Calls.{Inserts}
use Rattle.spg_core.proofs.bare.Bare.insert_choose.Goals as goal

pub returns-clause-others : goal.returns-clause-others
returns-clause-others g c = rw (sym (c.deref_mut.ensures.value ∙ c.self.view_is)) c.insert_choose.ensures.others

pub returns-clause-no_page : goal.returns-clause-no_page
returns-clause-no_page g c =
    let m = g.O.OpClass.meaning in
    subst (λ (v : Seen _ _ _ _). IsSpotted v c.args.seat c.args.chosen.now → SeatFindsNoPage m v c.args.seat → (SeatTicks m v c.args.seat → v.table.clock + 1 ≡ 2 ^ 48 → ⊥) → IsErrOf c.insert_choose.result IndexFull ⊎ IsErrOf c.insert_choose.result Memory) (c.deref_mut.ensures.value ∙ c.self.view_is) c.insert_choose.ensures.no_page

pub returns-clause-call : goal.returns-clause-call
returns-clause-call g c = subst (λ (v : Seen _ _ _ _). IfOk c.insert_choose.result (λ out. Inserts g.O.OpClass.meaning v c.insert_choose.new.self c.args.seat out)) (c.deref_mut.ensures.value ∙ c.self.view_is) c.insert_choose.ensures.call
