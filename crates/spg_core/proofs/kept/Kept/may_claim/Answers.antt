use Rattle.std.proofs.Common.{Bool, true, false, ◌≡◌, refl, sym, ap, ◌∙◌, subst}
use Rattle.std.proofs.lemmas.Bool.{false≢true}
use Rattle.spg_rows.specs.History.{History}
use Rattle.spg_rows.specs.Rows.{is_claimed, held_by}
use Rattle.spg_rows.specs.Table.{state_in}
use Rattle.spg_rows.specs.Told.{IsUsed}
use Rattle.spg_core.specs.Waiting.{is_used}
use Rattle.spg_core.specs.Seen.{past_of}
use Rattle.spg_core.proofs.Slots.{past_is}
use Rattle.spg_core.proofs.Steps.{unclaimed_row, used_row}
use Rattle.spg_core.proofs.kept.Kept.may_claim.Given.{Over}
use Rattle.spg_core.proofs.kept.Kept.may_claim.Goals as goal
use Rattle.spg_core.proofs.kept.Kept.may_claim.Goals.{After-is_used}

-- the row's state, as the test answers
is_state : (g : Over) (c : After-is_used g) (b : Bool) → c.is_used.result ≡ b → is_used (state_in c.self.inside.rows c.args.row) ≡ b
is_state g c b is = ap is_used (sym c.state.ensures) ∙ sym c.is_used.ensures ∙ is

-- another row is not claimed, since it waits for nobody
unclaimed : (g : Over) (c : After-is_used g) → c.is_used.result ≡ false → is_claimed c.args.row (past_of c.args.self.now) ≡ false
unclaimed g c is =
    let s = c.self.inside in
    let past = past_is s c.args.self.now c.self.view_is 0 in
    ap (is_claimed c.args.row) past ∙ unclaimed_row g.O.OpClass.meaning s c.self.invariant.0 c.args.row (is_state g c false is) (sym (ap (held_by c.args.row) past) ∙ sym c.in_default.ensures)

pub returns-then-is_used-clause-row_used : goal.returns-then-is_used-clause-row_used
returns-then-is_used-clause-row_used g c =
    let s = c.self.inside in
    let used = used_row g.O.OpClass.meaning s c.self.invariant.0 c.args.row (is_state g ((goal.at.returns-then-is_used-clause-row_used g c).After-is_used) true c.if-is_used.true) in
    (λ h. subst (λ (p : History _ _ _ _). IsUsed p c.args.row) (sym (past_is s c.args.self.now c.self.view_is 0)) used, λ h. refl)

pub returns-clause-ok : goal.returns-clause-ok
returns-clause-ok g c = unclaimed g ((goal.at.returns-clause-ok g c).After-is_used) c.if-is_used.false

pub returns-clause-row_used : goal.returns-clause-row_used
returns-clause-row_used g c = (λ h. absurd (cc h), λ h. absurd (false≢true (sym (unclaimed g ((goal.at.returns-clause-row_used g c).After-is_used) c.if-is_used.false) ∙ h.0)))
