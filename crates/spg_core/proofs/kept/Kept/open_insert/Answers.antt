use Rattle.std.proofs.Common.{Bool, true, false, Option, ◌<◌, ◌≡◌, ◌++◌, ◌∷◌, [], Some, reverse, refl, sym, ap, ◌∙◌, subst, get_or, map}
use Rattle.std.proofs.lemmas.Bool.{false≢true}
use Rattle.std.proofs.lemmas.Result.{err_from_is_err_and}
use Rattle.spg_rows.specs.declared.event.Event.TheVariants.{OpenInsert}
use Rattle.spg_rows.specs.History.{History}
use Rattle.spg_rows.specs.Rows.{is_claimed, held_by}
use Rattle.spg_rows.specs.Table.{state_in, SetsKey}
use Rattle.spg_rows.specs.Told.{IsUsed}
use Rattle.spg_tree.specs.Table.{Table, with_touched}
use Rattle.spg_tree.specs.Descents.{Descending}
use Rattle.spg_descend.specs.Enters.{opened_for, CarriesNew}
use Rattle.spg_core.specs.declared.slot.Slot.TheVariants.{Free, Insert}
use Rattle.spg_core.specs.Slot.{stage_of}
use Rattle.spg_core.specs.Stage as stages
use Rattle.spg_core.specs.Waiting.{is_used}
use Rattle.spg_core.specs.Stage.{descending}
use Rattle.spg_core.specs.Seen.{logged, past_of, untouched}
use Rattle.spg_core.proofs.Slots.{stage_set, stage_is, past_is, logged_is, seen_as, table_is}
use Rattle.spg_core.specs.Kept.{IsState}
use Rattle.spg_core.proofs.Steps.{with_fields, kept_with, seats, unclaimed_row, used_row, can_claim, on_err}
use Rattle.spg_core.proofs.Opens.{room_for_all, insert_opens}
use Rattle.spg_core.proofs.Bounding.{same_bounded, open_bounded}
use Rattle.spg_core.specs.Sections.{OpensInsert}
use Rattle.spg_core.proofs.kept.Kept.open_insert.Given.{Over}
use Rattle.spg_core.proofs.kept.Kept.open_insert.Goals as goal
use Rattle.spg_core.proofs.kept.Kept.open_insert.Goals.{After-is_used, After-set_touched}

-- the row's state, as the test answers
is_state : (g : Over) (c : After-is_used g) (b : Bool) → c.is_used.result ≡ b → is_used (state_in c.self.inside.rows c.args.row) ≡ b
is_state g c b is = ap is_used (sym c.state.ensures) ∙ sym c.is_used.ensures ∙ is

-- another row is not claimed, since it waits for nobody
unclaimed : (g : Over) (c : After-is_used g) → c.is_used.result ≡ false → is_claimed c.args.row (reverse c.self.inside.journal.events) ≡ false
unclaimed g c is =
    let s = c.self.inside in
    unclaimed_row g.O.OpClass.meaning s c.self.invariant.0 c.args.row (is_state g c false is) (sym (ap (held_by c.args.row) (past_is s c.args.self.now c.self.view_is 0)) ∙ sym c.in_default.ensures)

-- and so not used
unused : (g : Over) (c : After-is_used g) → c.is_used.result ≡ false → IsUsed (past_of c.args.self.now) c.args.row → ⊥
unused g c is used = false≢true (sym (unclaimed g c is) ∙ sym (ap (is_claimed c.args.row) (past_is c.self.inside c.args.self.now c.self.view_is 0)) ∙ used.0)

pub returns-then-is_used-clause-row_used : goal.returns-then-is_used-clause-row_used
returns-then-is_used-clause-row_used g c =
    let s = c.self.inside in
    let used = used_row g.O.OpClass.meaning s c.self.invariant.0 c.args.row (is_state g ((goal.at.returns-then-is_used-clause-row_used g c).After-is_used) true c.if-is_used.true) in
    (λ h. subst (λ (p : History _ _ _ _). IsUsed p c.args.row) (sym (past_is s c.args.self.now c.self.view_is 0)) used, λ h. refl)

pub returns-in_err-told-clause-row_used : goal.returns-in_err-told-clause-row_used
returns-in_err-told-clause-row_used g c =
    let refused = err_from_is_err_and c.from_residual.result c.from_residual.ensures.1 in
    (λ h. absurd (cc (refused.1, refused.2, h)), λ h. absurd (unused g ((goal.at.returns-in_err-told-clause-row_used g c).After-is_used) c.if-is_used.false h))

pub returns-in_err-claimed-clause-row_used : goal.returns-in_err-claimed-clause-row_used
returns-in_err-claimed-clause-row_used g c =
    let refused = err_from_is_err_and c.from_residual-in_err-claimed.result c.from_residual-in_err-claimed.ensures.1 in
    (λ h. absurd (cc (refused.1, refused.2, h)), λ h. absurd (unused g ((goal.at.returns-in_err-claimed-clause-row_used g c).After-is_used) c.if-is_used.false h))

pub claim-requires : goal.claim-requires
claim-requires g c = can_claim g.O.OpClass.meaning c.self.inside c.self.invariant.0 c.args.row (is_state g ((goal.at.claim-requires g c).After-is_used) false c.if-is_used.false)

pub returns-in_err-reserve-clause-row_used : goal.returns-in_err-reserve-clause-row_used
returns-in_err-reserve-clause-row_used g c =
    let refused = err_from_is_err_and c.from_residual-in_err-reserve.result c.from_residual-in_err-reserve.ensures.1 in
    (λ h. absurd (cc (refused.1, refused.2, h)), λ h. absurd (unused g ((goal.at.returns-in_err-reserve-clause-row_used g c).After-is_used) c.if-is_used.false h))

pub returns-in_err-reserve-clause-err : goal.returns-in_err-reserve-clause-err
returns-in_err-reserve-clause-err g c =
    let s = c.self.inside in
    let e = ap (λ j. seen_as j (map stage_of s.slots.items) s.table s.origin) c.reserve.ensures.events ∙ c.self.view_is in
    on_err c.from_residual-in_err-reserve.result e

pub invariant_of-self-in_err-claim : goal.invariant_of-self-in_err-claim
invariant_of-self-in_err-claim g c =
    let s = c.self.inside in (
      kept_with g.O.OpClass.meaning s c.self.invariant.0 c.claim.new.self c.reserve.new.self c.in_err-claim.ensures.err c.reserve.ensures.events c.reserve.ensures.room,
      same_bounded g.O.OpClass.meaning s c.self.invariant.0 c.self.invariant.1 _ (ap (λ j. seen_as j (map stage_of s.slots.items) s.table s.origin) c.reserve.ensures.events),
    )

pub returns-in_err-claim-clause-row_used : goal.returns-in_err-claim-clause-row_used
returns-in_err-claim-clause-row_used g c =
    let refused = err_from_is_err_and c.from_residual-in_err-claim.result c.from_residual-in_err-claim.ensures.1 in
    (λ h. absurd (cc (refused.1, refused.2, h)), λ h. absurd (unused g ((goal.at.returns-in_err-claim-clause-row_used g c).After-is_used) c.if-is_used.false h))

pub returns-in_err-claim-clause-err : goal.returns-in_err-claim-clause-err
returns-in_err-claim-clause-err g c =
    let s = c.self.inside in
    let e = ap (λ j. seen_as j (map stage_of s.slots.items) s.table s.origin) c.reserve.ensures.events ∙ c.self.view_is in
    on_err c.from_residual-in_err-claim.result e

pub invariant_of-self-2 : goal.invariant_of-self-2
invariant_of-self-2 g c =
    let m = g.O.OpClass.meaning in
    let s = c.self.inside in
    let I = c.self.invariant.0 in
    let seat = c.args.seat in
    let row = c.args.row in
    let key = c.open_descent-key.result.0 in
    let ek : c.args.started ≡ key = sym c.open_descent-key.ensures.key in
    let ed : c.open_descent-key.result.1 ≡ opened_for m row key = c.open_descent-key.ensures.at_start ∙ ap (opened_for m row) ek in
    let slot = Insert key c.open_descent-key.result.1 in
    let events = c.append.ensures.events ∙ ap (λ j. j ++ OpenInsert seat row c.in_ok-told.told ∷ []) c.reserve.ensures.events ∙ ap (λ k. s.journal.events ++ OpenInsert seat row k ∷ []) c.in_ok-told.ensures in
    let was : stage_of (get_or s.slots.items seat Free) ≡ stages.free = sym (stage_is s c.args.self.now c.self.view_is seat) ∙ c.requires.free in
    let free = unclaimed g ((goal.at.invariant_of-self-2 g c).After-is_used) c.if-is_used.false in
    let keys = subst (λ k. SetsKey s.rows c.claim.new.self row (Some k)) c.in_ok-claimed.ensures c.in_ok-claim.ensures.key in
    let carries : CarriesNew m c.open_descent-key.result.1 key = subst (λ (k : Option _). CarriesNew m c.open_descent-key.result.1 k) ek c.open_descent-key.ensures.carries in
    let room = room_for_all m s I seat c.set_slot.new.slots.items c.reserve.new.self.spare c.append.new.self.spare slot c.set_slot.ensures.items c.in_ok-reserve.ensures.ok c.append.ensures.spare in
    let seen = c.args.self.now in
    let low : seat < 64 = c.set_slot.ensures.in_range in
    let table : c.set_touched.new.self ≡ untouched seen.table = c.set_touched.ensures ∙ ap (λ ts. with_touched s.table ts) c.new.ensures ∙ ap untouched (sym (table_is s seen c.self.view_is 0)) in (
      subst (λ (t : Table). IsState m (with_fields m s t c.claim.new.self c.set_slot.new.slots c.append.new.self)) (sym (c.set_touched.ensures ∙ ap (λ ts. with_touched s.table ts) c.new.ensures))
          (insert_opens m s I seat row key c.open_descent-key.result.1 c.claim.new.self c.set_slot.new.slots c.append.new.self ed carries free was c.set_slot.ensures.in_range c.set_slot.ensures.items events c.in_ok-claim.ensures.state keys room),
      open_bounded m s I c.self.invariant.1 seen c.self.view_is seat row key _
          (logged_is s seen c.self.view_is seat (OpenInsert seat row key) slot c.set_slot.new.slots.items c.append.new.self.events c.set_touched.new.self c.set_slot.ensures.items events
          ∙ ap (λ (t : Table). logged seen seat (OpenInsert seat row key) (stage_of slot) t) table
          ∙ ap (λ (d : Descending _). logged seen seat (OpenInsert seat row key) (descending key d) (untouched seen.table)) ed)
          (stage_set c.set_slot.new.slots.items s.slots.items seat slot c.set_slot.ensures.items (seats m s I) low ∙ ap (λ (d : Descending _). descending key d) ed),
    )

-- what it did, as callers see it
told : (g : Over) (c : After-set_touched g) → OpensInsert g.O.OpClass.meaning c.args.self.now (seen_as c.append.new.self.events (map stage_of c.set_slot.new.slots.items) c.set_touched.new.self c.self.inside.origin) c.args.seat c.args.row c.args.started
told g c =
    let m = g.O.OpClass.meaning in
    let s = c.self.inside in
    let seen = c.args.self.now in
    let seat = c.args.seat in
    let row = c.args.row in
    let key = c.open_descent-key.result.0 in
    let ek : c.args.started ≡ key = sym c.open_descent-key.ensures.key in
    let ed : c.open_descent-key.result.1 ≡ opened_for m row key = c.open_descent-key.ensures.at_start ∙ ap (opened_for m row) ek in
    let slot = Insert key c.open_descent-key.result.1 in
    let events = c.append.ensures.events ∙ ap (λ j. j ++ OpenInsert seat row c.in_ok-told.told ∷ []) c.reserve.ensures.events ∙ ap (λ k. s.journal.events ++ OpenInsert seat row k ∷ []) c.in_ok-told.ensures in
    let low : seat < 64 = c.set_slot.ensures.in_range in
    let table : c.set_touched.new.self ≡ untouched seen.table = c.set_touched.ensures ∙ ap (λ ts. with_touched s.table ts) c.new.ensures ∙ ap untouched (sym (table_is s seen c.self.view_is 0)) in (
      logged_is s seen c.self.view_is seat (OpenInsert seat row key) slot c.set_slot.new.slots.items c.append.new.self.events c.set_touched.new.self c.set_slot.ensures.items events
          ∙ ap (λ (t : Table). logged seen seat (OpenInsert seat row key) (stage_of slot) t) table
          ∙ ap (λ (d : Descending _). logged seen seat (OpenInsert seat row key) (descending key d) (untouched seen.table)) ed
          ∙ ap (λ (k : Option _). logged seen seat (OpenInsert seat row k) (descending k (opened_for m row k)) (untouched seen.table)) (sym ek),
      stage_set c.set_slot.new.slots.items s.slots.items seat slot c.set_slot.ensures.items (seats m s c.self.invariant.0) low ∙ ap (λ (d : Descending _). descending key d) ed ∙ ap (λ (k : Option _). descending k (opened_for m row k)) (sym ek),
    )

pub returns-clause-ok : goal.returns-clause-ok
returns-clause-ok g c = told g ((goal.at.returns-clause-ok g c).After-set_touched)

pub returns-clause-call : goal.returns-clause-call
returns-clause-call g c =
    let m = g.O.OpClass.meaning in
    let s = c.self.inside in
    let row = c.args.row in
    let ek : c.args.started ≡ c.open_descent-key.result.0 = sym c.open_descent-key.ensures.key in
    let ed : c.open_descent-key.result.1 ≡ opened_for m row c.args.started = c.open_descent-key.ensures.at_start in
    let free = unclaimed g ((goal.at.returns-clause-call g c).After-is_used) c.if-is_used.false in (
      c.requires.free,
      ap (is_claimed row) (past_is s c.args.self.now c.self.view_is 0) ∙ free,
      subst (λ (d : Descending _). CarriesNew m d c.args.started) ed c.open_descent-key.ensures.carries,
      told g ((goal.at.returns-clause-call g c).After-set_touched),
    )

pub returns-clause-row_used : goal.returns-clause-row_used
returns-clause-row_used g c = (λ h. absurd (cc h), λ h. absurd (unused g ((goal.at.returns-clause-row_used g c).After-is_used) c.if-is_used.false h))
