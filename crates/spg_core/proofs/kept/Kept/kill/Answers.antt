use Rattle.std.proofs.Common.{map, true, ◌≡◌, ◌++◌, ◌∷◌, [], get_or, length, refl, sym, ap, ◌∙◌, subst, arith}
use Rattle.std.proofs.lemmas.Bool.{false≢true}
use Rattle.spg_rows.specs.declared.event.Event.TheVariants.{Kill}
use Rattle.spg_rows.specs.declared.table.RowState.TheVariants as row_state
use Rattle.spg_rows.specs.Rows.{state_of}
use Rattle.spg_rows.specs.Table.{SetsState}
use Rattle.spg_tree.specs.Table.{Table, with_touched}
use Rattle.spg_core.specs.declared.slot.Slot.TheVariants.{Free}
use Rattle.spg_core.specs.Slot.{stage_of}
use Rattle.spg_core.specs.Stage as stages
use Rattle.spg_core.specs.Seen.{untouched}
use Rattle.spg_core.specs.Kept.{IsState}
use Rattle.spg_core.proofs.Slots.{seen_as, stage_is, past_is, table_is}
use Rattle.spg_core.proofs.Steps.{with_all, with_fields, kept_with, kept_later, on_err}
use Rattle.spg_core.proofs.Opens.{live_there, kills, killed_seen}
use Rattle.spg_core.proofs.Bounding.{same_bounded, quiet_bounded}
use Rattle.spg_core.specs.Sections.{KillsRow}
use Rattle.spg_core.proofs.kept.Kept.kill.Given.{Over}
use Rattle.spg_core.proofs.kept.Kept.kill.Goals as goal
use Rattle.spg_core.proofs.kept.Kept.kill.Goals.{After-set_touched}

pub returns-then-not-is_live-clause-ok : goal.returns-then-not-is_live-clause-ok
returns-then-not-is_live-clause-ok g c =
    let s = c.self.inside in
    let past = past_is s c.args.self.now c.self.view_is 0 in
    (λ live. false≢true (sym c.if-not-is_live.true ∙ c.is_live.ensures.1 (c.state.ensures ∙ c.self.invariant.0.tells.states c.args.row ∙ sym (ap (state_of c.args.row) past) ∙ live)), refl)

pub returns-in_err-reserve-clause-live : goal.returns-in_err-reserve-clause-live
returns-in_err-reserve-clause-live g c = on_err c.from_residual.result (live_there g.O.OpClass.meaning c.self.inside c.self.invariant.0 c.args.seat c.args.self.now c.self.view_is c.args.row (sym c.state.ensures ∙ c.is_live.ensures.0 c.if-not-is_live.false))

pub returns-in_err-add-clause-live : goal.returns-in_err-add-clause-live
returns-in_err-add-clause-live g c = on_err c.from_residual-in_err-add.result (live_there g.O.OpClass.meaning c.self.inside c.self.invariant.0 c.args.seat c.args.self.now c.self.view_is c.args.row (sym c.state.ensures ∙ c.is_live.ensures.0 c.if-not-is_live.false))

pub kill-requires : goal.kill-requires
kill-requires g c = sym c.state.ensures ∙ c.is_live.ensures.0 c.if-not-is_live.false

pub invariant_of-self-in_err-add : goal.invariant_of-self-in_err-add
invariant_of-self-in_err-add g c =
    let m = g.O.OpClass.meaning in
    let s = c.self.inside in (
      kept_later m (with_fields m s s.table s.rows s.slots c.reserve.new.self) (kept_with m s c.self.invariant.0 s.rows c.reserve.new.self refl c.reserve.ensures.events c.reserve.ensures.room) c.add.new.self c.in_err-add.ensures.err,
      same_bounded m s c.self.invariant.0 c.self.invariant.1 _ (ap (λ j. seen_as j (map stage_of s.slots.items) s.table s.origin) c.reserve.ensures.events),
    )

pub invariant_of-self-2 : goal.invariant_of-self-2
invariant_of-self-2 g c =
    let m = g.O.OpClass.meaning in
    let s = c.self.inside in
    let I = c.self.invariant.0 in
    let seat = c.args.seat in
    let row = c.args.row in
    let was : stage_of (get_or s.slots.items seat Free) ≡ stages.free = sym (stage_is s c.args.self.now c.self.view_is seat) ∙ c.requires.free in
    let live = sym c.state.ensures ∙ c.is_live.ensures.0 c.if-not-is_live.false in
    let events = c.append.ensures.events ∙ ap (λ j. j ++ Kill seat row ∷ []) c.reserve.ensures.events in
    let at : c.len.result ≡ length s.journal.events = c.len.ensures ∙ ap length c.reserve.ensures.events in
    let states = subst (λ n. SetsState s.rows c.kill.new.self row (row_state.Killed n)) at c.kill.ensures.state in
    let full = c.in_ok-reserve.ensures.ok in
    let spare = c.append.ensures.spare in
    let seen = c.args.self.now in
    let table : c.set_touched.new.self ≡ untouched seen.table = c.set_touched.ensures ∙ ap (λ ts. with_touched s.table ts) c.new.ensures ∙ ap untouched (sym (table_is s seen c.self.view_is 0)) in
    let told = killed_seen m s I seat seen c.self.view_is row c.append.new.self.events c.set_touched.new.self c.requires.free live events table in (
      subst (λ (t : Table). IsState m (with_all m s t c.kill.new.self s.slots c.append.new.self s.vacuums s.targets c.add.new.self)) (sym (c.set_touched.ensures ∙ ap (λ ts. with_touched s.table ts) c.new.ensures))
          (kills m s I seat row c.kill.new.self c.append.new.self was live events states c.kill.ensures.key c.add.new.self c.in_ok-add.ensures.ok (omega arith)),
      quiet_bounded m s I c.self.invariant.1 seen c.self.view_is seat stages.free (Kill seat row) tt refl tt _ told.1 told.2,
    )

-- what it did, as callers see it
told : (g : Over) (c : After-set_touched g) → KillsRow c.args.self.now (seen_as c.append.new.self.events (map stage_of c.self.inside.slots.items) c.set_touched.new.self c.self.inside.origin) c.args.seat c.args.row true
told g c =
    let s = c.self.inside in
    let seen = c.args.self.now in
    let seat = c.args.seat in
    let row = c.args.row in
    let events = c.append.ensures.events ∙ ap (λ j. j ++ Kill seat row ∷ []) c.reserve.ensures.events in
    let table : c.set_touched.new.self ≡ untouched seen.table = c.set_touched.ensures ∙ ap (λ ts. with_touched s.table ts) c.new.ensures ∙ ap untouched (sym (table_is s seen c.self.view_is 0)) in
    let live = sym c.state.ensures ∙ c.is_live.ensures.0 c.if-not-is_live.false in
    killed_seen g.O.OpClass.meaning s c.self.invariant.0 seat seen c.self.view_is row c.append.new.self.events c.set_touched.new.self c.requires.free live events table

pub returns-clause-ok : goal.returns-clause-ok
returns-clause-ok g c = told g ((goal.at.returns-clause-ok g c).After-set_touched)

pub returns-clause-call : goal.returns-clause-call
returns-clause-call g c = (c.requires.free, told g ((goal.at.returns-clause-call g c).After-set_touched))
