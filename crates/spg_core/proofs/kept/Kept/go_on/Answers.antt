use Rattle.std.proofs.Common.{map, ap₂, rules, ℕ, suc, ◌≡◌, ◌<◌, ◌+◌, ◌^◌, sym, refl, ap, ◌∙◌, subst, get_or, arith, length, inl}
use Rattle.std.proofs.lemmas.Bool.{false≢true}
use Rattle.spg_tree.specs.Table.{Table, sheets_of}
use Rattle.spg_seats.specs.Descending.{ChangesHeld}
use Rattle.spg_core.specs.declared.answer.InsertOut.{InsertOut}
use Rattle.spg_core.specs.declared.answer.InsertOut.TheVariants as outs
use Rattle.spg_core.specs.declared.slot.Slot.TheVariants.{Free}
use Rattle.spg_core.specs.Slot.{stage_of}
use Rattle.spg_core.specs.Stage.{Stage, IsInserting}
use Rattle.spg_scan.specs.Others.{ChangesPages}
use Rattle.spg_core.specs.Seen.{Seen, past_of}
use Rattle.spg_core.specs.Operations.{StepsFrom, IsOutgrownBy}
use Rattle.spg_core.specs.Sections.{IsOutOf, IsHeavyFor, FindsNoPageFor, TicksFor, TellsFor, LatchesAfter, HasNone, OthersHold}
use Rattle.spg_core.specs.Guides.{GuidedIn}
use Rattle.spg_core.specs.Stepping.{IsNearLimit, Grows, MakesAtMostOne}
use Rattle.spg_core.specs.Ends.{SeatEnds, SeatThenEnds}
use Rattle.spg_core.proofs.Growing.{grows_as}
use Rattle.spg_core.proofs.Slots.{seen_as, stage_is, table_is, inserting_open}
use Rattle.spg_core.proofs.Steps.{kept_same, seats, fits, low, room_left}
use Rattle.spg_core.proofs.Inserts.{finds_seen, finds_kept, ticks_seen, ticks_kept, can_step, heavy_for, kept_step, put_row, kept_put, row_claimed, steps_insert, steps_length, seen_step, seen_put, tells_step, tells_put, latches_step, latches_put, others_step, within_step, grows_step, ends_step, makes_step}
use Rattle.spg_core.proofs.Bounding.{same_bounded, puts_bounded, step_bounded}
use Rattle.spg_core.proofs.Changing.{changes_step}
use Rattle.spg_core.specs.Calls.{Inserts}
use Rattle.spg_core.proofs.Calling.{step_call, put_call}
use Rattle.spg_core.proofs.kept.Kept.go_on.Goals as goal
use Rattle.spg_core.proofs.kept.Kept.go_on.Goals.{then-has_ended, else-has_ended}

pub step_slot-requires-clause-insert : goal.step_slot-requires-clause-insert
step_slot-requires-clause-insert g c =
    let s = c.self.inside in
    let seat = c.args.seat in
    let slot = get_or s.slots.items seat Free in
    can_step g.O.OpClass.meaning g.O.OpClass.codes s c.self.invariant.0 seat slot (fits g.O.OpClass.meaning s c.self.invariant.0 seat) (subst (λ (x : Stage _ _ _ _). IsInserting x) (stage_is s c.args.self.now c.self.view_is seat) c.requires.inserting)

pub step_slot-requires-clause-guided : goal.step_slot-requires-clause-guided
step_slot-requires-clause-guided g c =
    let m = g.O.OpClass.meaning in
    let s = c.self.inside in
    let seen = c.args.self.now in
    let seat = c.args.seat in
    subst (λ (t : Table). GuidedIn m t (stage_of (get_or s.slots.items seat Free)) c.args.guide) (table_is s seen c.self.view_is seat)
    (subst (λ (x : Stage _ _ _ _). GuidedIn m seen.table x c.args.guide) (stage_is s seen c.self.view_is seat) c.requires.guided)

pub invariant_of-self : goal.invariant_of-self
invariant_of-self g c =
    let s = c.self.inside in (
      kept_same g.O.OpClass.meaning s c.self.invariant.0 c.step_slot.new.table c.step_slot.new.slots c.in_err-out.ensures.err c.in_err-out.ensures.err_slots,
      same_bounded g.O.OpClass.meaning s c.self.invariant.0 c.self.invariant.1 _ (ap₂ (λ t l. seen_as s.journal.events (map stage_of l) t s.origin) c.in_err-out.ensures.err c.in_err-out.ensures.err_slots),
    )

pub returns-in_err-out-clause-full : goal.returns-in_err-out-clause-full
returns-in_err-out-clause-full g c = λ h.
    let s = c.self.inside in
    let seat = c.args.seat in
    let slot = get_or s.slots.items seat Free in
    let both : IsOutgrownBy s.table slot × IsNearLimit s.table = search rules in (
      subst (λ (x : Stage _ _ _ _). IsHeavyFor g.O.OpClass.meaning c.args.self.now x) (sym (stage_is s c.args.self.now c.self.view_is seat))
          (heavy_for g.O.OpClass.meaning g.O.OpClass.codes s c.self.invariant.0 seat c.args.self.now c.self.view_is slot (fits g.O.OpClass.meaning s c.self.invariant.0 seat) both.0),
      subst (λ (t : Table). IsNearLimit t) (sym (table_is s c.args.self.now c.self.view_is seat)) both.1,
    )

pub returns-in_err-out-clause-clock : goal.returns-in_err-out-clause-clock
returns-in_err-out-clause-clock g c = λ h.
    let s = c.self.inside in
    let seat = c.args.seat in
    let slot = get_or s.slots.items seat Free in
    let both : IsOutgrownBy s.table slot × (s.table.clock + 1 ≡ 2 ^ 48) = search rules in (
      subst (λ (x : Stage _ _ _ _). IsHeavyFor g.O.OpClass.meaning c.args.self.now x) (sym (stage_is s c.args.self.now c.self.view_is seat))
          (heavy_for g.O.OpClass.meaning g.O.OpClass.codes s c.self.invariant.0 seat c.args.self.now c.self.view_is slot (fits g.O.OpClass.meaning s c.self.invariant.0 seat) both.0),
      subst (λ (t : Table). t.clock + 1 ≡ 2 ^ 48) (sym (table_is s c.args.self.now c.self.view_is seat)) both.1,
    )

pub returns-in_err-out-clause-full_where : goal.returns-in_err-out-clause-full_where
returns-in_err-out-clause-full_where g c = λ h.
    let s = c.self.inside in
    let seat = c.args.seat in
    let told : FindsNoPageFor g.O.OpClass.meaning s.table seat (stage_of (get_or s.slots.items seat Free)) = search rules in
    finds_seen g.O.OpClass.meaning s c.args.self.now c.self.view_is seat told

pub returns-in_err-out-clause-clock_where : goal.returns-in_err-out-clause-clock_where
returns-in_err-out-clause-clock_where g c = λ h.
    let s = c.self.inside in
    let seat = c.args.seat in
    let told : TicksFor g.O.OpClass.meaning s.table (stage_of (get_or s.slots.items seat Free)) = search rules in
    ticks_seen g.O.OpClass.meaning s c.args.self.now c.self.view_is seat told

pub returns-in_err-out-clause-clock_first : goal.returns-in_err-out-clause-clock_first
returns-in_err-out-clause-clock_first g c = λ ticks last.
    let s = c.self.inside in
    let seat = c.args.seat in
    let slot : TicksFor g.O.OpClass.meaning s.table (stage_of (get_or s.slots.items seat Free)) = ticks_kept g.O.OpClass.meaning s c.args.self.now c.self.view_is seat ticks in
    let end : s.table.clock + 1 ≡ 2 ^ 48 = ap (λ (t : Table). t.clock + 1) (sym (table_is s c.args.self.now c.self.view_is 0)) ∙ last in
    search rules

pub returns-in_err-out-clause-no_page : goal.returns-in_err-out-clause-no_page
returns-in_err-out-clause-no_page g c = λ none apart.
    let m = g.O.OpClass.meaning in
    let s = c.self.inside in
    let seat = c.args.seat in
    let full : FindsNoPageFor m s.table seat (stage_of (get_or s.slots.items seat Free)) = finds_kept m s c.args.self.now c.self.view_is seat none in
    let off : TicksFor m s.table (stage_of (get_or s.slots.items seat Free)) → s.table.clock + 1 ≡ 2 ^ 48 → ⊥ = λ ticks last. apart (ticks_seen m s c.args.self.now c.self.view_is seat ticks) (ap (λ (t : Table). t.clock + 1) (table_is s c.args.self.now c.self.view_is 0) ∙ last) in
    let short = c.in_err-out.ensures.no_page full off in
    search (rules, short)

pub returns-clause-no_page : goal.returns-clause-no_page
returns-clause-no_page g c = λ none apart.
    let m = g.O.OpClass.meaning in
    let s = c.self.inside in
    let seat = c.args.seat in
    let full : FindsNoPageFor m s.table seat (stage_of (get_or s.slots.items seat Free)) = finds_kept m s c.args.self.now c.self.view_is seat none in
    let off : TicksFor m s.table (stage_of (get_or s.slots.items seat Free)) → s.table.clock + 1 ≡ 2 ^ 48 → ⊥ = λ ticks last. apart (ticks_seen m s c.args.self.now c.self.view_is seat ticks) (ap (λ (t : Table). t.clock + 1) (table_is s c.args.self.now c.self.view_is 0) ∙ last) in
    let short = c.in_ok-out.ensures.no_page full off in
    search (rules, short)

pub returns-clause-clock_first : goal.returns-clause-clock_first
returns-clause-clock_first g c = λ ticks last.
    let s = c.self.inside in
    let seat = c.args.seat in
    let slot : TicksFor g.O.OpClass.meaning s.table (stage_of (get_or s.slots.items seat Free)) = ticks_kept g.O.OpClass.meaning s c.args.self.now c.self.view_is seat ticks in
    let end : s.table.clock + 1 ≡ 2 ^ 48 = ap (λ (t : Table). t.clock + 1) (sym (table_is s c.args.self.now c.self.view_is 0)) ∙ last in
    search rules

pub returns-in_err-out-clause-within : goal.returns-in_err-out-clause-within
returns-in_err-out-clause-within g c =
    let same : c.step_slot.new.table ≡ c.args.self.now.table = c.in_err-out.ensures.err ∙ sym (table_is c.self.inside c.args.self.now c.self.view_is 0) in
    subst (λ (t : Table). ChangesHeld c.args.self.now.table t c.args.seat) (sym same) (λ b. inl refl)

pub returns-in_err-out-clause-others : goal.returns-in_err-out-clause-others
returns-in_err-out-clause-others g c =
    let same : c.step_slot.new.table ≡ c.args.self.now.table = c.in_err-out.ensures.err ∙ sym (table_is c.self.inside c.args.self.now c.self.view_is 0) in
    subst (λ (t : Table). OthersHold c.args.self.now.table t c.args.seat) (sym same) (λ other b apart. (λ h. h, λ h. h))

pub end_insert-row-requires-clause-seats : goal.end_insert-row-requires-clause-seats
end_insert-row-requires-clause-seats g c =
    let s = c.self.inside in
    steps_length g.O.OpClass.meaning g.O.OpClass.codes s c.self.invariant.0 c.args.seat (get_or s.slots.items c.args.seat Free) c.step_slot.new.table c.step_slot.new.slots.items c.in_ok-out.out c.in_ok-out.ensures.ok

pub end_insert-row-requires-clause-insert : goal.end_insert-row-requires-clause-insert
end_insert-row-requires-clause-insert g c =
    let m = g.O.OpClass.meaning in
    let s = c.self.inside in
    let seat = c.args.seat in
    let slot = get_or s.slots.items seat Free in
    let was = inserting_open (stage_of slot) (subst (λ (x : Stage _ _ _ _). IsInserting x) (stage_is s c.args.self.now c.self.view_is seat) c.requires.inserting) in
    let there : seat < length s.slots.items = omega (arith, seats m s c.self.invariant.0, low m s c.self.invariant.0 seat was) in
    steps_insert m g.O.OpClass.codes s c.self.invariant.0 seat slot c.step_slot.new.table c.step_slot.new.slots.items c.in_ok-out.out there c.in_ok-out.ensures.ok

pub put-requires : goal.put-requires
put-requires g c =
    let m = g.O.OpClass.meaning in
    let s = c.self.inside in
    let seat = c.args.seat in
    let slot = get_or s.slots.items seat Free in
    let put : c.in_ok-out.out ≡ outs.Put = c.has_ended.ensures.0 c.if-has_ended.true in
    let steps = subst (λ (o : InsertOut). StepsFrom m s.table c.step_slot.new.table s.slots.items c.step_slot.new.slots.items seat o slot) put c.in_ok-out.ensures.ok in
    let was = inserting_open (stage_of slot) (subst (λ (x : Stage _ _ _ _). IsInserting x) (stage_is s c.args.self.now c.self.view_is seat) c.requires.inserting) in
    let there : seat < length s.slots.items = omega (arith, seats m s c.self.invariant.0, low m s c.self.invariant.0 seat was) in
    row_claimed m g.O.OpClass.codes s c.self.invariant.0 seat slot c.end_insert-row.result (fits m s c.self.invariant.0 seat) (put_row m g.O.OpClass.codes s c.self.invariant.0 seat slot c.step_slot.new.table c.step_slot.new.slots.items c.end_insert-row.result there steps c.end_insert-row.ensures.row)

pub append-requires : goal.append-requires
append-requires g c =
    let s = c.self.inside in
    let seat = c.args.seat in
    room_left g.O.OpClass.meaning s c.self.invariant.0 seat (inserting_open (stage_of (get_or s.slots.items seat Free)) (subst (λ (x : Stage _ _ _ _). IsInserting x) (stage_is s c.args.self.now c.self.view_is seat) c.requires.inserting))

pub invariant_of-self-then-has_ended : goal.invariant_of-self-then-has_ended
invariant_of-self-then-has_ended g c =
    let m = g.O.OpClass.meaning in
    let s = c.self.inside in
    let seat = c.args.seat in
    let slot = get_or s.slots.items seat Free in
    let put : c.in_ok-out.out ≡ outs.Put = c.has_ended.ensures.0 c.if-has_ended.true in
    let steps = subst (λ (o : InsertOut). StepsFrom m s.table c.step_slot.new.table s.slots.items c.step_slot.new.slots.items seat o slot) put c.in_ok-out.ensures.ok in
    let was = inserting_open (stage_of slot) (subst (λ (x : Stage _ _ _ _). IsInserting x) (stage_is s c.args.self.now c.self.view_is seat) c.requires.inserting) in
    let there : seat < length s.slots.items = omega (arith, seats m s c.self.invariant.0, low m s c.self.invariant.0 seat was) in
    let row = put_row m g.O.OpClass.codes s c.self.invariant.0 seat slot c.step_slot.new.table c.step_slot.new.slots.items c.end_insert-row.result there steps c.end_insert-row.ensures.row in (
      kept_put m g.O.OpClass.codes s c.self.invariant.0 seat slot c.step_slot.new.table c.put.new.self c.step_slot.new.slots c.end_insert-row.new.slots c.append.new.self c.end_insert-row.result refl steps row
          c.end_insert-row.ensures.items c.put.ensures.state c.put.ensures.key c.append.ensures.events c.append.ensures.spare,
      puts_bounded m s c.self.invariant.0 c.self.invariant.1 g.O.OpClass.adds g.O.OpClass.splits seat slot refl c.end_insert-row.result c.step_slot.new.slots.items c.end_insert-row.new.slots.items _ steps c.end_insert-row.ensures.items refl refl c.append.ensures.events,
    )

pub invariant_of-self-else-has_ended : goal.invariant_of-self-else-has_ended
invariant_of-self-else-has_ended g c =
    let m = g.O.OpClass.meaning in
    let s = c.self.inside in
    let seat = c.args.seat in
    let slot = get_or s.slots.items seat Free in
    let other : c.in_ok-out.out ≡ outs.Put → ⊥ = λ e. false≢true (sym c.if-has_ended.false ∙ c.has_ended.ensures.1 e) in (
      kept_step m g.O.OpClass.codes s c.self.invariant.0 seat c.in_ok-out.out slot c.step_slot.new.table c.step_slot.new.slots refl other c.in_ok-out.ensures.ok,
      step_bounded m s c.self.invariant.0 c.self.invariant.1 g.O.OpClass.adds g.O.OpClass.splits seat slot refl c.in_ok-out.out other c.step_slot.new.slots.items _ c.in_ok-out.ensures.ok refl refl refl,
    )

pub returns-clause-ok : goal.returns-clause-ok
returns-clause-ok g c =
    let m = g.O.OpClass.meaning in
    let s = c.self.inside in
    let seen = c.args.self.now in
    let seat = c.args.seat in
    let slot = get_or s.slots.items seat Free in
    let stage = stage_is s seen c.self.view_is seat in
    let was = inserting_open (stage_of slot) (subst (λ (x : Stage _ _ _ _). IsInserting x) stage c.requires.inserting) in
    let there : seat < length s.slots.items = omega (arith, seats m s c.self.invariant.0, low m s c.self.invariant.0 seat was) in
    subst (λ (x : Stage _ _ _ _). IsOutOf seen c.if-has_ended.self seat c.in_ok-out.out x) (sym stage) (elim c.if-has_ended.branch [
      | then-has_ended w ↦
          let put : c.in_ok-out.out ≡ outs.Put = c.has_ended.ensures.0 w.if-has_ended.true in
          let steps = subst (λ (o : InsertOut). StepsFrom m s.table c.step_slot.new.table s.slots.items c.step_slot.new.slots.items seat o slot) put c.in_ok-out.ensures.ok in
          let row = put_row m g.O.OpClass.codes s c.self.invariant.0 seat slot c.step_slot.new.table c.step_slot.new.slots.items w.end_insert-row.result there steps w.end_insert-row.ensures.row in
          subst (λ (o : InsertOut). IsOutOf seen c.if-has_ended.self seat o (stage_of slot)) (sym put)
          (subst (λ (v : Seen _ _ _ _). IsOutOf seen v seat outs.Put (stage_of slot)) (sym w.self-is)
          (seen_put m g.O.OpClass.codes s c.self.invariant.0 seat seen c.self.view_is slot c.step_slot.new.table c.step_slot.new.slots.items w.end_insert-row.new.slots.items w.end_insert-row.result w.append.new.self.events refl steps row w.end_insert-row.ensures.items w.append.ensures.events))
      | else-has_ended w ↦
          let other : c.in_ok-out.out ≡ outs.Put → ⊥ = λ e. false≢true (sym w.if-has_ended.false ∙ c.has_ended.ensures.1 e) in
          subst (λ (v : Seen _ _ _ _). IsOutOf seen v seat c.in_ok-out.out (stage_of slot)) (sym w.self-is)
          (seen_step m g.O.OpClass.codes s c.self.invariant.0 seat seen c.self.view_is c.in_ok-out.out slot c.step_slot.new.table c.step_slot.new.slots.items refl other c.in_ok-out.ensures.ok)
    ])

pub returns-clause-told : goal.returns-clause-told
returns-clause-told g c =
    let m = g.O.OpClass.meaning in
    let s = c.self.inside in
    let seen = c.args.self.now in
    let seat = c.args.seat in
    let slot = get_or s.slots.items seat Free in
    subst (λ (x : Stage _ _ _ _). TellsFor m seen c.if-has_ended.self seat c.in_ok-out.out x) (sym (stage_is s seen c.self.view_is seat)) (elim c.if-has_ended.branch [
      | then-has_ended w ↦
          let put : c.in_ok-out.out ≡ outs.Put = c.has_ended.ensures.0 w.if-has_ended.true in
          let steps = subst (λ (o : InsertOut). StepsFrom m s.table c.step_slot.new.table s.slots.items c.step_slot.new.slots.items seat o slot) put c.in_ok-out.ensures.ok in
          subst (λ (o : InsertOut). TellsFor m seen c.if-has_ended.self seat o (stage_of slot)) (sym put)
          (subst (λ (v : Seen _ _ _ _). TellsFor m seen v seat outs.Put (stage_of slot)) (sym w.self-is)
          (tells_put m g.O.OpClass.codes s c.self.invariant.0 seat seen c.self.view_is slot c.step_slot.new.table c.step_slot.new.slots.items w.end_insert-row.new.slots.items w.append.new.self.events refl steps w.end_insert-row.ensures.items))
      | else-has_ended w ↦
          let other : c.in_ok-out.out ≡ outs.Put → ⊥ = λ e. false≢true (sym w.if-has_ended.false ∙ c.has_ended.ensures.1 e) in
          subst (λ (v : Seen _ _ _ _). TellsFor m seen v seat c.in_ok-out.out (stage_of slot)) (sym w.self-is)
          (tells_step m g.O.OpClass.codes s c.self.invariant.0 seat seen c.self.view_is c.in_ok-out.out slot c.step_slot.new.table c.step_slot.new.slots.items refl other c.in_ok-out.ensures.ok)
    ])

pub returns-clause-changes : goal.returns-clause-changes
returns-clause-changes g c =
    let m = g.O.OpClass.meaning in
    let s = c.self.inside in
    let seen = c.args.self.now in
    let seat = c.args.seat in
    let slot = get_or s.slots.items seat Free in
    let changed = changes_step m s seat seen c.self.view_is c.in_ok-out.out slot c.step_slot.new.table c.step_slot.new.slots.items (fits m s c.self.invariant.0 seat) c.in_ok-out.ensures.ok in
    elim c.if-has_ended.branch [
      | then-has_ended w ↦ subst (λ (v : Seen _ _ _ _). ChangesPages m (past_of seen) seat (sheets_of seen.table) (sheets_of v.table) v.table.touched 0) (sym w.self-is) changed
      | else-has_ended w ↦ subst (λ (v : Seen _ _ _ _). ChangesPages m (past_of seen) seat (sheets_of seen.table) (sheets_of v.table) v.table.touched 0) (sym w.self-is) changed
    ]

pub returns-clause-latches : goal.returns-clause-latches
returns-clause-latches g c =
    let m = g.O.OpClass.meaning in
    let s = c.self.inside in
    let seen = c.args.self.now in
    let seat = c.args.seat in
    let slot = get_or s.slots.items seat Free in
    elim c.if-has_ended.branch [
      | then-has_ended w ↦
          let put : c.in_ok-out.out ≡ outs.Put = c.has_ended.ensures.0 w.if-has_ended.true in
          let steps = subst (λ (o : InsertOut). StepsFrom m s.table c.step_slot.new.table s.slots.items c.step_slot.new.slots.items seat o slot) put c.in_ok-out.ensures.ok in
          subst (λ (o : InsertOut). LatchesAfter c.if-has_ended.self seat o) (sym put) (subst (λ (v : Seen _ _ _ _). HasNone v.table seat) (sym w.self-is) (latches_put m g.O.OpClass.codes s c.self.invariant.0 seat seen c.self.view_is slot c.step_slot.new.table c.step_slot.new.slots.items refl steps))
      | else-has_ended w ↦
          let other : c.in_ok-out.out ≡ outs.Put → ⊥ = λ e. false≢true (sym w.if-has_ended.false ∙ c.has_ended.ensures.1 e) in
          subst (λ (v : Seen _ _ _ _). LatchesAfter v seat c.in_ok-out.out) (sym w.self-is)
          (latches_step m g.O.OpClass.codes s c.self.invariant.0 seat seen c.self.view_is c.in_ok-out.out slot c.step_slot.new.table c.step_slot.new.slots.items refl other c.in_ok-out.ensures.ok)
    ]

pub returns-clause-others : goal.returns-clause-others
returns-clause-others g c =
    let s = c.self.inside in
    let seen = c.args.self.now in
    let seat = c.args.seat in
    let others = others_step g.O.OpClass.meaning g.O.OpClass.codes s c.self.invariant.0 seat seen c.self.view_is c.in_ok-out.out (get_or s.slots.items seat Free) c.step_slot.new.table c.step_slot.new.slots.items refl c.in_ok-out.ensures.ok in
    elim c.if-has_ended.branch [
      | then-has_ended w ↦ subst (λ (v : Seen _ _ _ _). OthersHold seen.table v.table seat) (sym w.self-is) others
      | else-has_ended w ↦ subst (λ (v : Seen _ _ _ _). OthersHold seen.table v.table seat) (sym w.self-is) others
    ]

pub returns-in_err-out-clause-grows : goal.returns-in_err-out-clause-grows
returns-in_err-out-clause-grows g c =
    let same : c.step_slot.new.table ≡ c.args.self.now.table = c.in_err-out.ensures.err ∙ sym (table_is c.self.inside c.args.self.now c.self.view_is 0) in
    grows_as c.args.self.now.table c.step_slot.new.table (ap sheets_of same, ap (λ t. t.limit) same)

pub returns-clause-grows : goal.returns-clause-grows
returns-clause-grows g c =
    let s = c.self.inside in
    let seen = c.args.self.now in
    let seat = c.args.seat in
    let grows = grows_step g.O.OpClass.meaning g.O.OpClass.codes s c.self.invariant.0 seat seen c.self.view_is c.in_ok-out.out (get_or s.slots.items seat Free) c.step_slot.new.table c.step_slot.new.slots.items refl c.in_ok-out.ensures.ok in
    elim c.if-has_ended.branch [
      | then-has_ended w ↦ subst (λ (v : Seen _ _ _ _). Grows seen.table v.table) (sym w.self-is) grows
      | else-has_ended w ↦ subst (λ (v : Seen _ _ _ _). Grows seen.table v.table) (sym w.self-is) grows
    ]

pub returns-clause-within : goal.returns-clause-within
returns-clause-within g c =
    let s = c.self.inside in
    let seen = c.args.self.now in
    let seat = c.args.seat in
    let changes = within_step g.O.OpClass.meaning g.O.OpClass.codes s c.self.invariant.0 seat seen c.self.view_is c.in_ok-out.out (get_or s.slots.items seat Free) c.step_slot.new.table c.step_slot.new.slots.items refl c.in_ok-out.ensures.ok in
    elim c.if-has_ended.branch [
      | then-has_ended w ↦ subst (λ (v : Seen _ _ _ _). ChangesHeld seen.table v.table seat) (sym w.self-is) changes
      | else-has_ended w ↦ subst (λ (v : Seen _ _ _ _). ChangesHeld seen.table v.table seat) (sym w.self-is) changes
    ]

pub returns-clause-makes : goal.returns-clause-makes
returns-clause-makes g c =
    let s = c.self.inside in
    let seen = c.args.self.now in
    let seat = c.args.seat in
    let made = makes_step g.O.OpClass.meaning g.O.OpClass.codes s c.self.invariant.0 seat seen c.self.view_is c.in_ok-out.out (get_or s.slots.items seat Free) c.step_slot.new.table c.step_slot.new.slots.items c.in_ok-out.ensures.ok in
    elim c.if-has_ended.branch [
      | then-has_ended w ↦ subst (λ (v : Seen _ _ _ _). MakesAtMostOne seen.table v.table) (sym w.self-is) made
      | else-has_ended w ↦ subst (λ (v : Seen _ _ _ _). MakesAtMostOne seen.table v.table) (sym w.self-is) made
    ]

pub returns-clause-ends : goal.returns-clause-ends
returns-clause-ends g c =
    let m = g.O.OpClass.meaning in
    let s = c.self.inside in
    let seen = c.args.self.now in
    let seat = c.args.seat in
    let slot = get_or s.slots.items seat Free in
    elim c.if-has_ended.branch [
      | then-has_ended w ↦
          let put : c.in_ok-out.out ≡ outs.Put = c.has_ended.ensures.0 w.if-has_ended.true in
          subst (λ (o : InsertOut). (n : ℕ) → SeatEnds m seen seat (suc n) → SeatThenEnds m c.if-has_ended.self seat n o) (sym put) (λ n h. tt)
      | else-has_ended w ↦
          let other : c.in_ok-out.out ≡ outs.Put → ⊥ = λ e. false≢true (sym w.if-has_ended.false ∙ c.has_ended.ensures.1 e) in
          subst (λ (v : Seen _ _ _ _). (n : ℕ) → SeatEnds m seen seat (suc n) → SeatThenEnds m v seat n c.in_ok-out.out) (sym w.self-is)
          (ends_step m g.O.OpClass.codes s c.self.invariant.0 seat seen c.self.view_is c.in_ok-out.out slot c.step_slot.new.table c.step_slot.new.slots.items refl other c.in_ok-out.ensures.ok)
    ]

pub returns-clause-call : goal.returns-clause-call
returns-clause-call g c =
    let m = g.O.OpClass.meaning in
    let s = c.self.inside in
    let seen = c.args.self.now in
    let seat = c.args.seat in
    let slot = get_or s.slots.items seat Free in
    let was = inserting_open (stage_of slot) (subst (λ (x : Stage _ _ _ _). IsInserting x) (stage_is s seen c.self.view_is seat) c.requires.inserting) in
    let there : seat < length s.slots.items = omega (arith, seats m s c.self.invariant.0, low m s c.self.invariant.0 seat was) in
    elim c.if-has_ended.branch [
      | then-has_ended w ↦
          let put : c.in_ok-out.out ≡ outs.Put = c.has_ended.ensures.0 w.if-has_ended.true in
          let steps = subst (λ (o : InsertOut). StepsFrom m s.table c.step_slot.new.table s.slots.items c.step_slot.new.slots.items seat o slot) put c.in_ok-out.ensures.ok in
          let row = put_row m g.O.OpClass.codes s c.self.invariant.0 seat slot c.step_slot.new.table c.step_slot.new.slots.items w.end_insert-row.result there steps w.end_insert-row.ensures.row in
          subst (λ (o : InsertOut). Inserts m seen c.if-has_ended.self seat o) (sym put)
          (subst (λ (v : Seen _ _ _ _). Inserts m seen v seat outs.Put) (sym w.self-is)
          (put_call m s c.self.invariant.0 seat seen c.self.view_is slot c.step_slot.new.table c.step_slot.new.slots.items w.end_insert-row.new.slots.items w.end_insert-row.result w.append.new.self.events refl steps row w.end_insert-row.ensures.items w.append.ensures.events))
      | else-has_ended w ↦
          let other : c.in_ok-out.out ≡ outs.Put → ⊥ = λ e. false≢true (sym w.if-has_ended.false ∙ c.has_ended.ensures.1 e) in
          subst (λ (v : Seen _ _ _ _). Inserts m seen v seat c.in_ok-out.out) (sym w.self-is)
          (step_call m s c.self.invariant.0 seat seen c.self.view_is c.in_ok-out.out slot c.step_slot.new.table c.step_slot.new.slots.items refl other c.in_ok-out.ensures.ok)
    ]
