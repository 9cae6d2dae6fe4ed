use Rattle.std.proofs.Common.{map, ap₂, ◌∷◌, ◌++◌, ◌<◌, ◌^◌, [], List, length, get_or, refl, sym, ap, ◌∙◌, subst, arith, Contains}
use Rattle.std.specs.BTreeSet.{contains}
use Rattle.spg_base.specs.Row.{row_cmp}
use Rattle.spg_rows.specs.declared.event.Event.TheVariants.{CloseVacuum}
use Rattle.spg_rows.specs.Count.{IsOnce}
use Rattle.spg_rows.specs.Vacuums.{newest_ends}
use Rattle.spg_seats.specs.Opening.{sweeps}
use Rattle.spg_core.specs.declared.slot.Slot.TheVariants as slot
use Rattle.spg_core.specs.Stage.{IsSweeping}
use Rattle.spg_core.specs.Sweeping.{SetsSwept, LeaveSet}
use Rattle.spg_core.specs.Slot.{stage_of}
use Rattle.spg_core.proofs.Slots.{seen_as, stage_is}
use Rattle.spg_core.proofs.Steps.{with_fields, kept_with, kept_same}
use Rattle.spg_core.proofs.Vacuumed as vacuumed
use Rattle.spg_core.proofs.Bounding.{same_bounded, finish_bounded, sweep_bounded, latched_bounded}
use Rattle.spg_core.proofs.Calling.{finish_call, going_call, latched_call, vacuums_seen, pages_seen}
use Rattle.spg_core.proofs.kept.Kept.sweep.Goals as goal

pub sweep_slot-requires-clause-vacuum : goal.sweep_slot-requires-clause-vacuum
sweep_slot-requires-clause-vacuum g c =
    let s = c.self.inside in
    let seat = c.args.seat in
    vacuumed.can_sweep g.O.OpClass.meaning s c.self.invariant.0 seat (get_or s.slots.items seat slot.Free) refl (subst IsSweeping (stage_is s c.args.self.now c.self.view_is seat) c.requires.sweeping)

pub invariant_of-self-in_err-stepped : goal.invariant_of-self-in_err-stepped
invariant_of-self-in_err-stepped g c =
    let m = g.O.OpClass.meaning in
    let s = c.self.inside in
    let I = c.self.invariant.0 in
    let more = c.reserve.new.self in (
      kept_same m (with_fields m s s.table s.rows s.slots more) (kept_with m s I s.rows more refl c.reserve.ensures.events c.reserve.ensures.room) c.sweep_slot.new.table c.sweep_slot.new.slots c.in_err-stepped.ensures.err c.in_err-stepped.ensures.err_slots,
      same_bounded m s I c.self.invariant.1 _ (ap (λ j. seen_as j (map stage_of c.sweep_slot.new.slots.items) c.sweep_slot.new.table s.origin) c.reserve.ensures.events
          ∙ ap₂ (λ t l. seen_as s.journal.events (map stage_of l) t s.origin) c.in_err-stepped.ensures.err c.in_err-stepped.ensures.err_slots),
    )

pub set_slot-requires : goal.set_slot-requires
set_slot-requires g c =
    let s = c.self.inside in
    let seat = c.args.seat in
    vacuumed.sweeps_length g.O.OpClass.meaning s c.self.invariant.0 seat (get_or s.slots.items seat slot.Free) c.sweep_slot.new.table c.sweep_slot.new.slots.items c.in_ok-stepped.stepped c.in_ok-stepped.ensures.ok

pub invariant_of-self-in-Finished : goal.invariant_of-self-in-Finished
invariant_of-self-in-Finished g c =
    let m = g.O.OpClass.meaning in
    let s = c.self.inside in
    let I = c.self.invariant.0 in
    let seat = c.args.seat in
    let events = c.append.ensures.events ∙ ap (λ j. j ++ CloseVacuum seat c.in-Finished.swept ∷ []) c.reserve.ensures.events in
    let at = c.len.ensures ∙ ap length c.reserve.ensures.events in
    let room = vacuumed.room_ended m s I seat (get_or s.slots.items seat slot.Free) c.sweep_slot.new.table c.sweep_slot.new.slots.items c.set_slot.new.slots.items c.in_ok-stepped.stepped c.reserve.new.self.spare c.append.new.self.spare c.in_ok-stepped.ensures.ok c.set_slot.ensures.items c.in_ok-reserve.ensures.ok c.append.ensures.spare in (
      vacuumed.kept_finished m s I seat (get_or s.slots.items seat slot.Free) refl c.sweep_slot.new.table c.sweep_slot.new.slots c.set_slot.new.slots c.append.new.self c.end.new.self c.in_ok-stepped.stepped c.in-Finished.swept c.in-Finished.is c.in_ok-stepped.ensures.ok c.set_slot.ensures.items events
          (c.end.ensures ∙ ap (λ n. newest_ends n s.vacuums) at) room,
      finish_bounded m s I c.self.invariant.1 seat (get_or s.slots.items seat slot.Free) refl c.in_ok-stepped.stepped c.in-Finished.swept c.in-Finished.is c.sweep_slot.new.slots.items c.set_slot.new.slots.items _ c.in_ok-stepped.ensures.ok c.set_slot.ensures.items refl refl events,
    )

pub returns-in-Finished-clause-ok : goal.returns-in-Finished-clause-ok
returns-in-Finished-clause-ok g c =
    let m = g.O.OpClass.meaning in
    let s = c.self.inside in
    let I = c.self.invariant.0 in
    let seat = c.args.seat in
    let events = c.append.ensures.events ∙ ap (λ j. j ++ CloseVacuum seat c.in-Finished.swept ∷ []) c.reserve.ensures.events in
    vacuumed.seen_stage m s I seat c.args.self.now c.self.view_is _ c.in_ok-stepped.stepped.out
    (vacuumed.finished_seen m s I seat c.sweep_slot.new.table c.append.new.self.events (get_or s.slots.items seat slot.Free) refl c.sweep_slot.new.slots.items c.set_slot.new.slots.items c.in_ok-stepped.stepped c.in-Finished.swept c.in-Finished.is c.in_ok-stepped.ensures.ok c.set_slot.ensures.items events)

pub returns-in-Finished-clause-others : goal.returns-in-Finished-clause-others
returns-in-Finished-clause-others g c = (vacuumed.section_leaves g.O.OpClass.meaning c.self.inside c.self.invariant.0 c.args.seat c.args.self.now c.self.view_is (get_or c.self.inside.slots.items c.args.seat slot.Free) c.sweep_slot.new.table c.sweep_slot.new.slots.items c.in_ok-stepped.stepped c.in_ok-stepped.ensures.ok).0

pub returns-in-Finished-clause-within : goal.returns-in-Finished-clause-within
returns-in-Finished-clause-within g c = (vacuumed.section_leaves g.O.OpClass.meaning c.self.inside c.self.invariant.0 c.args.seat c.args.self.now c.self.view_is (get_or c.self.inside.slots.items c.args.seat slot.Free) c.sweep_slot.new.table c.sweep_slot.new.slots.items c.in_ok-stepped.stepped c.in_ok-stepped.ensures.ok).1

pub returns-in-Finished-clause-grows : goal.returns-in-Finished-clause-grows
returns-in-Finished-clause-grows g c = (vacuumed.section_leaves g.O.OpClass.meaning c.self.inside c.self.invariant.0 c.args.seat c.args.self.now c.self.view_is (get_or c.self.inside.slots.items c.args.seat slot.Free) c.sweep_slot.new.table c.sweep_slot.new.slots.items c.in_ok-stepped.stepped c.in_ok-stepped.ensures.ok).2

pub tell_sweeps-requires : goal.tell_sweeps-requires
tell_sweeps-requires g c =
    let s = c.self.inside in
    let seat = c.args.seat in
    let few = c.in_ok-stepped.ensures.few in
    let room = c.in_ok-reserve.ensures.ok in
    let length_is = ap length c.as_slice.ensures in
    let (once, killed) = vacuumed.swept_killed g.O.OpClass.meaning s c.self.invariant.0 seat (get_or s.slots.items seat slot.Free) c.sweep_slot.new.table c.sweep_slot.new.slots.items c.in_ok-stepped.stepped c.in_ok-stepped.ensures.ok in
    record {
      room = omega (arith, few, room, length_is);
      once = subst IsOnce (sym c.as_slice.ensures) once;
      killed = λ row h. killed row (subst (λ (rs : List _). Contains rs row) c.as_slice.ensures h);
    }

pub invariant_of-self-2 : goal.invariant_of-self-2
invariant_of-self-2 g c =
    let m = g.O.OpClass.meaning in
    let s = c.self.inside in
    let I = c.self.invariant.0 in
    let seat = c.args.seat in
    let stepped = c.in_ok-stepped.stepped in
    let events = c.tell_sweeps.ensures.events ∙ ap (λ j. j ++ sweeps seat c.as_slice.result.now) c.reserve.ensures.events ∙ ap (λ rs. s.journal.events ++ sweeps seat rs) c.as_slice.ensures in
    let spare = c.tell_sweeps.ensures.spare in
    let few = c.in_ok-stepped.ensures.few in
    let more = c.in_ok-reserve.ensures.ok in
    let length_is = ap length c.as_slice.ensures in
    let short : length c.tell_sweeps.new.journal.events < 2 ^ 64 = omega (arith, c.len-events.ensures) in (
      vacuumed.kept_swept m s I seat c.sweep_slot.new.table c.tell_sweeps.new.rows c.sweep_slot.new.slots c.tell_sweeps.new.journal c.tell_sweeps.new.targets stepped events short
          (subst (λ rs. SetsSwept s.rows c.tell_sweeps.new.rows stepped.opened rs) c.as_slice.ensures c.tell_sweeps.ensures.states)
          c.tell_sweeps.ensures.keys
          (subst (λ rs. LeaveSet (contains row_cmp s.targets.rows) (contains row_cmp c.tell_sweeps.new.targets.rows) rs) c.as_slice.ensures c.tell_sweeps.ensures.targets)
          (vacuumed.room_after m s I seat (get_or s.slots.items seat slot.Free) c.sweep_slot.new.table c.sweep_slot.new.slots.items stepped c.tell_sweeps.new.journal.spare c.in_ok-stepped.ensures.ok (omega (arith, spare, few, more, length_is)))
          (get_or s.slots.items seat slot.Free) refl c.in_default.not-Latched c.in_default-out.not-Finished c.in_ok-stepped.ensures.ok,
      sweep_bounded m s I c.self.invariant.1 seat (get_or s.slots.items seat slot.Free) refl stepped c.in_default-out.not-Finished c.sweep_slot.new.slots.items _ c.in_ok-stepped.ensures.ok refl refl events,
    )

pub returns : goal.returns
returns g c =
    let m = g.O.OpClass.meaning in
    let s = c.self.inside in
    let I = c.self.invariant.0 in
    let seat = c.args.seat in
    let stepped = c.in_ok-stepped.stepped in
    let events = c.tell_sweeps.ensures.events ∙ ap (λ j. j ++ sweeps seat c.as_slice.result.now) c.reserve.ensures.events ∙ ap (λ rs. s.journal.events ++ sweeps seat rs) c.as_slice.ensures in
    let leaves = vacuumed.section_leaves m s I seat c.args.self.now c.self.view_is (get_or s.slots.items seat slot.Free) c.sweep_slot.new.table c.sweep_slot.new.slots.items stepped c.in_ok-stepped.ensures.ok in
    record {
      ok = vacuumed.seen_stage m s I seat c.args.self.now c.self.view_is _ stepped.out
          (vacuumed.going_seen m s I seat c.sweep_slot.new.table c.tell_sweeps.new.journal.events (get_or s.slots.items seat slot.Free) refl c.sweep_slot.new.slots.items stepped c.in_default-out.not-Finished c.in_ok-stepped.ensures.ok events);
      call = vacuums_seen m s I seat c.args.self.now c.self.view_is _ stepped.out
          (going_call m s I seat c.sweep_slot.new.table c.tell_sweeps.new.journal.events (get_or s.slots.items seat slot.Free) refl c.sweep_slot.new.slots.items stepped c.in_default-out.not-Finished c.in_ok-stepped.ensures.ok events (omega (arith, c.len-events.ensures)));
      changes = pages_seen m s I seat c.args.self.now c.self.view_is (get_or s.slots.items seat slot.Free) refl (seen_as c.tell_sweeps.new.journal.events (map stage_of c.sweep_slot.new.slots.items) c.sweep_slot.new.table s.origin) c.sweep_slot.new.slots.items stepped c.in_ok-stepped.ensures.ok;
      others = leaves.0;
      within = leaves.1;
      grows = leaves.2;
      err = tt;
    }

pub invariant_of-self-in-Latched : goal.invariant_of-self-in-Latched
invariant_of-self-in-Latched g c =
    let m = g.O.OpClass.meaning in
    let s = c.self.inside in
    let I = c.self.invariant.0 in
    let seat = c.args.seat in
    let stepped = c.in_ok-stepped.stepped in
    let more = c.in_ok-reserve.ensures.ok in (
      vacuumed.kept_latched m s I seat (get_or s.slots.items seat slot.Free) refl c.sweep_slot.new.table c.sweep_slot.new.slots c.reserve.new.self stepped _ _ c.in-Latched.is c.in_ok-stepped.ensures.ok c.reserve.ensures.events
          (vacuumed.room_after m s I seat (get_or s.slots.items seat slot.Free) c.sweep_slot.new.table c.sweep_slot.new.slots.items stepped c.reserve.new.self.spare c.in_ok-stepped.ensures.ok (omega (arith, more))),
      latched_bounded m s I c.self.invariant.1 seat (get_or s.slots.items seat slot.Free) refl stepped _ _ c.in-Latched.is c.sweep_slot.new.slots.items _ c.in_ok-stepped.ensures.ok refl refl c.reserve.ensures.events,
    )

pub returns-in-Latched-clause-ok : goal.returns-in-Latched-clause-ok
returns-in-Latched-clause-ok g c =
    let m = g.O.OpClass.meaning in
    let s = c.self.inside in
    let I = c.self.invariant.0 in
    let seat = c.args.seat in
    let stepped = c.in_ok-stepped.stepped in
    vacuumed.seen_stage m s I seat c.args.self.now c.self.view_is _ stepped.out
    (vacuumed.latched_seen m s I seat c.sweep_slot.new.table c.reserve.new.self.events (get_or s.slots.items seat slot.Free) refl c.sweep_slot.new.slots.items stepped _ _ c.in-Latched.is c.in_ok-stepped.ensures.ok c.reserve.ensures.events)

pub returns-in-Latched-clause-others : goal.returns-in-Latched-clause-others
returns-in-Latched-clause-others g c = (vacuumed.section_leaves g.O.OpClass.meaning c.self.inside c.self.invariant.0 c.args.seat c.args.self.now c.self.view_is (get_or c.self.inside.slots.items c.args.seat slot.Free) c.sweep_slot.new.table c.sweep_slot.new.slots.items c.in_ok-stepped.stepped c.in_ok-stepped.ensures.ok).0

pub returns-in-Latched-clause-within : goal.returns-in-Latched-clause-within
returns-in-Latched-clause-within g c = (vacuumed.section_leaves g.O.OpClass.meaning c.self.inside c.self.invariant.0 c.args.seat c.args.self.now c.self.view_is (get_or c.self.inside.slots.items c.args.seat slot.Free) c.sweep_slot.new.table c.sweep_slot.new.slots.items c.in_ok-stepped.stepped c.in_ok-stepped.ensures.ok).1

pub returns-in-Latched-clause-grows : goal.returns-in-Latched-clause-grows
returns-in-Latched-clause-grows g c = (vacuumed.section_leaves g.O.OpClass.meaning c.self.inside c.self.invariant.0 c.args.seat c.args.self.now c.self.view_is (get_or c.self.inside.slots.items c.args.seat slot.Free) c.sweep_slot.new.table c.sweep_slot.new.slots.items c.in_ok-stepped.stepped c.in_ok-stepped.ensures.ok).2

pub returns-in-Latched-clause-call : goal.returns-in-Latched-clause-call
returns-in-Latched-clause-call g c =
    let m = g.O.OpClass.meaning in
    let s = c.self.inside in
    let I = c.self.invariant.0 in
    let seat = c.args.seat in
    let stepped = c.in_ok-stepped.stepped in
    vacuums_seen m s I seat c.args.self.now c.self.view_is _ stepped.out
    (latched_call m s I seat c.sweep_slot.new.table c.reserve.new.self.events (get_or s.slots.items seat slot.Free) refl c.sweep_slot.new.slots.items stepped _ _ c.in-Latched.is c.in_ok-stepped.ensures.ok c.reserve.ensures.events)

pub returns-in-Latched-clause-changes : goal.returns-in-Latched-clause-changes
returns-in-Latched-clause-changes g c = pages_seen g.O.OpClass.meaning c.self.inside c.self.invariant.0 c.args.seat c.args.self.now c.self.view_is (get_or c.self.inside.slots.items c.args.seat slot.Free) refl (seen_as c.reserve.new.self.events (map stage_of c.sweep_slot.new.slots.items) c.sweep_slot.new.table c.self.inside.origin) c.sweep_slot.new.slots.items c.in_ok-stepped.stepped c.in_ok-stepped.ensures.ok

pub returns-in-Finished-clause-call : goal.returns-in-Finished-clause-call
returns-in-Finished-clause-call g c =
    let m = g.O.OpClass.meaning in
    let s = c.self.inside in
    let I = c.self.invariant.0 in
    let seat = c.args.seat in
    let events = c.append.ensures.events ∙ ap (λ j. j ++ CloseVacuum seat c.in-Finished.swept ∷ []) c.reserve.ensures.events in
    vacuums_seen m s I seat c.args.self.now c.self.view_is _ c.in_ok-stepped.stepped.out
    (finish_call m s I seat c.sweep_slot.new.table c.append.new.self.events (get_or s.slots.items seat slot.Free) refl c.sweep_slot.new.slots.items c.set_slot.new.slots.items c.in_ok-stepped.stepped c.in-Finished.swept c.in-Finished.is c.in_ok-stepped.ensures.ok c.set_slot.ensures.items events)

pub returns-in-Finished-clause-changes : goal.returns-in-Finished-clause-changes
returns-in-Finished-clause-changes g c = pages_seen g.O.OpClass.meaning c.self.inside c.self.invariant.0 c.args.seat c.args.self.now c.self.view_is (get_or c.self.inside.slots.items c.args.seat slot.Free) refl (seen_as c.append.new.self.events (map stage_of c.set_slot.new.slots.items) c.sweep_slot.new.table c.self.inside.origin) c.sweep_slot.new.slots.items c.in_ok-stepped.stepped c.in_ok-stepped.ensures.ok
