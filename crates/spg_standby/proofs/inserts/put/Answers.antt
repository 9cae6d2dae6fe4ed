use Rattle.std.proofs.Common.{ℕ, ◌≡◌, ◌^◌, rules, refl, subst, arith}
use Rattle.spg_forest.proofs.Ranks.{each_is_ranked}
use Rattle.spg_tree.specs.Table.{Table, IsSound}
use Rattle.spg_core.specs.declared.answer.InsertOut.TheVariants.{Put, Restarted}
use Rattle.spg_core.specs.Sections.{IsHeavy}
use Rattle.spg_core.specs.Ends.{SeatEnds}
use Rattle.spg_core.specs.Through.{StillInserts}
use Rattle.spg_core.proofs.Growing.{grows_as, grows_then}
use Rattle.spg_core.proofs.Going.{still_there, goes_further, goes_inserting, puts, restarted_by, ends_from, few_sections, one_comes, fewer_come}
use Rattle.spg_whole.proofs.Going.{outgrown}
use Rattle.spg_standby.proofs.Noting.{noted_insert}
use Rattle.spg_standby.proofs.Writes.{others_still}
use Rattle.spg_standby.proofs.inserts.put.Goals as goal

pub loop-turn-init : goal.loop-turn-init
loop-turn-init g c =
    let t = c.args.state.now.table in
    let (k, most, now) = ends_from g.O.OpClass.meaning (each_is_ranked g.O.OpClass.meaning) c.args.state.now c.args.seat c.pages.ensures.represents.shape c.requires.inserting in
    let sound : IsSound t = subst (λ (z : Table). IsSound z) c.pages.ensures.value c.page_count-count.ensures.sound in
    record {
      paired = c.requires.paired;
      idle = c.requires.idle;
      place = c.requires.place;
      lag = refl;
      goes = still_there c.args.state.now c.args.seat;
      inserting = c.requires.inserting;
      grows = grows_as t t (refl, refl);
      ends = (k, few_sections t k sound most, now);
    }

pub returns-in-Put-clause-paired : goal.returns-in-Put-clause-paired
returns-in-Put-clause-paired g c =
    noted_insert g.O.OpClass.meaning c.loop-turn.state c.insert_step.new.self c.follow.new.standby.queue.records.items c.ready.new.queue.records.items c.note.new.queue.records.items c.ready.ensures.items c.note.ensures.items c.tells.ensures.tells c.tells-in-loop-turn.ensures.tells c.args.seat c.in_ok-out.out c.tells.ensures.fits c.in_ok-out.ensures.ok c.in_ok-out.ensures.told c.insert_step.ensures.grows c.follow.new.standby.follower c.follow.ensures.paired

pub returns-in-Put-clause-ok : goal.returns-in-Put-clause-ok
returns-in-Put-clause-ok g c = puts c.args.state.now c.loop-turn.state c.insert_step.new.self c.args.seat c.in_ok-out.out c.loop-turn.invariant.goes c.in_ok-out.ensures.ok c.in-Put.is

pub returns-in-Put-clause-grows : goal.returns-in-Put-clause-grows
returns-in-Put-clause-grows g c = grows_then c.args.state.now.table c.loop-turn.state.table c.insert_step.new.self.table c.loop-turn.invariant.grows c.insert_step.ensures.grows

pub returns-in_err-out-clause-full : goal.returns-in_err-out-clause-full
returns-in_err-out-clause-full g c = λ full.
    let still : StillInserts c.args.state.now c.insert_step.new.self c.args.seat = search rules in
    let is = c.insert_step.ensures.full (search rules) in
    let heavy : IsHeavy g.O.OpClass.meaning c.insert_step.new.self c.args.seat = search rules in
    (outgrown g.O.OpClass.meaning c.args.state.now c.insert_step.new.self c.args.seat still heavy, search rules)

pub returns-in_err-out-clause-clock : goal.returns-in_err-out-clause-clock
returns-in_err-out-clause-clock g c = λ full.
    let still : StillInserts c.args.state.now c.insert_step.new.self c.args.seat = search rules in
    let is = c.insert_step.ensures.clock (search rules) in
    let heavy : IsHeavy g.O.OpClass.meaning c.insert_step.new.self c.args.seat = search rules in
    (outgrown g.O.OpClass.meaning c.args.state.now c.insert_step.new.self c.args.seat still heavy, search rules)

pub unreachable-requires : goal.unreachable-requires
unreachable-requires g c =
    let no_put : c.in_ok-out.out ≡ Put → ⊥ = search rules in
    let (latched, other) = restarted_by c.loop-turn.state c.insert_step.new.self c.args.seat c.in_ok-out.out c.in-Restarted.block c.in-Restarted.by c.in_ok-out.ensures.ok c.in-Restarted.is c.insert_step.ensures.others in
    other (c.only_own.ensures (others_still c.args.state.now c.insert_step.new.self c.args.seat c.requires.alone (goes_further c.args.state.now c.loop-turn.state c.insert_step.new.self c.args.seat c.in_ok-out.out c.loop-turn.invariant.goes c.in_ok-out.ensures.ok no_put)) latched)

pub loop-turn-preserved : goal.loop-turn-preserved
loop-turn-preserved g c =
    let no_put : c.in_ok-out.out ≡ Put → ⊥ = search rules in
    let no_restart : (block by : ℕ) → c.in_ok-out.out ≡ Restarted block by → ⊥ = λ block by is. search rules in
    record {
      paired = noted_insert g.O.OpClass.meaning c.loop-turn.state c.insert_step.new.self c.follow.new.standby.queue.records.items c.ready.new.queue.records.items c.note.new.queue.records.items c.ready.ensures.items c.note.ensures.items c.tells.ensures.tells c.tells-in-loop-turn.ensures.tells c.args.seat c.in_ok-out.out c.tells.ensures.fits c.in_ok-out.ensures.ok c.in_ok-out.ensures.told c.insert_step.ensures.grows c.follow.new.standby.follower c.follow.ensures.paired;
      idle = c.follow.ensures.idle;
      place = (let a = c.note.ensures.len in let b = c.note.ensures.capacity in let d = c.in_ok-room.ensures.places in omega arith);
      lag = search rules;
      goes = goes_further c.args.state.now c.loop-turn.state c.insert_step.new.self c.args.seat c.in_ok-out.out c.loop-turn.invariant.goes c.in_ok-out.ensures.ok no_put;
      inserting = goes_inserting c.loop-turn.state c.insert_step.new.self c.args.seat c.in_ok-out.out c.in_ok-out.ensures.ok no_put;
      grows = grows_then c.args.state.now.table c.loop-turn.state.table c.insert_step.new.self.table c.loop-turn.invariant.grows c.insert_step.ensures.grows;
      ends =
          let (k, few, now) = c.loop-turn.invariant.ends in
          fewer_come g.O.OpClass.meaning c.loop-turn.state c.insert_step.new.self c.args.seat k c.loop-turn._turn (2 ^ 64) c.in_ok-out.out few now c.in_ok-out.ensures.ends no_put no_restart;
    }

pub unreachable-requires-2 : goal.unreachable-requires-2
unreachable-requires-2 g c =
    let (k, few, now) = c.loop-turn.invariant.ends in
    let none : k ≡ 0 = omega arith in
    one_comes g.O.OpClass.meaning c.loop-turn.state c.args.seat (subst (λ (n : ℕ). SeatEnds g.O.OpClass.meaning c.loop-turn.state c.args.seat n) none now)
