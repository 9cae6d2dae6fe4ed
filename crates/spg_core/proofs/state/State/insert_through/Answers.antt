use Rattle.std.proofs.Common.{ℕ, ◌≡◌, ◌^◌, rules, refl, sym, subst, arith, inl}
use Rattle.spg_forest.proofs.Ranks.{each_is_ranked}
use Rattle.spg_tree.specs.Table.{Table, IsSound}
use Rattle.spg_core.specs.declared.answer.InsertOut.{InsertOut}
use Rattle.spg_core.specs.declared.answer.InsertOut.TheVariants.{Put, Restarted}
use Rattle.spg_core.specs.Seen.{Seen, stage_at}
use Rattle.spg_core.specs.Sections.{LatchesAfter}
use Rattle.spg_core.specs.Through.{DoesSection, StepsOn}
use Rattle.spg_core.specs.Ends.{SeatEnds}
use Rattle.spg_core.proofs.Growing.{grows_as, grows_then}
use Rattle.spg_core.proofs.Going.{still_there, goes_further, goes_inserting, puts, restarted_by, others_same, others_then, changes_then, ends_from, few_sections, one_comes, fewer_come, on_its_way, steps_none, steps_more, stay_same, stay_then}
use Rattle.spg_core.proofs.state.State.insert_through.Given.{Over}
use Rattle.spg_core.proofs.state.State.insert_through.Goals as goal
use Rattle.spg_core.proofs.state.State.insert_through.Goals.{In_ok-insert_step}

-- the section that was done
done : (g : Over) (c : In_ok-insert_step g) → DoesSection g.O.OpClass.meaning c.loop-turn.self c.insert_step.new.self c.args.seat c.in_ok-insert_step.field-0
done g c =
    let e = c.in_ok-insert_step.ensures in
    record {
      steps = record { ok = e.ok; told = e.told; latches = e.latches; makes = e.makes; ends = e.ends };
      changes = e.changes;
      others = c.insert_step.ensures.others;
      within = c.insert_step.ensures.within;
      grows = c.insert_step.ensures.grows;
    }

pub returns-in-Put-clause-ok : goal.returns-in-Put-clause-ok
returns-in-Put-clause-ok g c = (
  puts c.args.self.now c.loop-turn.self c.insert_step.new.self c.args.seat c.in_ok-insert_step.field-0 c.loop-turn.invariant.goes c.in_ok-insert_step.ensures.ok c.in-Put.is,
  subst (λ (o : InsertOut). LatchesAfter c.insert_step.new.self c.args.seat o) c.in-Put.is c.in_ok-insert_step.ensures.latches,
)

pub returns-in-Put-clause-steps : goal.returns-in-Put-clause-steps
returns-in-Put-clause-steps g c = (
  c.loop-turn.self,
  c.loop-turn.invariant.steps,
  subst (λ (o : InsertOut). DoesSection g.O.OpClass.meaning c.loop-turn.self c.insert_step.new.self c.args.seat o) c.in-Put.is (done g ((goal.at.returns-in-Put-clause-steps g c).In_ok-insert_step)),
)

pub returns-in-Put-clause-stay : goal.returns-in-Put-clause-stay
returns-in-Put-clause-stay g c = stay_then c.args.self.now c.loop-turn.self c.insert_step.new.self c.args.seat c.in_ok-insert_step.field-0 c.loop-turn.invariant.stay c.in_ok-insert_step.ensures.ok

pub returns-in-Put-clause-others : goal.returns-in-Put-clause-others
returns-in-Put-clause-others g c = others_then c.args.self.now.table c.loop-turn.self.table c.insert_step.new.self.table c.args.seat c.loop-turn.invariant.others c.insert_step.ensures.others

pub returns-in-Put-clause-within : goal.returns-in-Put-clause-within
returns-in-Put-clause-within g c = changes_then c.args.self.now.table c.loop-turn.self.table c.insert_step.new.self.table c.args.seat c.loop-turn.invariant.others c.loop-turn.invariant.within c.insert_step.ensures.within

pub returns-in-Restarted-clause-ok : goal.returns-in-Restarted-clause-ok
returns-in-Restarted-clause-ok g c =
    let no_put : c.in_ok-insert_step.field-0 ≡ Put → ⊥ = search rules in
    let (latched, other) = restarted_by c.loop-turn.self c.insert_step.new.self c.args.seat c.in_ok-insert_step.field-0 c.in-Restarted.block c.in-Restarted.by c.in_ok-insert_step.ensures.ok c.in-Restarted.is c.insert_step.ensures.others in (
      goes_further c.args.self.now c.loop-turn.self c.insert_step.new.self c.args.seat c.in_ok-insert_step.field-0 c.loop-turn.invariant.goes c.in_ok-insert_step.ensures.ok no_put,
      subst (λ (o : InsertOut). LatchesAfter c.insert_step.new.self c.args.seat o) c.in-Restarted.is c.in_ok-insert_step.ensures.latches,
      latched,
      other,
    )

pub returns-in-Restarted-clause-steps : goal.returns-in-Restarted-clause-steps
returns-in-Restarted-clause-steps g c = (
  c.loop-turn.self,
  c.loop-turn.invariant.steps,
  subst (λ (o : InsertOut). DoesSection g.O.OpClass.meaning c.loop-turn.self c.insert_step.new.self c.args.seat o) c.in-Restarted.is (done g ((goal.at.returns-in-Restarted-clause-steps g c).In_ok-insert_step)),
)

pub returns-in-Restarted-clause-stay : goal.returns-in-Restarted-clause-stay
returns-in-Restarted-clause-stay g c = stay_then c.args.self.now c.loop-turn.self c.insert_step.new.self c.args.seat c.in_ok-insert_step.field-0 c.loop-turn.invariant.stay c.in_ok-insert_step.ensures.ok

pub returns-in-Restarted-clause-others : goal.returns-in-Restarted-clause-others
returns-in-Restarted-clause-others g c = others_then c.args.self.now.table c.loop-turn.self.table c.insert_step.new.self.table c.args.seat c.loop-turn.invariant.others c.insert_step.ensures.others

pub returns-in-Restarted-clause-within : goal.returns-in-Restarted-clause-within
returns-in-Restarted-clause-within g c = changes_then c.args.self.now.table c.loop-turn.self.table c.insert_step.new.self.table c.args.seat c.loop-turn.invariant.others c.loop-turn.invariant.within c.insert_step.ensures.within

pub returns-in_err-insert_step-clause-others : goal.returns-in_err-insert_step-clause-others
returns-in_err-insert_step-clause-others g c = others_then c.args.self.now.table c.loop-turn.self.table c.insert_step.new.self.table c.args.seat c.loop-turn.invariant.others c.insert_step.ensures.others

pub returns-in_err-insert_step-clause-stay : goal.returns-in_err-insert_step-clause-stay
returns-in_err-insert_step-clause-stay g c = λ other apart. subst (λ (v : Seen _ _ _ _). stage_at v other ≡ stage_at c.args.self.now other) (sym c.in_err-insert_step.ensures.err) (c.loop-turn.invariant.stay other apart)

pub returns-in_err-insert_step-clause-err_steps : goal.returns-in_err-insert_step-clause-err_steps
returns-in_err-insert_step-clause-err_steps g c =
    let steps : StepsOn g.O.OpClass.meaning c.args.self.now c.insert_step.new.self c.args.seat = subst (λ (v : Seen _ _ _ _). StepsOn g.O.OpClass.meaning c.args.self.now v c.args.seat) (sym c.in_err-insert_step.ensures.err) c.loop-turn.invariant.steps in
    search (rules, steps)

pub loop-turn-preserved : goal.loop-turn-preserved
loop-turn-preserved g c =
    let no_put : c.in_ok-insert_step.field-0 ≡ Put → ⊥ = search rules in
    let no_restart : (block by : ℕ) → c.in_ok-insert_step.field-0 ≡ Restarted block by → ⊥ = λ block by is. search rules in
    record {
      goes = goes_further c.args.self.now c.loop-turn.self c.insert_step.new.self c.args.seat c.in_ok-insert_step.field-0 c.loop-turn.invariant.goes c.in_ok-insert_step.ensures.ok no_put;
      steps = steps_more g.O.OpClass.meaning c.args.self.now c.loop-turn.self c.insert_step.new.self c.args.seat c.in_ok-insert_step.field-0 c.loop-turn.invariant.steps (on_its_way c.in_ok-insert_step.field-0 no_put no_restart) (done g ((goal.at.loop-turn-preserved g c).In_ok-insert_step));
      stay = stay_then c.args.self.now c.loop-turn.self c.insert_step.new.self c.args.seat c.in_ok-insert_step.field-0 c.loop-turn.invariant.stay c.in_ok-insert_step.ensures.ok;
      others = others_then c.args.self.now.table c.loop-turn.self.table c.insert_step.new.self.table c.args.seat c.loop-turn.invariant.others c.insert_step.ensures.others;
      within = changes_then c.args.self.now.table c.loop-turn.self.table c.insert_step.new.self.table c.args.seat c.loop-turn.invariant.others c.loop-turn.invariant.within c.insert_step.ensures.within;
      grows = grows_then c.args.self.now.table c.loop-turn.self.table c.insert_step.new.self.table c.loop-turn.invariant.grows c.insert_step.ensures.grows;
      inserting = goes_inserting c.loop-turn.self c.insert_step.new.self c.args.seat c.in_ok-insert_step.field-0 c.in_ok-insert_step.ensures.ok no_put;
      ends =
          let (k, few, now) = c.loop-turn.invariant.ends in
          fewer_come g.O.OpClass.meaning c.loop-turn.self c.insert_step.new.self c.args.seat k c.loop-turn._turn (2 ^ 64) c.in_ok-insert_step.field-0 few now c.in_ok-insert_step.ensures.ends no_put no_restart;
    }

pub loop-turn-init : goal.loop-turn-init
loop-turn-init g c =
    let t = c.args.self.now.table in
    let (k, most, now) = ends_from g.O.OpClass.meaning (each_is_ranked g.O.OpClass.meaning) c.args.self.now c.args.seat c.pages.ensures.represents.shape c.requires.inserting in
    let sound : IsSound t = subst (λ (z : Table). IsSound z) c.pages.ensures.value c.page_count-count.ensures.sound in
    record {
      goes = still_there c.args.self.now c.args.seat;
      steps = steps_none g.O.OpClass.meaning c.args.self.now c.args.seat;
      stay = stay_same c.args.self.now c.args.seat;
      others = others_same t c.args.seat;
      within = λ b. inl refl;
      grows = grows_as t t (refl, refl);
      inserting = c.requires.inserting;
      ends = (k, few_sections t k sound most, now);
    }

pub unreachable-requires : goal.unreachable-requires
unreachable-requires g c =
    let (k, few, now) = c.loop-turn.invariant.ends in
    let none : k ≡ 0 = omega arith in
    one_comes g.O.OpClass.meaning c.loop-turn.self c.args.seat (subst (λ (n : ℕ). SeatEnds g.O.OpClass.meaning c.loop-turn.self c.args.seat n) none now)
