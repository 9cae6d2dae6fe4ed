-- What a run tells goes on by one more command, and by lanes.
use Rattle.std.proofs.Common.{◌≡◌, ◌≤◌, ◌*◌, ℕ, ◌&&◌, Bool, true, false, List, [], ◌∷◌, ◌++◌, length, refl, sym, ap, ◌∙◌, subst, arith}
use Rattle.std.specs.List.{AllByRecursion, AllZip}
use Rattle.spg_opclass.specs.Meaning.{Meaning}
use Rattle.spg_forest.specs.Sheets.{Sheets}
use Rattle.spg_forest.specs.Shape.{Represents}
use Rattle.spg_rows.specs.declared.event.Event.{Event}
use Rattle.spg_rows.specs.History.{History, own}
use Rattle.spg_rows.specs.Present.{IsPresentWith}
use Rattle.spg_rows.specs.Rows.{present_count}
use Rattle.spg_script.specs.declared.command.Command.{Command}
use Rattle.spg_script.specs.declared.command.Command.TheVariants as asked
use Rattle.spg_script.specs.Speech.{Speech}
use Rattle.spg_script.specs.Script.{IsLaneCommand}
use Rattle.spg_report.specs.declared.outcome.Outcome.{Outcome}
use Rattle.spg_report.specs.declared.outcome.Outcome.TheVariants as outcome
use Rattle.spg_report.specs.declared.record.Record.{Record}
use Rattle.spg_histories.specs.Tasks.{Task}
use Rattle.spg_histories.specs.Run.{OfStat, Does, IsWithin, past_at, between, Did, Entry, RunOf}
use Rattle.spg_histories.specs.Pages.{HoldsAt, present_at}
use Rattle.spg_histories.specs.Telling.{Step, steps_onto, steps_of, is_quiet_command, IsQuiet, LeafIs, is_save, Tells, AsFar, IsKept, OnSaved, WhereTrue, IsGiven, TellsAll, TellAll, SaveGave, StepDoes, StepDone, AreOfLanes, ReadsAs, RunsTell}
use Rattle.spg_calls.proofs.Journals.{past_at-grows}

quiet_parts : (xs : List Step) (x : Step) → AllByRecursion IsQuiet (xs ++ x ∷ []) → AllByRecursion IsQuiet xs × IsQuiet x
quiet_parts [] x each = (tt, each.0)
quiet_parts (y ∷ xs) x each = let rest = quiet_parts xs x each.1 in ((each.0, rest.0), rest.1)

module _ {Key Recon Cond : Type 0} (O : Type 0) (m : Meaning Key Recon Cond) (speech : Speech Key Cond) where
  far_push : (g : Sheets) (later : List Step) (x : Step) → AsFar O m speech g later → (AllByRecursion IsQuiet later → IsQuiet x → Tells O m speech g x) → AsFar O m speech g (later ++ x ∷ [])
  far_push g [] x far tells = λ quiet. (tells tt quiet, tt)
  far_push g (y ∷ later) x far tells = λ quiet. let was = far quiet in (was.0, far_push g later x was.1 (λ each q. tells (quiet, each) q))

  module _ {B : Type 0} (reads : B → Sheets → Type 0) where
    module _ (holds : Sheets → ℕ → Type 0) (now now2 : Sheets) (x : Step) (step : IsQuiet x → (now2 ≡ now) × Tells O m speech now x) where
      kept_push : (g : Sheets) (pages at : ℕ) (later past : List Step) → IsKept O m speech now g holds pages at later past → IsKept O m speech now2 g holds pages at (later ++ x ∷ []) past
      kept_push g pages at later past kept = record {
        blocks = kept.blocks;
        rows = kept.rows;
        after = far_push g later x kept.after (λ each quiet. subst (λ (p : Sheets). Tells O m speech p x) (sym (kept.end each)) (step quiet).1);
        before = kept.before;
        end = λ each. let parts = quiet_parts later x each in kept.end parts.0 ∙ sym (step parts.1).0;
      }

      saved_push : (given : B) (at : ℕ) (later past : List Step) (o : Outcome) → OnSaved O m speech reads now given holds at later past o → OnSaved O m speech reads now2 given holds at (later ++ x ∷ []) past o
      saved_push given at later past (outcome.Saved pages) on = (on.0, on.1, kept_push on.0 pages at later past on.2)
      saved_push given at later past o on = tt

      given_push : (given was : B) (name : List ℕ) (later past : List Step) → IsGiven O m speech reads now given was holds name later past → IsGiven O m speech reads now2 given was holds name (later ++ x ∷ []) past
      given_push given was name later [] is = is
      given_push given was name later (y ∷ past) is = go (is_save name y.task.command) (given_push given was name (y ∷ later) past) is
        where
          go : (t : Bool) → (IsGiven O m speech reads now given was holds name (y ∷ later) past → IsGiven O m speech reads now2 given was holds name (y ∷ later ++ x ∷ []) past)
              → WhereTrue t (OnSaved O m speech reads now given holds y.done.span.from later past y.done.outcome) (IsGiven O m speech reads now given was holds name (y ∷ later) past)
              → WhereTrue t (OnSaved O m speech reads now2 given holds y.done.span.from (later ++ x ∷ []) past y.done.outcome) (IsGiven O m speech reads now2 given was holds name (y ∷ later ++ x ∷ []) past)
          go true rest on = saved_push given y.done.span.from later past y.done.outcome on
          go false rest on = rest on

    gave : (holds : Sheets → ℕ → Type 0) (now now2 : Sheets) (at : ℕ) (given : B) (past : List Step) (o : Outcome) → now2 ≡ now → AsFar O m speech now past → SaveGave O m speech reads holds now at given o → OnSaved O m speech reads now2 given holds at [] past o
    gave holds now now2 at given past (outcome.Saved pages) same far did = (now, did.0, record { blocks = did.1; rows = did.2; after = tt; before = far; end = λ each. sym same })
    gave holds now now2 at given past o same far did = tt

    pub tells_begins : (holds : Sheets → ℕ → Type 0) (present : ℕ → ℕ) (was : List ℕ → B) (now : Sheets) → TellsAll O m speech reads holds present was was now []
    tells_begins holds present was now = record { end = tt; saves = λ name. refl; leaves = tt }

    module _ (holds : Sheets → ℕ → Type 0) (present : ℕ → ℕ) (was given given2 : List ℕ → B) (now now2 : Sheets) (steps : List Step) (x : Step) (all : TellsAll O m speech reads holds present was given now steps) (step : StepDoes O m speech reads holds present given given2 now now2 x) where
      save_goes_on : (name : List ℕ) (t : Bool) → is_save name x.task.command ≡ t
          → WhereTrue t (OnSaved O m speech reads now2 (given2 name) holds x.done.span.from [] steps x.done.outcome) (IsGiven O m speech reads now2 (given2 name) (was name) holds name (x ∷ []) steps)
      save_goes_on name true e = let did = step.saved name e in gave holds now now2 x.done.span.from (given2 name) steps x.done.outcome (step.quiet did.0).0 all.end did.1
      save_goes_on name false e =
          subst (λ (g : B). IsGiven O m speech reads now2 g (was name) holds name (x ∷ []) steps) (sym (step.kept name e)) (given_push holds now now2 x step.quiet (given name) (was name) name [] steps (all.saves name))

      tells_goes_on : TellsAll O m speech reads holds present was given2 now2 (x ∷ steps)
      tells_goes_on = record {
        end = λ quiet. let did = step.quiet quiet in
            (subst (λ (p : Sheets). Tells O m speech p x) (sym did.0) did.1, subst (λ (p : Sheets). AsFar O m speech p steps) (sym did.0) all.end);
        saves = λ name. save_goes_on name (is_save name x.task.command) refl;
        leaves = (step.leaf, all.leaves);
      }

-- ---- lanes tell nothing of pages

no_save : (name : List ℕ) (c : Command) → IsLaneCommand c → is_save name c ≡ false
no_save name (asked.Insert row key) lane = refl
no_save name (asked.Delete row) lane = refl
no_save name (asked.Find query) lane = refl
no_save name asked.Vacuum lane = refl
no_save name (asked.Save other) lane = absurd lane
no_save name asked.Stat lane = absurd lane
no_save name (asked.Near target limit) lane = absurd lane

pub no_stat : (A : Type 0) (c : Command) → IsLaneCommand c → OfStat A c → ⊥
no_stat A (asked.Insert row key) lane of = of
no_stat A (asked.Delete row) lane of = of
no_stat A (asked.Find query) lane of = of
no_stat A asked.Vacuum lane of = of
no_stat A (asked.Save other) lane of = of
no_stat A asked.Stat lane of = lane
no_stat A (asked.Near target limit) lane of = of

module _ {O Key Recon Cond : Type 0} (m : Meaning Key Recon Cond) (speech : Speech Key Cond) where
  leaf_of : (present : ℕ) (t : Task) (before : History O Key Recon Cond) (events : List (Event O Key Recon Cond)) (o : Outcome) → IsLaneCommand t.command → Does speech t before events o → LeafIs present o
  leaf_of present t before events (outcome.Stat counts) lane does = absurd (no_stat (events ≡ []) t.command lane does)
  leaf_of present t before events o lane does = tt

  module _ {B : Type 0} (reads : B → Sheets → Type 0) where
    -- a lane's command may change the pages to any others
    lane_step : (holds : Sheets → ℕ → Type 0) (present : ℕ → ℕ) (given : List ℕ → B) (now now2 : Sheets) (journal : List (Event O Key Recon Cond)) (t : Task) (r : Record) → t.alone ≡ false → IsLaneCommand t.command → Did speech journal t r
        → StepDoes O m speech reads holds present given given now now2 (record { task = t; done = r })
    lane_step holds present given now now2 journal t r apart lane did = record {
      quiet = λ quiet. absurd (not_alone t.alone t.command apart quiet);
      saved = λ name save. absurd (no_both (is_save name t.command) (no_save name t.command lane) save);
      kept = λ name other. refl;
      leaf = leaf_of (present r.span.from) t (past_at r.span.from journal) (own t.seat (between r.span.from r.span.to journal)) r.outcome lane did.does;
    }
      where
        not_alone : (alone : Bool) (c : Command) → alone ≡ false → (alone && is_quiet_command c) ≡ true → ⊥
        not_alone true c is quiet = (cc)
        not_alone false c is quiet = (cc)

        no_both : (t : Bool) → t ≡ false → t ≡ true → ⊥
        no_both t a b = let clash : false ≡ true = sym a ∙ b in (cc)

    -- so do all of a block, the last to the pages behind it
    lanes_tell : (holds : Sheets → ℕ → Type 0) (present : ℕ → ℕ) (was given : List ℕ → B) (now now2 : Sheets) (journal : List (Event O Key Recon Cond)) (steps : List Step) (tasks : List Task) (records : List Record)
        → (tasks ≡ [] → now2 ≡ now) → AreOfLanes tasks → AllZip (Did speech journal) tasks records → TellsAll O m speech reads holds present was given now steps → TellsAll O m speech reads holds present was given now2 (steps_onto steps tasks records)
    lanes_tell holds present was given now now2 journal steps [] [] none lanes each all = subst (λ (p : Sheets). TellsAll O m speech reads holds present was given p steps) (sym (none refl)) all
    lanes_tell holds present was given now now2 journal steps [] (r ∷ records) none lanes each all = absurd each
    lanes_tell holds present was given now now2 journal steps (t ∷ tasks) [] none lanes each all = absurd each
    lanes_tell holds present was given now now2 journal steps (t ∷ tasks) (r ∷ records) none lanes each all =
        lanes_tell holds present was given now2 now2 journal (record { task = t; done = r } ∷ steps) tasks records (λ e. refl) lanes.1 each.1
        (tells_goes_on O m speech reads holds present was given given now now2 steps (record { task = t; done = r }) all (lane_step holds present given now now2 journal t r lanes.0.0 lanes.0.1 each.0))

-- ---- a longer journal says the same of earlier positions

module _ {Key Recon Cond : Type 0} (O : Type 0) (m : Meaning Key Recon Cond) (speech : Speech Key Cond) {B : Type 0} (reads : B → Sheets → Type 0)
    (bound : ℕ) (holds holds2 : Sheets → ℕ → Type 0) (present present2 : ℕ → ℕ) (grows : (g : Sheets) (at : ℕ) → at ≤ bound → holds g at → holds2 g at) (same : (at : ℕ) → at ≤ bound → present at ≡ present2 at) where
  saved_grows : (now : Sheets) (given : B) (at : ℕ) (later past : List Step) (o : Outcome) → at ≤ bound → OnSaved O m speech reads now given holds at later past o → OnSaved O m speech reads now given holds2 at later past o
  saved_grows now given at later past (outcome.Saved pages) le (g, is, kept) = (g, is, record { blocks = kept.blocks; rows = grows g at le kept.rows; after = kept.after; before = kept.before; end = kept.end })
  saved_grows now given at later past o le on = tt

  given_grows : (now : Sheets) (given was : B) (name : List ℕ) (later past : List Step) → AllByRecursion (λ (x : Step). x.done.span.from ≤ bound) past → IsGiven O m speech reads now given was holds name later past → IsGiven O m speech reads now given was holds2 name later past
  given_grows now given was name later [] within is = is
  given_grows now given was name later (x ∷ past) within is = go (is_save name x.task.command) (given_grows now given was name (x ∷ later) past within.1) is
    where
      go : (t : Bool) → (IsGiven O m speech reads now given was holds name (x ∷ later) past → IsGiven O m speech reads now given was holds2 name (x ∷ later) past)
          → WhereTrue t (OnSaved O m speech reads now given holds x.done.span.from later past x.done.outcome) (IsGiven O m speech reads now given was holds name (x ∷ later) past)
          → WhereTrue t (OnSaved O m speech reads now given holds2 x.done.span.from later past x.done.outcome) (IsGiven O m speech reads now given was holds2 name (x ∷ later) past)
      go true rest on = saved_grows now given x.done.span.from later past x.done.outcome within.0 on
      go false rest on = rest on

  leaf_grows : (at : ℕ) (o : Outcome) → at ≤ bound → LeafIs (present at) o → LeafIs (present2 at) o
  leaf_grows at (outcome.Stat counts) le is = is ∙ same at le
  leaf_grows at o le is = tt

  leaves_grow : (steps : List Step) → AllByRecursion (λ (x : Step). x.done.span.from ≤ bound) steps → AllByRecursion (λ x. LeafIs (present x.done.span.from) x.done.outcome) steps → AllByRecursion (λ x. LeafIs (present2 x.done.span.from) x.done.outcome) steps
  leaves_grow [] within each = tt
  leaves_grow (x ∷ steps) within each = (leaf_grows x.done.span.from x.done.outcome within.0 each.0, leaves_grow steps within.1 each.1)

  tells_grow : (was given : List ℕ → B) (now : Sheets) (steps : List Step) → AllByRecursion (λ (x : Step). x.done.span.from ≤ bound) steps → TellsAll O m speech reads holds present was given now steps → TellsAll O m speech reads holds2 present2 was given now steps
  tells_grow was given now steps within all = record { end = all.end; saves = λ name. given_grows now (given name) (was name) name [] steps within (all.saves name); leaves = leaves_grow steps within all.leaves }

-- ---- the steps of a run

steps_append : (R : Task → Record → Type 0) (past : List Step) (ts bs : List Task) (rs ss : List Record) → AllZip R ts rs → steps_onto past (ts ++ bs) (rs ++ ss) ≡ steps_onto (steps_onto past ts rs) bs ss
steps_append R past [] bs [] ss all = refl
steps_append R past [] bs (r ∷ rs) ss all = absurd all
steps_append R past (t ∷ ts) bs [] ss all = absurd all
steps_append R past (t ∷ ts) bs (r ∷ rs) ss all = steps_append R (record { task = t; done = r } ∷ past) ts bs rs ss all.1

steps_within : (low high : ℕ) (past : List Step) (ts : List Task) (rs : List Record) → AllByRecursion (λ (x : Step). x.done.span.from ≤ high) past → AllByRecursion (IsWithin low high) rs
    → AllByRecursion (λ (x : Step). x.done.span.from ≤ high) (steps_onto past ts rs)
steps_within low high past [] rs before within = before
steps_within low high past (t ∷ ts) [] before within = before
steps_within low high past (t ∷ ts) (r ∷ rs) before within = steps_within low high (record { task = t; done = r } ∷ past) ts rs (omega (arith, within.0.order, within.0.before), before) within.1

module _ (O Key Recon Cond B : Type 0) (m : Meaning Key Recon Cond) (speech : Speech Key Cond) (reads : B → Sheets → Type 0) (loaded : List (Entry Key)) (old more : List (Event O Key Recon Cond)) (tasks : List Task) (records : List Record)
    (was given : List ℕ → B) (now : Sheets) (run : RunOf speech loaded tasks old records) (all : TellAll O m speech reads old was given now tasks records) where
  earlier_same : (at : ℕ) → at ≤ length old → past_at at old ≡ past_at at (old ++ more)
  earlier_same at le = sym (past_at-grows at old more le)

  -- what was told, over the longer journal
  still_tells : TellsAll O m speech reads (HoldsAt m (old ++ more)) (present_at (old ++ more)) was given now (steps_of tasks records)
  still_tells = tells_grow O m speech reads (length old) (HoldsAt m old) (HoldsAt m (old ++ more)) (present_at old) (present_at (old ++ more))
      (λ g at le is. subst (λ (past : History O Key Recon Cond). Represents m g (IsPresentWith past)) (earlier_same at le) is) (λ at le. ap present_count (earlier_same at le))
      was given now (steps_of tasks records) (steps_within (2 * length loaded) (length old) [] tasks records tt run.within) all

  pub one_more : (given2 : List ℕ → B) (now2 : Sheets) (t : Task) (r : Record) → StepDone O m speech reads (old ++ more) given given2 now now2 t r → TellAll O m speech reads (old ++ more) was given2 now2 (tasks ++ t ∷ []) (records ++ r ∷ [])
  one_more given2 now2 t r step = subst (TellsAll O m speech reads (HoldsAt m (old ++ more)) (present_at (old ++ more)) was given2 now2) (sym (steps_append (Did speech old) [] tasks (t ∷ []) records (r ∷ []) run.each))
      (tells_goes_on O m speech reads (HoldsAt m (old ++ more)) (present_at (old ++ more)) was given given2 now now2 (steps_of tasks records) (record { task = t; done = r }) still_tells step)

  pub lanes_more : (now2 : Sheets) (block : List Task) (added : List Record) → AreOfLanes block → AllZip (Did speech (old ++ more)) block added → (block ≡ [] → now2 ≡ now) → TellAll O m speech reads (old ++ more) was given now2 (tasks ++ block) (records ++ added)
  lanes_more now2 block added are each none = subst (TellsAll O m speech reads (HoldsAt m (old ++ more)) (present_at (old ++ more)) was given now2) (sym (steps_append (Did speech old) [] tasks block records added run.each))
      (lanes_tell m speech reads (HoldsAt m (old ++ more)) (present_at (old ++ more)) was given now now2 (old ++ more) (steps_of tasks records) block added none are each still_tells)

pub runs_tell : (O Key Recon Cond B : Type 0) → RunsTell O Key Recon Cond B
runs_tell O Key Recon Cond B = record {
  begins = λ m speech read journal was now. tells_begins O m speech (ReadsAs read) (HoldsAt m journal) (present_at journal) was now;
  goes_on = λ m speech read loaded old more tasks records was given given2 now now2 t r run all step. one_more O Key Recon Cond B m speech (ReadsAs read) loaded old more tasks records was given now run all given2 now2 t r step;
  lanes = λ m speech read loaded old more tasks block records added was given now now2 run all are each none. lanes_more O Key Recon Cond B m speech (ReadsAs read) loaded old more tasks records was given now run all now2 block added are each none;
}
