-- What stands under a name goes on by one more command, and by lanes.
use Rattle.std.proofs.Common.{◌≡◌, ◌≤◌, ◌*◌, ◌⊎◌, inl, inr, ℕ, Bool, true, false, List, [], ◌∷◌, ◌++◌, length, Option, refl, sym, subst, arith}
use Rattle.std.specs.List.{AllByRecursion, AllZip}
use Rattle.spg_opclass.specs.Meaning.{Meaning}
use Rattle.spg_forest.specs.Sheets.{Sheets}
use Rattle.spg_forest.specs.Shape.{Represents}
use Rattle.spg_rows.specs.declared.event.Event.{Event}
use Rattle.spg_rows.specs.History.{History}
use Rattle.spg_rows.specs.Present.{IsPresentWith}
use Rattle.spg_calls.proofs.Journals.{past_at-grows}
use Rattle.spg_script.specs.declared.command.Command.{Command}
use Rattle.spg_script.specs.declared.command.Command.TheVariants as asked
use Rattle.spg_script.specs.Script.{IsLaneCommand}
use Rattle.spg_script.specs.Speech.{Speech}
use Rattle.spg_report.specs.declared.outcome.Outcome.{Outcome}
use Rattle.spg_report.specs.declared.outcome.Outcome.TheVariants as outcome
use Rattle.spg_report.specs.declared.record.Record.{Record}
use Rattle.spg_histories.specs.Tasks.{Task}
use Rattle.spg_histories.specs.Run.{Entry, Did, IsWithin, RunOf}
use Rattle.spg_histories.specs.Pages.{HoldsAt}
use Rattle.spg_histories.specs.Telling.{Step, steps_onto, steps_of, is_save, WhereTrue, AreOfLanes}
use Rattle.spg_perform.specs.Remains.{LeftBy, AfterSave, Remains, CountTells, AllCounted}

abbrev Told : Type 0
Told = Option (Option (List ℕ))

-- ---- the steps of a run

steps_append : (R : Task → Record → Type 0) (past : List Step) (ts bs : List Task) (rs ss : List Record) → AllZip R ts rs → steps_onto past (ts ++ bs) (rs ++ ss) ≡ steps_onto (steps_onto past ts rs) bs ss
steps_append R past [] bs [] ss all = refl
steps_append R past [] bs (r ∷ rs) ss all = absurd all
steps_append R past (t ∷ ts) bs [] ss all = absurd all
steps_append R past (t ∷ ts) bs (r ∷ rs) ss all = steps_append R (record { task = t; done = r } ∷ past) ts bs rs ss all.1

steps_within : (low high : ℕ) (past : List Step) (ts : List Task) (rs : List Record) → AllByRecursion (λ (x : Step). x.done.span.from ≤ high) past → AllByRecursion (IsWithin low high) rs
    → AllByRecursion (λ (x : Step). x.done.span.from ≤ high) (steps_onto past ts rs)
steps_within low high past [] rs before within = before
steps_within low high past (t ∷ ts) [] before within = before
steps_within low high past (t ∷ ts) (r ∷ rs) before within = steps_within low high (record { task = t; done = r } ∷ past) ts rs (omega (arith, within.0.order, within.0.before), before) within.1

-- ---- one more command

-- what a save with this outcome made of what was told before it
abbrev pub Gave : ℕ → (Sheets → ℕ → Type 0) → Told → Told → ℕ → Outcome → Type 0
Gave code holds before told at (outcome.Saved pages) = LeftBy code holds told at (outcome.Saved pages)
Gave code holds before told at outcome.ImageFault = (told ≡ before) ⊎ LeftBy code holds told at outcome.ImageFault
Gave code holds before told at outcome.Memory = (told ≡ before) ⊎ LeftBy code holds told at outcome.Memory
Gave code holds before told at o = ⊥

either : (A A2 B B2 : Type 0) → (A → A2) → (B → B2) → A ⊎ B → A2 ⊎ B2
either A A2 B B2 f g (inl a) = inl (f a)
either A A2 B B2 f g (inr b) = inr (g b)

after : (code : ℕ) (holds : Sheets → ℕ → Type 0) (before told : Told) (at : ℕ) (o : Outcome) (stands : Type 0) → (told ≡ before → stands) → Gave code holds before told at o → AfterSave code holds told at o stands
after code holds before told at (outcome.Saved pages) stands stays gave = gave
after code holds before told at outcome.ImageFault stands stays gave = either (told ≡ before) stands (LeftBy code holds told at outcome.ImageFault) (LeftBy code holds told at outcome.ImageFault) stays (λ left. left) gave
after code holds before told at outcome.Memory stands stays gave = either (told ≡ before) stands (LeftBy code holds told at outcome.Memory) (LeftBy code holds told at outcome.Memory) stays (λ left. left) gave
after code holds before told at o stands stays gave = absurd gave

module _ (code : ℕ) (holds : Sheets → ℕ → Type 0) (before told was : Told) (name : List ℕ) (x : Step) (past : List Step) (stands : Remains code holds before was name past)
    (kept : is_save name x.task.command ≡ false → told ≡ before) (gave : is_save name x.task.command ≡ true → Gave code holds before told x.done.span.from x.done.outcome) where
  stays : told ≡ before → Remains code holds told was name past
  stays same = subst (λ (z : Told). Remains code holds z was name past) (sym same) stands

  by_save : (t : Bool) → is_save name x.task.command ≡ t → WhereTrue t (AfterSave code holds told x.done.span.from x.done.outcome (Remains code holds told was name past)) (Remains code holds told was name past)
  by_save true is = after code holds before told x.done.span.from x.done.outcome (Remains code holds told was name past) stays (gave is)
  by_save false is = stays (kept is)

  remains_more : Remains code holds told was name (x ∷ past)
  remains_more = by_save (is_save name x.task.command) refl

-- ---- lanes

no_save : (name : List ℕ) (c : Command) → IsLaneCommand c → is_save name c ≡ false
no_save name (asked.Insert row key) lane = refl
no_save name (asked.Delete row) lane = refl
no_save name (asked.Find query) lane = refl
no_save name asked.Vacuum lane = refl
no_save name (asked.Save other) lane = absurd lane
no_save name asked.Stat lane = absurd lane
no_save name (asked.Near target limit) lane = absurd lane

no_count : (c : Command) (o : Outcome) → IsLaneCommand c → CountTells c o
no_count (asked.Insert row key) o lane = tt
no_count (asked.Delete row) o lane = tt
no_count (asked.Find query) o lane = tt
no_count asked.Vacuum o lane = tt
no_count (asked.Save other) o lane = absurd lane
no_count asked.Stat o lane = absurd lane
no_count (asked.Near target limit) o lane = absurd lane

where_false : (b : Bool) (A B : Type 0) → b ≡ false → B → WhereTrue b A B
where_false true A B is x = absurd (cc is)
where_false false A B is x = x

lanes_remain : (code : ℕ) (holds : Sheets → ℕ → Type 0) (told was : Told) (name : List ℕ) (past : List Step) (ts : List Task) (rs : List Record) → AreOfLanes ts → Remains code holds told was name past → Remains code holds told was name (steps_onto past ts rs)
lanes_remain code holds told was name past [] rs lanes stands = stands
lanes_remain code holds told was name past (t ∷ ts) [] lanes stands = stands
lanes_remain code holds told was name past (t ∷ ts) (r ∷ rs) lanes stands =
    lanes_remain code holds told was name (record { task = t; done = r } ∷ past) ts rs lanes.1
    (where_false (is_save name t.command) (AfterSave code holds told r.span.from r.outcome (Remains code holds told was name past)) (Remains code holds told was name past) (no_save name t.command lanes.0.1) stands)

lanes_count : (past : List Step) (ts : List Task) (rs : List Record) → AreOfLanes ts → AllCounted past → AllCounted (steps_onto past ts rs)
lanes_count past [] rs lanes counted = counted
lanes_count past (t ∷ ts) [] lanes counted = counted
lanes_count past (t ∷ ts) (r ∷ rs) lanes counted = lanes_count (record { task = t; done = r } ∷ past) ts rs lanes.1 (no_count t.command r.outcome lanes.0.1, counted)

-- ---- a longer journal says the same of earlier positions

module _ (code : ℕ) (bound : ℕ) (holds holds2 : Sheets → ℕ → Type 0) (grows : (g : Sheets) (at : ℕ) → at ≤ bound → holds g at → holds2 g at) where
  left_grows : (told : Told) (at : ℕ) (o : Outcome) → at ≤ bound → LeftBy code holds told at o → LeftBy code holds2 told at o
  left_grows told at o le (g, leaves, is) = (g, leaves, grows g at le is)

  after_grows : (told : Told) (at : ℕ) (o : Outcome) (stands stands2 : Type 0) → (stands → stands2) → at ≤ bound → AfterSave code holds told at o stands → AfterSave code holds2 told at o stands2
  after_grows told at (outcome.Saved pages) stands stands2 more le is = left_grows told at (outcome.Saved pages) le is
  after_grows told at outcome.ImageFault stands stands2 more le is = either stands stands2 (LeftBy code holds told at outcome.ImageFault) (LeftBy code holds2 told at outcome.ImageFault) more (left_grows told at outcome.ImageFault le) is
  after_grows told at outcome.Memory stands stands2 more le is = either stands stands2 (LeftBy code holds told at outcome.Memory) (LeftBy code holds2 told at outcome.Memory) more (left_grows told at outcome.Memory le) is
  after_grows told at o stands stands2 more le is = absurd is

  where_grows : (b : Bool) (A A2 B B2 : Type 0) → (A → A2) → (B → B2) → WhereTrue b A B → WhereTrue b A2 B2
  where_grows true A A2 B B2 f g is = f is
  where_grows false A A2 B B2 f g is = g is

  remains_grow : (told was : Told) (name : List ℕ) (past : List Step) → AllByRecursion (λ (x : Step). x.done.span.from ≤ bound) past → Remains code holds told was name past → Remains code holds2 told was name past
  remains_grow told was name [] within stands = stands
  remains_grow told was name (x ∷ past) within stands =
      where_grows (is_save name x.task.command) _ _ _ _
      (after_grows told x.done.span.from x.done.outcome (Remains code holds told was name past) (Remains code holds2 told was name past) (remains_grow told was name past within.1) within.0) (remains_grow told was name past within.1) stands

-- ---- runs

module _ {O Key Recon Cond : Type 0} (m : Meaning Key Recon Cond) (speech : Speech Key Cond) (code : ℕ) (loaded : List (Entry Key)) (old more : List (Event O Key Recon Cond)) (tasks : List Task) (records : List Record) (run : RunOf speech loaded tasks old records) where
  -- what stood, over the longer journal
  still_remains : (told was : Told) (name : List ℕ) → Remains code (HoldsAt m old) told was name (steps_of tasks records) → Remains code (HoldsAt m (old ++ more)) told was name (steps_of tasks records)
  still_remains told was name stands =
      remains_grow code (length old) (HoldsAt m old) (HoldsAt m (old ++ more)) (λ g at le is. subst (λ (past : History O Key Recon Cond). Represents m g (IsPresentWith past)) (sym (past_at-grows at old more le)) is)
      told was name (steps_of tasks records) (steps_within (2 * length loaded) (length old) [] tasks records tt run.within) stands

  pub remains_one : (before told was : Told) (name : List ℕ) (t : Task) (r : Record) → (is_save name t.command ≡ false → told ≡ before) → (is_save name t.command ≡ true → Gave code (HoldsAt m (old ++ more)) before told r.span.from r.outcome)
      → Remains code (HoldsAt m old) before was name (steps_of tasks records) → Remains code (HoldsAt m (old ++ more)) told was name (steps_of (tasks ++ t ∷ []) (records ++ r ∷ []))
  remains_one before told was name t r kept gave stands =
      subst (Remains code (HoldsAt m (old ++ more)) told was name) (sym (steps_append (Did speech old) [] tasks (t ∷ []) records (r ∷ []) run.each))
      (remains_more code (HoldsAt m (old ++ more)) before told was name (record { task = t; done = r }) (steps_of tasks records) (still_remains before was name stands) kept gave)

  pub remains_lanes : (told was : Told) (name : List ℕ) (block : List Task) (added : List Record) → AreOfLanes block → Remains code (HoldsAt m old) told was name (steps_of tasks records) → Remains code (HoldsAt m (old ++ more)) told was name (steps_of (tasks ++ block) (records ++ added))
  remains_lanes told was name block added lanes stands =
      subst (Remains code (HoldsAt m (old ++ more)) told was name) (sym (steps_append (Did speech old) [] tasks block records added run.each))
      (lanes_remain code (HoldsAt m (old ++ more)) told was name (steps_of tasks records) block added lanes (still_remains told was name stands))

  pub counted_one : (t : Task) (r : Record) → CountTells t.command r.outcome → AllCounted (steps_of tasks records) → AllCounted (steps_of (tasks ++ t ∷ []) (records ++ r ∷ []))
  counted_one t r tells counted = subst AllCounted (sym (steps_append (Did speech old) [] tasks (t ∷ []) records (r ∷ []) run.each)) (tells, counted)

  pub counted_lanes : (block : List Task) (added : List Record) → AreOfLanes block → AllCounted (steps_of tasks records) → AllCounted (steps_of (tasks ++ block) (records ++ added))
  counted_lanes block added lanes counted = subst AllCounted (sym (steps_append (Did speech old) [] tasks block records added run.each)) (lanes_count (steps_of tasks records) block added lanes counted)
