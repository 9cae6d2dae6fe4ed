-- The causes of a run go on by one more command, and by lanes.
use Rattle.std.proofs.Common.{◌≡◌, ◌*◌, ℕ, List, [], ◌∷◌, ◌++◌, length, reverse, sym, subst, arith}
use Rattle.std.specs.Prelude.{⊤}
use Rattle.std.specs.List.{AllByRecursion, AllZip}
use Rattle.spg_base.specs.declared.recorded.Origin.{Origin}
use Rattle.spg_opclass.specs.Meaning.{Meaning}
use Rattle.spg_forest.specs.Sheets.{Sheets}
use Rattle.spg_rows.specs.declared.event.Event.{Event}
use Rattle.spg_rows.specs.History.{History, own}
use Rattle.spg_script.specs.declared.command.Command.{Command}
use Rattle.spg_script.specs.declared.command.Command.TheVariants as asked
use Rattle.spg_script.specs.Speech.{Speech}
use Rattle.spg_script.specs.Script.{IsLaneCommand}
use Rattle.spg_report.specs.declared.outcome.Outcome.{Outcome}
use Rattle.spg_report.specs.declared.outcome.Outcome.TheVariants as outcome
use Rattle.spg_report.specs.declared.record.Record.{Record}
use Rattle.spg_histories.specs.Tasks.{Task}
use Rattle.spg_histories.specs.Run.{OfSave, Does, Did, Entry, RunOf, IsWithin, past_at, between}
use Rattle.spg_histories.specs.Telling.{AreOfLanes}
use Rattle.spg_histories.specs.Causes.{IsDue, IsDueIn, IsNearLimit, IsAtEnd, IsCaused, ShowsPages, ShowsClock, LaterShow, AreShown, Causes, GrewInto, PrintsPages, CausesGrow}
use Rattle.spg_calls.proofs.Journals.{past_at-grows}
use Rattle.spg_histories.proofs.Blocks.{zip_append, each_append, each_weaker}
use Rattle.spg_histories.proofs.Telling.{no_stat}
use Rattle.spg_histories.proofs.Due.{has_left, has_reverse, caused_each, due_in}

-- ---- what the pages say

caused_grows : (limit : ℕ) (S S2 : Sheets) → GrewInto S S2 → (o : Outcome) → IsCaused limit S o → IsCaused limit S2 o
caused_grows limit S S2 grew outcome.Full is = omega (arith, is, grew.0)
caused_grows limit S S2 grew outcome.ClockFull is = omega (arith, is, grew.1)
caused_grows limit S S2 grew o is = tt

shows_pages : (limit : ℕ) (S : Sheets) → IsNearLimit limit (length S.sheets) → (o : Outcome) → PrintsPages S o → ShowsPages limit o
shows_pages limit S near (outcome.Stat counts) prints = omega (arith, near, prints.0)
shows_pages limit S near (outcome.Saved pages) prints = omega (arith, near, prints)
shows_pages limit S near o prints = tt

shows_clock : (S : Sheets) → IsAtEnd S.clock → (o : Outcome) → PrintsPages S o → ShowsClock o
shows_clock S end (outcome.Stat counts) prints = omega (arith, end, prints.1)
shows_clock S end o prints = tt

module _ (limit : ℕ) (S : Sheets) where
  later_append : (rs added : List Record) (o : Outcome) → LaterShow limit rs o → IsCaused limit S o → AllByRecursion (λ (r : Record). PrintsPages S r.outcome) added → LaterShow limit (rs ++ added) o
  later_append rs added outcome.Full later near prints = each_append (λ (r : Record). ShowsPages limit r.outcome) rs added later
      (each_weaker (λ (r : Record). PrintsPages S r.outcome) (λ (r : Record). ShowsPages limit r.outcome) added (λ r p. shows_pages limit S near r.outcome p) prints)
  later_append rs added outcome.ClockFull later end prints = each_append (λ (r : Record). ShowsClock r.outcome) rs added later
      (each_weaker (λ (r : Record). PrintsPages S r.outcome) (λ (r : Record). ShowsClock r.outcome) added (λ r p. shows_clock S end r.outcome p) prints)
  later_append rs added o later caused prints = tt

  shown_append : (rs added : List Record) → AreShown limit rs → AllByRecursion (λ (r : Record). IsCaused limit S r.outcome) rs → AllByRecursion (λ (r : Record). PrintsPages S r.outcome) added → AreShown limit added → AreShown limit (rs ++ added)
  shown_append [] added shown ends prints more = more
  shown_append (r ∷ rs) added shown ends prints more = (later_append rs added r.outcome shown.0 ends.0 prints, shown_append rs added shown.1 ends.1 prints more)

none_later : (limit : ℕ) (o : Outcome) → LaterShow limit [] o
none_later limit outcome.Full = tt
none_later limit outcome.ClockFull = tt
none_later limit o = tt

-- ---- lanes print no pages

abbrev IsOfLane : Outcome → Type 0
IsOfLane (outcome.Stat counts) = ⊥
IsOfLane (outcome.Saved pages) = ⊥
IsOfLane o = ⊤

pub no_save_in : (A : Type 0) (c : Command) → IsLaneCommand c → OfSave A c → ⊥
no_save_in A (asked.Insert row key) lane of = of
no_save_in A (asked.Delete row) lane of = of
no_save_in A (asked.Find query) lane of = of
no_save_in A asked.Vacuum lane of = of
no_save_in A (asked.Save name) lane of = lane
no_save_in A asked.Stat lane of = of
no_save_in A (asked.Near target limit) lane of = of

lane_prints : (S : Sheets) (o : Outcome) → IsOfLane o → PrintsPages S o
lane_prints S (outcome.Stat counts) is = absurd is
lane_prints S (outcome.Saved pages) is = absurd is
lane_prints S o is = tt

lane_shows_pages : (limit : ℕ) (o : Outcome) → IsOfLane o → ShowsPages limit o
lane_shows_pages limit (outcome.Stat counts) is = absurd is
lane_shows_pages limit (outcome.Saved pages) is = absurd is
lane_shows_pages limit o is = tt

lane_shows_clock : (o : Outcome) → IsOfLane o → ShowsClock o
lane_shows_clock (outcome.Stat counts) is = absurd is
lane_shows_clock o is = tt

lane_later : (limit : ℕ) (rs : List Record) (o : Outcome) → AllByRecursion (λ (r : Record). IsOfLane r.outcome) rs → LaterShow limit rs o
lane_later limit rs outcome.Full are = each_weaker (λ (r : Record). IsOfLane r.outcome) (λ (r : Record). ShowsPages limit r.outcome) rs (λ r is. lane_shows_pages limit r.outcome is) are
lane_later limit rs outcome.ClockFull are = each_weaker (λ (r : Record). IsOfLane r.outcome) (λ (r : Record). ShowsClock r.outcome) rs (λ r is. lane_shows_clock r.outcome is) are
lane_later limit rs o are = tt

lane_shown : (limit : ℕ) (rs : List Record) → AllByRecursion (λ (r : Record). IsOfLane r.outcome) rs → AreShown limit rs
lane_shown limit [] are = tt
lane_shown limit (r ∷ rs) are = (lane_later limit rs r.outcome are.1, lane_shown limit rs are.1)

module _ {O Key Recon Cond : Type 0} (m : Meaning Key Recon Cond) (speech : Speech Key Cond) (origin : Origin) where
  of_lane : (t : Task) (before : History O Key Recon Cond) (events : List (Event O Key Recon Cond)) (o : Outcome) → IsLaneCommand t.command → Does speech t before events o → IsOfLane o
  of_lane t before events (outcome.Stat counts) lane does = no_stat (events ≡ []) t.command lane does
  of_lane t before events (outcome.Saved pages) lane does = no_save_in (events ≡ []) t.command lane does
  of_lane t before events o lane does = tt

  of_lanes : (journal : List (Event O Key Recon Cond)) (block : List Task) (added : List Record) → AreOfLanes block → AllZip (Did speech journal) block added → AllByRecursion (λ (r : Record). IsOfLane r.outcome) added
  of_lanes journal [] [] are each = tt
  of_lanes journal [] (r ∷ added) are each = absurd each
  of_lanes journal (t ∷ block) [] are each = absurd each
  of_lanes journal (t ∷ block) (r ∷ added) are each =
      (of_lane t (past_at r.span.from journal) (own t.seat (between r.span.from r.span.to journal)) r.outcome are.0.1 each.0.does, of_lanes journal block added are.1 each.1)

  -- ---- a longer journal

  module _ (old more : List (Event O Key Recon Cond)) where
    due_grows : (low : ℕ) (tasks : List Task) (records : List Record) → AllZip (IsDueIn m origin old) tasks records → AllByRecursion (IsWithin low (length old)) records → AllZip (IsDueIn m origin (old ++ more)) tasks records
    due_grows low [] [] due within = tt
    due_grows low [] (r ∷ records) due within = absurd due
    due_grows low (t ∷ tasks) [] due within = absurd due
    due_grows low (t ∷ tasks) (r ∷ records) due within =
        let from : past_at r.span.from old ≡ past_at r.span.from (old ++ more) = sym (past_at-grows r.span.from old more (omega (arith, within.0.order, within.0.before))) in
        let to : past_at r.span.to old ≡ past_at r.span.to (old ++ more) = sym (past_at-grows r.span.to old more within.0.before) in (
          subst (λ (past : History O Key Recon Cond). IsDue m origin t.command (past_at r.span.from (old ++ more)) past r.outcome) to
              (subst (λ (before : History O Key Recon Cond). IsDue m origin t.command before (past_at r.span.to old) r.outcome) from due.0),
          due_grows low tasks records due.1 within.1,
        )

    module _ (loaded : List (Entry Key)) (S S2 : Sheets) (tasks block : List Task) (records added : List Record) (run : RunOf speech loaded tasks old records) (causes : Causes m origin S old tasks records) where
      goes_on : AllByRecursion (λ (r : Record). IsCaused origin.limit S2 r.outcome) records → AllZip (IsDueIn m origin (old ++ more)) block added → AllByRecursion (λ (r : Record). IsCaused origin.limit S2 r.outcome) added
          → AllByRecursion (λ (r : Record). PrintsPages S2 r.outcome) added → AreShown origin.limit added → Causes m origin S2 (old ++ more) (tasks ++ block) (records ++ added)
      goes_on ends due caused prints shown = record {
        due = zip_append (IsDueIn m origin (old ++ more)) tasks block records added (due_grows (2 * length loaded) tasks records causes.due run.within) due;
        ends = each_append (λ (r : Record). IsCaused origin.limit S2 r.outcome) records added ends caused;
        shown = shown_append origin.limit S2 records added causes.shown ends prints shown;
      }

pub causes_grow : (O Key Recon Cond : Type 0) → CausesGrow O Key Recon Cond
causes_grow O Key Recon Cond = record {
  begins = λ m origin S journal. record { due = tt; ends = tt; shown = tt };
  goes_on = λ m speech origin loaded old more S S2 tasks records t r run causes grew due caused prints.
      let ends = each_weaker (λ (r : Record). IsCaused origin.limit S r.outcome) (λ (r : Record). IsCaused origin.limit S2 r.outcome) records (λ r is. caused_grows origin.limit S S2 grew r.outcome is) causes.ends in
      goes_on m speech origin old more loaded S S2 tasks (t ∷ []) records (r ∷ []) run causes ends (due, tt) (caused, tt) (prints, tt) (none_later origin.limit r.outcome, tt);
  lanes = λ m speech origin loaded old more S S2 tasks block records added run causes are each due tells.
      let lanes = of_lanes m speech origin (old ++ more) block added are each in
      let ends = caused_each speech origin.limit S2 (reverse (old ++ more)) tells old tasks records (λ e has. has_reverse e (old ++ more) (has_left e old more has)) run.each in
      let caused = caused_each speech origin.limit S2 (reverse (old ++ more)) tells (old ++ more) block added (λ e has. has_reverse e (old ++ more) has) each in
      goes_on m speech origin old more loaded S S2 tasks block records added run causes ends due caused
      (each_weaker (λ (r : Record). IsOfLane r.outcome) (λ (r : Record). PrintsPages S2 r.outcome) added (λ r is. lane_prints S2 r.outcome is) lanes) (lane_shown origin.limit added lanes);
  due = λ m speech origin journal tasks records legal did full within. due_in speech m origin journal tasks records legal did full within;
}
