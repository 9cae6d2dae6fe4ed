-- Where few inserts were opened, one of a free row is added.
use Rattle.std.proofs.Common.{◌≡◌, ◌⊎◌, ◌<◌, ◌≤◌, ◌+◌, ◌*◌, ◌^◌, ◌&&◌, not, ℕ, Bool, true, false, if◌then◌else◌, List, [], ◌∷◌, reverse, Option, Some, None, refl, sym, ap, ◌∙◌, arith, inl, inr}
use Rattle.std.specs.Prelude.{is_none}
use Rattle.std.specs.List.{AllZip}
use Rattle.spg_base.specs.declared.recorded.Origin.{Origin}
use Rattle.spg_rows.specs.declared.event.Event.{Event}
use Rattle.spg_rows.specs.History.{History, own}
use Rattle.spg_rows.specs.Lives.{Life, Sweeper, lives}
use Rattle.spg_rows.specs.Held.{waits_for, sweep_waits, sweep_over}
use Rattle.spg_rows.specs.Rows.{is_claimed, claimed_in, waits_in}
use Rattle.spg_script.specs.declared.command.Command.{Command}
use Rattle.spg_script.specs.declared.command.Command.TheVariants as asked
use Rattle.spg_script.specs.Speech.{Speech}
use Rattle.spg_report.specs.declared.outcome.Outcome.{Outcome}
use Rattle.spg_report.specs.declared.outcome.Outcome.TheVariants as outcome
use Rattle.spg_report.specs.declared.record.Record.{Record}
use Rattle.spg_histories.specs.Tasks.{Task}
use Rattle.spg_histories.specs.Run.{OfInsert, Does, Did, past_at, between}
use Rattle.spg_bounds.specs.Bounds.{inserts, DropsAreLate}
use Rattle.spg_loads.specs.Late.{IsLateFor, IsLateIn, IsEarly, IsSureIn, SureSays}
use Rattle.spg_loads.proofs.Zips.{InZip, zip_all, all_in}
use Rattle.spg_loads.proofs.Late.{late_each}

clash : (b : Bool) → b ≡ true → b ≡ false → ⊥
clash b e f = let z : true ≡ false = sym e ∙ f in cc

module _ {O Key Recon Cond : Type 0} where
  -- a row that waits for a seat is claimed
  held_claimed : (past : History O Key Recon Cond) (by : ℕ) (ls : List (Life Key)) → waits_in ls past ≡ Some by → claimed_in ls past ≡ true
  held_claimed past by [] is = cc
  held_claimed past by (life ∷ older) is = go life.dropped life.sweep is
    where
      go : (dropped : Bool) (sweep : Option Sweeper) → (if dropped then None else sweep_waits sweep past) ≡ Some by → (not dropped && not (sweep_over sweep past)) ≡ true
      go true sweep is = cc
      go false None is = cc
      go false (Some sweeper) is = ap (λ (o : Option ℕ). not (is_none o)) is

  module _ (speech : Speech Key Cond) (origin : Origin) where
    sure_one : (block seat : ℕ) (alone : Bool) (before past : History O Key Recon Cond) (events : List (Event O Key Recon Cond)) (c : Command) (o : Outcome) → IsLateFor origin past o → Does speech (record { block = block; seat = seat; alone = alone; command = c }) before events o →
        OfInsert (λ row key. is_claimed row before ≡ false) c → IsEarly origin past → (o ≡ outcome.Added) ⊎ (o ≡ outcome.Memory)
    sure_one block seat alone before past events (asked.Insert row key) outcome.Added late does free early = inl refl
    sure_one block seat alone before past events (asked.Insert row key) outcome.Memory late does free early = inr refl
    sure_one block seat alone before past events (asked.Insert row key) outcome.RowUsed late does free early = absurd (clash (is_claimed row before) does.0.0 free)
    sure_one block seat alone before past events (asked.Insert row key) (outcome.RowHeld by) late does free early = absurd (clash (is_claimed row before) (held_claimed before by (lives row before) does.0) free)
    sure_one block seat alone before past events (asked.Insert row key) outcome.Full late does free early = let a = early.pages in absurd (omega arith)
    sure_one block seat alone before past events (asked.Insert row key) outcome.ClockFull late does free early = let a = early.clock in absurd (omega arith)
    sure_one block seat alone before past events (asked.Insert row key) o late does free early = absurd does
    sure_one block seat alone before past events (asked.Delete row) o late does free early = absurd free
    sure_one block seat alone before past events (asked.Find query) o late does free early = absurd free
    sure_one block seat alone before past events asked.Vacuum o late does free early = absurd free
    sure_one block seat alone before past events (asked.Save name) o late does free early = absurd free
    sure_one block seat alone before past events asked.Stat o late does free early = absurd free
    sure_one block seat alone before past events (asked.Near target limit) o late does free early = absurd free

    sure_each : (journal : List (Event O Key Recon Cond)) (tasks : List Task) (records : List Record) → DropsAreLate origin (reverse journal) → AllZip (Did speech journal) tasks records → AllZip (IsSureIn origin journal) tasks records
    sure_each journal tasks records drops did =
        let late = late_each origin speech journal tasks records drops did in
        zip_all (Did speech journal) (IsSureIn origin journal) tasks records (λ t r at d free early.
        sure_one t.block t.seat t.alone (past_at r.span.from journal) (past_at r.span.to journal) (own t.seat (between r.span.from r.span.to journal)) t.command r.outcome (all_in (IsLateIn origin journal) t r tasks records at late) d.does free early) did

pub sure_says : (O Key Recon Cond : Type 0) → SureSays O Key Recon Cond
sure_says O Key Recon Cond speech origin journal tasks records drops did = sure_each speech origin journal tasks records drops did
