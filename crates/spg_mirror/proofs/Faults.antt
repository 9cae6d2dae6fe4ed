-- No command of a run with a standby tells of a fault of images.
use Rattle.std.proofs.Common.{◌≡◌, ◌⊎◌, inl, inr, ◌||◌, ◌+◌, ℕ, Bool, true, false, not, List, [], ◌∷◌, refl, sym, ◌∙◌, subst}
use Rattle.std.specs.List.{AllZip, AllByRecursion}
use Rattle.spg_opclass.specs.Meaning.{Meaning}
use Rattle.spg_rows.specs.declared.event.Event.{Event}
use Rattle.spg_core.specs.Seen.{Seen}
use Rattle.spg_script.specs.declared.command.Command.{Command}
use Rattle.spg_script.specs.declared.command.Command.TheVariants as asked
use Rattle.spg_script.specs.Script.{IsLaneCommand}
use Rattle.spg_script.specs.Speech.{Speech}
use Rattle.spg_report.specs.declared.outcome.Outcome.{Outcome}
use Rattle.spg_report.specs.declared.outcome.Outcome.TheVariants as outcome
use Rattle.spg_report.specs.declared.record.Record.{Record}
use Rattle.spg_histories.specs.Tasks.{Task}
use Rattle.spg_rows.specs.History.{own}
use Rattle.spg_calls.specs.Calls.{past_at, between}
use Rattle.spg_script.specs.declared.any_query.AnyQuery.{AnyQuery}
use Rattle.spg_histories.specs.Run.{OfSave, Does, Did}
use Rattle.spg_histories.specs.Ending.{any_outcome, is_fault, is_memory}
use Rattle.spg_commands.specs.Acted.{task_of}
use Rattle.spg_mirror.specs.Mirrored.{commands_tasks, writes_in, write_records, IsToldAs, FindsBy, AreAnswered, Mirrored}

no_save : (P : Type 0) (c : Command) → IsLaneCommand c → OfSave P c → ⊥
no_save P (asked.Insert row key) lane of = of
no_save P (asked.Delete row) lane of = of
no_save P (asked.Find query) lane of = of
no_save P asked.Vacuum lane of = of
no_save P (asked.Save name) lane of = lane
no_save P asked.Stat lane of = of
no_save P (asked.Near target limit) lane of = of

-- a fault is told of a save alone
is_told : (o : Outcome) → is_fault o ≡ true → o ≡ outcome.ImageFault
is_told outcome.ImageFault is = refl
is_told o is = absurd (cc)

not_true : (b : Bool) → (b ≡ true → ⊥) → b ≡ false
not_true true other = absurd (other refl)
not_true false other = refl

none_of_either : (a b : Bool) → a ≡ false → b ≡ false → (a || b) ≡ false
none_of_either false b is is2 = is2
none_of_either true b is is2 = absurd (cc)

module _ {O Key Recon Cond : Type 0} (m : Meaning Key Recon Cond) (speech : Speech Key Cond) (lag : ℕ) (journal : List (Event O Key Recon Cond)) where
  write_faultless : (t : Task) (came r : Record) → IsLaneCommand t.command → Did speech journal t came → IsToldAs came r → is_fault r.outcome ≡ false
  write_faultless t came r lane did told = not_true (is_fault r.outcome) (λ fault. by (is_told r.outcome fault) told.outcome)
    where
      by : r.outcome ≡ outcome.ImageFault → (r.outcome ≡ came.outcome) ⊎ (r.outcome ≡ outcome.Memory) → ⊥
      by fault (inl same) =
          no_save (own t.seat (between came.span.from came.span.to journal) ≡ []) t.command lane
          (subst (λ (o : Outcome). Does speech t (past_at came.span.from journal) (own t.seat (between came.span.from came.span.to journal)) o) (sym same ∙ fault) did.does)
      by fault (inr memory) = let clash : outcome.ImageFault ≡ outcome.Memory = sym fault ∙ memory in absurd (cc clash)

  found_faultless : (at : ℕ) (kept_up : Bool) (query : AnyQuery) (r : Record) → FindsBy m speech lag journal at kept_up query r.span r.outcome → is_fault r.outcome ≡ false
  found_faultless at kept_up query r found = not_true (is_fault r.outcome) (λ fault. subst (λ (o : Outcome). FindsBy m speech lag journal at kept_up query r.span o) (is_told r.outcome fault) found)

  each_faultless : (block at : ℕ) (kept_up : Bool) (commands : List Command) (records came : List Record) → AllByRecursion IsLaneCommand commands → AreAnswered m speech lag journal at kept_up (commands_tasks block commands) records
      → AllZip (Did speech journal) (writes_in (commands_tasks block commands)) came → AllZip IsToldAs came (write_records (commands_tasks block commands) records) → any_outcome is_fault records ≡ false
  each_faultless block at kept_up [] [] came lane are did told = refl
  each_faultless block at kept_up [] (r ∷ records) came lane are did told = absurd are
  each_faultless block at kept_up (c ∷ commands) [] came lane are did told = absurd are
  each_faultless block at kept_up (asked.Find query ∷ commands) (r ∷ records) came lane are did told =
      none_of_either (is_fault r.outcome) (any_outcome is_fault records) (found_faultless at kept_up query r are.0) (each_faultless (block + 1) at kept_up commands records came lane.1 are.1 did told)
  each_faultless block at kept_up (asked.Insert row key ∷ commands) (r ∷ records) [] lane are did told = absurd did
  each_faultless block at kept_up (asked.Insert row key ∷ commands) (r ∷ records) (x ∷ came) lane are did told =
      none_of_either (is_fault r.outcome) (any_outcome is_fault records) (write_faultless (task_of block 0 true (asked.Insert row key)) x r tt did.0 told.0) (each_faultless (block + 1) r.span.to (not (is_memory r.outcome)) commands records came lane.1 are.1 did.1 told.1)
  each_faultless block at kept_up (asked.Delete row ∷ commands) (r ∷ records) [] lane are did told = absurd did
  each_faultless block at kept_up (asked.Delete row ∷ commands) (r ∷ records) (x ∷ came) lane are did told =
      none_of_either (is_fault r.outcome) (any_outcome is_fault records) (write_faultless (task_of block 0 true (asked.Delete row)) x r tt did.0 told.0) (each_faultless (block + 1) r.span.to (not (is_memory r.outcome)) commands records came lane.1 are.1 did.1 told.1)
  each_faultless block at kept_up (asked.Vacuum ∷ commands) (r ∷ records) [] lane are did told = absurd did
  each_faultless block at kept_up (asked.Vacuum ∷ commands) (r ∷ records) (x ∷ came) lane are did told =
      none_of_either (is_fault r.outcome) (any_outcome is_fault records) (write_faultless (task_of block 0 true asked.Vacuum) x r tt did.0 told.0) (each_faultless (block + 1) r.span.to (not (is_memory r.outcome)) commands records came lane.1 are.1 did.1 told.1)
  each_faultless block at kept_up (asked.Save name ∷ commands) (r ∷ records) came lane are did told = absurd lane.0
  each_faultless block at kept_up (asked.Stat ∷ commands) (r ∷ records) came lane are did told = absurd lane.0
  each_faultless block at kept_up (asked.Near target limit ∷ commands) (r ∷ records) came lane are did told = absurd lane.0

pub no_faults : {O Key Recon Cond : Type 0} (m : Meaning Key Recon Cond) (speech : Speech Key Cond) (limit lag : ℕ) (commands : List Command) (seen : Seen O Key Recon Cond) (records : List Record) → AllByRecursion IsLaneCommand commands
    → Mirrored m speech limit lag (commands_tasks 0 commands) seen records → any_outcome is_fault records ≡ false
no_faults m speech limit lag commands seen records lane mirrored = each_faultless m speech lag seen.journal 0 0 true commands records mirrored.came lane mirrored.finds mirrored.run.each mirrored.told
