-- The commands of lanes, one after another, and what they are in a run.
use Rattle.std.proofs.Common.{◌≡◌, ◌+◌, ℕ, Bool, false, List, [], ◌∷◌, ◌++◌, length, refl, sym, ap, ◌∙◌, subst, arith, length-append}
use Rattle.std.specs.List.{AllZip}
use Rattle.std.proofs.lemmas.List.{append-nil}
use Rattle.spg_base.specs.declared.recorded.Origin.{Origin}
use Rattle.spg_opclass.specs.Meaning.{Meaning}
use Rattle.spg_rows.specs.declared.event.Event.{Event}
use Rattle.spg_rows.specs.History.{History}
use Rattle.spg_calls.specs.Calls.{GrewTo, Watched, past_at}
use Rattle.spg_calls.proofs.Journals.{past_at-grows}
use Rattle.spg_calls.proofs.Calls.{grew_on}
use Rattle.spg_script.specs.declared.command.Command.{Command}
use Rattle.spg_script.specs.Speech.{Speech}
use Rattle.spg_report.specs.declared.record.Record.{Record}
use Rattle.spg_histories.specs.Tasks.{lane_tasks, lanes_tasks}
use Rattle.spg_histories.specs.Blocks.{joined, LanesRan}
use Rattle.spg_histories.specs.Calls.{CallsTo}
use Rattle.spg_histories.specs.Causes.{IsTooFull, IsTooFullIn}
use Rattle.spg_histories.proofs.Blocks.{zip_append}
use Rattle.spg_histories.proofs.Calls.{calls_compose}
use Rattle.spg_perform.proofs.Tasks.{lane_length}
use Rattle.spg_perform.specs.Lanes.{CommandDone, CommandsDone, LanesDone}

module _ {O Key Recon Cond : Type 0} (m : Meaning Key Recon Cond) (speech : Speech Key Cond) (origin : Origin) where
  -- ---- one more command

  pub commands_push : (seat : ℕ) (seen mid later events : List (Event O Key Recon Cond)) (cs : List Command) (rs : List Record) (c : Command) (r : Record)
      → CommandsDone m speech origin seat seen cs rs mid → CommandDone m speech origin seat c mid later r events → CommandsDone m speech origin seat seen (cs ++ c ∷ []) (rs ++ r ∷ []) later
  commands_push seat seen mid later events [] [] c r all one = (later, events, subst (λ (s : List (Event O Key Recon Cond)). CommandDone m speech origin seat c s later r events) (sym all) one, refl)
  commands_push seat seen mid later events [] (x ∷ rs) c r all one = absurd all
  commands_push seat seen mid later events (d ∷ cs) [] c r all one = absurd all
  commands_push seat seen mid later events (d ∷ cs) (x ∷ rs) c r (next, es, done, rest) one = (next, es, done, commands_push seat next mid later events cs rs c r rest one)

  pub commands_grew : (seat : ℕ) (seen later : List (Event O Key Recon Cond)) (cs : List Command) (rs : List Record) → CommandsDone m speech origin seat seen cs rs later → GrewTo seen later
  commands_grew seat seen later [] [] all = ([], sym all ∙ sym (append-nil seen))
  commands_grew seat seen later [] (r ∷ rs) all = absurd all
  commands_grew seat seen later (c ∷ cs) [] all = absurd all
  commands_grew seat seen later (c ∷ cs) (r ∷ rs) (next, es, done, rest) = grew_on seen next later done.called.grew (commands_grew seat next later cs rs rest)

  pub commands_long : (seat : ℕ) (seen later : List (Event O Key Recon Cond)) (cs : List Command) (rs : List Record) → CommandsDone m speech origin seat seen cs rs later → length rs ≡ length cs
  commands_long seat seen later [] [] all = refl
  commands_long seat seen later [] (r ∷ rs) all = absurd all
  commands_long seat seen later (c ∷ cs) [] all = absurd all
  commands_long seat seen later (c ∷ cs) (r ∷ rs) (next, es, done, rest) = omega (arith, commands_long seat next later cs rs rest)

  -- ---- a lane

  calls_to : (block seat : ℕ) (seen mid journal : List (Event O Key Recon Cond)) (cs : List Command) (rs : List Record) → CommandsDone m speech origin seat seen cs rs mid → Watched seat mid journal
      → CallsTo speech seat seen (lane_tasks block seat false cs) rs journal
  calls_to block seat seen mid journal [] [] all watched = subst (λ (s : List (Event O Key Recon Cond)). Watched seat s journal) (sym all) watched
  calls_to block seat seen mid journal [] (r ∷ rs) all watched = absurd all
  calls_to block seat seen mid journal (c ∷ cs) [] all watched = absurd all
  calls_to block seat seen mid journal (c ∷ cs) (r ∷ rs) (next, es, done, rest) watched = (next, es, done.called, done.does block, calls_to block seat next mid journal cs rs rest watched)

  full_in : (block seat : ℕ) (seen mid journal : List (Event O Key Recon Cond)) (cs : List Command) (rs : List Record) → CommandsDone m speech origin seat seen cs rs mid → GrewTo mid journal
      → AllZip (IsTooFullIn m origin journal) (lane_tasks block seat false cs) rs
  full_in block seat seen mid journal [] [] all grew = tt
  full_in block seat seen mid journal [] (r ∷ rs) all grew = absurd all
  full_in block seat seen mid journal (c ∷ cs) [] all grew = absurd all
  full_in block seat seen mid journal (c ∷ cs) (r ∷ rs) (next, es, done, rest) grew =
      let whole : GrewTo next journal = grew_on next mid journal (commands_grew seat next mid cs rs rest) grew in
      let past : past_at r.span.to next ≡ past_at r.span.to journal = sym (ap (past_at r.span.to) whole.1 ∙ past_at-grows r.span.to next whole.0 done.called.high) in
      (subst (λ (h : History O Key Recon Cond). IsTooFull m origin c h r.outcome) past done.full, full_in block seat next mid journal cs rs rest grew)

  -- ---- the lanes of a block

  pub lanes_ran : (block seat : ℕ) (old journal : List (Event O Key Recon Cond)) (lanes : List (List Command)) (groups : List (List Record)) → LanesDone m speech origin seat old journal lanes groups
      → LanesRan speech (length old) journal block seat false lanes groups
  lanes_ran block seat old journal [] [] all = all
  lanes_ran block seat old journal [] (rs ∷ groups) all = absurd all
  lanes_ran block seat old journal (lane ∷ lanes) [] all = absurd all
  lanes_ran block seat old journal (lane ∷ lanes) (rs ∷ groups) all = (
    (calls_compose O Key Recon Cond).lane speech old journal block seat false lane rs (calls_to block seat old all.0.seen journal lane rs all.0.done all.0.watched),
    lanes_ran block (seat + 1) old journal lanes groups all.1,
  )

  pub lanes_full : (block seat : ℕ) (old journal : List (Event O Key Recon Cond)) (lanes : List (List Command)) (groups : List (List Record)) → LanesDone m speech origin seat old journal lanes groups
      → AllZip (IsTooFullIn m origin journal) (lanes_tasks block seat false lanes) (joined groups)
  lanes_full block seat old journal [] [] all = tt
  lanes_full block seat old journal [] (rs ∷ groups) all = absurd all
  lanes_full block seat old journal (lane ∷ lanes) [] all = absurd all
  lanes_full block seat old journal (lane ∷ lanes) (rs ∷ groups) all =
      zip_append (IsTooFullIn m origin journal) (lane_tasks block seat false lane) (lanes_tasks block (seat + 1) false lanes) rs (joined groups)
      (full_in block seat old all.0.seen journal lane rs all.0.done all.0.watched.grew) (lanes_full block (seat + 1) old journal lanes groups all.1)

  -- a record of each command
  pub records_long : (block : ℕ) (alone : Bool) (seat : ℕ) (old journal : List (Event O Key Recon Cond)) (lanes : List (List Command)) (groups : List (List Record)) → LanesDone m speech origin seat old journal lanes groups
      → length (joined groups) ≡ length (lanes_tasks block seat alone lanes)
  records_long block alone seat old journal [] [] all = refl
  records_long block alone seat old journal [] (rs ∷ groups) all = absurd all
  records_long block alone seat old journal (lane ∷ lanes) [] all = absurd all
  records_long block alone seat old journal (lane ∷ lanes) (rs ∷ groups) all = omega (
    arith,
    length-append rs (joined groups),
    length-append (lane_tasks block seat alone lane) (lanes_tasks block (seat + 1) alone lanes),
    lane_length block seat alone lane,
    commands_long seat old all.0.seen lane rs all.0.done,
    records_long block alone (seat + 1) old journal lanes groups all.1,
  )
