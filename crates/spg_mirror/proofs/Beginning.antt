-- A pair with which commands begin, and what a class knows of them.
use Rattle.std.proofs.Common.{◌≡◌, ℕ, List, [], ◌∷◌, length, map, refl, sym, ap, subst, arith}
use Rattle.std.specs.List.{All, AllByRecursion}
use Rattle.std.proofs.lemmas.List.Elements.{All-from_recursion}
use Rattle.spg_opclass.specs.Meaning.{Meaning}
use Rattle.spg_rows.specs.declared.event.Event.{Event}
use Rattle.spg_rows.specs.Right.{Right}
use Rattle.spg_tree.specs.Table.{sheets_of}
use Rattle.spg_core.specs.Seen.{Seen, past_of}
use Rattle.spg_core.specs.Sections.{IsNew}
use Rattle.spg_whole.specs.Calls.{AllClosed}
use Rattle.spg_script.specs.declared.command.Command.{Command}
use Rattle.spg_script.specs.declared.sequence.Sequence.{Sequence}
use Rattle.spg_script.specs.Blocks.{alone_part}
use Rattle.spg_script.specs.Laws.{IsCommand}
use Rattle.spg_script.specs.Line.{keys_of}
use Rattle.spg_script.specs.Script.{AreCommands, IsTidy, IsWritten}
use Rattle.spg_script.specs.Sequences.{script_of}
use Rattle.spg_script.specs.Speech.{Speech, IsKnown}
use Rattle.spg_script.proofs.Tidy.{script_tidy}
use Rattle.spg_report.specs.declared.record.Record.{Record}
use Rattle.spg_histories.specs.Run.{RunOf}
use Rattle.spg_histories.proofs.Blocks.{runs_grow}
use Rattle.spg_histories.proofs.Causes.{causes_grow}
use Rattle.spg_commands.specs.Known.{IsOfClass}
use Rattle.spg_standby.specs.Twin.{Twin}
use Rattle.spg_mirror.specs.Mirrored.{made_with, commands_tasks, Mirrored, SoFar, LeadsTo}

module _ {Key Cond : Type 0} (speech : Speech Key Cond) where
  each_known : (keys : _) → ((c : Command) → IsCommand keys c → IsKnown speech c) → (commands : List Command) → AreCommands keys (map alone_part commands) → AllByRecursion (IsKnown speech) commands
  each_known keys known [] are = tt
  each_known keys known (c ∷ commands) are = (known c are.0.0.0, each_known keys known commands are.1)

  pub all_known : (s : Sequence) → IsWritten (script_of s) → IsOfClass speech s.class → All (IsKnown speech) s.commands
  all_known s written known =
      let tidy : IsTidy (script_of s) = script_tidy written.bytes (script_of s) written.are_bytes written.is_script in
      All-from_recursion (IsKnown speech) s.commands (each_known (keys_of s.class) known s.commands tidy.commands)

module _ {O Key Recon Cond : Type 0} (m : Meaning Key Recon Cond) (speech : Speech Key Cond) where
  mirrors_nothing : (limit lag : ℕ) (seen : Seen O Key Recon Cond) → IsNew limit seen → Right m seen.journal → AllClosed (past_of seen) → Mirrored m speech limit lag [] seen []
  mirrors_nothing limit lag seen is right closed = record {
    came = [];
    told = tt;
    run = subst (λ (j : List (Event O Key Recon Cond)). RunOf speech [] [] j []) (sym is.journal) ((runs_grow O Key Recon Cond).begins speech []);
    causes = (causes_grow O Key Recon Cond).begins m (made_with limit) (sheets_of seen.table) seen.journal;
    finds = tt;
    right = right;
    closed = closed;
    made = is.origin;
  }

  -- a new pair, for which nothing was done
  pub begins : (limit lag : ℕ) (p : Twin O Key Recon Cond) (none : List Record) → none ≡ [] → IsNew limit p.primary → p.queue ≡ [] → p.lag ≡ lag → Right m p.primary.journal → AllClosed (past_of p.primary) → SoFar m speech limit lag [] p none
  begins limit lag p none empty is unqueued lag_is right closed =
      subst (λ (rs : List Record). SoFar m speech limit lag [] p rs) (sym empty) (record {
        mirrored = mirrors_nothing limit lag p.primary is right closed;
        count = refl;
        at = sym (ap length is.journal);
        lag_is = lag_is;
        queued = λ kept. omega (arith, ap length unqueued);
      })

  -- what commands led to from there
  pub mirrored_to : (limit lag : ℕ) (p p1 : Twin O Key Recon Cond) (none done records : List Record) (all commands : List Command) (seen : Seen O Key Recon Cond) → LeadsTo m speech p none p1 done (commands_tasks 0 all) → SoFar m speech limit lag [] p none
      → all ≡ commands → seen ≡ p1.primary → records ≡ done → Mirrored m speech limit lag (commands_tasks 0 commands) seen records
  mirrored_to limit lag p p1 none done records all commands seen leads start are is same =
      subst (λ (cs : List Command). Mirrored m speech limit lag (commands_tasks 0 cs) seen records) are
      (subst (λ (s : Seen O Key Recon Cond). Mirrored m speech limit lag (commands_tasks 0 all) s records) (sym is)
      (subst (λ (rs : List Record). Mirrored m speech limit lag (commands_tasks 0 all) p1.primary rs) (sym same) (leads limit lag start).mirrored))
