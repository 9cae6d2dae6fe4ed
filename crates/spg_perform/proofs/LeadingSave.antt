-- A save: no event, and the pages as they were.
use Rattle.std.proofs.Common.{◌≡◌, inl, ℕ, true, List, length, Option, refl, sym}
use Rattle.spg_opclass.specs.Meaning.{Meaning}
use Rattle.spg_io.specs.Held.{Holding}
use Rattle.spg_core.specs.Stage.{free}
use Rattle.spg_core.specs.Seen.{Seen, stage_at}
use Rattle.spg_script.specs.declared.command.Command.TheVariants.{Save}
use Rattle.spg_script.specs.Speech.{Speech}
use Rattle.spg_report.specs.declared.outcome.Outcome.{Outcome}
use Rattle.spg_report.specs.declared.outcome.Outcome.TheVariants as outcome
use Rattle.spg_report.specs.declared.record.Record.{Record}
use Rattle.spg_commands.specs.Acted.{Acts}
use Rattle.spg_perform.specs.Saved.{IsSaved}
use Rattle.spg_commands.proofs.Acting.{Spans, rests}

module _ {O Key Recon Cond : Type 0} (m : Meaning Key Recon Cond) (speech : Speech Key Cond) (code : ℕ) (s : Seen O Key Recon Cond) (seat : ℕ) (name : List ℕ) (r : Record) (held held2 : Option Holding) (idle : stage_at s seat ≡ free) where
  pub save_acts : (o : Outcome) → IsSaved code s.table held held2 name o → Spans r o (length s.journal) (length s.journal) → Acts m speech s s seat true (Save name) r
  save_acts (outcome.Saved pages) is spans = rests m speech s s seat true (Save name) (outcome.Saved pages) r spans refl idle (λ block. refl) tt tt (λ q. sym is.0) tt is.0
  save_acts outcome.ImageFault is spans = rests m speech s s seat true (Save name) outcome.ImageFault r spans refl idle (λ block. refl) tt tt (λ q. tt) tt tt
  save_acts outcome.Memory is spans = rests m speech s s seat true (Save name) outcome.Memory r spans refl idle (λ block. inl refl) tt tt (λ q. tt) tt tt
  save_acts o is spans = absurd is
