-- What a search for the nearest rows does is what its command does.
use Rattle.std.proofs.Common.{◌≡◌, ◌∷◌, [], inl, inr, ℕ, Bool, true, length, Option, Some, None, Result, Ok, Err, IfOk, OnErr, refl, sym, subst}
use Rattle.spg_base.specs.declared.point.Point.{Point}
use Rattle.spg_base.specs.declared.memory.Memory.{Memory as NoMemory}
use Rattle.spg_opclass.specs.Meaning.{Meaning}
use Rattle.spg_opclass.specs.declared.query.Query.TheVariants as asks
use Rattle.spg_rows.specs.declared.event.Event.TheVariants.{OpenScan, Leave}
use Rattle.spg_rows.specs.Right.{Right}
use Rattle.spg_core.specs.Stage.{free}
use Rattle.spg_core.specs.Seen.{Seen, stage_at, past_of}
use Rattle.spg_whole.specs.Calls.{FindsNone}
use Rattle.spg_served.specs.Serves.{Nearest, IsServed}
use Rattle.spg_script.specs.declared.command.Command.TheVariants.{Near}
use Rattle.spg_script.specs.Speech.{Speech, IsKnown}
use Rattle.spg_report.specs.declared.outcome.Outcome.TheVariants as outcome
use Rattle.spg_report.specs.declared.record.Record.{Record}
use Rattle.spg_commands.specs.Acted.{Acts}
use Rattle.spg_commands.proofs.Acting.{Spans, rests}
use Rattle.spg_commands.proofs.Commands.{did}
use Rattle.spg_perform.specs.Outcomes.{near_outcome, IsAnswered}

module _ {O Key Recon Cond : Type 0} (m : Meaning Key Recon Cond) (speech : Speech Key Cond) (s0 s1 : Seen O Key Recon Cond) (seat : ℕ) where
  pub answered : (target : Point) (limit : ℕ) → IsKnown speech (Near target limit) → (result : Result (Option Nearest) NoMemory) → IfOk result (λ found. IsServed m speech s0 s1 seat target limit found) → IsAnswered result
  answered target limit known (Ok (Some found)) served = tt
  answered target limit known (Ok None) served = served.0 known.0 known.1
  answered target limit known (Err e) served = tt

module _ {O Key Recon Cond : Type 0} (m : Meaning Key Recon Cond) (speech : Speech Key Cond) (s0 s1 : Seen O Key Recon Cond) (seat : ℕ) (idle : stage_at s0 seat ≡ free) (idle_then : stage_at s1 seat ≡ free) (right : Right m s1.journal) where
  pub nearest : (target : Point) (limit : ℕ) → IsKnown speech (Near target limit) → (r : Record) (result : Result (Option Nearest) NoMemory) → IfOk result (λ found. IsServed m speech s0 s1 seat target limit found) → OnErr result (FindsNone s0 s1 seat asks.All)
      → Spans r (near_outcome result) (length s0.journal) (length s1.journal) → Acts m speech s0 s1 seat true (Near target limit) r
  nearest target limit known r (Ok (Some found)) served e spans =
      did m speech s0 s1 seat true idle idle_then right (Near target limit) (outcome.Near found.rows found.met) r spans (OpenScan seat asks.All ∷ Leave seat ∷ []) served.did (refl, (refl, tt)) (λ block. ((asks.All, refl, refl), served.right, refl)) tt tt (λ z. served.pages.0)
      (λ z. served.walk) tt tt
  nearest target limit known r (Ok None) served e spans = absurd (served.0 known.0 known.1)
  nearest target limit known r (Err n) served (inl same) spans = rests m speech s0 s1 seat true (Near target limit) outcome.Memory r spans same idle (λ block. inl refl) tt tt (λ z. tt) tt tt
  nearest target limit known r (Err n) served (inr (D, pages)) spans = did m speech s0 s1 seat true idle idle_then right (Near target limit) outcome.Memory r spans (OpenScan seat asks.All ∷ Leave seat ∷ []) D (refl, (refl, tt)) (λ block. inr (asks.All, refl, refl)) tt tt (λ z. pages.0) (λ z. tt) tt tt
