-- A small state with a vacuum open keeps what a state keeps.
use Rattle.std.proofs.Common.{false, refl, sym, ◌∙◌, arith}
use Rattle.std.proofs.lemmas.Bool.{false≢true}
use Rattle.spg_opclass.specs.Meaning.{Meaning}
use Rattle.spg_tree.specs.Table.{start_table}
use Rattle.spg_seats.specs.Slots.{sweeping, Fields}
use Rattle.spg_seats.specs.Opening.{new_fields, opened_vacuum}
use Rattle.spg_seats.specs.Examples.{one_vacuum, VacuumKept}
use Rattle.spg_seats.proofs.Beginning.{new_kept, all_free, no_latch}
use Rattle.spg_seats.proofs.Holding.{latches_law}
use Rattle.spg_seats.proofs.VacuumCalls as calls

module _ {O Key Recon Cond : Type 0} (m : Meaning Key Recon Cond) where
  pub vacuum_kept : VacuumKept O Key Recon Cond m
  vacuum_kept limit = calls.kept_opens_vacuum m s (one_vacuum limit) 1 (sweeping (opened_vacuum 0 0)) (new_kept m limit) refl refl
      ((latches_law O Key Recon Cond).begins (start_table limit) 1 (λ b. false) (λ b. (λ h. absurd (no_latch limit 1 b h), λ h. absurd (false≢true h))))
      (omega arith) refl refl refl refl refl (λ seat v h. absurd (cc (sym (all_free m 64 seat) ∙ h))) refl
      (record { row = refl; targets = (λ r. refl, λ r. refl); vacuums = refl })
    where
      s : Fields O Key Recon Cond
      s = new_fields limit
