-- An insert after a section that was refused.
use Rattle.std.proofs.Common.{◌≡◌, ℕ, sym, subst}
use Rattle.spg_rows.specs.declared.event.Why.TheVariants.{Full}
use Rattle.spg_core.specs.Stage.{Stage, free, IsInserting, MayGiveUp}
use Rattle.spg_core.specs.Seen.{Seen, stage_at}
use Rattle.spg_core.specs.Stepping.{IsNearLimit}

module _ {O Key Recon Cond : Type 0} (old new : Seen O Key Recon Cond) (seat : ℕ) (same : new ≡ old) (is : IsInserting (stage_at old seat)) where
  still : IsInserting (stage_at new seat)
  still = subst (λ (s : Seen O Key Recon Cond). IsInserting (stage_at s seat)) (sym same) is

  pub not_free : stage_at new seat ≡ free → ⊥
  not_free e = subst (λ (s : Stage O Key Recon Cond). IsInserting s) e still

  pub may_be_full : IsNearLimit old.table → MayGiveUp new.table (stage_at new seat) Full
  may_be_full near = (still, subst (λ (s : Seen O Key Recon Cond). IsNearLimit s.table) (sym same) near)
