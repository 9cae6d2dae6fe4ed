-- What comes of writes, and what is answered.
use Rattle.std.proofs.Common.{◌≡◌, ◌≢◌, ◌≤◌, ◌⊎◌, ◌+◌, ◌^◌, inl, inr, ℕ, List, reverse, Option, refl, sym, ◌∙◌, subst}
use Rattle.spg_base.specs.Row.{RowAt}
use Rattle.spg_opclass.specs.Meaning.{Meaning}
use Rattle.spg_rows.specs.declared.event.Event.{Event}
use Rattle.spg_rows.specs.Told.{IsUsed}
use Rattle.spg_rows.specs.declared.event.Why.TheVariants as why
use Rattle.spg_tree.specs.Table.{Table}
use Rattle.spg_tree.specs.declared.stand.StepRefused.{StepRefused}
use Rattle.spg_tree.specs.declared.stand.StepRefused.TheVariants as step
use Rattle.spg_core.specs.declared.answer.OpenRefused.{OpenRefused}
use Rattle.spg_core.specs.declared.answer.OpenRefused.TheVariants as open_refused
use Rattle.spg_core.specs.Stage.{Stage, free, IsInserting, IsSweeping, MayGiveUp}
use Rattle.spg_core.specs.Seen.{Seen, stage_at, past_of}
use Rattle.spg_core.specs.Stepping.{IsNearLimit, Grows}
use Rattle.spg_core.specs.Sections.{OpensInsert, GivesUp}
use Rattle.spg_core.specs.Through.{StillInserts}
use Rattle.spg_whole.specs.Underway.{HasOutgrown}
use Rattle.spg_whole.specs.Calls.{AllClosed}
use Rattle.spg_whole.proofs.Alone.{OthersClosed}
use Rattle.spg_whole.proofs.Puts.{gave_up, heavy, near, at_end}
use Rattle.spg_standby.specs.declared.wrote.Wrote.{Wrote}
use Rattle.spg_standby.specs.declared.wrote.Wrote.TheVariants as came
use Rattle.spg_standby.specs.Writes.{Inserted, Deleted, Vacuumed, Settles, Answers, why_of, came_of}

-- ---- what is answered

pub answered : (P : Wrote → Type 0) (queued lag : ℕ) (wrote answer : Wrote) → P wrote → Settles queued lag wrote answer → Answers P queued lag answer
answered P queued lag wrote answer h settled = (wrote, h, settled)

-- unless it is `memory`, no more are queued than may be
pub few_queued : (queued lag : ℕ) (wrote answer : Wrote) → Settles queued lag wrote answer → answer ≢ came.Memory → queued ≤ lag
few_queued queued lag wrote answer (inl (few, e)) other = few
few_queued queued lag wrote answer (inr (many, e)) other = absurd (other e)

pub used_still : (queued lag : ℕ) (wrote answer : Wrote) → (wrote ≡ came.RowUsed) ⊎ (wrote ≡ came.Memory) → Settles queued lag wrote answer → (answer ≡ came.RowUsed) ⊎ (answer ≡ came.Memory)
used_still queued lag wrote answer (inl w) (inl (few, e)) = inl (e ∙ w)
used_still queued lag wrote answer (inr w) (inl (few, e)) = inr (e ∙ w)
used_still queued lag wrote answer h (inr (many, e)) = inr e

-- ---- an insert that is refused

module _ {O Key Recon Cond : Type 0} (m : Meaning Key Recon Cond) where
  pub not_opened : (s0 s1 : Seen O Key Recon Cond) (seat : ℕ) (row : RowAt) (key : Option Key) (opened : OpenRefused) (wrote : Wrote) → (wrote ≡ came.RowUsed) ⊎ (wrote ≡ came.Memory) → (wrote ≡ came.RowUsed → opened ≡ open_refused.RowUsed) → s1 ≡ s0 → (opened ≡ open_refused.RowUsed → IsUsed (past_of s0) row) → Inserted m s0 s1 seat row key wrote
  not_opened s0 s1 seat row key opened wrote (inl e) is same used = subst (λ (w : Wrote). Inserted m s0 s1 seat row key w) (sym e) (same, used (is e))
  not_opened s0 s1 seat row key opened wrote (inr e) is same used = subst (λ (w : Wrote). Inserted m s0 s1 seat row key w) (sym e) (inl same)

  pub may_give_up : (t : Table) (stage : Stage O Key Recon Cond) (refused : StepRefused) → IsInserting stage → (refused ≡ step.IndexFull → IsNearLimit t) → (refused ≡ step.ClockFull → t.clock + 1 ≡ 2 ^ 48) → MayGiveUp t stage (why_of refused)
  may_give_up t stage step.IndexFull is full clock = (is, full refl)
  may_give_up t stage step.ClockFull is full clock = (is, clock refl)
  may_give_up t stage step.Memory is full clock = tt

  module _ (s0 s1 : Seen O Key Recon Cond) (seat : ℕ) (row : RowAt) (key : Option Key) (opens : OpensInsert m s0 s1 seat row key) (s2 s3 : Seen O Key Recon Cond) where
    pub refused_by : (refused : StepRefused) → AllClosed (past_of s0) → StillInserts s1 s2 seat → GivesUp s2 s3 seat (why_of refused) → Grows s1.table s2.table →
        (refused ≡ step.IndexFull → HasOutgrown m s1 seat × IsNearLimit s2.table) → (refused ≡ step.ClockFull → HasOutgrown m s1 seat × (s2.table.clock + 1 ≡ 2 ^ 48)) → Inserted m s0 s3 seat row key (came_of refused)
    refused_by step.IndexFull closed still up grows full clock = (
      gave_up m s0 s1 seat row key opens why.Full s2 s3 still up closed grows,
      heavy m s0 s1 seat row key opens why.Full s2 s3 still up (full refl).0,
      near m s0 s1 seat row key opens why.Full s2 s3 still up (full refl).1,
    )
    refused_by step.ClockFull closed still up grows full clock = (
      gave_up m s0 s1 seat row key opens why.Clock s2 s3 still up closed grows,
      heavy m s0 s1 seat row key opens why.Clock s2 s3 still up (clock refl).0,
      at_end m s0 s1 seat row key opens why.Clock s2 s3 still up (clock refl).1,
    )
    refused_by step.Memory closed still up grows full clock = inr (gave_up m s0 s1 seat row key opens why.Given s2 s3 still up closed grows)

-- ---- nothing is open then

module _ {O Key Recon Cond : Type 0} where
  same_closed : (old new : Seen O Key Recon Cond) → new ≡ old → AllClosed (past_of old) → AllClosed (past_of new)
  same_closed old new e c = subst (λ (s : Seen O Key Recon Cond). AllClosed (past_of s)) (sym e) c

  pub inserted_closed : (m : Meaning Key Recon Cond) (old new : Seen O Key Recon Cond) (seat : ℕ) (row : RowAt) (key : Option Key) (wrote : Wrote) → Inserted m old new seat row key wrote → AllClosed (past_of old) → AllClosed (past_of new)
  inserted_closed m old new seat row key came.Added D c = D.closed
  inserted_closed m old new seat row key came.RowUsed (e, used) c = same_closed old new e c
  inserted_closed m old new seat row key came.IndexFull (D, heavy, near) c = D.closed
  inserted_closed m old new seat row key came.ClockFull (D, heavy, late) c = D.closed
  inserted_closed m old new seat row key came.Killed h c = absurd h
  inserted_closed m old new seat row key came.NotLive h c = absurd h
  inserted_closed m old new seat row key (came.Vacuumed n) h c = absurd h
  inserted_closed m old new seat row key came.Memory (inl e) c = same_closed old new e c
  inserted_closed m old new seat row key came.Memory (inr D) c = D.closed

  pub deleted_closed : (old new : Seen O Key Recon Cond) (seat : ℕ) (row : RowAt) (wrote : Wrote) → Deleted old new seat row wrote → AllClosed (past_of old) → AllClosed (past_of new)
  deleted_closed old new seat row came.Added h c = absurd h
  deleted_closed old new seat row came.RowUsed h c = absurd h
  deleted_closed old new seat row came.IndexFull h c = absurd h
  deleted_closed old new seat row came.ClockFull h c = absurd h
  deleted_closed old new seat row came.Killed (live, D, pages) c = D.closed
  deleted_closed old new seat row came.NotLive (dead, e) c = same_closed old new e c
  deleted_closed old new seat row (came.Vacuumed n) h c = absurd h
  deleted_closed old new seat row came.Memory e c = same_closed old new e c

  pub vacuumed_closed : (old new : Seen O Key Recon Cond) (seat : ℕ) (wrote : Wrote) → Vacuumed old new seat wrote → AllClosed (past_of old) → AllClosed (past_of new)
  vacuumed_closed old new seat came.Added h c = absurd h
  vacuumed_closed old new seat came.RowUsed h c = absurd h
  vacuumed_closed old new seat came.IndexFull h c = absurd h
  vacuumed_closed old new seat came.ClockFull h c = absurd h
  vacuumed_closed old new seat came.Killed h c = absurd h
  vacuumed_closed old new seat came.NotLive h c = absurd h
  vacuumed_closed old new seat (came.Vacuumed n) V c = V.did.closed
  vacuumed_closed old new seat came.Memory (inl e) c = same_closed old new e c
  vacuumed_closed old new seat came.Memory (inr (rows, D)) c = D.closed

  -- a seat that is free sweeps nothing
  pub free_sweeps_not : (seen : Seen O Key Recon Cond) (seat : ℕ) → stage_at seen seat ≡ free → IsSweeping (stage_at seen seat) → ⊥
  free_sweeps_not seen seat e h = subst (λ (s : Stage O Key Recon Cond). IsSweeping s) e h

  -- while a seat goes on with an insert the others have nothing open
  pub others_still : (s0 s1 : Seen O Key Recon Cond) (seat : ℕ) → OthersClosed seat (past_of s0) → StillInserts s0 s1 seat → OthersClosed seat (past_of s1)
  others_still s0 s1 seat alone still = subst (λ (j : List (Event O Key Recon Cond)). OthersClosed seat (reverse j)) (sym still.journal) alone
