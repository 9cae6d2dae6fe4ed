-- The keys of an insert's tree, where its sections found no room.
use Rattle.std.proofs.Common.{◌≡◌, ◌<◌, ℕ, false, List, is_none, Option, ap, ◌∙◌, subst, reverse}
use Rattle.spg_base.specs.declared.recorded.Origin.{Origin}
use Rattle.spg_base.specs.Row.{RowAt}
use Rattle.spg_opclass.specs.Meaning.{Meaning}
use Rattle.spg_forest.specs.Walk.{weight_of}
use Rattle.spg_rows.specs.declared.event.Event.{Event}
use Rattle.spg_core.specs.Stage.{Stage, free, descending, reading, sweeping}
use Rattle.spg_core.specs.Seen.{Seen, stage_at, past_of}
use Rattle.spg_core.specs.Sections.{IsHeavyFor, IsHeavy}
use Rattle.spg_core.specs.Through.{IsInsertOf, StillInserts}
use Rattle.spg_core.specs.Weight.{opened_keys}
use Rattle.spg_whole.specs.Underway.{HasOutgrown}

module _ {O Key Recon Cond : Type 0} (m : Meaning Key Recon Cond) where
  heavy : (seen : Seen O Key Recon Cond) (stage : Stage O Key Recon Cond) (row : RowAt) (key : Option Key) → IsHeavyFor m seen stage → IsInsertOf row key stage → seen.origin.loaded ≡ false → 8160 < weight_of m (is_none key) (opened_keys (past_of seen))
  heavy seen free row key is was = absurd is
  heavy seen (descending k d) row key is (a, b) = λ fresh. subst (λ (x : Option Key). 8160 < weight_of m (is_none x) (opened_keys (past_of seen))) a (is fresh)
  heavy seen (reading s) row key is was = absurd is
  heavy seen (sweeping v) row key is was = absurd is

  pub outgrown : (s0 s1 : Seen O Key Recon Cond) (seat : ℕ) → StillInserts s0 s1 seat → IsHeavy m s1 seat → HasOutgrown m s0 seat
  outgrown s0 s1 seat G is = λ row key was fresh.
      subst (λ (j : List (Event O Key Recon Cond)). 8160 < weight_of m (is_none key) (opened_keys (reverse j))) G.journal (heavy s1 (stage_at s1 seat) row key is (G.insert row key was) (ap (λ (o : Origin). o.loaded) G.origin ∙ fresh))
