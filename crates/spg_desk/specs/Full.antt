-- When an insert may be given up since the index, or its clock, is full.
use Rattle.std.specs.Prelude.{◌≡◌, ◌<◌, false, Option, is_none}
use Rattle.spg_base.specs.declared.recorded.Origin.{Origin}
use Rattle.spg_opclass.specs.Meaning.{Meaning}
use Rattle.spg_forest.specs.Walk.{weight_of}
use Rattle.spg_rows.specs.declared.event.Why.{Why}
use Rattle.spg_rows.specs.History.{History}
use Rattle.spg_core.specs.Weight.{opened_keys}
use Rattle.spg_bounds.specs.Bounds.{IsLate}

-- The keys of the insert's tree that were ever inserted take more than 8,160 bytes, where the state was not loaded; and so many inserts were opened that few blocks may be left, or that the clock may be at its end
pub record IsFullFor {O Key Recon Cond : Type 0} (m : Meaning Key Recon Cond) (origin : Origin) (key : Option Key) (past : History O Key Recon Cond) (why : Why) : Type 0 where
  pub outgrown : origin.loaded ≡ false → 8160 < weight_of m (is_none key) (opened_keys past)
  pub late : IsLate origin past why
