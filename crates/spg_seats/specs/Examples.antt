-- A small state with a vacuum open.
use Rattle.std.specs.Prelude.{ℕ, false, [], ◌∷◌, replicate, slice_set, None}
use Rattle.spg_opclass.specs.Meaning.{Meaning}
use Rattle.spg_rows.specs.declared.event.Event.TheVariants.{OpenVacuum}
use Rattle.spg_tree.specs.Table.{start_table}
use Rattle.spg_seats.specs.Slots.{free, sweeping, Fields, IsKept}
use Rattle.spg_seats.specs.Opening.{opened_vacuum}

-- a new state in which seat 1 has then opened a vacuum, with room for its end
abbrev pub one_vacuum : {O Key Recon Cond : Type 0} → ℕ → Fields O Key Recon Cond
one_vacuum limit = record {
  journal = OpenVacuum 1 ∷ [];
  spare = 1;
  stages = slice_set (replicate 64 free) 1 (sweeping (opened_vacuum 0 0));
  table = start_table limit;
  rows = [];
  targets = λ r. false;
  later = λ r. false;
  vacuums = (0, None) ∷ [];
  origin = record { limit = limit; pages = 3; clock = 0; loaded = false };
}

abbrev pub VacuumKept : (O Key Recon Cond : Type 0) → Meaning Key Recon Cond → Type 0
VacuumKept O Key Recon Cond m = (limit : ℕ) → IsKept {O = O} m (one_vacuum limit)
