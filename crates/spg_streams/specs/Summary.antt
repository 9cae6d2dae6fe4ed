-- The summary of the run of a generated script.
use Rattle.std.specs.Prelude.{ℕ, ◌-◌, ◌++◌, List, [], ◌∷◌, length, drop, count_by, codes}
use Rattle.std.specs.Fmt.{decimal}
use Rattle.spg_rows.specs.declared.event.Event.{Event}
use Rattle.spg_report.specs.declared.outcome.Outcome.{Outcome}
use Rattle.spg_report.specs.declared.outcome.Outcome.TheVariants as outcome
use Rattle.spg_report.specs.declared.record.Record.{Record}
use Rattle.spg_report.specs.Text.{ended}
pub use Rattle.spg_loads.specs.Loads.{is_added, added_count}
pub use Rattle.spg_loads.specs.Finds.{is_sweep}

-- the number of rows that a find gave, behind its word; or that memory was wanting, which is the one other outcome of a find
abbrev pub find_line : List ℕ → Outcome → List ℕ
find_line word (outcome.Found rows walk) = word ++ decimal (length rows)
find_line word o = word ++ codes "memory"

-- the three finds behind the vacuum
abbrev pub find_lines : List Record → List (List ℕ)
find_lines (all ∷ first ∷ second ∷ []) = find_line (codes "live ") all.outcome ∷ find_line (codes "first ") first.outcome ∷ find_line (codes "second ") second.outcome ∷ []
find_lines records = []

-- how many rows were added, what the last three finds gave, and how many rows were swept
abbrev pub summary_lines : {O Key Recon Cond : Type 0} → List (Event O Key Recon Cond) → List Record → List (List ℕ)
summary_lines journal records =
    (codes "added " ++ decimal (added_count records)) ∷ (find_lines (drop (length records - 3) records) ++ (codes "swept " ++ decimal (count_by is_sweep journal)) ∷ [])

abbrev pub summary : {O Key Recon Cond : Type 0} → List (Event O Key Recon Cond) → List Record → List ℕ
summary journal records = ended (summary_lines journal records)
