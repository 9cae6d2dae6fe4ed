-- Each query has just one walk.
use Rattle.std.specs.Prelude.{◌≡◌, ◌<◌, ◌≤◌, ◌-◌, ◌^◌, ℕ, Some, length}
use Rattle.spg_opclass.specs.Meaning.{Meaning}
use Rattle.spg_opclass.specs.declared.query.Query.{Query}
use Rattle.spg_forest.specs.Pages.{place}
use Rattle.spg_forest.specs.Sheets.{Sheets}
use Rattle.spg_forest.specs.Shape.{Shape, spots}
use Rattle.spg_forest.specs.Walk.{Walk}
use Rattle.spg_scan.specs.Scanning.{IsAskedAt}

-- a walk of the query meets so many tuples, and none meets another number, which is less than 2^64 - 1
pub record HasAWalk {O Key Recon Cond : Type 0} (m : Meaning Key Recon Cond) (S : Sheets) (query : Query O Key Recon Cond) : Type 0 where
  pub met : ℕ
  pub walk : Walk m S query met
  pub only : (k : ℕ) → Walk m S query k → k ≡ met
  pub few : met < 2 ^ 64 - 1

-- where the class may be asked at the main root by the query, its conditions are well formed or nothing is asked
abbrev pub EachHasAWalk : (O Key Recon Cond : Type 0) → Meaning Key Recon Cond → Type 0
EachHasAWalk O Key Recon Cond m = (S : Sheets) (query : Query O Key Recon Cond) → Shape m S → length S.sheets ≤ 131072 → IsAskedAt m (spots S (place 1 0)) query (Some m.start) → HasAWalk m S query
