-- What is told of pages: their counts, and the walks of queries.
use Rattle.std.specs.Prelude.{◌≡◌, ℕ, List, length, Option, Some, ⊤}
use Rattle.spg_base.specs.declared.recorded.Stat.{Stat}
use Rattle.spg_opclass.specs.Meaning.{Meaning}
use Rattle.spg_opclass.specs.declared.query.Query.{Query}
use Rattle.spg_forest.specs.Sheets.{Sheets, gap}
use Rattle.spg_forest.specs.Shape.{Represents}
use Rattle.spg_forest.specs.Walk.{Walk, is_live}
use Rattle.spg_rows.specs.declared.event.Event.{Event}
use Rattle.spg_rows.specs.Present.{IsPresentWith}
use Rattle.spg_rows.specs.Rows.{present_count}
use Rattle.spg_tree.specs.Counts.{count_in, is_inner, is_redirect, is_dead}
use Rattle.spg_script.specs.declared.command.Command.{Command}
use Rattle.spg_script.specs.declared.command.Command.TheVariants as asked
use Rattle.spg_script.specs.Speech.{Speech, query_in}
use Rattle.spg_histories.specs.Run.{past_at}

-- the number of pages, the numbers of tuples of each kind on all of them, and the clock
pub record IsCount (S : Sheets) (stat : Stat) : Type 0 where
  pub pages : stat.pages ≡ length S.sheets
  pub inner : stat.inner ≡ count_in is_inner S.sheets
  pub leaf : stat.leaf ≡ count_in is_live S.sheets
  pub redirect : stat.redirect ≡ count_in is_redirect S.sheets
  pub dead : stat.dead ≡ count_in is_dead S.sheets
  pub placeholder : stat.placeholder ≡ count_in gap S.sheets
  pub clock : stat.clock ≡ S.clock

-- a walk of a find's query over the pages meets so many tuples
abbrev pub TellsWalk : {Key Recon Cond : Type 0} → (O : Type 0) → Meaning Key Recon Cond → Speech Key Cond → Sheets → Option ℕ → Command → Type 0
TellsWalk {Key} {Recon} {Cond} O m speech S walk (asked.Find query) = (q : Query O Key Recon Cond) × (k : ℕ) × (query_in speech query ≡ Some q) × Walk m S q k × (walk ≡ Some k)
TellsWalk O m speech S walk c = ⊤

-- the pages are well formed and hold just the rows that are present at the position, each with its key
abbrev pub HoldsAt : {O Key Recon Cond : Type 0} → Meaning Key Recon Cond → List (Event O Key Recon Cond) → Sheets → ℕ → Type 0
HoldsAt m journal S at = Represents m S (IsPresentWith (past_at at journal))

-- how many rows are present at a position
abbrev pub present_at : {O Key Recon Cond : Type 0} → List (Event O Key Recon Cond) → ℕ → ℕ
present_at journal at = present_count (past_at at journal)
