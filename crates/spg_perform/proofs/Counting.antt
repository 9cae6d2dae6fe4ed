-- A count: its leaf tuples are as many as the rows that are present.
use Rattle.std.proofs.Common.{◌≡◌, ◌+◌, ℕ, Bool, true, List, [], ◌∷◌, length, Option, Some, refl, sym, ap, ◌∙◌, arith}
use Rattle.spg_base.specs.Row.{RowAt}
use Rattle.spg_base.specs.declared.recorded.Stat.{Stat}
use Rattle.spg_opclass.specs.Meaning.{Meaning}
use Rattle.spg_forest.specs.Tuples.{Tuple}
use Rattle.spg_forest.specs.Sheets.{Sheet, Sheets}
use Rattle.spg_forest.specs.Shape.{Represents}
use Rattle.spg_forest.specs.Steps.{HasRow}
use Rattle.spg_forest.specs.Walk.{is_live, lives_on, leaves_from, leaf_count}
use Rattle.spg_forest.specs.Counts.{rows_in}
use Rattle.spg_forest.proofs.Counts.{rows_are_entries}
use Rattle.spg_rows.specs.History.{History}
use Rattle.spg_rows.specs.Legal.{IsLegal}
use Rattle.spg_rows.specs.Lives.{Life, lives}
use Rattle.spg_rows.specs.Present.{IsPresentWith}
use Rattle.spg_rows.specs.Right.{Right}
use Rattle.spg_rows.specs.Rows.{present_in, key_in, present_count}
use Rattle.spg_rows.proofs.Present.{present_counted}
use Rattle.spg_tree.specs.Table.{Table, sheets_of}
use Rattle.spg_core.specs.Counts.{count_on, count_in, IsStat}
use Rattle.spg_core.specs.Stage.{free}
use Rattle.spg_core.specs.Seen.{Seen, stage_at, past_of}
use Rattle.spg_script.specs.declared.command.Command.TheVariants as asked
use Rattle.spg_script.specs.Speech.{Speech}
use Rattle.spg_report.specs.declared.outcome.Outcome.TheVariants as outcome
use Rattle.spg_report.specs.declared.record.Record.{Record}
use Rattle.spg_histories.specs.Pages.{IsCount}
use Rattle.spg_commands.specs.Acted.{Acts}
use Rattle.spg_commands.proofs.Acting.{Spans, rests}
use Rattle.spg_perform.proofs.StatRows.{has_from, contains_from, distinct_from, as_long}

-- ---- the leaf tuples of pages

lives_counted : (tuples : List Tuple) → count_on is_live tuples ≡ lives_on tuples
lives_counted [] = refl
lives_counted (t ∷ tuples) = ap (λ n. is_live t + n) (lives_counted tuples)

leaves_counted : (sheets : List Sheet) → count_in is_live sheets ≡ leaves_from sheets
leaves_counted [] = refl
leaves_counted (s ∷ sheets) = omega (arith, lives_counted s.tuples, leaves_counted sheets)

count_shown : (t : Table) (counts : Stat) → IsStat t counts → IsCount (sheets_of t) counts
count_shown t counts is = record { pages = is.pages; inner = is.inner; leaf = is.leaf; redirect = is.redirect; dead = is.dead; placeholder = is.placeholder; clock = is.clock }

-- ---- the rows of the leaf tuples are those that are present

-- a row that is present has a key or a null
keyed : {Key : Type 0} (past : List (Life Key)) → present_in past ≡ true → (key : Option Key) × (key_in past ≡ Some key)
keyed [] present = cc
keyed (life ∷ older) present = (life.key, refl)

module _ {O Key Recon Cond : Type 0} (m : Meaning Key Recon Cond) where
  leaves_present : (S : Sheets) (past : History O Key Recon Cond) → Represents m S (IsPresentWith past) → IsLegal past → leaf_count S ≡ present_count past
  leaves_present S past represents legal =
      let (distinct, leaves, each) = rows_are_entries m S represents.shape in
      let present = present_counted O Key Recon Cond past legal in
      let into : (r : RowAt) → HasRow (rows_in S) r → HasRow present.rows r =
      λ r h. let (key, entry) = (each r).0 h in has_from present.rows r ((present.each r).1 ((represents.entries r key).0 entry).0) in
      let back : (r : RowAt) → HasRow present.rows r → HasRow (rows_in S) r =
      λ r h. let is = (present.each r).0 (contains_from present.rows r h) in let (key, with_key) = keyed (lives r past) is in (each r).1 (key, (represents.entries r key).1 (is, with_key)) in
      sym leaves ∙ as_long (rows_in S) present.rows distinct (distinct_from present.rows present.once) into back ∙ present.count

  -- nothing is done, and the pages are told
  pub counted : (speech : Speech Key Cond) (s : Seen O Key Recon Cond) (seat : ℕ) (alone : Bool) (r : Record) (counts : Stat) → Right m s.journal → Represents m (sheets_of s.table) (IsPresentWith (past_of s)) → IsStat s.table counts → stage_at s seat ≡ free
      → Spans r (outcome.Stat counts) (length s.journal) (length s.journal) → Acts m speech s s seat alone asked.Stat r
  counted speech s seat alone r counts right represents is idle spans =
      let leaf : counts.leaf ≡ present_count (past_of s) = is.leaf ∙ leaves_counted s.table.pages ∙ leaves_present (sheets_of s.table) (past_of s) represents right.legal in
      rests m speech s s seat alone asked.Stat (outcome.Stat counts) r spans refl idle (λ block. refl) tt tt (λ q. count_shown s.table counts is) leaf (is.pages, is.clock)
