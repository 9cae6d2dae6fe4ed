-- What a search answers that only reads the index.
use Rattle.std.specs.Prelude.{◌≡◌, ◌⊎◌, ◌↔◌, ◌<◌, ◌≤◌, ◌++◌, ℕ, List, [], ◌∷◌, Contains, length, take, IsPermutation, Option, Some, None, ⊤}
use Rattle.std.specs.List.Sorted.{IsSorted, IsStrictlySortedBy}
use Rattle.spg_base.specs.Row.{RowAt, row_cmp}
use Rattle.spg_opclass.specs.Meaning.{Meaning}
use Rattle.spg_opclass.specs.declared.query.Query.{Query}
use Rattle.spg_opclass.specs.declared.query.Query.TheVariants.{All, Null, Where}
use Rattle.spg_rows.specs.declared.event.Event.TheVariants.{OpenScan}
use Rattle.spg_rows.specs.History.{History}
use Rattle.spg_tree.specs.Table.{sheets_of}
use Rattle.spg_scan.specs.Scanning.{Scanning}
use Rattle.spg_scan.specs.Cover.{IsScanOf}
use Rattle.spg_core.specs.Stage.{reading}
use Rattle.spg_core.specs.Seen.{Seen, past_of}
use Rattle.spg_whole.specs.Answers.{IsAsked, IsAnswer}
use Rattle.spg_whole.specs.Underway.{IsRestingScan, reads_left}

-- rows that the query asks for, at most so many, by block, then offset, none twice; all of them where they are fewer
pub record AreSome {O Key Recon Cond : Type 0} (m : Meaning Key Recon Cond) (past : History O Key Recon Cond) (query : Query O Key Recon Cond) (limit : ℕ) (rows : List RowAt) : Type 0 where
  pub ascending : IsStrictlySortedBy row_cmp rows
  pub asked : (r : RowAt) → Contains rows r → IsAsked m past query r
  pub few : length rows ≤ limit
  pub all : length rows < limit → IsAnswer m past query rows

-- ---- on its way

abbrev pub HasConds : {O Key Recon Cond : Type 0} → Query O Key Recon Cond → Type 0
HasConds All = ⊥
HasConds Null = ⊥
HasConds (Where conds) = ⊤

-- a scan of conditions, as if it had opened at this moment
pub record IsScanNow {O Key Recon Cond : Type 0} (m : Meaning Key Recon Cond) (seen : Seen O Key Recon Cond) (s : Scanning O Key Recon Cond) : Type 0 where
  pub scan : IsScanOf m (sheets_of seen.table) (past_of seen) (OpenScan 0 s.query ∷ past_of seen) s
  pub rest : IsRestingScan m (sheets_of seen.table) s.query (reading s)
  pub conds : HasConds s.query

pub record OpensNow {O Key Recon Cond : Type 0} (m : Meaning Key Recon Cond) (seen : Seen O Key Recon Cond) (conds : List Cond) (s : Scanning O Key Recon Cond) : Type 0 where
  pub now : IsScanNow m seen s
  pub query : s.query ≡ Where conds
  pub none : s.rows ≡ []

-- the second list begins with the first
abbrev pub Begins : List RowAt → List RowAt → Type 0
Begins rows all = (more : List RowAt) × (all ≡ rows ++ more)

-- an item was read, these are the rows found since the opening, and fewer reads are left
pub record ReadsNow {O Key Recon Cond : Type 0} (m : Meaning Key Recon Cond) (seen : Seen O Key Recon Cond) (s s2 : Scanning O Key Recon Cond) (found : List RowAt) : Type 0 where
  pub now : IsScanNow m seen s2
  pub query : s2.query ≡ s.query
  pub same : found ≡ s2.rows
  pub more : Begins s.rows s2.rows
  pub fewer : reads_left m (sheets_of seen.table) (reading s2) < reads_left m (sheets_of seen.table) (reading s)

-- items were read until none was left, or so many rows were found
pub record ReadsTo {O Key Recon Cond : Type 0} (m : Meaning Key Recon Cond) (seen : Seen O Key Recon Cond) (limit : ℕ) (s s2 : Scanning O Key Recon Cond) (found : List RowAt) : Type 0 where
  pub now : IsScanNow m seen s2
  pub query : s2.query ≡ s.query
  pub same : found ≡ s2.rows
  pub more : Begins s.rows s2.rows
  pub end : (s2.items ≡ []) ⊎ (limit ≤ length found)

-- the first of the same rows in order
pub record AreFirst (limit : ℕ) (found rows : List RowAt) : Type 0 where
  pub sorted : List RowAt
  pub moved : IsPermutation found sorted
  pub rises : IsSorted row_cmp sorted
  pub first : rows ≡ take limit sorted

-- ---- row by row

-- a scan, the rows that it found, and how many of them were handed out
pub record Reading (O Key Recon Cond : Type 0) : Type 0 where
  pub scan : Scanning O Key Recon Cond
  pub found : List RowAt
  pub told : ℕ

-- the rows that were handed out
abbrev pub handed : {O Key Recon Cond : Type 0} → Reading O Key Recon Cond → List RowAt
handed r = take r.told r.found

-- the reader goes over the index as it stands
pub record ReadsOver {O Key Recon Cond : Type 0} (m : Meaning Key Recon Cond) (seen : Seen O Key Recon Cond) (r : Reading O Key Recon Cond) : Type 0 where
  pub now : IsScanNow m seen r.scan
  pub same : r.found ≡ r.scan.rows
  pub told : r.told ≤ length r.found

-- one more row that the query asks for, which was not handed out before; or none: then those that were, in order, are the answer
abbrev pub HandsOut : {O Key Recon Cond : Type 0} → Meaning Key Recon Cond → History O Key Recon Cond → Query O Key Recon Cond → List RowAt → List RowAt → Option RowAt → Type 0
HandsOut m past query before after (Some row) = (after ≡ before ++ row ∷ []) × IsAsked m past query row × (Contains before row → ⊥)
HandsOut m past query before after None = (after ≡ before) × ((rows : List RowAt) → IsStrictlySortedBy row_cmp rows → ((r : RowAt) → Contains rows r ↔ Contains before r) → IsAnswer m past query rows)
