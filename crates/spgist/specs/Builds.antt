-- An index that was built at once of rows and their keys, or whose journal begins anew.
use Rattle.std.specs.Prelude.{◌≡◌, ◌↔◌, ℕ, ◌+◌, ◌*◌, ◌≤◌, List, Option, length}
use Rattle.spg_base.specs.Row.{RowAt}
use Rattle.spg_opclass.specs.Meaning.{Meaning}
use Rattle.spg_forest.specs.Shape.{Represents}
use Rattle.spg_rows.specs.Rows.{is_live, is_present}
use Rattle.spg_tree.specs.Table.{sheets_of}
use Rattle.spg_copy.specs.Copies.{unlatched}
use Rattle.spg_build.specs.declared.entry.Entry.{Entry}
use Rattle.spg_build.specs.Built.{HasIn, IsAtRest}
use Rattle.spg_core.specs.Seen.{Seen, past_of, IsPresentWith}
use Rattle.spg_core.specs.Loading.{IsAdopted}

-- its pages are well formed and hold just these entries, at rest, and are few; its journal opens and puts each of them by seat 0, in order of block and offset
pub record IsBuilt {O Key Recon Cond : Type 0} (m : Meaning Key Recon Cond) (entries : List (Entry Key)) (limit : ℕ) (index : Seen O Key Recon Cond) : Type 0 where
  pub represents : Represents m (sheets_of index.table) (HasIn entries)
  pub at_rest : IsAtRest index.table limit
  pub few : length index.table.pages ≤ 4 * length entries + 3
  pub adopted : IsAdopted m index.table index

-- the same pages, with nothing latched; just the rows that were present are present, each with its key, and all of them are live; the journal opens and puts each of them by seat 0, in order of block and offset
pub record IsRenewed {O Key Recon Cond : Type 0} (m : Meaning Key Recon Cond) (old new : Seen O Key Recon Cond) : Type 0 where
  pub table : new.table ≡ unlatched old.table
  pub present : (row : RowAt) (key : Option Key) → IsPresentWith (past_of new) row key ↔ IsPresentWith (past_of old) row key
  pub live : (row : RowAt) → is_live row (past_of new) ≡ is_present row (past_of new)
  pub adopted : IsAdopted m new.table new
