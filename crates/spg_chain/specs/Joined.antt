-- How the calls on a page make the forest's step.
use Rattle.std.specs.Prelude.{◌≡◌, ℕ, ◌≤◌, Bool, false, List, [], map}
use Rattle.spg_base.specs.Row.{RowAt}
use Rattle.spg_forest.specs.View.{Leaf}
use Rattle.spg_forest.specs.Pages.{all_live}
use Rattle.spg_opclass.specs.Meaning.{Meaning}
use Rattle.spg_forest.specs.Sheets.{Sheet, Sheets, sheet_at, with_tuples}
use Rattle.spg_forest.specs.Shape.{Shape}
use Rattle.spg_forest.specs.Edits.{with_sheet}
use Rattle.spg_page.specs.Changes.{trimmed}
use Rattle.spg_cover.specs.Swept.{aged, handled, kept, found_on}
use Rattle.spg_chain.specs.Chained.{IsLeafPage, IsSweptOf}
use Rattle.spg_chain.specs.Told.{without_targets}

-- a leaf page of a well formed index, not a root's, may be swept
abbrev pub LeafPages : {Key Recon Cond : Type 0} → Meaning Key Recon Cond → Type 0
LeafPages m = (S : Sheets) (b : ℕ) → Shape m S → 3 ≤ b → (sheet_at S b).inner ≡ false → IsLeafPage (sheet_at S b).tuples

-- swept, then aged: the pages then are those handled
abbrev pub SweptThenAged : Type 0
SweptThenAged = (S : Sheets) (b horizon : ℕ) (test : RowAt → Bool) (p q : Sheet) → IsSweptOf test (sheet_at S b) p → q ≡ with_tuples p (trimmed (map (aged horizon) p.tuples)) → with_sheet S b q ≡ handled S b horizon p.tuples

-- of the leaves of a root leaf page those that are no targets stay
abbrev pub RootSwept : Type 0
RootSwept = (test : RowAt → Bool) (ls : List Leaf) → without_targets test (all_live ls) ≡ all_live (kept test ls)

-- and no redirect stands there
abbrev pub RootsLead : Type 0
RootsLead = (c : ℕ) (ls : List Leaf) → found_on c (all_live ls) ≡ []
