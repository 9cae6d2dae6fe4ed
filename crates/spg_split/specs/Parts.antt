-- The tuples of a division, and the table once they stand.
use Rattle.std.specs.Prelude.{◌≡◌, ℕ, ◌-◌, ◌≤◌, ◌<◌, Bool, List, [], ◌∷◌, Option, None, is_some, length, take, slice_index}
use Rattle.spg_base.specs.Row.{RowAt}
use Rattle.spg_forest.specs.View.{Leaf}
use Rattle.spg_forest.specs.Tuples.{Tuple, Inner}
use Rattle.spg_forest.specs.Pages.{all_live}
use Rattle.spg_forest.specs.Sheets.{weight}
use Rattle.spg_page.specs.Reads.{frame_in}
use Rattle.spg_page.specs.declared.tuple.PageKind.TheVariants as kinds
use Rattle.spg_tree.specs.Table.{Table, sheet_at, tuples_at, with_sheet, with_tuples_at, with_touched}
use Rattle.spg_tree.specs.Pick.{Picks}
use Rattle.spg_tree.specs.Picked.{IsPicked, want_of}
use Rattle.spg_tree.specs.declared.want.Want.{Want}
use Rattle.spg_split.specs.declared.division.Division.{Division}
use Rattle.spg_split.specs.declared.parts.Parts.{Parts}
use Rattle.spg_split.specs.declared.put.Divided.{Divided}
use Rattle.spg_split.specs.declared.put.Divided.TheVariants.{With, Without}
use Rattle.spg_split.specs.Nodes.{IsOnlyNode}
use Rattle.spg_split.specs.Placing.{taken_by, placed, downlinks, inner_root, leaves_with}
use Rattle.spg_chain.specs.Listed.{leaves_in}
pub use Rattle.spg_descend.specs.BareNodes.{bare}

-- the tuples that a division of these rows makes
pub record ArePartsOf (rows : List RowAt) (d : Division) (p : Parts) : Type 0 where
  pub leaves : p.leaves ≡ all_live (leaves_with rows d.rests)
  pub node_of : p.node_of ≡ d.node_of
  pub inner : p.inner ≡ Inner d.frame (bare (length d.frame.labels))
  pub links : p.links ≡ bare (length d.frame.labels)

-- the table once the lists of leaf tuples stand on block b and the inner tuple on the root's page
abbrev pub divided_table : Table → ℕ → ℕ → List Tuple → List ℕ → Tuple → ℕ → Table
divided_table t root b leaves nodes inner n =
    let L : ℕ → List Leaf = λ j. taken_by j leaves nodes in
    with_touched (with_sheet (with_tuples_at t b (placed (tuples_at t b) L 0 n)) root (inner_root (sheet_at t root).nulls inner (downlinks b (tuples_at t b) L 0 n))) (b ∷ root ∷ [])

-- the pick of a page for leaf tuples
abbrev pub lists_want : Bool → List Tuple → ℕ → Want
lists_want nulls leaves seat = want_of kinds.Leaf nulls None (weight leaves) (length leaves) None seat

-- a page is picked, and the leaf tuples are put there in lists
pub record PutsLists (t t2 : Table) (root seat : ℕ) (p : Parts) (leaves : List Tuple) : Type 0 where
  pub picked : Table
  pub block : ℕ
  pub picks : Picks t (lists_want (sheet_at t root).nulls leaves seat) block picked
  pub is_picked : IsPicked t (lists_want (sheet_at t root).nulls leaves seat) block picked
  pub after : t2 ≡ divided_table picked root block leaves p.node_of p.inner (length p.links)

-- The tuples of parts can stand as lists: as many nodes as leaf tuples, which have no links yet, each of a downlink that is there
pub record AreReady (p : Parts) : Type 0 where
  pub few : length p.leaves ≤ 409
  pub each : length p.leaves ≡ length p.node_of
  pub leaves : p.leaves ≡ all_live (leaves_in p.leaves)
  pub there : (i : ℕ) → i < length p.node_of → slice_index p.node_of i < length p.links
  pub inner : p.inner ≡ Inner (frame_in p.inner) (bare (length p.links))
  pub count : length p.links < 65536

-- how a division is done: with all, or where they are too many without the last
abbrev pub IsWay : Parts → Divided → Type 0
IsWay p With = weight p.leaves ≤ 8160
IsWay p (Without in_one) = (8160 < weight p.leaves) × ((node : Option ℕ) × IsOnlyNode (take (length p.leaves - 1) p.node_of) node × (in_one ≡ is_some node))

-- the leaf tuples that go
abbrev pub going : Parts → Divided → List Tuple
going p With = p.leaves
going p (Without in_one) = take (length p.leaves - 1) p.leaves
