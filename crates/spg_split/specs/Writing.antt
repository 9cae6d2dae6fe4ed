-- The table once a chain below a root is divided.
use Rattle.std.specs.Prelude.{◌≡◌, ℕ, ◌^◌, ◌+◌, ◌-◌, ◌≤◌, ◌<◌, List, ◌++◌, Option, Some, length}
use Rattle.spg_forest.specs.View.{Place, Leaf}
use Rattle.spg_forest.specs.Tuples.{Tuple, Inner, Redirect}
use Rattle.spg_forest.specs.Pages.{with_tuple}
use Rattle.spg_forest.specs.Sheets.{size_of, links}
use Rattle.spg_page.specs.Changes.{room_of}
use Rattle.spg_page.specs.Kinds.{IsOffset}
use Rattle.spg_page.specs.Reads.{frame_in}
use Rattle.spg_chain.specs.Chains.{IsChainedPage, BeginsChain, chain_members, offsets_of}
use Rattle.spg_chain.specs.Taken.{emptied}
use Rattle.spg_tree.specs.Table.{Table, tuples_at, tuple_at, with_tuples_at, with_link, with_clock}
use Rattle.spg_descend.specs.BareNodes.{bare}
use Rattle.spg_split.specs.Placing.{placed, downlinks, HaveRooms}
use Rattle.spg_tree.specs.Writes.{new_place, added_table}

-- the chain at a head is gone, and a redirect stands there
abbrev pub taken_from : List Tuple → ℕ → Place → ℕ → List Tuple
taken_from ts o to stamp = with_tuple (emptied ts (offsets_of (chain_members ts o))) o (Redirect to stamp)

abbrev pub taken_table : Table → Place → Place → Table
taken_table t x to = with_tuples_at t x.block (taken_from (tuples_at t x.block) x.offset to t.clock)

-- the lists of n nodes from node k on stand on a page
abbrev pub lists_table : Table → ℕ → (ℕ → List Leaf) → ℕ → ℕ → Table
lists_table t b L k n = with_tuples_at t b (placed (tuples_at t b) L k n)

-- the inner tuple at a place leads to other places
abbrev pub linked_table : Table → Place → List (Option Place) → Table
linked_table t z ns = with_tuples_at t z.block (with_tuple (tuples_at t z.block) z.offset (Inner (frame_in (tuple_at t z)) ns))

-- of n lists the first k go to block b, the others to block c
abbrev pub both_tables : Table → ℕ → ℕ → (ℕ → List Leaf) → ℕ → ℕ → Table
both_tables t b c L k n = lists_table (lists_table t b L 0 k) c L k (n - k)

abbrev pub both_links : Table → ℕ → ℕ → (ℕ → List Leaf) → ℕ → ℕ → List (Option Place)
both_links t b c L k n = downlinks b (tuples_at t b) L 0 k ++ downlinks c (tuples_at (lists_table t b L 0 k) c) L k (n - k)

-- the inner tuple stands, and the chain at x has gone to it
abbrev pub cleared_table : Table → Place → ℕ → Tuple → Table
cleared_table t x q inner = taken_table (added_table t q inner) x (new_place t q)

-- the whole: node i of the tuple at p leads to the new inner tuple on block q
abbrev pub table_below : Table → Place → Place → ℕ → ℕ → ℕ → Tuple → (ℕ → List Leaf) → ℕ → ℕ → Table
table_below t x p i q c inner L k n =
    let t1 : Table = cleared_table t x q inner in
    let t2 : Table = linked_table (both_tables t1 x.block c L k n) (new_place t q) (both_links t1 x.block c L k n) in
    with_clock (with_link t2 p i (Some (new_place t q))) (t.clock + 1)

-- all this can be done
pub record MayPart (t : Table) (x p : Place) (i q c : ℕ) (inner : Tuple) (L : ℕ → List Leaf) (k n : ℕ) : Type 0 where
  pub x_there : (0 < x.block) × (x.block < length t.pages)
  pub q_there : (0 < q) × (q < length t.pages)
  pub c_there : (0 < c) × (c < length t.pages)
  pub p_there : (0 < p.block) × (p.block < length t.pages)
  pub x_not_q : x.block ≡ q → ⊥
  pub x_not_p : x.block ≡ p.block → ⊥
  pub c_not_q : c ≡ q → ⊥
  pub c_not_p : c ≡ p.block → ⊥
  pub chained : IsChainedPage (tuples_at t x.block)
  pub begins : BeginsChain (tuples_at t x.block) x.offset
  pub bare_inner : inner ≡ Inner (frame_in inner) (bare n)
  pub inner_room : size_of inner + 4 ≤ room_of (tuples_at t q) 1
  pub cut : k ≤ n
  pub count : n < 65536
  pub stay : HaveRooms (taken_from (tuples_at t x.block) x.offset (new_place t q) t.clock) L 0 k
  pub rest : HaveRooms (tuples_at (lists_table (cleared_table t x q inner) x.block L 0 k) c) L k (n - k)
  pub parent : IsOffset (tuples_at t p.block) p.offset
  pub node : i < length (links (tuple_at t p))
  pub clock : t.clock + 1 < 2 ^ 48
