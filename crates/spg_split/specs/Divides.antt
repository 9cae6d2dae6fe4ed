-- The division of a chain below a root: what it asks of the table, and what it does.
use Rattle.std.specs.Prelude.{◌≡◌, ℕ, ◌+◌, ◌≤◌, ◌<◌, ◌^◌, true, false, List, length, take}
use Rattle.spg_forest.specs.View.{Place}
use Rattle.spg_forest.specs.Tuples.{Tuple}
use Rattle.spg_forest.specs.Sheets.{weight, size_of, links}
use Rattle.spg_page.specs.Kinds.{IsOffset}
use Rattle.spg_chain.specs.Chains.{IsChainedPage, BeginsChain, chain_members}
use Rattle.spg_tree.specs.Table.{Table, sheet_at, tuples_at, tuple_at, with_touched}
use Rattle.spg_split.specs.declared.parts.Parts.{Parts}
use Rattle.spg_split.specs.declared.plan.Left.{Left}
use Rattle.spg_split.specs.declared.plan.Plan.{Plan}
use Rattle.spg_split.specs.declared.homes.Homes.{Homes}
use Rattle.spg_split.specs.declared.chain.ChainOut.{ChainOut}
use Rattle.spg_split.specs.Placing.{taken_by}
use Rattle.spg_split.specs.Planning.{IsLeft, IsPlan, IsWayOf}
use Rattle.spg_split.specs.Homes.{PicksHomes, blocks_touched}
use Rattle.spg_split.specs.Writing.{table_below}
use Rattle.spg_tree.specs.Writes.{new_place}

-- at x a chain of at least one leaf tuple begins, on a leaf page from 3 on, to which node i of the inner tuple at p leads
pub record MayDivide (t : Table) (x p : Place) (i : ℕ) : Type 0 where
  pub x_from : 3 ≤ x.block
  pub x_there : x.block < length t.pages
  pub x_leaf : (sheet_at t x.block).inner ≡ false
  pub p_from : 0 < p.block
  pub p_there : p.block < length t.pages
  pub p_inner : (sheet_at t p.block).inner ≡ true
  pub tree : (sheet_at t p.block).nulls ≡ (sheet_at t x.block).nulls
  pub fits : (b : ℕ) → weight (tuples_at t b) ≤ 8160
  pub chained : IsChainedPage (tuples_at t x.block)
  pub begins : BeginsChain (tuples_at t x.block) x.offset
  pub some : 0 < length (chain_members (tuples_at t x.block) x.offset)
  pub parent : IsOffset (tuples_at t p.block) p.offset
  pub node : i < length (links (tuple_at t p))
  pub clock : t.clock + 1 < 2 ^ 48

-- the leaf tuples that a plan puts
abbrev pub put_by : Parts → Plan → List Tuple
put_by p plan = take plan.count p.leaves

-- pages are picked, and the lists and the inner tuple are put there by the plan
pub record IsDividedBelow (t t2 : Table) (x p : Place) (i seat : ℕ) (parts : Parts) (done : ChainOut) : Type 0 where
  pub left : Left
  pub plan : Plan
  pub homes : Homes
  pub housed : Table
  pub is_left : IsLeft (tuples_at t x.block) x.offset left
  pub is_plan : IsPlan parts left plan
  pub fits : plan.rest.bytes ≤ 8160
  pub way : IsWayOf parts plan done.way
  pub picks : PicksHomes t housed x.block p.block (size_of parts.inner + 4) plan.rest seat homes
  pub at : done.at ≡ new_place housed homes.inner
  pub after : t2 ≡ with_touched (table_below housed x p i homes.inner homes.rest parts.inner (λ j. taken_by j (put_by parts plan) parts.node_of) plan.cut (length parts.links)) (blocks_touched x.block p.block homes (length t.pages) (length housed.pages))
