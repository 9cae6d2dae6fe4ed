-- A chain that goes to another page, with a new leaf behind its head.
use Rattle.std.specs.Prelude.{ℕ, suc, ◌+◌, Bool, List, [], ◌∷◌, Some, None, length}
use Rattle.spg_forest.specs.View.{Place, Leaf}
use Rattle.spg_forest.specs.Tuples.{Tuple, Redirect}
use Rattle.spg_forest.specs.Pages.{place, with_tuple, all_live}
use Rattle.spg_forest.specs.Sheets.{free_place, weight}
use Rattle.spg_page.specs.declared.tuple.PageKind.TheVariants as kinds
use Rattle.spg_chain.specs.Chains.{chain_members, leaves_of, offsets_of}
use Rattle.spg_chain.specs.Taken.{emptied}
use Rattle.spg_tree.specs.Table.{Table, tuples_at, with_tuples_at, with_link, with_clock, with_touched}
use Rattle.spg_tree.specs.Picked.{want_of}
use Rattle.spg_tree.specs.declared.want.Want.{Want}
use Rattle.spg_chain.specs.Listed.{chained}

-- the leaves of a chain with a new one behind the first
abbrev pub with_new : List Leaf → Leaf → List Leaf
with_new [] new = new ∷ []
with_new (l ∷ ls) new = l ∷ new ∷ ls

-- the leaves of the chain at an offset of a page
abbrev pub chain_leaves : List Tuple → ℕ → List Leaf
chain_leaves ts h = leaves_of (chain_members ts h)

-- the pick of a page for these leaves, other than the block on which they stand
abbrev pub chain_want : Bool → List Leaf → ℕ → ℕ → Want
chain_want nulls vs here seat = want_of kinds.Leaf nulls None (weight (all_live vs)) (length vs) (Some here) seat

-- a page once its chain at h is gone, and a redirect stands there
abbrev pub left : List Tuple → ℕ → Place → ℕ → List Tuple
left ts h to stamp = with_tuple (emptied ts (offsets_of (chain_members ts h))) h (Redirect to stamp)

-- the table once the leaves vs stand as a chain on block b in place of the chain at x, to which node i of the tuple at p led
abbrev pub moved_table : Table → ℕ → Place → Place → ℕ → List Leaf → Table
moved_table t b x p i vs =
    let y : Place = place b (suc (free_place (tuples_at t b))) in
    let t1 : Table = with_tuples_at t b (chained (tuples_at t b) 0 vs) in
    let t2 : Table = with_tuples_at t1 x.block (left (tuples_at t1 x.block) x.offset y t.clock) in
    with_touched (with_clock (with_link t2 p i (Some y)) (t.clock + 1)) (b ∷ x.block ∷ p.block ∷ [])
