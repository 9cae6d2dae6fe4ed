-- The whole table once the leaf of an insert is put.
use Rattle.std.specs.Prelude.{◌≡◌, ℕ, suc, ◌+◌, [], ◌∷◌, List, Option, Some, None}
use Rattle.spg_forest.specs.View.{Place, Leaf}
use Rattle.spg_forest.specs.Tuples.{Tuple, Inner, Live, Dead, Redirect, Placeholder}
use Rattle.spg_forest.specs.Pages.{place, with_tuple}
use Rattle.spg_forest.specs.Sheets.{free_place}
use Rattle.spg_forest.specs.Edits.{added}
use Rattle.spg_tree.specs.Table.{Table, tuples_at, tuple_at, with_tuples_at, with_link, with_touched}
use Rattle.spg_tree.specs.Pick.{Picks}
use Rattle.spg_tree.specs.Descents.{Descending}
use Rattle.spg_tree.specs.declared.want.Want.{Want}
use Rattle.spg_tree.specs.declared.stand.Stand.{Stand}
use Rattle.spg_tree.specs.declared.stand.Stand.TheVariants.{Start, Root, At, Empty}
use Rattle.spg_descend.specs.Carried.{carried}
use Rattle.spg_descend.specs.Puts.{leaf_want}

-- on a root leaf page
abbrev pub on_root : Table → ℕ → Leaf → Table
on_root t b new = let ts : List Tuple = tuples_at t b in with_touched (with_tuples_at t b (with_tuple ts (suc (free_place ts)) (Live new 0))) (b ∷ [])

-- behind the head of the chain at x, or in the place of the dead tuple there
abbrev pub at_tuple : Table → Place → Tuple → Leaf → Table
at_tuple t x (Live l n) new = let ts : List Tuple = tuples_at t x.block in with_touched (with_tuples_at t x.block (added ts x.offset (free_place ts + 1) new)) (x.block ∷ [])
at_tuple t x Dead new = with_touched (with_tuples_at t x.block (with_tuple (tuples_at t x.block) x.offset (Live new 0))) (x.block ∷ [])
at_tuple t x (Inner w ns) new = t
at_tuple t x (Redirect to stamp) new = t
at_tuple t x Placeholder new = t

-- as a chain of its own on block b, to which node i of the tuple at p leads then
abbrev pub below_node : Table → ℕ → Place → ℕ → Leaf → Table
below_node t b p i new =
    let ts : List Tuple = tuples_at t b in
    with_touched (with_link (with_tuples_at t b (added ts 0 (free_place ts + 1) new)) p i (Some (place b (free_place ts + 1)))) (b ∷ p.block ∷ [])

-- a page is picked at an empty downlink alone
abbrev pub PutsBy : Table → Table → Stand → Option (Place × ℕ) → Leaf → Want → Type 0
PutsBy t t2 (Root b) parent new w = t2 ≡ on_root t b new
PutsBy t t2 (At x) parent new w = t2 ≡ at_tuple t x (tuple_at t x) new
PutsBy t t2 Empty None new w = ⊥
PutsBy t t2 Empty (Some (p, i)) new w = (b : ℕ) × (t1 : Table) × Picks t w b t1 × (t2 ≡ below_node t1 b p i new)
PutsBy t t2 Start parent new w = ⊥

-- the leaf is put where the insert stands: the blocks touched are those written, and what the pick remembers is remembered
abbrev pub PutsTable : {Recon : Type 0} → Table → Table → Descending Recon → ℕ → Type 0
PutsTable t t2 d seat = PutsBy t t2 d.stand d.parent (carried d) (leaf_want d seat)
