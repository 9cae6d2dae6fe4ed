-- The whole table once a chain or an inner tuple has moved, or an inner tuple has one node more.
use Rattle.std.specs.Prelude.{◌≡◌, ◌⊎◌, ℕ, ℤ, Option, Some, None}
use Rattle.spg_forest.specs.View.{Place, Leaf}
use Rattle.spg_tree.specs.Table.{Table, tuples_at}
use Rattle.spg_tree.specs.Pick.{Picks}
use Rattle.spg_tree.specs.Descents.{Descending}
use Rattle.spg_tree.specs.declared.want.Want.{Want}
use Rattle.spg_tree.specs.declared.stand.Stand.{Stand}
use Rattle.spg_tree.specs.declared.stand.Stand.TheVariants.{Start, Root, At, Empty}
use Rattle.spg_descend.specs.Carried.{carried}
use Rattle.spg_descend.specs.Follows.{tuple_place}
use Rattle.spg_move.specs.Moves.{carried_want}
use Rattle.spg_move.specs.Moving.{with_new, chain_leaves, moved_table}
use Rattle.spg_move.specs.Nodes.{FitsWider, wider}
use Rattle.spg_move.specs.Widening.{widened_table, IsShiftedFrom}

abbrev pub MovesBy : Table → Table → Stand → Option (Place × ℕ) → Leaf → Want → Type 0
MovesBy t t2 (At x) (Some (p, i)) new w = (b : ℕ) × (t1 : Table) × Picks t w b t1 × (t2 ≡ moved_table t1 b x p i (with_new (chain_leaves (tuples_at t x.block) x.offset) new))
MovesBy t t2 (At x) None new w = ⊥
MovesBy t t2 Start parent new w = ⊥
MovesBy t t2 (Root b) parent new w = ⊥
MovesBy t t2 Empty parent new w = ⊥

-- a page is picked, and the chain at which the insert stands goes there in its order, with the new leaf behind its head
abbrev pub MovesTable : {Recon : Type 0} → Table → Table → Descending Recon → ℕ → Type 0
MovesTable t t2 d seat = MovesBy t t2 d.stand d.parent (carried d) (carried_want t d seat)

-- the longer tuple takes the place of the old one exactly where it fits there; else a page is picked for it, and the insert stands there
abbrev pub NodeTable : {Recon : Type 0} → Table → Table → Descending Recon → Descending Recon → ℕ → ℤ → ℕ → Type 0
NodeTable t t2 d d2 at label seat =
    (FitsWider t d at label × (t2 ≡ widened_table t (tuple_place d.stand) (wider t d at label)))
    ⊎ ((FitsWider t d at label → ⊥) × (to : Place) × (d2.stand ≡ At to) × IsShiftedFrom t t2 d (wider t d at label) seat to)
