-- The whole table once a chain or an inner tuple has moved.
use Rattle.std.proofs.Common.{◌≡◌, ℕ, Option, Some, None, refl, sym, ap, subst, inl, inr}
use Rattle.std.specs.Prelude.{ℤ}
use Rattle.spg_forest.specs.View.{Place}
use Rattle.spg_tree.specs.Table.{Table, tuples_at}
use Rattle.spg_forest.specs.Sheets.{size_of}
use Rattle.spg_tree.specs.Pick.{Picks, IsFull}
use Rattle.spg_tree.specs.declared.want.Want.{Want}
use Rattle.spg_tree.specs.Descents.{Descending, in_nulls}
use Rattle.spg_tree.specs.declared.stand.Stand.{Stand}
use Rattle.spg_tree.specs.declared.stand.Stand.TheVariants.{Start, Root, At, Empty}
use Rattle.spg_descend.specs.Carried.{carried}
use Rattle.spg_descend.specs.Follows.{tuple_place}
use Rattle.spg_descend.proofs.NotFull.{picks_not_full}
use Rattle.spg_move.specs.Moves.{carried_want}
use Rattle.spg_move.specs.Moving.{with_new, chain_leaves, moved_table}
use Rattle.spg_move.specs.Nodes.{FitsWider, wider, wider_want}
use Rattle.spg_move.specs.Widening.{node_want, IsShiftedAt}
use Rattle.spg_move.specs.Tables.{MovesBy, MovesTable, NodeTable}

pub moves_table : {Recon : Type 0} (t t1 t2 : Table) (d : Descending Recon) (x p : Place) (i b seat : ℕ) → d.stand ≡ At x → d.parent ≡ Some (p, i) → Picks t (carried_want t d seat) b t1 →
    t2 ≡ moved_table t1 b x p i (with_new (chain_leaves (tuples_at t x.block) x.offset) (carried d)) → MovesTable t t2 d seat
moves_table t t1 t2 d x p i b seat s a Q e =
    subst (λ (z : Stand). MovesBy t t2 z d.parent (carried d) (carried_want t d seat)) (sym s)
    (subst (λ (z : Option (Place × ℕ)). MovesBy t t2 (At x) z (carried d) (carried_want t d seat)) (sym a) (b, t1, Q, e))

-- ---- where a page is picked, the pick is not full

pub move_not_full : {Recon : Type 0} (t t2 : Table) (d : Descending Recon) (seat : ℕ) → MovesTable t t2 d seat → IsFull t (carried_want t d seat) → ⊥
move_not_full t t2 d seat M F = go d.stand d.parent M
  where
    go : (st : Stand) (pa : Option (Place × ℕ)) → MovesBy t t2 st pa (carried d) (carried_want t d seat) → ⊥
    go Start pa M = absurd M
    go (Root b) pa M = absurd M
    go (At x) None M = absurd M
    go (At x) (Some (p, i)) (b, t1, Q, e) = picks_not_full t (carried_want t d seat) b t1 Q F
    go Empty pa M = absurd M

pub node_not_full : {Recon : Type 0} (t t2 : Table) (d d2 : Descending Recon) (at : ℕ) (label : ℤ) (seat : ℕ) → NodeTable t t2 d d2 at label seat → (FitsWider t d at label → ⊥) → IsFull t (wider_want t d at label seat) → ⊥
node_not_full t t2 d d2 at label seat (inl (f, e)) n F = n f
node_not_full t t2 d d2 at label seat (inr (k, to, s, R)) n F = go d.stand d.parent refl R
  where
    go : (st : Stand) (pa : Option (Place × ℕ)) → d.stand ≡ st → IsShiftedAt t t2 d st pa (wider t d at label) seat to → ⊥
    go Start pa s r = absurd r
    go (Root b) pa s r = absurd r
    go (At x) None s r = absurd r
    go (At x) (Some (p, i)) s r =
        let e : node_want (in_nulls d) x.block (size_of (wider t d at label)) seat ≡ wider_want t d at label seat = ap (λ (z : Stand). node_want (in_nulls d) (tuple_place z).block (size_of (wider t d at label)) seat) (sym s) in
        picks_not_full t (wider_want t d at label seat) r.block r.picked (subst (λ (w : Want). Picks t w r.block r.picked) e r.picks) F
    go Empty pa s r = absurd r
