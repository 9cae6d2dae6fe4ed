-- The whole table once leaves are divided.
use Rattle.std.proofs.Common.{◌≡◌, ℕ, List, [], ◌∷◌, ◌++◌, Option, Some, sym, ap, subst}
use Rattle.spg_opclass.specs.Meaning.{Meaning}
use Rattle.spg_forest.specs.View.{Place, Leaf}
use Rattle.spg_forest.specs.Tuples.{Tuple}
use Rattle.spg_forest.specs.Links.{leaves_on}
use Rattle.spg_forest.specs.Divisions.{rests_of}
use Rattle.spg_forest.specs.Sheets.{weight}
use Rattle.spg_tree.specs.Table.{Table, sheet_at, tuples_at}
use Rattle.spg_tree.specs.Pick.{Picks}
use Rattle.spg_descend.proofs.NotFull.{picks_not_full}
use Rattle.spg_tree.specs.Descents.{Descending}
use Rattle.spg_tree.specs.declared.stand.Stand.{Stand}
use Rattle.spg_tree.specs.declared.stand.Stand.TheVariants.{Root, At}
use Rattle.spg_descend.specs.Carried.{carried}
use Rattle.spg_descend.specs.Follows.{tuple_place}
use Rattle.spg_split.specs.declared.division.Division.{Division}
use Rattle.spg_split.specs.declared.chain.ChainOut.{ChainOut}
use Rattle.spg_split.specs.declared.parts.Parts.{Parts}
use Rattle.spg_split.specs.declared.put.Divided.{Divided}
use Rattle.spg_split.specs.Causes.{leaves_below, tuples_divided}
use Rattle.spg_split.specs.Fulls.{those_put, IsRootFull}
use Rattle.spg_split.specs.Dividing.{IsDivided, rows_of}
use Rattle.spg_split.specs.Divides.{IsDividedBelow}
use Rattle.spg_split.specs.Parts.{ArePartsOf, IsWay, PutsLists, going, lists_want}
use Rattle.spg_split.specs.Tables.{AreDivided, DividesLeaves, DividesBelow, RootTable}
use Rattle.spg_split.proofs.Fulls.{going_are}

-- the parts are those of the class's meaning
divided_are : {Key Recon Cond : Type 0} (m : Meaning Key Recon Cond) (r : Option Recon) (ls : List Leaf) (dv : Division) → IsDivided m r (rests_of ls) dv → (p : Parts) → ArePartsOf (rows_of ls) dv p → AreDivided m r ls p
divided_are m r ls dv D p P = subst (λ (z : Division). ArePartsOf (rows_of ls) z p) D.exact P

pub root_table : {Key Recon Cond : Type 0} (m : Meaning Key Recon Cond) (t t2 : Table) (d : Descending Recon) (root seat : ℕ) → d.stand ≡ Root root → (dv : Division) → IsDivided m d.recon (rests_of (leaves_on (tuples_at t root) ++ carried d ∷ [])) dv →
    (p : Parts) → ArePartsOf (rows_of (leaves_on (tuples_at t root) ++ carried d ∷ [])) dv p → (way : Divided) → IsWay p way → PutsLists t t2 root seat p (going p way) → RootTable m t t2 d seat
root_table m t t2 d root seat s dv D p P way a L =
    subst (λ (z : Stand). let b : ℕ = (tuple_place z).block in DividesLeaves m t t2 d b (leaves_on (tuples_at t b) ++ carried d ∷ []) seat) (sym s)
    (p, divided_are m d.recon (leaves_on (tuples_at t root) ++ carried d ∷ []) dv D p P, subst (λ (us : List Tuple). PutsLists t t2 root seat p us) (going_are p way a) L)

pub chain_table : {Key Recon Cond : Type 0} (m : Meaning Key Recon Cond) (t t2 : Table) (d : Descending Recon) (x p : Place) (i seat : ℕ) → d.stand ≡ At x → d.parent ≡ Some (p, i) → (dv : Division) → IsDivided m d.recon (rests_of (leaves_below t d x)) dv →
    (ps : Parts) → ArePartsOf (rows_of (leaves_below t d x)) dv ps → (done : ChainOut) → IsDividedBelow t t2 x p i seat ps done → DividesBelow m t t2 d d.stand d.parent seat done
chain_table m t t2 d x p i seat s a dv D ps P done W =
    subst (λ (z : Stand). DividesBelow m t t2 d z d.parent seat done) (sym s)
    (subst (λ (z : Option (Place × ℕ)). DividesBelow m t t2 d (At x) z seat done) (sym a) (ps, divided_are m d.recon (leaves_below t d x) dv D ps P, W))

-- where a page is picked for the lists, the pick is not full
pub root_not_full : {Key Recon Cond : Type 0} (m : Meaning Key Recon Cond) (t t2 : Table) (d : Descending Recon) (seat : ℕ) → RootTable m t t2 d seat → IsRootFull m t d seat → ⊥
root_not_full m t t2 d seat (p, P, W) F =
    let b : ℕ = (tuple_place d.stand).block in
    let ts : List Tuple = tuples_divided m d.recon (leaves_on (tuples_at t b) ++ carried d ∷ []) in
    let e : those_put (weight p.leaves) p.leaves ≡ those_put (weight ts) ts = ap (λ (us : List Tuple). those_put (weight us) us) P.leaves in
    picks_not_full t (lists_want (sheet_at t b).nulls (those_put (weight ts) ts) seat) W.block W.picked (subst (λ (us : List Tuple). Picks t (lists_want (sheet_at t b).nulls us seat) W.block W.picked) e W.picks) F
