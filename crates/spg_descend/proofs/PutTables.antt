-- The whole table once the leaf of an insert is put.
use Rattle.std.proofs.Common.{◌≡◌, ℕ, suc, ◌+◌, [], ◌∷◌, Option, Some, sym, ap, ◌∙◌, subst}
use Rattle.spg_opclass.specs.Meaning.{Meaning}
use Rattle.spg_forest.specs.View.{Place}
use Rattle.spg_forest.specs.Tuples.{Tuple, Live, Dead}
use Rattle.spg_forest.specs.Pages.{with_tuple}
use Rattle.spg_forest.specs.Sheets.{free_place}
use Rattle.spg_forest.specs.Shape.{Shape}
use Rattle.spg_forest.specs.Edits.{added}
use Rattle.spg_page.specs.Kinds.{IsLive}
use Rattle.spg_page.specs.Reads.{leaf_in}
use Rattle.spg_tree.specs.Table.{Table, sheets_of, tuples_at, tuple_at, with_tuples_at, with_touched}
use Rattle.spg_tree.specs.Pick.{Picks}
use Rattle.spg_tree.specs.Descents.{Descending, in_nulls}
use Rattle.spg_tree.specs.declared.stand.Stand.{Stand}
use Rattle.spg_tree.specs.declared.stand.Stand.TheVariants.{Root, At, Empty}
use Rattle.spg_chain.proofs.Laid.{live_tuple}
use Rattle.spg_descend.specs.Carried.{carried}
use Rattle.spg_descend.specs.Puts.{IsAtLeaves, IsAtEmpty, leaf_want}
use Rattle.spg_descend.specs.PutTables.{PutsTable, PutsBy, at_tuple, below_node}
use Rattle.spg_descend.proofs.PutLaws.{dead_there}
use Rattle.spg_descend.proofs.EmptyLaw.{at_empty}

pub root_table : {Recon : Type 0} (t t2 : Table) (d : Descending Recon) (b seat : ℕ) (u : Tuple) → d.stand ≡ Root b → u ≡ Live (carried d) 0 →
    t2 ≡ with_touched (with_tuples_at t b (with_tuple (tuples_at t b) (suc (free_place (tuples_at t b))) u)) (b ∷ []) → PutsTable t t2 d seat
root_table t t2 d b seat u s q e =
    subst (λ (st : Stand). PutsBy t t2 st d.parent (carried d) (leaf_want d seat)) (sym s)
    (e ∙ ap (λ (v : Tuple). with_touched (with_tuples_at t b (with_tuple (tuples_at t b) (suc (free_place (tuples_at t b))) v)) (b ∷ [])) q)

pub behind_table : {Recon : Type 0} (t t2 : Table) (d : Descending Recon) (x : Place) (seat : ℕ) (u : Tuple) → d.stand ≡ At x → u ≡ Live (carried d) 0 → IsLive (tuple_at t x) →
    t2 ≡ with_touched (with_tuples_at t x.block (added (tuples_at t x.block) x.offset (free_place (tuples_at t x.block) + 1) (leaf_in u))) (x.block ∷ []) → PutsTable t t2 d seat
behind_table t t2 d x seat u s q live e =
    let (l, n, f) = live_tuple (tuple_at t x) live in
    let e2 : t2 ≡ at_tuple t x (Live l n) (carried d) = e ∙ ap (λ (v : Tuple). with_touched (with_tuples_at t x.block (added (tuples_at t x.block) x.offset (free_place (tuples_at t x.block) + 1) (leaf_in v))) (x.block ∷ [])) q in
    subst (λ (st : Stand). PutsBy t t2 st d.parent (carried d) (leaf_want d seat)) (sym s) (e2 ∙ ap (λ (v : Tuple). at_tuple t x v (carried d)) (sym f))

pub dead_table : {Key Recon Cond : Type 0} (m : Meaning Key Recon Cond) (t t2 : Table) (d : Descending Recon) (x : Place) (seat : ℕ) (u : Tuple) → Shape m (sheets_of t) → d.stand ≡ At x → IsAtLeaves (sheets_of t) (in_nulls d) d.stand →
    u ≡ Live (carried d) 0 → (IsLive (tuple_at t x) → ⊥) → t2 ≡ with_touched (with_tuples_at t x.block (with_tuple (tuples_at t x.block) x.offset u)) (x.block ∷ []) → PutsTable t t2 d seat
dead_table m t t2 d x seat u H s A q other e =
    let f : tuple_at t x ≡ Dead = dead_there m t d x H s A other in
    let e2 : t2 ≡ at_tuple t x Dead (carried d) = e ∙ ap (λ (v : Tuple). with_touched (with_tuples_at t x.block (with_tuple (tuples_at t x.block) x.offset v)) (x.block ∷ [])) q in
    subst (λ (st : Stand). PutsBy t t2 st d.parent (carried d) (leaf_want d seat)) (sym s) (e2 ∙ ap (λ (v : Tuple). at_tuple t x v (carried d)) (sym f))

pub below_table : {Recon : Type 0} (t t1 t2 : Table) (d : Descending Recon) (b : ℕ) (x : Place) (i seat : ℕ) (u : Tuple) → d.parent ≡ Some (x, i) → IsAtEmpty (sheets_of t) (in_nulls d) d.stand d.parent →
    u ≡ Live (carried d) 0 → Picks t (leaf_want d seat) b t1 → t2 ≡ below_node t1 b x i (leaf_in u) → PutsTable t t2 d seat
below_table t t1 t2 d b x i seat u pa A q Q e =
    let st : d.stand ≡ Empty = (at_empty (sheets_of t) (in_nulls d) d.stand d.parent x i A pa).0 in
    let e2 : t2 ≡ below_node t1 b x i (carried d) = e ∙ ap (λ (v : Tuple). below_node t1 b x i (leaf_in v)) q in
    subst (λ (z : Stand). PutsBy t t2 z d.parent (carried d) (leaf_want d seat)) (sym st)
    (subst (λ (p : Option (Place × ℕ)). PutsBy t t2 Empty p (carried d) (leaf_want d seat)) (sym pa) (b, t1, Q, e2))
