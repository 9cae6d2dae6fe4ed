-- Where a page is picked, the pick is not full.
use Rattle.std.proofs.Common.{◌≡◌, ℕ, true, false, Option, Some, None, sym, ap, ◌∙◌, inl, inr, arith}
use Rattle.spg_forest.specs.View.{Place}
use Rattle.spg_tree.specs.Table.{Table}
use Rattle.spg_tree.specs.Pick.{Picks, IsFull, serves, remembered_for}
use Rattle.spg_tree.specs.Descents.{Descending}
use Rattle.spg_tree.specs.declared.want.Want.{Want}
use Rattle.spg_tree.specs.declared.stand.Stand.{Stand}
use Rattle.spg_tree.specs.declared.stand.Stand.TheVariants.{Start, Root, At, Empty}
use Rattle.spg_descend.specs.Carried.{carried}
use Rattle.spg_descend.specs.Puts.{leaf_want}
use Rattle.spg_descend.specs.PutTables.{PutsTable, PutsBy}

pub picks_not_full : (t : Table) (w : Want) (b : ℕ) (t2 : Table) → Picks t w b t2 → IsFull t w → ⊥
picks_not_full t w b t2 (inl R) F =
    let e : serves t w (remembered_for t w) ≡ true = ap (serves t w) (sym R.block) ∙ R.serves in
    let c : true ≡ false = sym e ∙ F.not_remembered in cc
picks_not_full t w b t2 (inr (inl V)) F = let c : true ≡ false = sym V.lowest.0 ∙ F.none_vacant b in cc
picks_not_full t w b t2 (inr (inr N)) F = let a = N.below in let e = N.block in let l = F.at_limit in omega arith

-- a put below an empty downlink
pub put_not_full : {Recon : Type 0} (t t2 : Table) (d : Descending Recon) (seat : ℕ) → PutsTable t t2 d seat → d.stand ≡ Empty → IsFull t (leaf_want d seat) → ⊥
put_not_full t t2 d seat P e F = go d.stand d.parent P e
  where
    go : (st : Stand) (pa : Option (Place × ℕ)) → PutsBy t t2 st pa (carried d) (leaf_want d seat) → st ≡ Empty → ⊥
    go Start pa P e = absurd P
    go (Root b) pa P e = cc
    go (At x) pa P e = cc
    go Empty None P e = absurd P
    go Empty (Some (p, i)) (b, t1, Q, q) e = picks_not_full t (leaf_want d seat) b t1 Q F
