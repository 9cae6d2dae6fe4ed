-- What is latched in a new table, and where an insert that holds its blocks may stand.
use Rattle.std.proofs.Common.{◌≡◌, ℕ, zero, suc, ⊎_elim, true, cond, Option, Some, None, get_or, replicate, refl, sym, ap, ◌∙◌, subst}
use Rattle.std.proofs.lemmas.Bool.{eq-eqb, or_left, or_right}
use Rattle.spg_tree.specs.Table.{Table}
use Rattle.spg_tree.specs.Descents.{Descending}
use Rattle.spg_descend.specs.Held.{IsNoOthers, StandsFree}
use Rattle.spg_descend.specs.Leaves.{stand_block, parent_block, is_held}
use Rattle.spg_seats.specs.Descending.{holds_block}
use Rattle.spg_seats.specs.Latching.{InsertHolds}

-- a new table has no latches
pub none_latched : (n b : ℕ) → ◌≡◌ {A = Option ℕ} (get_or (replicate n None) b None) None
none_latched zero b = refl
none_latched (suc n) zero = refl
none_latched (suc n) (suc b) = none_latched n b

-- no other seat has latched a block that the insert holds
own_open : {Recon : Type 0} (t : Table) (seat : ℕ) (rest : ℕ → Option ℕ) (d : Descending Recon) (b : ℕ) → InsertHolds t seat rest d → holds_block d b ≡ true → IsNoOthers t seat b
own_open t seat rest d b h its by e = let same : Some by ≡ Some seat = sym e ∙ h.latch b ∙ ap (λ k. cond k (Some seat) (rest b)) its in cc

held_some : (o : Option ℕ) (b : ℕ) → o ≡ Some b → is_held o b ≡ true
held_some o b e = ap (λ (x : Option ℕ). is_held x b) e ∙ eq-eqb b b refl

-- no other seat has latched the block on which it stands after a section
pub stands_open : {Recon : Type 0} (t t1 : Table) (seat : ℕ) (rest : ℕ → Option ℕ) (d d2 : Descending Recon) (z : ℕ) → InsertHolds t seat rest d → StandsFree t t1 d d2 seat → stand_block d2.stand ≡ Some z → IsNoOthers t seat z
stands_open {Recon} t t1 seat rest d d2 z h free at = ⊎_elim
    (λ e. own_open t seat rest d z h (or_left (is_held (stand_block d.stand) z) (is_held (parent_block d.parent) z) (held_some (stand_block d.stand) z (ap stand_block (sym e) ∙ at))))
    (λ (y, e, (among, home)).
    let there : Some y.block ≡ Some z = ap stand_block (sym e) ∙ at in
    let same : y.block ≡ z = cc in
    ⊎_elim
    (λ above. own_open t seat rest d z h (or_right (is_held (stand_block d.stand) z) (is_held (parent_block d.parent) z) (held_some (parent_block d.parent) z (above ∙ there))))
    (λ none. subst (λ (b : ℕ). IsNoOthers t seat b) same none)
    home)
    free
