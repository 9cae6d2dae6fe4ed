-- Where a pick finds no page, fewer than 4 blocks are left.
use Rattle.std.proofs.Common.{◌≡◌, ℕ, suc, ◌+◌, ◌-◌, ◌≤◌, nat_le, Bool, true, false, cond, [], ◌∷◌, ◌++◌, ⊎_elim, Option, None, Some, length, length-append, length-set, replicate, refl, ap, ◌∙◌, arith}
use Rattle.std.proofs.lemmas.List.{length-replicate}
use Rattle.spg_opclass.specs.Meaning.{Meaning}
use Rattle.spg_forest.specs.View.{Place}
use Rattle.spg_forest.specs.Tuples.{Inner}
use Rattle.spg_forest.specs.Links.{leaves_on}
use Rattle.spg_forest.specs.Divisions.{rests_of}
use Rattle.spg_forest.specs.Sheets.{size_of}
use Rattle.spg_tree.specs.Table.{Table, sheet_at, tuples_at}
use Rattle.spg_tree.specs.Descents.{Descending}
use Rattle.spg_tree.specs.Pick.{Picks, IsFull, has_parity, first_from, new_block, fresh}
use Rattle.spg_tree.specs.Two.{after_first}
use Rattle.spg_tree.specs.declared.want.Want.{Want}
use Rattle.spg_descend.specs.Carried.{carried}
use Rattle.spg_descend.specs.Follows.{tuple_place}
use Rattle.spg_split.specs.Causes.{tuples_divided, root_bytes, leaves_below, chain_bytes}
use Rattle.spg_split.specs.Dividing.{division_of}
use Rattle.spg_split.specs.Fulls.{AreFull, IsRootFull, IsChainFull, IsFullBelow, those_put, size_gone}
use Rattle.spg_split.specs.Homes.{fits_above, inner_want, rest_want}
use Rattle.spg_split.specs.Parts.{bare, lists_want}
use Rattle.spg_split.specs.Planning.{left_at}
use Rattle.spg_core.specs.Stepping.{IsNearLimit}

-- one block of three in a row has the parity
first_most : (n : ℕ) (parity : Option ℕ) → first_from n parity ≤ n + 2
first_most n parity = go (has_parity parity n) (has_parity parity (n + 1))
  where
    go : (a b : Bool) → cond a n (cond b (n + 1) (n + 2)) ≤ n + 2
    go true b = omega arith
    go false true = omega arith
    go false false = omega arith

pub full_near : (t : Table) (w : Want) → IsFull t w → IsNearLimit t
full_near t w F = omega (arith, F.at_limit, first_most (length t.pages) w.parity)

-- a pick adds 3 blocks at most
picked_most : (t t2 : Table) (w : Want) (b : ℕ) → Picks t w b t2 → (length t2.pages ≤ length t.pages + 3) × (t2.limit ≡ t.limit)
picked_most t t2 w b P = ⊎_elim
    (λ R. ((let e : length t2.pages ≡ length t.pages = ap (λ (z : Table). length z.pages) R.same in omega arith), ap (λ (z : Table). z.limit) R.same))
    (λ Q. ⊎_elim
    (λ V. ((let e : length t2.pages ≡ length t.pages = ap (λ (z : Table). length z.pages) V.after ∙ length-set t.pages b (fresh w) in omega arith), ap (λ (z : Table). z.limit) V.after))
    (λ N.
    let e : length t2.pages ≡ length t.pages + (suc b - length t.pages) = ap (λ (z : Table). length z.pages) N.after ∙ length-append t.pages (replicate (suc b - length t.pages) (fresh w)) ∙ ap (λ n. length t.pages + n) (length-replicate (suc b - length t.pages) (fresh w)) in
    let most : b ≤ length t.pages + 2 = omega (arith, N.block, first_most (length t.pages) w.parity) in
    (omega arith, ap (λ (z : Table). z.limit) N.after))
    Q)
    P

-- the second of two picks, of any parity
second_near : (t t1 : Table) (w v : Want) (a : ℕ) → v.parity ≡ None → Picks t w a t1 → IsFull t1 (after_first v a) → IsNearLimit t
second_near t t1 w v a any P F =
    let (most, limit) = picked_most t t1 w a P in
    let e : new_block t1 (after_first v a) ≡ length t1.pages = ap (λ p. first_from (length t1.pages) p) any in
    omega (arith, F.at_limit)

-- the picks of a division below a root
homes_near : (here away : Bool) (t : Table) (w v : Want) → v.parity ≡ None → AreFull here away t w v → IsNearLimit t
homes_near true false t w v any F = absurd F
homes_near true true t w v any F = full_near t v F
homes_near false false t w v any F = full_near t w F
homes_near false true t w v any two = ⊎_elim (λ F. full_near t w F) (λ (a, t1, P, F). second_near t t1 w v a any P F) two

pub root_near : {Key Recon Cond : Type 0} (m : Meaning Key Recon Cond) (t : Table) (d : Descending Recon) (seat : ℕ) → IsRootFull m t d seat → IsNearLimit t
root_near m t d seat F =
    let b : ℕ = (tuple_place d.stand).block in
    full_near t (lists_want (sheet_at t b).nulls (those_put (root_bytes m t d) (tuples_divided m d.recon (leaves_on (tuples_at t b) ++ carried d ∷ []))) seat) F

pub chain_near : {Key Recon Cond : Type 0} (m : Meaning Key Recon Cond) (t : Table) (d : Descending Recon) (seat : ℕ) → IsChainFull m t d seat → IsNearLimit t
chain_near m t d seat full = below d.parent full
  where
    below : (parent : Option (Place × ℕ)) → IsFullBelow m t d parent seat → IsNearLimit t
    below None F = absurd F
    below (Some (p, i)) F =
        let x : Place = tuple_place d.stand in
        let dv = division_of m d.recon (rests_of (leaves_below t d x)) in
        let n : ℕ = length dv.frame.labels in
        let rest = size_gone (those_put (chain_bytes m t d) (tuples_divided m d.recon (leaves_below t d x))) dv.node_of n (left_at (tuples_at t x.block) x.offset) in
        let need : ℕ = size_of (Inner dv.frame (bare n)) + 4 in
        let nulls : Bool = (sheet_at t x.block).nulls in
        homes_near (fits_above t p.block need) (nat_le 1 rest.tuples) t (inner_want nulls p.block need seat) (rest_want nulls x.block rest seat) refl F
