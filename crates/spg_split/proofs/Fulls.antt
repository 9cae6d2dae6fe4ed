-- What a division asks of a page, where none is to be had: of its parts, and so of the class's meaning.
use Rattle.std.proofs.Common.{◌≡◌, ℕ, ◌+◌, ◌-◌, ◌≤◌, ◌<◌, nat_le, Bool, true, false, refl, List, [], ◌∷◌, ◌++◌, ⊎_elim, Option, Some, None, length, take, sym, ap, ◌∙◌, subst, arith}
use Rattle.std.proofs.lemmas.Bool.{cond-true, cond-false, le-leb, lt-leb}
use Rattle.std.proofs.lemmas.List.{length-replicate}
use Rattle.spg_opclass.specs.Meaning.{Meaning}
use Rattle.spg_forest.specs.View.{Place, Leaf}
use Rattle.spg_forest.specs.Tuples.{Tuple, Inner}
use Rattle.spg_forest.specs.Pages.{place, all_live}
use Rattle.spg_forest.specs.Links.{leaves_on}
use Rattle.spg_forest.specs.Divisions.{rests_of}
use Rattle.spg_forest.specs.Sheets.{weight, size_of}
use Rattle.spg_tree.specs.Table.{Table, sheet_at, tuples_at}
use Rattle.spg_tree.specs.Pick.{IsFull}
use Rattle.spg_tree.specs.Descents.{Descending}
use Rattle.spg_tree.specs.declared.stand.Stand.{Stand}
use Rattle.spg_tree.specs.declared.stand.Stand.TheVariants.{Start, Root, At, Empty}
use Rattle.spg_descend.specs.Carried.{carried}
use Rattle.spg_descend.specs.Follows.{tuple_place}
use Rattle.spg_split.specs.declared.division.Division.{Division}
use Rattle.spg_split.specs.declared.parts.Parts.{Parts}
use Rattle.spg_split.specs.declared.plan.ListSize.{ListSize}
use Rattle.spg_split.specs.declared.plan.Left.{Left}
use Rattle.spg_split.specs.declared.plan.Plan.{Plan}
use Rattle.spg_split.specs.declared.put.Divided.{Divided}
use Rattle.spg_split.specs.declared.put.Divided.TheVariants.{With, Without}
use Rattle.spg_split.specs.Causes.{tuples_divided, leaves_below, chain_bytes}
use Rattle.spg_split.specs.Dividing.{IsDivided, division_of, rows_of}
use Rattle.spg_split.specs.Fulls.{those_put, gone, size_gone, AreFull, AreHomesFull, IsChainFull, IsChainFullAt, IsFullBelow, IsDivisionFull, IsPuttingFull, IsRootFull}
use Rattle.spg_split.specs.Parts.{ArePartsOf, IsWay, going, lists_want}
use Rattle.spg_descend.specs.BareNodes.{bare}
use Rattle.spg_split.specs.Placing.{leaves_with}
use Rattle.spg_split.specs.Planning.{IsLeft, IsPlan, IsPlanOf, bytes_away, from_node, left_at}
use Rattle.spg_split.specs.Homes.{AreHomes, fits_above, inner_want, rest_want}
use Rattle.spg_split.specs.Tables.{DividesBelow}
use Rattle.spg_split.specs.declared.homes.Homes.{Homes}
use Rattle.spg_split.specs.declared.chain.ChainOut.{ChainOut}
use Rattle.spg_tree.specs.declared.want.Want.{Want}
use Rattle.spg_tree.proofs.Two.{two_full_not}
use Rattle.spg_descend.proofs.NotFull.{picks_not_full}

put_all : (n : ℕ) (ts : List Tuple) → n ≤ 8160 → those_put n ts ≡ ts
put_all n ts h = cond-true (nat_le n 8160) ts (take (length ts - 1) ts) (le-leb n 8160 h)

put_others : (n : ℕ) (ts : List Tuple) → 8160 < n → those_put n ts ≡ take (length ts - 1) ts
put_others n ts h = cond-false (nat_le n 8160) ts (take (length ts - 1) ts) (lt-leb n 8160 h)

-- the leaf tuples of the parts are those of the class's meaning
tuples_are : {Key Recon Cond : Type 0} (m : Meaning Key Recon Cond) (r : Option Recon) (vs : List Leaf) (dv : Division) → IsDivided m r (rests_of vs) dv → (p : Parts) → ArePartsOf (rows_of vs) dv p → p.leaves ≡ tuples_divided m r vs
tuples_are m r vs dv D p P = P.leaves ∙ ap (λ (z : Division). all_live (leaves_with (rows_of vs) z.rests)) D.exact

-- those that go are those put
pub going_are : (p : Parts) (way : Divided) → IsWay p way → going p way ≡ those_put (weight p.leaves) p.leaves
going_are p With a = sym (put_all (weight p.leaves) p.leaves a)
going_are p (Without in_one) (a, b) = sym (put_others (weight p.leaves) p.leaves a)

pub root_full : {Key Recon Cond : Type 0} (m : Meaning Key Recon Cond) (t : Table) (d : Descending Recon) (root seat : ℕ) → d.stand ≡ Root root → (dv : Division) → IsDivided m d.recon (rests_of (leaves_on (tuples_at t root) ++ carried d ∷ [])) dv →
    (p : Parts) → ArePartsOf (rows_of (leaves_on (tuples_at t root) ++ carried d ∷ [])) dv p → IsPuttingFull t root p seat → IsRootFull m t d seat
root_full m t d root seat st dv D p P (way, a, F) =
    let are : p.leaves ≡ tuples_divided m d.recon (leaves_on (tuples_at t root) ++ carried d ∷ []) = tuples_are m d.recon (leaves_on (tuples_at t root) ++ carried d ∷ []) dv D p P in
    let e : going p way ≡ those_put (weight (tuples_divided m d.recon (leaves_on (tuples_at t root) ++ carried d ∷ []))) (tuples_divided m d.recon (leaves_on (tuples_at t root) ++ carried d ∷ [])) = going_are p way a ∙ ap (λ ts. those_put (weight ts) ts) are in
    subst (λ (s : Stand). let b : ℕ = (tuple_place s).block in let ts : List Tuple = tuples_divided m d.recon (leaves_on (tuples_at t b) ++ carried d ∷ []) in IsFull t (lists_want (sheet_at t b).nulls (those_put (weight ts) ts) seat)) (sym st)
    (subst (λ ts. IsFull t (lists_want (sheet_at t root).nulls ts seat)) e F)

-- ---- below a root

-- the lists that a plan sends away
rest_is : (us : List Tuple) (nodes : List ℕ) (n : ℕ) (l : Left) (q : Plan) → IsPlanOf us nodes n l q → q.rest ≡ size_gone us nodes n l
rest_is us nodes n l q Q =
    let a : q.rest.tuples ≡ length (gone us nodes n l) = Q.tuples ∙ ap (λ k. length (from_node k us nodes)) Q.cut in
    let b : q.rest.bytes ≡ weight (gone us nodes n l) = Q.bytes ∙ ap (λ k. weight (from_node k us nodes)) Q.cut in
    λ k. record { tuples = a k; bytes = b k }

-- of these leaf tuples, where so much is left
abbrev rest_of : List Tuple → List ℕ → ℕ → Left → ListSize
rest_of us nodes n l = size_gone (those_put (bytes_away us nodes n l) us) nodes n l

plan_rest : (p : Parts) (l : Left) (plan : Plan) → IsPlan p l plan → plan.rest ≡ rest_of p.leaves p.node_of (length p.links) l
plan_rest p l plan = ⊎_elim
    (λ (Q, f).
    let e : plan.rest ≡ size_gone p.leaves p.node_of (length p.links) l = rest_is p.leaves p.node_of (length p.links) l plan Q in
    let b : plan.rest.bytes ≡ bytes_away p.leaves p.node_of (length p.links) l = ap (λ (s : ListSize). s.bytes) e in
    e ∙ ap (λ us. size_gone us p.node_of (length p.links) l) (sym (put_all (bytes_away p.leaves p.node_of (length p.links) l) p.leaves (omega arith))))
    (λ (Q, (all, A, f)).
    let b : all.rest.bytes ≡ bytes_away p.leaves p.node_of (length p.links) l = ap (λ (s : ListSize). s.bytes) (rest_is p.leaves p.node_of (length p.links) l all A) in
    rest_is (take (length p.leaves - 1) p.leaves) p.node_of (length p.links) l plan Q
    ∙ ap (λ us. size_gone us p.node_of (length p.links) l) (sym (put_others (bytes_away p.leaves p.node_of (length p.links) l) p.leaves (omega arith))))

-- what a division of the chain at x asks of pages is what the class's meaning says
pub chain_wants : {Key Recon Cond : Type 0} (m : Meaning Key Recon Cond) (t : Table) (d : Descending Recon) (x : Place) → d.stand ≡ At x → (dv : Division) → dv ≡ division_of m d.recon (rests_of (leaves_below t d x)) →
    (ps : Parts) → ArePartsOf (rows_of (leaves_below t d x)) dv ps → (l : Left) → IsLeft (tuples_at t x.block) x.offset l → (plan : Plan) → IsPlan ps l plan →
    let dv2 : Division = division_of m d.recon (rests_of (leaves_below t d x)) in
    let n : ℕ = length dv2.frame.labels in
    (plan.rest ≡ size_gone (those_put (chain_bytes m t d) (tuples_divided m d.recon (leaves_below t d x))) dv2.node_of n (left_at (tuples_at t x.block) x.offset)) × (ps.inner ≡ Inner dv2.frame (bare n))
chain_wants {Key} {Recon} m t d x st dv exact ps P l L plan Q = (rest, inner)
  where
    dv2 : Division
    dv2 = division_of m d.recon (rests_of (leaves_below t d x))

    ts : List Tuple
    ts = tuples_divided m d.recon (leaves_below t d x)

    n : ℕ
    n = length dv2.frame.labels

    inner : ps.inner ≡ Inner dv2.frame (bare n)
    inner = P.inner ∙ ap (λ (v : Division). Inner v.frame (bare (length v.frame.labels))) exact

    rest : plan.rest ≡ size_gone (those_put (chain_bytes m t d) ts) dv2.node_of n (left_at (tuples_at t x.block) x.offset)
    rest =
        let leaves : ps.leaves ≡ ts = P.leaves ∙ ap (λ (z : Division). all_live (leaves_with (rows_of (leaves_below t d x)) z.rests)) exact in
        let nodes : ps.node_of ≡ dv2.node_of = P.node_of ∙ ap (λ (v : Division). v.node_of) exact in
        let count : length ps.links ≡ n = ap length P.links ∙ length-replicate (length dv.frame.labels) None ∙ ap (λ (v : Division). length v.frame.labels) exact in
        let left : l ≡ left_at (tuples_at t x.block) x.offset = let (e, f, g) = L (place 0 0) 0 in λ k. record { free = e k; gaps = f k } in
        let bytes : bytes_away ts dv2.node_of n (left_at (tuples_at t x.block) x.offset) ≡ chain_bytes m t d =
        ap (λ (s : Stand). let y : Place = tuple_place s in let v : Division = division_of m d.recon (rests_of (leaves_below t d y)) in bytes_away (tuples_divided m d.recon (leaves_below t d y)) v.node_of (length v.frame.labels) (left_at (tuples_at t y.block) y.offset)) (sym st) in
        plan_rest ps l plan Q ∙ ap (λ us. rest_of us ps.node_of (length ps.links) l) leaves ∙ ap (λ ns. rest_of ts ns (length ps.links) l) nodes ∙ ap (λ k. rest_of ts dv2.node_of k l) count
        ∙ ap (λ (z : Left). rest_of ts dv2.node_of n z) left ∙ ap (λ b. size_gone (those_put b ts) dv2.node_of n (left_at (tuples_at t x.block) x.offset)) bytes

pub chain_full : {Key Recon Cond : Type 0} (m : Meaning Key Recon Cond) (t : Table) (d : Descending Recon) (x p : Place) (i seat : ℕ) → d.stand ≡ At x → d.parent ≡ Some (p, i) → (dv : Division) → IsDivided m d.recon (rests_of (leaves_below t d x)) dv →
    (ps : Parts) → ArePartsOf (rows_of (leaves_below t d x)) dv ps → IsDivisionFull t x p ps seat → IsChainFull m t d seat
chain_full m t d x p i seat st pr dv D ps P (l, L, plan, Q, F) =
    let (rest, inner) = chain_wants m t d x st dv D.exact ps P l L plan Q in
    let dv2 : Division = division_of m d.recon (rests_of (leaves_below t d x)) in
    let at_x : IsChainFullAt m t d x p seat =
    subst (λ (s : ListSize). AreHomesFull t x.block p.block (size_of (Inner dv2.frame (bare (length dv2.frame.labels))) + 4) s seat) rest
    (subst (λ (u : Tuple). AreHomesFull t x.block p.block (size_of u + 4) plan.rest seat) inner F) in
    subst (λ (o : Option (Place × ℕ)). IsFullBelow m t d o seat) (sym pr)
    (subst (λ (y : Place). IsChainFullAt m t d y p seat) (sym (ap tuple_place st)) at_x)

-- where pages are picked, no pick is full
homes_not_full : (here away : Bool) (t t2 : Table) (b p : ℕ) (w v : Want) (h : Homes) → AreHomes here away t t2 b p w v h → AreFull here away t w v → ⊥
homes_not_full true false t t2 b p w v h A F = F
homes_not_full true true t t2 b p w v h (i, Q, P) F = picks_not_full t v h.rest t2 Q F
homes_not_full false false t t2 b p w v h (r, Q, P) F = picks_not_full t w h.inner t2 Q F
homes_not_full false true t t2 b p w v h (Q, P) F = two_full_not t Q.between t2 w v h.inner h.rest Q.first Q.second F

pub chain_not_full : {Key Recon Cond : Type 0} (m : Meaning Key Recon Cond) (t t2 : Table) (d : Descending Recon) (seat : ℕ) (done : ChainOut) → DividesBelow m t t2 d d.stand d.parent seat done → IsChainFull m t d seat → ⊥
chain_not_full {Key} {Recon} m t t2 d seat done W F = go d.stand d.parent refl W F
  where
    go : (st : Stand) (pa : Option (Place × ℕ)) → d.stand ≡ st → DividesBelow m t t2 d st pa seat done → IsFullBelow m t d pa seat → ⊥
    go Start pa s W F = absurd W
    go (Root b) pa s W F = absurd W
    go (At x) None s W F = absurd W
    go (At x) (Some (p, i)) s (ps, P, V) F =
        let dv2 : Division = division_of m d.recon (rests_of (leaves_below t d x)) in
        let (rest, inner) = chain_wants m t d x s dv2 refl ps P V.left V.is_left V.plan V.is_plan in
        let at_x : IsChainFullAt m t d x p seat = subst (λ (y : Place). IsChainFullAt m t d y p seat) (ap tuple_place s) F in
        let full : AreHomesFull t x.block p.block (size_of ps.inner + 4) V.plan.rest seat =
        subst (λ (u : Tuple). AreHomesFull t x.block p.block (size_of u + 4) V.plan.rest seat) (sym inner)
        (subst (λ (z : ListSize). AreHomesFull t x.block p.block (size_of (Inner dv2.frame (bare (length dv2.frame.labels))) + 4) z seat) (sym rest) at_x) in
        homes_not_full (fits_above t p.block (size_of ps.inner + 4)) (nat_le 1 V.plan.rest.tuples) t V.housed x.block p.block (inner_want (sheet_at t x.block).nulls p.block (size_of ps.inner + 4) seat) (rest_want (sheet_at t x.block).nulls x.block V.plan.rest seat) V.homes V.picks full
    go Empty pa s W F = absurd W
