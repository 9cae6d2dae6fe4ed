-- Why a division leaves the leaf of the insert out, and when it notes a rise.
use Rattle.std.proofs.Common.{◌≡◌, ℕ, ◌+◌, ◌-◌, ◌≤◌, ◌<◌, true, false, List, [], ◌∷◌, ◌++◌, ◌⊎◌, Option, Some, None, is_some, length, length-append, take, refl, sym, ap, ◌∙◌, subst, inl, inr, arith}
use Rattle.std.proofs.lemmas.List.{length-map}
use Rattle.spg_opclass.specs.Meaning.{Meaning}
use Rattle.spg_forest.specs.View.{Place, Leaf}
use Rattle.spg_forest.specs.Pages.{all_live}
use Rattle.spg_forest.specs.Links.{leaves_on}
use Rattle.spg_forest.specs.Divisions.{rests_of}
use Rattle.spg_forest.specs.Sheets.{weight}
use Rattle.spg_chain.specs.Chains.{chain_members, leaves_of}
use Rattle.spg_tree.specs.Table.{Table, tuples_at}
use Rattle.spg_tree.specs.Descents.{Descending}
use Rattle.spg_tree.specs.declared.stand.Stand.{Stand}
use Rattle.spg_tree.specs.declared.stand.Stand.TheVariants.{Root, At}
use Rattle.spg_descend.specs.Carried.{carried}
use Rattle.spg_descend.specs.Follows.{tuple_place}
use Rattle.spg_split.specs.declared.division.Division.{Division}
use Rattle.spg_split.specs.declared.parts.Parts.{Parts}
use Rattle.spg_split.specs.declared.plan.Plan.{Plan}
use Rattle.spg_split.specs.declared.put.Divided.{Divided}
use Rattle.spg_split.specs.declared.put.Divided.TheVariants.{With, Without}
use Rattle.spg_split.specs.declared.split.SplitOut.{SplitOut}
use Rattle.spg_split.specs.declared.split.SplitOut.TheVariants.{LeftOut}
use Rattle.spg_split.specs.Splits.{PartsWithout}
use Rattle.spg_split.specs.Below.{SplitsWithout}
use Rattle.spg_split.specs.Causes.{IsCause, IsCauseOf, IsWayFor, tuples_divided, root_bytes, AreInOne, root_in_one, chain_in_one, RisesOnly}
use Rattle.spg_split.specs.Dividing.{IsDivided, rows_of}
use Rattle.spg_split.specs.Nodes.{IsOnlyNode}
use Rattle.spg_split.specs.Parts.{ArePartsOf, IsWay}
use Rattle.spg_split.specs.Placing.{leaves_with}
use Rattle.spg_split.specs.Planning.{IsWayOf}
use Rattle.spg_split.specs.Ways.{IsSplitWay, IsChainWay, Notes, NotesChain}
use Rattle.spg_chain.proofs.LiveLists.{length-all_live}
use Rattle.spg_split.proofs.Taken.{with_length}

-- the bytes of the parts at a root
root_is : {Key Recon Cond : Type 0} (m : Meaning Key Recon Cond) (t : Table) (d : Descending Recon) (root : ℕ) → d.stand ≡ Root root → (dv : Division) → IsDivided m d.recon (rests_of (leaves_on (tuples_at t root) ++ carried d ∷ [])) dv →
    (p : Parts) → ArePartsOf (rows_of (leaves_on (tuples_at t root) ++ carried d ∷ [])) dv p → weight p.leaves ≡ root_bytes m t d
root_is m t d root st dv D p P =
    ap weight P.leaves ∙ ap (λ (z : Division). weight (all_live (leaves_with (rows_of (leaves_on (tuples_at t root) ++ carried d ∷ [])) z.rests))) D.exact
    ∙ ap (λ (s : Stand). weight (tuples_divided m d.recon (leaves_on (tuples_at t (tuple_place s).block) ++ carried d ∷ []))) (sym st)

pub root_cause : {Key Recon Cond : Type 0} (m : Meaning Key Recon Cond) (t : Table) (d : Descending Recon) (root : ℕ) → d.stand ≡ Root root → (dv : Division) → IsDivided m d.recon (rests_of (leaves_on (tuples_at t root) ++ carried d ∷ [])) dv →
    (p : Parts) → ArePartsOf (rows_of (leaves_on (tuples_at t root) ++ carried d ∷ [])) dv p → (way : Divided) → IsWay p way → IsCauseOf (root_bytes m t d) way
root_cause m t d root st dv D p P With a = subst (λ n. n ≤ 8160) (root_is m t d root st dv D p P) a
root_cause m t d root st dv D p P (Without in_one) (a, b) = subst (λ n. 8160 < n) (root_is m t d root st dv D p P) a

-- as the insert notes it
pub noted : {Recon : Type 0} (n : ℕ) (d d2 : Descending Recon) (way : Divided) (out : SplitOut) → IsCauseOf n way → Notes d d2 way out → IsCause n out
noted n d d2 With out a (e, f) = subst (λ (o : SplitOut). IsCause n o) (sym e) a
noted n d d2 (Without false) out a (e, f) = subst (λ (o : SplitOut). IsCause n o) (sym e) a
noted n d d2 (Without true) out a (e, f) = subst (λ (o : SplitOut). IsCause n o) (sym e) a

pub noted_chain : {Recon : Type 0} (n : ℕ) (d d2 : Descending Recon) (z : Place) (way : Divided) (out : SplitOut) → IsCauseOf n way → NotesChain d d2 z way out → IsCause n out
noted_chain n d d2 z With out a (e, f) = subst (λ (o : SplitOut). IsCause n o) (sym e) a
noted_chain n d d2 z (Without false) out a (e, f) = subst (λ (o : SplitOut). IsCause n o) (sym e) a
noted_chain n d d2 z (Without true) out a (e, f) = subst (λ (o : SplitOut). IsCause n o) (sym e) a

-- ---- the rise

-- there is a leaf tuple for each leaf
part_count : {Key Recon Cond : Type 0} (m : Meaning Key Recon Cond) (r : Option Recon) (vs : List Leaf) (dv : Division) → IsDivided m r (rests_of vs) dv → (p : Parts) → ArePartsOf (rows_of vs) dv p → length p.leaves ≡ length vs
part_count m r vs dv D p P =
    let rests : length dv.rests ≡ length vs = D.rest_each ∙ length-map vs (λ (l : Leaf). l.rest) in
    let rows : length (rows_of vs) ≡ length vs = length-map vs (λ (l : Leaf). l.row) in
    ap length P.leaves ∙ length-all_live (leaves_with (rows_of vs) dv.rests) ∙ with_length (rows_of vs) dv.rests (rests ∙ sym rows) ∙ rows

-- where all parts but the last are in one node, so are the leaves but the last
parts_in_one : {Key Recon Cond : Type 0} (m : Meaning Key Recon Cond) (r : Option Recon) (ls : List Leaf) (new : Leaf) (dv : Division) → IsDivided m r (rests_of (ls ++ new ∷ [])) dv → (p : Parts) → ArePartsOf (rows_of (ls ++ new ∷ [])) dv p →
    (node : Option ℕ) → IsOnlyNode (take (length p.leaves - 1) p.node_of) node → true ≡ is_some node → AreInOne m r ls new
parts_in_one m r ls new dv D p P None only e = cc
parts_in_one m r ls new dv D p P (Some k) only e =
    let a : length p.leaves ≡ length (ls ++ new ∷ []) = part_count m r (ls ++ new ∷ []) dv D p P in let b : length (ls ++ new ∷ []) ≡ length ls + 1 = length-append ls (new ∷ []) in
    let c : length p.leaves - 1 ≡ length ls = omega arith in (
      k,
      subst (λ (v : Division). IsOnlyNode (take (length ls) v.node_of) (Some k)) D.exact
          (subst (λ ns. IsOnlyNode (take (length ls) ns) (Some k)) P.node_of (subst (λ i. IsOnlyNode (take i p.node_of) (Some k)) c only)),
    )

pub root_rise : {Key Recon Cond : Type 0} (m : Meaning Key Recon Cond) (t : Table) (d : Descending Recon) (root : ℕ) → d.stand ≡ Root root → (dv : Division) → IsDivided m d.recon (rests_of (leaves_on (tuples_at t root) ++ carried d ∷ [])) dv →
    (p : Parts) → ArePartsOf (rows_of (leaves_on (tuples_at t root) ++ carried d ∷ [])) dv p → (way : Divided) → IsWay p way → RisesOnly (root_in_one m t d) way
root_rise m t d root st dv D p P With a = tt
root_rise m t d root st dv D p P (Without false) a = tt
root_rise m t d root st dv D p P (Without true) (a, (node, only, e)) =
    subst (λ (s : Stand). AreInOne m d.recon (leaves_on (tuples_at t (tuple_place s).block)) (carried d)) (sym st) (parts_in_one m d.recon (leaves_on (tuples_at t root)) (carried d) dv D p P node only e)

-- where they are not, neither are the leaves
parts_apart : {Key Recon Cond : Type 0} (m : Meaning Key Recon Cond) (r : Option Recon) (ls : List Leaf) (new : Leaf) (dv : Division) → IsDivided m r (rests_of (ls ++ new ∷ [])) dv → (p : Parts) → ArePartsOf (rows_of (ls ++ new ∷ [])) dv p →
    (node : Option ℕ) → IsOnlyNode (take (length p.leaves - 1) p.node_of) node → false ≡ is_some node → AreInOne m r ls new → ⊥
parts_apart m r ls new dv D p P (Some j) only e one = cc
parts_apart m r ls new dv D p P None only e (k, one) =
    let a : length p.leaves ≡ length (ls ++ new ∷ []) = part_count m r (ls ++ new ∷ []) dv D p P in let b : length (ls ++ new ∷ []) ≡ length ls + 1 = length-append ls (new ∷ []) in
    let c : length p.leaves - 1 ≡ length ls = omega arith in
    let (some, all) = subst (λ i. IsOnlyNode (take i p.node_of) (Some k)) (sym c) (subst (λ ns. IsOnlyNode (take (length ls) ns) (Some k)) (sym P.node_of) (subst (λ (v : Division). IsOnlyNode (take (length ls) v.node_of) (Some k)) (sym D.exact) one)) in
    let (j, low, apart) = only some in
    apart (all j low ∙ sym (all 0 some))

pub root_way : {Key Recon Cond : Type 0} (m : Meaning Key Recon Cond) (t : Table) (d : Descending Recon) (root : ℕ) → d.stand ≡ Root root → (dv : Division) → IsDivided m d.recon (rests_of (leaves_on (tuples_at t root) ++ carried d ∷ [])) dv →
    (p : Parts) → ArePartsOf (rows_of (leaves_on (tuples_at t root) ++ carried d ∷ [])) dv p → (way : Divided) → IsWay p way → IsWayFor (root_bytes m t d) (root_in_one m t d) way
root_way m t d root st dv D p P With a = root_cause m t d root st dv D p P With a
root_way m t d root st dv D p P (Without true) w = (root_cause m t d root st dv D p P (Without true) w, (λ is. root_rise m t d root st dv D p P (Without true) w, λ one. refl))
root_way m t d root st dv D p P (Without false) (a, (node, only, e)) = (
  root_cause m t d root st dv D p P (Without false) (a, (node, only, e)),
  (
    (λ is. absurd (let f : false ≡ true = is in cc)),
    λ one. absurd (parts_apart m d.recon (leaves_on (tuples_at t root)) (carried d) dv D p P node only e
        (subst (λ (s : Stand). AreInOne m d.recon (leaves_on (tuples_at t (tuple_place s).block)) (carried d)) st one)),
  ),
)

pub chain_rise : {Key Recon Cond : Type 0} (m : Meaning Key Recon Cond) (t : Table) (d : Descending Recon) (x : Place) → d.stand ≡ At x → (dv : Division) → IsDivided m d.recon (rests_of (leaves_of (chain_members (tuples_at t x.block) x.offset) ++ carried d ∷ [])) dv →
    (p : Parts) → ArePartsOf (rows_of (leaves_of (chain_members (tuples_at t x.block) x.offset) ++ carried d ∷ [])) dv p → (plan : Plan) (way : Divided) → IsWayOf p plan way → RisesOnly (chain_in_one m t d) way
chain_rise m t d x st dv D p P plan With a = tt
chain_rise m t d x st dv D p P plan (Without false) a = tt
chain_rise m t d x st dv D p P plan (Without true) (a, (node, only, e)) =
    subst (λ (s : Stand). AreInOne m d.recon (leaves_of (chain_members (tuples_at t (tuple_place s).block) (tuple_place s).offset)) (carried d)) (sym st) (parts_in_one m d.recon (leaves_of (chain_members (tuples_at t x.block) x.offset)) (carried d) dv D p P node only e)

-- where it is not, the spread stays
pub rise_noted : {Key Recon Cond : Type 0} (m : Meaning Key Recon Cond) (A : Type 0) (t t2 : Table) (d d2 : Descending Recon) (way : Divided) (out : SplitOut) → RisesOnly A way → IsSplitWay m t t2 d way → Notes d d2 way out → (out ≡ LeftOut → PartsWithout m t t2 d d2 0) ⊎ A
rise_noted m A t t2 d d2 With out a W (e, f) = inl (λ l. cc)
rise_noted m A t t2 d d2 (Without false) out a W (e, f) = inl (λ l. subst (λ (x : Descending _). PartsWithout m t t2 d x 0) (sym f) W.2)
rise_noted m A t t2 d d2 (Without true) out a W (e, f) = inr a

pub rise_noted_chain : {Key Recon Cond : Type 0} (m : Meaning Key Recon Cond) (A : Type 0) (t t2 : Table) (d d2 : Descending Recon) (z : Place) (way : Divided) (out : SplitOut) → RisesOnly A way → IsChainWay m t t2 d z way → NotesChain d d2 z way out →
    (out ≡ LeftOut → (z : Place) × SplitsWithout m t t2 d d2 z 0) ⊎ A
rise_noted_chain m A t t2 d d2 z With out a W (e, f) = inl (λ l. cc)
rise_noted_chain m A t t2 d d2 z (Without false) out a W (e, f) = inl (λ l. (z, subst (λ (x : Descending _). SplitsWithout m t t2 d x z 0) (sym f) W))
rise_noted_chain m A t t2 d d2 z (Without true) out a W (e, f) = inr a
