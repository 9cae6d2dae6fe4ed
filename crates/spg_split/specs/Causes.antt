-- Why a division leaves the leaf of the insert out, and when it notes a rise.
use Rattle.std.specs.Prelude.{◌≡◌, ◌↔◌, ℕ, ◌≤◌, ◌<◌, true, false, List, [], ◌∷◌, ◌++◌, Option, Some, length, take}
use Rattle.spg_opclass.specs.Meaning.{Meaning}
use Rattle.spg_forest.specs.View.{Leaf, Place}
use Rattle.spg_forest.specs.Tuples.{Tuple}
use Rattle.spg_forest.specs.Pages.{all_live}
use Rattle.spg_forest.specs.Links.{leaves_on}
use Rattle.spg_forest.specs.Divisions.{rests_of}
use Rattle.spg_forest.specs.Sheets.{weight}
use Rattle.spg_chain.specs.Chains.{chain_members, leaves_of}
use Rattle.spg_tree.specs.Table.{Table, tuples_at}
use Rattle.spg_tree.specs.Descents.{Descending}
use Rattle.spg_descend.specs.Carried.{carried}
use Rattle.spg_descend.specs.Follows.{tuple_place}
use Rattle.spg_split.specs.declared.division.Division.{Division}
use Rattle.spg_split.specs.declared.put.Divided.{Divided}
use Rattle.spg_split.specs.declared.put.Divided.TheVariants.{With, Without}
use Rattle.spg_split.specs.declared.split.SplitOut.{SplitOut}
use Rattle.spg_split.specs.declared.split.SplitOut.TheVariants.{Put, LeftOut}
use Rattle.spg_split.specs.Dividing.{division_of, rows_of}
use Rattle.spg_split.specs.Nodes.{IsOnlyNode}
use Rattle.spg_split.specs.Placing.{leaves_with}
use Rattle.spg_split.specs.Planning.{bytes_away, left_at}

-- the leaf is put where so many bytes fit on one page, and left out where they do not
abbrev pub IsCause : ℕ → SplitOut → Type 0
IsCause n Put = n ≤ 8160
IsCause n LeftOut = 8160 < n

-- so the division is done with it or without it
abbrev pub IsCauseOf : ℕ → Divided → Type 0
IsCauseOf n With = n ≤ 8160
IsCauseOf n (Without in_one) = 8160 < n

-- the leaf tuples of these leaves as the class divides them
abbrev pub tuples_divided : {Key Recon Cond : Type 0} → Meaning Key Recon Cond → Option Recon → List Leaf → List Tuple
tuples_divided m r ls = all_live (leaves_with (rows_of ls) (division_of m r (rests_of ls)).rests)

-- the bytes of all lists where the leaves of a root leaf page are divided, and that of the insert behind them
abbrev pub root_bytes : {Key Recon Cond : Type 0} → Meaning Key Recon Cond → Table → Descending Recon → ℕ
root_bytes m t d = weight (tuples_divided m d.recon (leaves_on (tuples_at t (tuple_place d.stand).block) ++ carried d ∷ []))

-- the leaves of a chain, and that of the insert behind them
abbrev pub leaves_below : {Recon : Type 0} → Table → Descending Recon → Place → List Leaf
leaves_below t d x = leaves_of (chain_members (tuples_at t x.block) x.offset) ++ carried d ∷ []

-- the bytes of the lists that must leave the page of a chain where it is divided
abbrev pub chain_bytes : {Key Recon Cond : Type 0} → Meaning Key Recon Cond → Table → Descending Recon → ℕ
chain_bytes m t d =
    let x : Place = tuple_place d.stand in
    let dv : Division = division_of m d.recon (rests_of (leaves_below t d x)) in
    bytes_away (tuples_divided m d.recon (leaves_below t d x)) dv.node_of (length dv.frame.labels) (left_at (tuples_at t x.block) x.offset)

-- these leaves are all in one node of the division of them and a new one behind them
abbrev pub AreInOne : {Key Recon Cond : Type 0} → Meaning Key Recon Cond → Option Recon → List Leaf → Leaf → Type 0
AreInOne m r ls new = (k : ℕ) × IsOnlyNode (take (length ls) (division_of m r (rests_of (ls ++ new ∷ []))).node_of) (Some k)

-- the leaves of a root leaf page are, with that of the insert behind them
abbrev pub root_in_one : {Key Recon Cond : Type 0} → Meaning Key Recon Cond → Table → Descending Recon → Type 0
root_in_one m t d = AreInOne m d.recon (leaves_on (tuples_at t (tuple_place d.stand).block)) (carried d)

-- and so are those of a chain
abbrev pub chain_in_one : {Key Recon Cond : Type 0} → Meaning Key Recon Cond → Table → Descending Recon → Type 0
chain_in_one m t d =
    let x : Place = tuple_place d.stand in
    AreInOne m d.recon (leaves_of (chain_members (tuples_at t x.block) x.offset)) (carried d)

-- a division that will be noted as a rise has this
abbrev pub RisesOnly : Type 0 → Divided → Type 0
RisesOnly A With = Unit {0}
RisesOnly A (Without false) = Unit {0}
RisesOnly A (Without true) = A

-- a division is done with the leaf of the insert where so many bytes fit on one page, and else without it; whether all others are in one list is told
abbrev pub IsWayFor : ℕ → Type 0 → Divided → Type 0
IsWayFor n A With = n ≤ 8160
IsWayFor n A (Without in_one) = (8160 < n) × ((in_one ≡ true) ↔ A)
