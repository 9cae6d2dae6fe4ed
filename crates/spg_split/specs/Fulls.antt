-- What a division asks of a page, where none is to be had.
use Rattle.std.specs.Prelude.{ℕ, ◌+◌, ◌-◌, nat_le, if◌then◌else◌, Bool, true, false, List, [], ◌∷◌, ◌++◌, Option, Some, None, length, take}
use Rattle.spg_opclass.specs.Meaning.{Meaning}
use Rattle.spg_forest.specs.View.{Place}
use Rattle.spg_forest.specs.Tuples.{Tuple, Inner}
use Rattle.spg_forest.specs.Links.{leaves_on}
use Rattle.spg_forest.specs.Divisions.{rests_of}
use Rattle.spg_forest.specs.Sheets.{weight, size_of}
use Rattle.spg_tree.specs.Table.{Table, sheet_at, tuples_at}
use Rattle.spg_tree.specs.Pick.{IsFull}
use Rattle.spg_tree.specs.Two.{IsTwoFull}
use Rattle.spg_tree.specs.Descents.{Descending}
use Rattle.spg_tree.specs.declared.want.Want.{Want}
use Rattle.spg_descend.specs.Carried.{carried}
use Rattle.spg_descend.specs.Follows.{tuple_place}
use Rattle.spg_split.specs.declared.division.Division.{Division}
use Rattle.spg_split.specs.declared.parts.Parts.{Parts}
use Rattle.spg_split.specs.declared.plan.ListSize.{ListSize}
use Rattle.spg_split.specs.declared.plan.Left.{Left}
use Rattle.spg_split.specs.declared.plan.Plan.{Plan}
use Rattle.spg_split.specs.declared.put.Divided.{Divided}
use Rattle.spg_split.specs.Causes.{tuples_divided, root_bytes, leaves_below, chain_bytes}
use Rattle.spg_split.specs.Dividing.{division_of}
use Rattle.spg_split.specs.Homes.{fits_above, inner_want, rest_want}
use Rattle.spg_split.specs.Parts.{IsWay, going, lists_want}
use Rattle.spg_descend.specs.BareNodes.{bare}
use Rattle.spg_split.specs.Placing.{taken_by}
use Rattle.spg_split.specs.Planning.{IsLeft, IsPlan, from_node, left_at, staying}

-- the leaf tuples that are put: all where so many bytes fit on one page, and else all but the last
abbrev pub those_put : ℕ → List Tuple → List Tuple
those_put n ts = if nat_le n 8160 then ts else take (length ts - 1) ts

-- there is no page for the leaf tuples of parts that go
abbrev pub IsPuttingFull : Table → ℕ → Parts → ℕ → Type 0
IsPuttingFull t root parts seat = (way : Divided) × IsWay parts way × IsFull t (lists_want (sheet_at t root).nulls (going parts way) seat)

-- at a root: there is none for the lists, with the leaf of the insert where they fit on one page with it
abbrev pub IsRootFull : {Key Recon Cond : Type 0} → Meaning Key Recon Cond → Table → Descending Recon → ℕ → Type 0
IsRootFull m t d seat =
    let b : ℕ = (tuple_place d.stand).block in
    IsFull t (lists_want (sheet_at t b).nulls (those_put (root_bytes m t d) (tuples_divided m d.recon (leaves_on (tuples_at t b) ++ carried d ∷ []))) seat)

-- there is none for the inner tuple, where it does not go on the page above, or none for the lists that go away, where some do
abbrev pub AreFull : Bool → Bool → Table → Want → Want → Type 0
AreFull true false t w v = ⊥
AreFull true true t w v = IsFull t v
AreFull false false t w v = IsFull t w
AreFull false true t w v = IsTwoFull t w v

-- of an inner tuple below one on block p, and of lists of this size that leave block b
abbrev pub AreHomesFull : Table → ℕ → ℕ → ℕ → ListSize → ℕ → Type 0
AreHomesFull t b p need rest seat =
    let nulls : Bool = (sheet_at t b).nulls in
    AreFull (fits_above t p need) (nat_le 1 rest.tuples) t (inner_want nulls p need seat) (rest_want nulls b rest seat)

-- the same of parts that are put by a plan
abbrev pub IsDivisionFull : Table → Place → Place → Parts → ℕ → Type 0
IsDivisionFull t x p parts seat = (l : Left) × IsLeft (tuples_at t x.block) x.offset l × (plan : Plan) × IsPlan parts l plan × AreHomesFull t x.block p.block (size_of parts.inner + 4) plan.rest seat

-- of these leaf tuples, those that must leave the page where so much is left
abbrev pub gone : List Tuple → List ℕ → ℕ → Left → List Tuple
gone leaves nodes n l = from_node (staying (λ j. taken_by j leaves nodes) l 0 n) leaves nodes

abbrev pub size_gone : List Tuple → List ℕ → ℕ → Left → ListSize
size_gone leaves nodes n l = record { tuples = length (gone leaves nodes n l); bytes = weight (gone leaves nodes n l) }

-- below a root: the same of the chain at x, divided with the leaf of the insert or without it
abbrev pub IsChainFullAt : {Key Recon Cond : Type 0} → Meaning Key Recon Cond → Table → Descending Recon → Place → Place → ℕ → Type 0
IsChainFullAt m t d x p seat =
    let dv : Division = division_of m d.recon (rests_of (leaves_below t d x)) in
    let n : ℕ = length dv.frame.labels in
    let put : List Tuple = those_put (chain_bytes m t d) (tuples_divided m d.recon (leaves_below t d x)) in
    AreHomesFull t x.block p.block (size_of (Inner dv.frame (bare n)) + 4) (size_gone put dv.node_of n (left_at (tuples_at t x.block) x.offset)) seat

abbrev pub IsFullBelow : {Key Recon Cond : Type 0} → Meaning Key Recon Cond → Table → Descending Recon → Option (Place × ℕ) → ℕ → Type 0
IsFullBelow m t d None seat = ⊥
IsFullBelow m t d (Some (p, i)) seat = IsChainFullAt m t d (tuple_place d.stand) p seat

abbrev pub IsChainFull : {Key Recon Cond : Type 0} → Meaning Key Recon Cond → Table → Descending Recon → ℕ → Type 0
IsChainFull m t d seat = IsFullBelow m t d d.parent seat
