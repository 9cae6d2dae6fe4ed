-- The values that are divided where an insert stands.
use Rattle.std.specs.Prelude.{◌≡◌, ℕ, List, [], ◌∷◌, ◌++◌, Option, Some, None, length}
use Rattle.spg_opclass.specs.Meaning.{Meaning}
use Rattle.spg_opclass.specs.Copies.{RestsAt}
use Rattle.spg_forest.specs.View.{Leaf}
use Rattle.spg_forest.specs.Links.{leaves_on}
use Rattle.spg_forest.specs.Divisions.{rests_of}
use Rattle.spg_tree.specs.Table.{Table, tuples_at}
use Rattle.spg_tree.specs.Descents.{Descending}
use Rattle.spg_tree.specs.declared.stand.Stand.{Stand}
use Rattle.spg_tree.specs.declared.stand.Stand.TheVariants.{Start, Root, At, Empty}
use Rattle.spg_descend.specs.Carried.{carried}
use Rattle.spg_split.specs.declared.division.Division.{Division}
use Rattle.spg_split.specs.Causes.{leaves_below}
use Rattle.spg_split.specs.Dividing.{IsDivided}

-- the leaves that are divided: those of the root leaf page in offset order, or those of the chain in chain order, and that of the insert behind them
abbrev pub leaves_to : {Recon : Type 0} → Table → Descending Recon → Stand → List Leaf
leaves_to t d Start = []
leaves_to t d (Root b) = leaves_on (tuples_at t b) ++ carried d ∷ []
leaves_to t d (At x) = leaves_below t d x
leaves_to t d Empty = []

-- their rests
abbrev pub rests_at : {Recon : Type 0} → Table → Descending Recon → List (List ℕ)
rests_at t d = rests_of (leaves_to t d d.stand)

-- it is a copy of this rebuilt value and of these rests; nulls, which have no rebuilt value, are not copied
abbrev pub IsBunchOf : {Recon : Type 0} → Option Recon → List (List ℕ) → Option (RestsAt Recon) → Type 0
IsBunchOf r rests None = r ≡ None
IsBunchOf r rests (Some b) = (r ≡ Some b.recon) × (b.rests ≡ rests)

-- it is a copy of the values that are divided where the insert stands, and there is none in the nulls tree
abbrev pub IsPartedAt : {Recon : Type 0} → Table → Descending Recon → Option (RestsAt Recon) → Type 0
IsPartedAt t d bunch = IsBunchOf d.recon (rests_at t d) bunch

-- so many nulls are divided, or the values of a copy
abbrev pub DividesBunch : {Key Recon Cond : Type 0} → Meaning Key Recon Cond → Option (RestsAt Recon) → ℕ → Division → Type 0
DividesBunch m None n d = (rests : List (List ℕ)) → length rests ≡ n → IsDivided m None rests d
DividesBunch m (Some b) n d = IsDivided m (Some b.recon) b.rests d
