-- The whole table once leaves are divided.
use Rattle.std.specs.Prelude.{ℕ, List, [], ◌∷◌, ◌++◌, Option, Some, None}
use Rattle.spg_opclass.specs.Meaning.{Meaning}
use Rattle.spg_forest.specs.View.{Place, Leaf}
use Rattle.spg_forest.specs.Links.{leaves_on}
use Rattle.spg_forest.specs.Divisions.{rests_of}
use Rattle.spg_forest.specs.Sheets.{weight}
use Rattle.spg_tree.specs.Table.{Table, tuples_at}
use Rattle.spg_tree.specs.Descents.{Descending}
use Rattle.spg_tree.specs.declared.stand.Stand.{Stand}
use Rattle.spg_tree.specs.declared.stand.Stand.TheVariants.{Start, Root, At, Empty}
use Rattle.spg_descend.specs.Carried.{carried}
use Rattle.spg_descend.specs.Follows.{tuple_place}
use Rattle.spg_split.specs.declared.chain.ChainOut.{ChainOut}
use Rattle.spg_split.specs.declared.parts.Parts.{Parts}
use Rattle.spg_split.specs.declared.split.SplitOut.{SplitOut}
use Rattle.spg_split.specs.Causes.{leaves_below}
use Rattle.spg_split.specs.Dividing.{division_of, rows_of}
use Rattle.spg_split.specs.Fulls.{those_put}
use Rattle.spg_split.specs.Divides.{IsDividedBelow}
use Rattle.spg_split.specs.Parts.{ArePartsOf, PutsLists}
use Rattle.spg_split.specs.Ways.{NotesChain}

-- the tuples of the division of these leaves that the class's meaning gives
abbrev pub AreDivided : {Key Recon Cond : Type 0} → Meaning Key Recon Cond → Option Recon → List Leaf → Parts → Type 0
AreDivided m r ls p = ArePartsOf (rows_of ls) (division_of m r (rests_of ls)) p

abbrev pub DividesLeaves : {Key Recon Cond : Type 0} → Meaning Key Recon Cond → Table → Table → Descending Recon → ℕ → List Leaf → ℕ → Type 0
DividesLeaves m t t2 d root ls seat = (p : Parts) × AreDivided m d.recon ls p × PutsLists t t2 root seat p (those_put (weight p.leaves) p.leaves)

-- at a root: the leaves of its page are divided, and that of the insert behind them; a page is picked for the lists
abbrev pub RootTable : {Key Recon Cond : Type 0} → Meaning Key Recon Cond → Table → Table → Descending Recon → ℕ → Type 0
RootTable m t t2 d seat = let b : ℕ = (tuple_place d.stand).block in DividesLeaves m t t2 d b (leaves_on (tuples_at t b) ++ carried d ∷ []) seat

-- below a root: so are the leaves of the chain at x, to which node i of the tuple at p leads; pages are picked for the inner tuple and for the lists that go, and the insert notes what was done
abbrev pub DividesBelow : {Key Recon Cond : Type 0} → Meaning Key Recon Cond → Table → Table → Descending Recon → Stand → Option (Place × ℕ) → ℕ → ChainOut → Type 0
DividesBelow m t t2 d (At x) (Some (p, i)) seat done = (ps : Parts) × AreDivided m d.recon (leaves_below t d x) ps × IsDividedBelow t t2 x p i seat ps done
DividesBelow m t t2 d (At x) None seat done = ⊥
DividesBelow m t t2 d Start parent seat done = ⊥
DividesBelow m t t2 d (Root b) parent seat done = ⊥
DividesBelow m t t2 d Empty parent seat done = ⊥

abbrev pub ChainTable : {Key Recon Cond : Type 0} → Meaning Key Recon Cond → Table → Table → Descending Recon → Descending Recon → ℕ → SplitOut → Type 0
ChainTable m t t2 d d2 seat out = (done : ChainOut) × DividesBelow m t t2 d d.stand d.parent seat done × NotesChain d d2 done.at done.way out
