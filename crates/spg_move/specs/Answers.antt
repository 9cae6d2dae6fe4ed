-- Where an insert stands at an inner tuple.
use Rattle.std.specs.Prelude.{◌≡◌, ℕ, Bool, Option, Some, None}
use Rattle.spg_forest.specs.View.{Place}
use Rattle.spg_forest.specs.Sheets.{sheet_at}
use Rattle.spg_tree.specs.Table.{Table, sheets_of}
use Rattle.spg_tree.specs.declared.stand.Stand.{Stand}
use Rattle.spg_tree.specs.declared.stand.Stand.TheVariants.{Start, Root, At, Empty}
use Rattle.spg_descend.specs.Below.{IsLink}
use Rattle.spg_descend.specs.Carried.{root_of}
use Rattle.spg_descend.specs.Follows.{IsAtInner}

-- the insert stands at an inner tuple of its tree: that of a root, or one to which the node of the tuple above leads
abbrev pub IsInnerOf : Table → Bool → Stand → Option (Place × ℕ) → Type 0
IsInnerOf t nulls Start parent = ⊥
IsInnerOf t nulls (Root b) parent = (b ≡ root_of nulls) × IsAtInner t (Root b)
IsInnerOf t nulls (At x) None = ⊥
IsInnerOf t nulls (At x) (Some (p, i)) = IsAtInner t (At x) × ((sheet_at (sheets_of t) x.block).nulls ≡ nulls) × IsLink t p i x
IsInnerOf t nulls Empty parent = ⊥
