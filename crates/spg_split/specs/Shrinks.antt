-- Why an insert comes to its end after a division that leaves its leaf out.
use Rattle.std.specs.Prelude.{◌≡◌, ◌<◌, ◌⊎◌, ℕ, List, length, Some}
use Rattle.spg_opclass.specs.Meaning.{Meaning}
use Rattle.spg_forest.specs.View.{Place, Leaf}
use Rattle.spg_forest.specs.Spot.{Bucket, leaves_of}
use Rattle.spg_forest.specs.Shape.{spots}
use Rattle.spg_forest.specs.Edits.{spot_of}
use Rattle.spg_tree.specs.Table.{Table, sheets_of}
use Rattle.spg_tree.specs.Descents.{Descending}
use Rattle.spg_tree.specs.declared.stand.Stand.{Stand}
use Rattle.spg_descend.specs.Follows.{tuple_place, link_of}
use Rattle.spg_descend.specs.Answers.{LeadsNowhere}

-- how many leaves the chain or the root leaf page has at which an insert stands
abbrev pub leaf_number : Table → Stand → ℕ
leaf_number t stand = length (leaves_of (spots (sheets_of t) (spot_of (tuple_place stand))))

-- each node of the inner tuple at x leads nowhere or to fewer than n leaves
abbrev pub LeadsToFewer : Table → Place → ℕ → Type 0
LeadsToFewer t x n = (i : ℕ) (y : Place) → link_of t x i ≡ Some y → (ls : List Leaf) × (spots (sheets_of t) y ≡ Bucket ls) × (length ls < n)

-- below the new inner tuple there are fewer leaves at each node than were divided, or the class answers a match with a node that leads nowhere
abbrev pub Shrinks : {Key Recon Cond : Type 0} → Meaning Key Recon Cond → Table → Table → Descending Recon → Descending Recon → Type 0
Shrinks m t t2 d d2 = LeadsToFewer t2 (tuple_place d2.stand) (leaf_number t d.stand) ⊎ LeadsNowhere m t2 d2
