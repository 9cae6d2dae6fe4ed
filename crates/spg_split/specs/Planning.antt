-- Which lists of a division stay on the old page, and which go away.
use Rattle.std.specs.Prelude.{◌≡◌, ◌⊎◌, ℕ, zero, suc, ◌+◌, ◌-◌, ◌*◌, ◌≤◌, ◌<◌, nat_le, min, if◌then◌else◌, List, [], ◌∷◌, Option, Some, None, is_some, length, take}
use Rattle.spg_forest.specs.View.{Leaf}
use Rattle.spg_forest.specs.Tuples.{Tuple}
use Rattle.spg_forest.specs.Pages.{place, all_live}
use Rattle.spg_forest.specs.View.{Place}
use Rattle.spg_forest.specs.Sheets.{weight, gaps}
use Rattle.spg_page.specs.Changes.{free_of}
use Rattle.spg_split.specs.declared.put.Divided.{Divided}
use Rattle.spg_split.specs.declared.put.Divided.TheVariants.{With, Without}
use Rattle.spg_split.specs.Nodes.{IsOnlyNode}
use Rattle.spg_split.specs.Writing.{taken_from}
use Rattle.spg_split.specs.declared.parts.Parts.{Parts}
use Rattle.spg_split.specs.declared.plan.ListSize.{ListSize}
use Rattle.spg_split.specs.declared.plan.Left.{Left}
use Rattle.spg_split.specs.declared.plan.Plan.{Plan}
use Rattle.spg_split.specs.Placing.{taken_by}

-- how many leaves a list has, and the bytes of their tuples with the item pointers
abbrev pub size_of_list : List Leaf → ListSize
size_of_list ls = record { tuples = length ls; bytes = weight (all_live ls) }

-- the bytes that a list may take where so much is left: placeholders may be filled
abbrev pub room_left : Left → ListSize → ℕ
room_left l s = l.free + 20 * min s.tuples l.gaps

-- what is left once it is put
abbrev pub less : Left → ListSize → Left
less l s = record { free = room_left l s - s.bytes; gaps = l.gaps - min s.tuples l.gaps }

-- and nothing, where it does not fit
abbrev pub left_after : Left → ListSize → Option Left
left_after l s = if nat_le s.bytes (room_left l s) then Some (less l s) else None

-- of the lists of n nodes from node k on, how many fit one after another before the first that does not
abbrev pub staying : (ℕ → List Leaf) → Left → ℕ → ℕ → ℕ
staying L l k zero = 0
staying L l k (suc n) = if nat_le (weight (all_live (L k))) (room_left l (size_of_list (L k))) then suc (staying L (less l (size_of_list (L k))) (suc k) n) else 0

-- the leaf tuples that go to nodes from node k on
abbrev pub from_node : ℕ → List Tuple → List ℕ → List Tuple
from_node k [] nodes = []
from_node k (t ∷ ts) [] = []
from_node k (t ∷ ts) (n ∷ nodes) = if nat_le k n then t ∷ from_node k ts nodes else from_node k ts nodes

-- the bytes of the lists of these leaf tuples that must go away
abbrev pub bytes_away : List Tuple → List ℕ → ℕ → Left → ℕ
bytes_away leaves nodes n l = weight (from_node (staying (λ j. taken_by j leaves nodes) l 0 n) leaves nodes)

-- the lists of these leaf tuples stay while each fits, and those from the first on that does not go away
pub record IsPlanOf (leaves : List Tuple) (nodes : List ℕ) (n : ℕ) (l : Left) (p : Plan) : Type 0 where
  pub count : p.count ≡ length leaves
  pub cut : p.cut ≡ staying (λ j. taken_by j leaves nodes) l 0 n
  pub bytes : p.rest.bytes ≡ weight (from_node p.cut leaves nodes)
  pub tuples : p.rest.tuples ≡ length (from_node p.cut leaves nodes)

-- all leaves are put where those that go away fit on one page, and else all but the last
abbrev pub IsPlan : Parts → Left → Plan → Type 0
IsPlan p l plan =
    (IsPlanOf p.leaves p.node_of (length p.links) l plan × (plan.rest.bytes ≤ 8160))
    ⊎ (IsPlanOf (take (length p.leaves - 1) p.leaves) p.node_of (length p.links) l plan × ((all : Plan) × IsPlanOf p.leaves p.node_of (length p.links) l all × (8160 < all.rest.bytes)))

-- what is left once the chain at an offset is taken away
abbrev pub left_at : List Tuple → ℕ → Left
left_at ts o = record { free = free_of (taken_from ts o (place 0 0) 0); gaps = gaps (taken_from ts o (place 0 0) 0) }

-- so much is left once it is taken away, whatever the redirect
abbrev pub IsLeft : List Tuple → ℕ → Left → Type 0
IsLeft ts o l = (to : Place) (stamp : ℕ) → (l.free ≡ free_of (taken_from ts o to stamp)) × (l.gaps ≡ gaps (taken_from ts o to stamp)) × (weight (taken_from ts o to stamp) ≤ 8160)

-- how a division is done: with all, or without the last
abbrev pub IsWayOf : Parts → Plan → Divided → Type 0
IsWayOf p plan With = plan.count ≡ length p.leaves
IsWayOf p plan (Without in_one) = (plan.count ≡ length p.leaves → ⊥) × ((node : Option ℕ) × IsOnlyNode (take (length p.leaves - 1) p.node_of) node × (in_one ≡ is_some node))
