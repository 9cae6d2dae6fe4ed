-- How the values of a division are read, and what is asked of how they are divided.
use Rattle.std.specs.Prelude.{◌≡◌, ℕ, ◌+◌, ◌<◌, ◌≤◌, true, false, ℤ, pos, List, [], ◌∷◌, Option, Some, None, is_none, IsSome, length, map, take, get_or, slice_get, slice_index, replicate}
use Rattle.spg_base.specs.Row.{RowAt}
use Rattle.spg_opclass.specs.Meaning.{Meaning, divided, eightfold}
use Rattle.spg_opclass.specs.declared.view.Choice.TheVariants.{Match}
use Rattle.spg_opclass.specs.declared.view.Picked.{Picked}
use Rattle.spg_split.specs.Nodes.{turns, only_of, IsOnlyNode}
use Rattle.spg_forest.specs.View.{Leaf}
use Rattle.spg_forest.specs.Spot.{Frame}
use Rattle.spg_forest.specs.Tuples.{Tuple}
use Rattle.spg_forest.specs.Pages.{all_live}
use Rattle.spg_forest.specs.Links.{leaves_on}
use Rattle.spg_forest.specs.Classes.{class_of, key_of}
use Rattle.spg_forest.specs.Shape.{IsTupleOf, IsRestOf}
use Rattle.spg_forest.specs.Divisions.{EachGoes, rests_of}
use Rattle.spg_split.specs.declared.division.Division.{Division}

-- on the page are leaf tuples alone, without links
abbrev pub AreAllLive : List Tuple → Type 0
AreAllLive ts = ts ≡ all_live (leaves_on ts)

abbrev pub rows_of : List Leaf → List RowAt
rows_of ls = map (λ (l : Leaf). l.row) ls

-- each rest gives a key at the rebuilt value
abbrev pub GiveKeys : {Key Recon Cond : Type 0} → Meaning Key Recon Cond → Option Recon → List (List ℕ) → Type 0
GiveKeys m r [] = Unit {0}
GiveKeys m r (q ∷ qs) = IsSome (key_of m r q) × GiveKeys m r qs

-- nulls, so many
abbrev pub nulls_divided : ℕ → Division
nulls_divided n = record { frame = eightfold [] (pos 0); node_of = turns n; rests = replicate n [] }

-- so many values as the class divides them: where all are in one node, they fill an all-the-same tuple of its label in turn
abbrev pub division_by : Picked → ℕ → Option ℕ → Division
division_by p n None = record { frame = divided p; node_of = p.node_of; rests = p.rests }
division_by p n (Some k) = record { frame = eightfold p.prefix (get_or p.labels k (pos 0)); node_of = turns n; rests = p.rests }

-- the division of these rests that the class's meaning gives
abbrev pub division_of : {Key Recon Cond : Type 0} → Meaning Key Recon Cond → Option Recon → List (List ℕ) → Division
division_of m None rests = nulls_divided (length rests)
division_of m (Some r) rests = division_by (m.parts r rests) (length rests) (only_of (m.parts r rests).node_of)

-- the class answers a rest a match with the node, of a tuple that is not all-the-same
abbrev pub IsMatched : {Key Recon Cond : Type 0} → Meaning Key Recon Cond → Option Recon → Frame → List ℕ → ℕ → Type 0
IsMatched {Key} {Recon} m r w rest node = (recon : Recon) × (left : List ℕ) × (r ≡ Some recon) × (m.answer recon w rest ≡ Match node left) × (w.all_same ≡ false)

-- it is the division that the class's meaning gives: each value goes below its node, of a tuple that may stand in its tree; no rest has grown, and not all go to one node
pub record IsDivided {Key Recon Cond : Type 0} (m : Meaning Key Recon Cond) (r : Option Recon) (rests : List (List ℕ)) (d : Division) : Type 0 where
  pub exact : d ≡ division_of m r rests
  pub node_each : length d.node_of ≡ length rests
  pub rest_each : length d.rests ≡ length rests
  pub goes : (ls : List Leaf) → rests_of ls ≡ rests → EachGoes (class_of m) r d.frame ls d.node_of d.rests
  pub there : (i : ℕ) → i < length d.node_of → slice_index d.node_of i < length d.frame.labels
  pub tuple : IsTupleOf m (is_none r) d.frame
  pub some : 0 < length d.frame.labels
  pub same : d.frame.all_same ≡ true → (label : ℤ) × (d.frame.labels ≡ replicate 8 label)
  pub well_formed : (i : ℕ) (q : List ℕ) → slice_get d.rests i ≡ Some q → IsRestOf m (is_none r) q
  pub not_longer : (i : ℕ) (p q : List ℕ) → slice_get rests i ≡ Some p → slice_get d.rests i ≡ Some q → length q ≤ length p
  pub apart : (i j : ℕ) × (i < length d.node_of) × (j < length d.node_of) × (slice_index d.node_of i ≡ slice_index d.node_of j → ⊥)
  -- where the others, at least two, are all in one node, the last value is matched with its own
  pub alone : (k c : ℕ) (last : List ℕ) → length rests ≡ c + 1 → 2 ≤ c → IsOnlyNode (take c d.node_of) (Some k) → slice_get rests c ≡ Some last → IsMatched m r d.frame last (slice_index d.node_of c)
