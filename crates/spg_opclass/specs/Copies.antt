-- What is copied out of an index so that a class can be asked apart from it, and what the class answers for it.
use Rattle.std.specs.Prelude.{◌≡◌, ◌<◌, ℕ, ℤ, zero, suc, true, List, [], ◌∷◌, ◌++◌, Option, Some, None, IsSome, All, map, length, replicate, if◌then◌else◌}
use Rattle.spg_base.specs.Row.{RowAt}
use Rattle.spg_base.specs.declared.names.Place.{Place}
use Rattle.spg_opclass.specs.declared.view.InnerView.{InnerView}
use Rattle.spg_opclass.specs.declared.view.Choice.{Choice}
use Rattle.spg_opclass.specs.declared.view.Choice.TheVariants.{Match, Add, Split}
use Rattle.spg_opclass.specs.declared.view.Picked.{Picked}
use Rattle.spg_opclass.specs.Meaning.{Meaning, is_tuple, matches_rebuilt}

-- ---- the start of an insert

-- the rest with which the insert of a key begins: a null has no bytes
abbrev pub first_rest : {Key Recon Cond : Type 0} → Meaning Key Recon Cond → Option Key → List ℕ
first_rest m None = []
first_rest m (Some key) = m.rest_of key

-- a null, or a key of the class
abbrev pub IsKeyOrNull : {Key Recon Cond : Type 0} → Meaning Key Recon Cond → Option Key → Type 0
IsKeyOrNull m None = Unit {0}
IsKeyOrNull m (Some key) = m.is_key key ≡ true

-- ---- an inner tuple on the way of an insert

-- the rebuilt value there, the inner tuple, and the rest of the key that is inserted
pub record AtTuple (Recon : Type 0) : Type 0 where
  pub recon : Recon
  pub tuple : InnerView
  pub rest : List ℕ

-- the class has such a tuple, and the rest gives a key there
pub record IsAtTuple {Key Recon Cond : Type 0} (m : Meaning Key Recon Cond) (at : AtTuple Recon) : Type 0 where
  pub tuple : is_tuple m at.tuple ≡ true
  pub key : IsSome (m.rebuild at.recon at.rest)

-- what the class answers there
abbrev pub answer_at : {Key Recon Cond : Type 0} → Meaning Key Recon Cond → AtTuple Recon → Choice
answer_at m at = m.answer at.recon at.tuple at.rest

-- the numbers below n
abbrev pub first_nodes : ℕ → List ℕ
first_nodes zero = []
first_nodes (suc n) = first_nodes n ++ n ∷ []

-- the rebuilt values below these nodes
abbrev pub downs : {Key Recon Cond : Type 0} → Meaning Key Recon Cond → Recon → InnerView → List ℕ → List Recon
downs m recon tuple nodes = map (λ (i : ℕ). m.down recon tuple i) nodes

-- the node of a match is there
abbrev pub IsThere : InnerView → Choice → Type 0
IsThere tuple (Match node rest) = node < length tuple.labels
IsThere tuple (Add at label) = Unit {0}
IsThere tuple (Split upper_prefix upper_labels child lower_prefix) = Unit {0}

-- the rebuilt values below what is answered: for a match that of its node, where the tuple is all-the-same those of all its nodes in order; for anything else none
abbrev pub recons_of : {Key Recon Cond : Type 0} → Meaning Key Recon Cond → Recon → InnerView → Choice → List Recon
recons_of m recon tuple (Match node rest) = if tuple.all_same then downs m recon tuple (first_nodes (length tuple.labels)) else downs m recon tuple (node ∷ [])
recons_of m recon tuple (Add at label) = []
recons_of m recon tuple (Split upper_prefix upper_labels child lower_prefix) = []

abbrev pub recons_at : {Key Recon Cond : Type 0} → Meaning Key Recon Cond → AtTuple Recon → List Recon
recons_at m at = recons_of m at.recon at.tuple (answer_at m at)

-- ---- values that are to be divided

-- the rebuilt value and the rests
pub record RestsAt (Recon : Type 0) : Type 0 where
  pub recon : Recon
  pub rests : List (List ℕ)

-- each rest gives a key there
abbrev pub AreKeys : {Key Recon Cond : Type 0} → Meaning Key Recon Cond → Recon → List (List ℕ) → Type 0
AreKeys m recon rests = All (λ r. IsSome (m.rebuild recon r)) rests

-- how the class divides them
abbrev pub parts_at : {Key Recon Cond : Type 0} → Meaning Key Recon Cond → RestsAt Recon → Picked
parts_at m at = m.parts at.recon at.rests

-- ---- what a scan copies

-- an inner tuple: the rebuilt value there, what the class sees of it, and its downlinks
pub record InnerAt (Recon : Type 0) : Type 0 where
  pub recon : Recon
  pub tuple : InnerView
  pub links : List (Option Place)

-- the class has such a rebuilt value and such a tuple, there is one downlink for each label, at least one, and an all-the-same tuple has eight nodes of one label
pub record IsInnerAt {Key Recon Cond : Type 0} (m : Meaning Key Recon Cond) (at : InnerAt Recon) : Type 0 where
  pub recon : m.is_recon at.recon ≡ true
  pub tuple : is_tuple m at.tuple ≡ true
  pub each : length at.links ≡ length at.tuple.labels
  pub some : 0 < length at.links
  pub same : at.tuple.all_same ≡ true → (label : ℤ) × (at.tuple.labels ≡ replicate 8 label)

-- leaves: the rebuilt value there, and their rows and rests
pub record LeavesAt (Recon : Type 0) : Type 0 where
  pub recon : Recon
  pub rows : List RowAt
  pub rests : List (List ℕ)

-- each rest gives a key there, and there is one for each row
pub record IsLeavesAt {Key Recon Cond : Type 0} (m : Meaning Key Recon Cond) (at : LeavesAt Recon) : Type 0 where
  pub keys : AreKeys m at.recon at.rests
  pub each : length at.rests ≡ length at.rows

-- the nodes of a copied inner tuple that the class keeps for the conditions, each with its rebuilt value
abbrev pub kept_at : {Key Recon Cond : Type 0} → Meaning Key Recon Cond → InnerAt Recon → List Cond → List (ℕ × Recon)
kept_at {Key} {Recon} m at conds = map (λ (i : ℕ). (i, m.down at.recon at.tuple i)) (m.kept at.recon at.tuple conds)

-- the rows whose key meets every condition
abbrev pub matching : {Key Recon Cond : Type 0} → Meaning Key Recon Cond → Recon → List Cond → List RowAt → List (List ℕ) → List RowAt
matching m recon conds [] rests = []
matching m recon conds (row ∷ rows) [] = []
matching m recon conds (row ∷ rows) (rest ∷ rests) = if matches_rebuilt m conds (m.rebuild recon rest) then row ∷ matching m recon conds rows rests else matching m recon conds rows rests

abbrev pub matching_at : {Key Recon Cond : Type 0} → Meaning Key Recon Cond → LeavesAt Recon → List Cond → List RowAt
matching_at m at conds = matching m at.recon conds at.rows at.rests
