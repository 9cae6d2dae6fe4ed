-- What comes of a copy that a class sifts.
use Rattle.std.specs.Prelude.{◌≡◌, ℕ, true, List, [], All}
use Rattle.spg_base.specs.Row.{RowAt}
use Rattle.spg_opclass.specs.Meaning.{Meaning}
use Rattle.spg_opclass.specs.Copies.{kept_at, matching_at}
use Rattle.spg_opclass.specs.declared.copied.Copied.{Copied}
use Rattle.spg_opclass.specs.declared.copied.Copied.TheVariants.{Inner, Leaves}

-- the nodes of a copied inner tuple to go on to, each with its rebuilt value; of leaves there are none
abbrev pub nodes_of : {O Key Recon Cond : Type 0} → Meaning Key Recon Cond → Copied O Key Recon Cond → List (ℕ × Recon)
nodes_of m (Inner at conds) = kept_at m at conds
nodes_of m (Leaves at conds) = []

-- the rows of copied leaves that match; of an inner tuple there are none
abbrev pub rows_of : {O Key Recon Cond : Type 0} → Meaning Key Recon Cond → Copied O Key Recon Cond → List RowAt
rows_of m (Inner at conds) = []
rows_of m (Leaves at conds) = matching_at m at conds

-- the conditions under which an inner tuple was sifted are well formed
abbrev pub AreAsked : {O Key Recon Cond : Type 0} → Meaning Key Recon Cond → Copied O Key Recon Cond → Type 0
AreAsked m (Inner at conds) = All (λ c. m.is_cond c ≡ true) conds
AreAsked m (Leaves at conds) = Unit {0}

-- What is kept with a copy that was sifted
pub record IsSifting {O Key Recon Cond : Type 0} (m : Meaning Key Recon Cond) (copied : Copied O Key Recon Cond) (nodes : List (ℕ × Recon)) (rows : List RowAt) : Type 0 where
  pub nodes_are : nodes ≡ nodes_of m copied
  pub rows_are : rows ≡ rows_of m copied
  pub asked : AreAsked m copied
