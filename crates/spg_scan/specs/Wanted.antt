-- Which leaves a query asks for, where their rebuilt value is the same.
use Rattle.std.specs.Prelude.{ℕ, Bool, true, false, List, [], ◌∷◌, ◌&&◌, if◌then◌else◌}
use Rattle.spg_base.specs.Row.{RowAt}
use Rattle.spg_opclass.specs.Meaning.{Meaning, matches_rebuilt}
use Rattle.spg_forest.specs.View.{Leaf}
use Rattle.spg_rows.specs.Table as rows
use Rattle.spg_scan.specs.declared.wanted.Wanted.{Wanted}
use Rattle.spg_scan.specs.declared.wanted.Wanted.TheVariants.{Each, Nothing, Meeting}
use Rattle.spg_scan.specs.Scanning.{is_live}

-- a leaf with this rest is one of them
abbrev pub is_wanted : {O Key Recon Cond : Type 0} → Meaning Key Recon Cond → Wanted O Key Recon Cond → List ℕ → Bool
is_wanted m Each rest = true
is_wanted m Nothing rest = false
is_wanted m (Meeting class recon conds) rest = matches_rebuilt m conds.now (m.rebuild recon.now rest)

-- the row of a leaf, where it is live and the leaf is wanted
abbrev pub taken_from : {O Key Recon Cond : Type 0} → Meaning Key Recon Cond → rows.Table O Key Recon Cond → Wanted O Key Recon Cond → Leaf → List RowAt
taken_from m table wanted l = if is_live (rows.state_in table l.row) && is_wanted m wanted l.rest then l.row ∷ [] else []
