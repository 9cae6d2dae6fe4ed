-- The live leaves of a chain, and the rows of leaves.
use Rattle.std.proofs.Common.{◌≡◌, ◌⊎◌, ⊎_elim, inl, inr, Bool, true, false, cond, List, [], ◌∷◌, refl, sym, ap, ◌∙◌}
use Rattle.std.proofs.lemmas.Bool.{false≢true}
use Rattle.spg_base.specs.Row.{RowAt}
use Rattle.spg_forest.specs.View.{Leaf}
use Rattle.spg_forest.specs.Spot.{IsIn, NoRepeat}
use Rattle.spg_forest.specs.Counts.{AreDistinct}
use Rattle.spg_forest.specs.Steps.{HasRow}
use Rattle.spg_rows.specs.Table as rows
use Rattle.spg_scan.specs.Items.{rows_of}
use Rattle.spg_scan.specs.Scanning.{is_live}
use Rattle.spg_scan.specs.Reading.{live_leaves}

leaf_if : (b : Bool) (l k : Leaf) (ls : List Leaf) → b ≡ true → k ≡ l → IsIn l (cond b (k ∷ ls) ls)
leaf_if true l k ls e q = inl q
leaf_if false l k ls e q = absurd (false≢true e)

leaf_later : (b : Bool) (l k : Leaf) (ls : List Leaf) → IsIn l ls → IsIn l (cond b (k ∷ ls) ls)
leaf_later true l k ls h = inr h
leaf_later false l k ls h = h

leaf_cases : (b : Bool) (l k : Leaf) (ls : List Leaf) → IsIn l (cond b (k ∷ ls) ls) → ((b ≡ true) × (k ≡ l)) ⊎ IsIn l ls
leaf_cases true l k ls (inl e) = inl (refl, e)
leaf_cases true l k ls (inr h) = inr h
leaf_cases false l k ls h = inr h

module _ {O Key Recon Cond : Type 0} (table : rows.Table O Key Recon Cond) where
  pub live_has : (ls : List Leaf) (l : Leaf) → IsIn l ls → is_live (rows.state_in table l.row) ≡ true → IsIn l (live_leaves table ls)
  live_has [] l h live = absurd h
  live_has (k ∷ ls) l (inl e) live = leaf_if (is_live (rows.state_in table k.row)) l k (live_leaves table ls) (ap (λ (x : Leaf). is_live (rows.state_in table x.row)) e ∙ live) e
  live_has (k ∷ ls) l (inr h) live = leaf_later (is_live (rows.state_in table k.row)) l k (live_leaves table ls) (live_has ls l h live)

  pub live_from : (ls : List Leaf) (l : Leaf) → IsIn l (live_leaves table ls) → IsIn l ls × (is_live (rows.state_in table l.row) ≡ true)
  live_from [] l h = absurd h
  live_from (k ∷ ls) l h = ⊎_elim (λ (a, e). (inl e, ap (λ (x : Leaf). is_live (rows.state_in table x.row)) (sym e) ∙ a)) (λ a. let (b, c) = live_from ls l a in (inr b, c)) (leaf_cases (is_live (rows.state_in table k.row)) l k (live_leaves table ls) h)

  pub live_repeat : (ls : List Leaf) → NoRepeat ls → NoRepeat (live_leaves table ls)
  live_repeat [] h = tt
  live_repeat (k ∷ ls) (n, h) = go (is_live (rows.state_in table k.row)) (live_repeat ls h)
    where
      go : (b : Bool) → NoRepeat (live_leaves table ls) → NoRepeat (cond b (k ∷ live_leaves table ls) (live_leaves table ls))
      go true g = ((λ l a e. n l (live_from ls l a).0 e), g)
      go false g = g

pub row_has : (ls : List Leaf) (l : Leaf) → IsIn l ls → HasRow (rows_of ls) l.row
row_has [] l h = absurd h
row_has (k ∷ ls) l (inl e) = inl (ap (λ (x : Leaf). x.row) (sym e))
row_has (k ∷ ls) l (inr h) = inr (row_has ls l h)

pub row_from : (ls : List Leaf) (row : RowAt) → HasRow (rows_of ls) row → (l : Leaf) × IsIn l ls × (l.row ≡ row)
row_from [] row h = absurd h
row_from (k ∷ ls) row (inl e) = (k, inl refl, sym e)
row_from (k ∷ ls) row (inr h) = let (l, a, b) = row_from ls row h in (l, inr a, b)

pub rows_distinct : (ls : List Leaf) → NoRepeat ls → AreDistinct (rows_of ls)
rows_distinct [] h = tt
rows_distinct (k ∷ ls) (n, h) = ((λ a. let (l, b, e) = row_from ls k.row a in n l b e), rows_distinct ls h)
