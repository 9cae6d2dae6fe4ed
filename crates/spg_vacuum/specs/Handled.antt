-- A page that a vacuum handles.
use Rattle.std.specs.Prelude.{◌≡◌, ℕ, Bool, true, false, ◌⊎◌, nat_lt, List, [], ◌∷◌, map, cond}
use Rattle.spg_base.specs.Row.{RowAt}
use Rattle.spg_forest.specs.View.{Place}
use Rattle.spg_forest.specs.Tuples.{Tuple}
use Rattle.spg_forest.specs.Sheets.{Sheet, with_tuples}
use Rattle.spg_page.specs.Changes.{trimmed}
use Rattle.spg_cover.specs.Swept.{IsSweptPage, targets_on, found_on, aged}
use Rattle.spg_cover.specs.Vacuum.{leads_to}
use Rattle.spg_chain.specs.Told.{without_targets}
use Rattle.spg_tree.specs.Table.{Table, sheet_at, tuple_at, tuples_at, with_tuples_at, with_touched}
use Rattle.spg_vacuum.specs.declared.handle.Handled.{Handled}

-- the tuples ts of a page, a root's or not, inner or not, are us once it is handled: the targets of a leaf
-- page are swept, redirects of a stamp below the horizon are placeholders, and none of these stands at the end
abbrev pub AreHandled : Bool → Bool → (RowAt → Bool) → ℕ → List Tuple → List Tuple → Type 0
AreHandled true true test horizon ts us = us ≡ ts
AreHandled true false test horizon ts us = us ≡ without_targets test ts
AreHandled false true test horizon ts us = us ≡ trimmed (map (aged horizon) ts)
AreHandled false false test horizon ts us = (vs : List Tuple) × IsSweptPage test ts vs × (us ≡ trimmed (map (aged horizon) vs))

-- the rows of the targets on a page: none on an inner page
abbrev pub rows_at : (RowAt → Bool) → Sheet → List RowAt
rows_at test s = cond s.inner [] (targets_on test s.tuples)

-- where the redirects of a leaf page lead whose stamps are not below the vacuum's: on an inner page none is looked for
abbrev pub found_at : ℕ → Sheet → List Place
found_at since s = cond s.inner [] (found_on since s.tuples)

-- the page s as it is handled, with the rows swept and the places found
pub record IsHandled (root : Bool) (test : RowAt → Bool) (since horizon : ℕ) (s : Sheet) (h : Handled) : Type 0 where
  pub page : h.page ≡ with_tuples s h.page.tuples
  pub tuples : AreHandled root s.inner test horizon s.tuples h.page.tuples
  pub rows : h.rows ≡ rows_at test s
  pub found : h.found ≡ found_at since s
  pub changed : h.changed ≡ true → h.rows ≡ [] → h.page.tuples ≡ s.tuples → ⊥
  pub idle : h.changed ≡ false → h.page.tuples ≡ s.tuples

-- the block alone is touched where its page is changed, and no block where it is not
abbrev pub TouchesChanged : Table → Table → ℕ → Type 0
TouchesChanged t t2 b = ((t2.touched ≡ b ∷ []) × (tuples_at t2 b ≡ tuples_at t b → ⊥)) ⊎ ((t2.touched ≡ []) × (tuples_at t2 b ≡ tuples_at t b))

-- the page of block b is handled, and nothing else changes. These rows are swept
pub record HandlesBlock (t t2 : Table) (b : ℕ) (test : RowAt → Bool) (horizon : ℕ) (rows : List RowAt) : Type 0 where
  pub tuples : AreHandled (nat_lt b 3) (sheet_at t b).inner test horizon (tuples_at t b) (tuples_at t2 b)
  pub table : t2 ≡ with_touched (with_tuples_at t b (tuples_at t2 b)) t2.touched
  pub swept : rows ≡ targets_on test (tuples_at t b)
  pub touched : TouchesChanged t t2 b

-- the place p is handled: on a leaf page, which is not `inner`, its whole page is; on an inner page nothing changes
abbrev pub HandlesPlace : Bool → Table → Table → Place → (RowAt → Bool) → ℕ → List RowAt → Type 0
HandlesPlace false t t2 p test horizon rows = HandlesBlock t t2 p.block test horizon rows
HandlesPlace true t t2 p test horizon rows = (rows ≡ []) × (t2 ≡ with_touched t [])

-- what is found there: what the page's redirects lead to, or what the tuple at the place leads to
abbrev pub found_from : Bool → ℕ → Table → Place → List Place
found_from false since t p = found_at since (sheet_at t p.block)
found_from true since t p = leads_to (tuple_at t p)
