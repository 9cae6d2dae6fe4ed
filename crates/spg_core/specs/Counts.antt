-- How many tuples of each kind an index has.
use Rattle.std.specs.Prelude.{◌≡◌, ℕ, ◌+◌, ◌≤◌, List, length}
use Rattle.spg_base.specs.declared.recorded.Stat.{Stat}
use Rattle.spg_forest.specs.Tuples.{Tuple}
use Rattle.spg_forest.specs.Sheets.{Sheet, gap}
use Rattle.spg_forest.specs.Walk.{is_live}
use Rattle.spg_tree.specs.Table.{Table}
pub use Rattle.spg_tree.specs.Counts.{is_inner, is_redirect, is_dead, count_on, count_in}
use Rattle.spg_core.specs.declared.stat.Counts.{Counts}

-- the counts of an index
pub record IsStat (t : Table) (stat : Stat) : Type 0 where
  pub pages : stat.pages ≡ length t.pages
  pub inner : stat.inner ≡ count_in is_inner t.pages
  pub leaf : stat.leaf ≡ count_in is_live t.pages
  pub redirect : stat.redirect ≡ count_in is_redirect t.pages
  pub dead : stat.dead ≡ count_in is_dead t.pages
  pub placeholder : stat.placeholder ≡ count_in gap t.pages
  pub clock : stat.clock ≡ t.clock

-- ---- counts on their way

-- the sum of what f gives for each kind
abbrev pub each : ((Tuple → ℕ) → ℕ) → Counts
each f = record { inner = f is_inner; leaf = f is_live; redirect = f is_redirect; dead = f is_dead; placeholder = f gap }

abbrev pub one_of : Tuple → Counts
one_of t = each (λ f. f t)

abbrev pub counts_on : List Tuple → Counts
counts_on ts = each (λ f. count_on f ts)

abbrev pub counts_in : List Sheet → Counts
counts_in ss = each (λ f. count_in f ss)

abbrev pub plus : Counts → Counts → Counts
plus a b = record {
  inner = a.inner + b.inner;
  leaf = a.leaf + b.leaf;
  redirect = a.redirect + b.redirect;
  dead = a.dead + b.dead;
  placeholder = a.placeholder + b.placeholder;
}

-- no count is more than n
pub record AreAtMost (n : ℕ) (counts : Counts) : Type 0 where
  pub inner : counts.inner ≤ n
  pub leaf : counts.leaf ≤ n
  pub redirect : counts.redirect ≤ n
  pub dead : counts.dead ≤ n
  pub placeholder : counts.placeholder ≤ n
