-- What a section of a vacuum leaves of a table.
use Rattle.std.proofs.Common.{◌≡◌, ◌⊎◌, ⊎_elim, ℕ, Bool, true, false, List, [], ◌∷◌, length, Some, nat_lt, refl, ap}
use Rattle.spg_base.specs.Row.{RowAt}
use Rattle.spg_forest.specs.View.{Place}
use Rattle.spg_tree.specs.Table.{Table, sheet_at, with_touched}
use Rattle.spg_vacuum.specs.declared.done.Done.TheVariants.{Swept, Latched}
use Rattle.spg_vacuum.specs.declared.done.Work.TheVariants as works
use Rattle.spg_vacuum.specs.declared.vacuum.Vacuum.{Vacuum}
use Rattle.spg_vacuum.specs.Listing.{first_place}
use Rattle.spg_vacuum.specs.Handled.{HandlesBlock, HandlesPlace}
use Rattle.spg_vacuum.specs.Vacuums.{work_at, work_of, BlockDone, FirstDone}

-- the latches and the limit are as they were
abbrev pub Stays : Table → Table → Type 0
Stays t t2 = (t2.latches ≡ t.latches) × (t2.limit ≡ t.limit)

-- where a place is to do, what is next is it; with none it is no place
pub next_place : (v : Vacuum) (t : Table) → work_of v t ≡ works.Pending → (p : Place) × (first_place v.pending.todo ≡ Some p)
next_place v t next = go v.pending.todo (nat_lt v.next (length t.pages)) next
  where
    go : (todo : List Place) (b : Bool) → work_at todo b ≡ works.Pending → (p : Place) × (first_place todo ≡ Some p)
    go [] true h = absurd (cc h)
    go [] false h = absurd (cc h)
    go (p ∷ ps) b h = (p, refl)

module _ (t t2 : Table) (test : RowAt → Bool) (horizon seat : ℕ) where
  block_at : (b : ℕ) (swept : List RowAt) → HandlesBlock t t2 b test horizon swept → Stays t t2
  block_at b swept D = (ap (λ (u : Table). u.latches) D.table, ap (λ (u : Table). u.limit) D.table)

  place_at : (inner : Bool) (p : Place) (swept : List RowAt) → HandlesPlace inner t t2 p test horizon swept → Stays t t2
  place_at false p swept D = block_at p.block swept D
  place_at true p swept D = (ap (λ (u : Table). u.latches) D.1, ap (λ (u : Table). u.limit) D.1)

module _ (t t2 : Table) (v v2 : Vacuum) (test : RowAt → Bool) (horizon seat : ℕ) where
  pub block_stays : (swept : List RowAt) → BlockDone t t2 v v2 test horizon seat (Swept swept) → Stays t t2
  block_stays swept D = block_at t t2 test horizon seat v.next swept D.1

  pub pending_stays : (swept : List RowAt) → work_of v t ≡ works.Pending → FirstDone t t2 v v2 test horizon seat (Swept swept) → Stays t t2
  pending_stays swept next F =
      let (p, is) = next_place v t next in
      place_at t t2 test horizon seat (sheet_at t p.block).inner p swept (F p is).1

  -- another seat has latched the block
  pub latched_stays : (block by : ℕ) → ((work_of v t ≡ works.Block) × BlockDone t t2 v v2 test horizon seat (Latched block by)) ⊎ ((work_of v t ≡ works.Pending) × FirstDone t t2 v v2 test horizon seat (Latched block by)) → (t2 ≡ with_touched t []) × (v2 ≡ v)
  latched_stays block by h = ⊎_elim (λ (next, D). (D.table, D.vacuum)) (λ (next, F). let (p, is) = next_place v t next in let D = F p is in (D.table, D.vacuum)) h
