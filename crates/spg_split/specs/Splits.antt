-- What the division of leaves does.
use Rattle.std.specs.Prelude.{◌≡◌, ℕ, ◌<◌, ◌⊎◌, Option}
use Rattle.spg_opclass.specs.Meaning.{Meaning}
use Rattle.spg_forest.specs.Sheets.{sheet_at}
use Rattle.spg_forest.specs.Section.{Adds, Leaves, Cost}
use Rattle.spg_tree.specs.Table.{Table, sheets_of, latch_at}
use Rattle.spg_tree.specs.Descents.{Descending, risen}
use Rattle.spg_tree.specs.declared.stand.Stand.{Stand}
use Rattle.spg_tree.specs.declared.stand.Stand.TheVariants.{Start, Root, At, Empty}
use Rattle.spg_descend.specs.Answers.{LeadsNowhere}
use Rattle.spg_descend.specs.Carried.{IsCarried}
use Rattle.spg_descend.specs.Follows.{IsAtInner, tuple_place}
use Rattle.spg_descend.specs.Makes.{MakesOne}
use Rattle.spg_split.specs.Shrinks.{Shrinks}
use Rattle.spg_split.specs.declared.split.SplitOut.{SplitOut}
use Rattle.spg_split.specs.declared.split.SplitOut.TheVariants.{Put, LeftOut}

-- the insert stands at a root
abbrev pub IsAtRoot : Stand → Type 0
IsAtRoot Start = ⊥
IsAtRoot (Root b) = Unit {0}
IsAtRoot (At x) = ⊥
IsAtRoot Empty = ⊥

-- at a root at most one page more and no tick; below it at most 4 pages and a tick; so much more spread
abbrev pub split_cost : Stand → ℕ → Cost
split_cost Start spread = record { pages = 0; ticks = 0; spread = spread }
split_cost (Root b) spread = record { pages = 1; ticks = 0; spread = spread }
split_cost (At x) spread = record { pages = 4; ticks = 1; spread = spread }
split_cost Empty spread = record { pages = 0; ticks = 0; spread = spread }

-- latches, counter and limit are as they were, and each root page keeps its kind, but that at which the insert stands
pub record IsCalm (t t2 : Table) (stand : Stand) : Type 0 where
  pub latches : (b : ℕ) → latch_at t2 b ≡ latch_at t b
  pub counter : t2.counter ≡ t.counter
  pub limit : t2.limit ≡ t.limit
  pub roots : (b : ℕ) → b < 3 → (stand ≡ Root b → ⊥) → (sheet_at (sheets_of t2) b).inner ≡ (sheet_at (sheets_of t) b).inner

-- the row is put with the key that the insert carries, and each spot stays where it is
abbrev pub PartsWith : {Key Recon Cond : Type 0} → Meaning Key Recon Cond → Table → Table → Descending Recon → Type 0
PartsWith {Key} m t t2 d = (key : Option Key) → IsCarried m (sheets_of t) d key → Adds m (sheets_of t) (sheets_of t2) t2.touched (split_cost d.stand 1) d.row key (λ x. x)

-- the entries stay as they are, and so does each spot; at the new inner tuple the insert carries what it carried
pub record PartsWithout {Key Recon Cond : Type 0} (m : Meaning Key Recon Cond) (t t2 : Table) (d d2 : Descending Recon) (spread : ℕ) : Type 0 where
  pub leaves : Leaves m (sheets_of t) (sheets_of t2) t2.touched (split_cost d.stand spread) 0 (λ x. x)
  pub inner : IsAtInner t2 d2.stand
  pub shrinks : Shrinks m t t2 d d2
  -- where the spread rises the class answers a match with a node that leads nowhere
  pub settles : (spread ≡ 0) ⊎ LeadsNowhere m t2 d2
  pub carries : (key : Option Key) → IsCarried m (sheets_of t) d key → IsCarried m (sheets_of t2) d2 key

-- What comes of a division. The one inner tuple that it makes stands where the insert stood. Where the leaf is left out, the spread rises by 1 at most, and only where that is noted
abbrev pub IsSplitOut : {Key Recon Cond : Type 0} → Meaning Key Recon Cond → Table → Table → Descending Recon → Descending Recon → SplitOut → Type 0
IsSplitOut m t t2 d d2 Put = PartsWith m t t2 d × IsCalm t t2 d.stand × MakesOne t t2 (tuple_place d.stand) × (d2 ≡ d)
IsSplitOut m t t2 d d2 LeftOut = IsCalm t t2 d.stand × MakesOne t t2 (tuple_place d.stand) × (((d2 ≡ d) × PartsWithout m t t2 d d2 0) ⊎ ((d2 ≡ risen d) × PartsWithout m t t2 d d2 1))
