-- A search for the nearest rows in a run: its answer, and what it meets, by the class's keys of points.
use Rattle.std.specs.Prelude.{◌≡◌, ◌⊎◌, ◌<◌, ◌≤◌, ◌+◌, ◌-◌, ◌^◌, ◌++◌, ◌&&◌, ℕ, suc, Bool, true, List, [], ◌∷◌, Option, Some, None, Contains, get_or, length, ⊤}
use Rattle.std.specs.List.Sorted.{IsStrictlySortedBy}
use Rattle.spg_base.specs.Row.{RowAt}
use Rattle.spg_base.specs.declared.point.Point.{Point}
use Rattle.spg_opclass.specs.Meaning.{Meaning}
use Rattle.spg_forest.specs.View.{Place, Leaf}
use Rattle.spg_forest.specs.Spot.{Frame, Branch, Bucket}
use Rattle.spg_forest.specs.Sheets.{Sheets}
use Rattle.spg_forest.specs.Shape.{spots}
use Rattle.spg_forest.specs.Pages.{place}
use Rattle.spg_forest.specs.Walk.{below, met_at}
use Rattle.spg_rows.specs.History.{History}
use Rattle.spg_rows.specs.Lives.{Life, HasLife}
use Rattle.spg_rows.specs.Right.{IsPutBefore, HasLived}
use Rattle.spg_near.specs.declared.near_row.NearRow.{NearRow}
use Rattle.spg_near.specs.Boxes.{distance}
use Rattle.spg_near.specs.Nearing.{near_cmp, IsBefore}
use Rattle.spg_near.specs.NearRight.{near_of}
use Rattle.spg_near.specs.NearRest.{IsWithin, IsBeyond, IsReach}
use Rattle.spg_script.specs.declared.any_key.AnyKey.TheVariants as any_key
use Rattle.spg_script.specs.declared.command.Command.{Command}
use Rattle.spg_script.specs.declared.command.Command.TheVariants as asked
use Rattle.spg_script.specs.Speech.{Speech}

module _ {Key Cond : Type 0} (speech : Speech Key Cond) where
  -- the key is the class's of the point
  abbrev pub IsKeyOf : Point → Key → Type 0
  IsKeyOf q key = speech.key_in (any_key.Point q) ≡ Some key

  -- The limit rows nearest to p, of a search that was open from after `before` until after `past`
  pub record AreNearest {O Recon : Type 0} (before past : History O Key Recon Cond) (p : Point) (limit : ℕ) (rows : List NearRow) : Type 0 where
    pub few : length rows ≤ limit
    -- they rise strictly by distance, then by row
    pub rises : IsStrictlySortedBy near_cmp rows
    -- each has a life with the key of a point, put before the end and not killed before the open, and the distance of that point
    pub found : (h : NearRow) → Contains rows h → (life : Life Key) × (key : Key) × (q : Point) × HasLife past h.row life × (life.key ≡ Some key) × IsKeyOf q key × HasLived before life × (h ≡ near_of p h.row q)
    -- each row with such a life that was put before the open and not killed before the end is given where fewer than the limit are, and otherwise where its distance and row come before those of the last one
    pub complete : (row : RowAt) (life : Life Key) (key : Key) (q : Point) → HasLife past row life → life.key ≡ Some key → IsKeyOf q key → IsPutBefore before life → life.kill ≡ None →
        (length rows < limit) ⊎ ((last : NearRow) × Contains rows last × IsBefore (near_of p row q) last) → Contains rows (near_of p row q)

  -- the least distance from p of a point whose key may stand somewhere; 2^128 - 1 where there is none
  abbrev pub IsLeast : Point → (Key → Bool) → ℕ → Type 0
  IsLeast p may bound =
      (((q : Point) × (key : Key) × IsKeyOf q key × (may key ≡ true) × (distance p q ≡ bound)) × ((q : Point) (key : Key) → IsKeyOf q key → may key ≡ true → bound ≤ distance p q))
      ⊎ (((q : Point) (key : Key) → IsKeyOf q key → may key ≡ true → ⊥) × (bound ≡ 2 ^ 128 - 1))

-- a place of the main tree, with its rebuilt value and the keys that may stand below it
pub record Region (Key Recon : Type 0) : Type 0 where
  pub place : Place
  pub recon : Recon
  pub may : Key → Bool

-- the children at the given nodes that are not empty: below one stand the keys that its node admits
abbrev pub regions_below : {Key Recon Cond : Type 0} → Meaning Key Recon Cond → Region Key Recon → Frame → List (Option Place) → List ℕ → List (Region Key Recon)
regions_below m r w ns [] = []
regions_below m r w ns (i ∷ is) = elim (get_or ns i None) [
  | None ↦ regions_below m r w ns is
  | Some y ↦ record { place = y; recon = m.down r.recon w i; may = λ key. r.may key && m.admits r.recon w i key } ∷ regions_below m r w ns is
]

-- From these places on n inner, leaf and dead tuples stand at places whose bound is at most the last distance, or at all places where there is no last distance. Below a place whose bound is more there is no such place
pub data MetWithin {Key Recon Cond : Type 0} (m : Meaning Key Recon Cond) (speech : Speech Key Cond) (S : Sheets) (p : Point) (last : Option ℕ) : List (Region Key Recon) → ℕ → Type 0 where
  done : MetWithin m speech S p last [] 0
  beyond : {r : Region Key Recon} {regions : List (Region Key Recon)} {n bound : ℕ} → IsLeast speech p r.may bound → IsBeyond last bound → MetWithin m speech S p last regions n → MetWithin m speech S p last (r ∷ regions) n
  inner : {r : Region Key Recon} {regions : List (Region Key Recon)} {n bound : ℕ} {w : Frame} {ns : List (Option Place)} → IsLeast speech p r.may bound → IsWithin last bound → spots S r.place ≡ Branch w ns →
      MetWithin m speech S p last (regions_below m r w ns (below (length ns)) ++ regions) n → MetWithin m speech S p last (r ∷ regions) (suc n)
  leaves : {r : Region Key Recon} {regions : List (Region Key Recon)} {n bound : ℕ} {ls : List Leaf} → IsLeast speech p r.may bound → IsWithin last bound → spots S r.place ≡ Bucket ls →
      MetWithin m speech S p last regions n → MetWithin m speech S p last (r ∷ regions) (met_at r.place ls + n)

-- of the main tree
abbrev pub WalkWithin : {Key Recon Cond : Type 0} → Meaning Key Recon Cond → Speech Key Cond → Sheets → Point → Option ℕ → ℕ → Type 0
WalkWithin m speech S p last n = MetWithin m speech S p last (record { place = place 1 0; recon = m.start; may = m.is_key } ∷ []) n

-- what such a search printed as its walk is the number of tuples within the last distance of its rows
abbrev pub WalksNear : {Key Recon Cond : Type 0} → Meaning Key Recon Cond → Speech Key Cond → Sheets → Point → ℕ → List NearRow → ℕ → Type 0
WalksNear m speech S p limit rows walk = (last : Option ℕ) → IsReach limit rows last → WalkWithin m speech S p last walk

abbrev pub TellsNear : {Key Recon Cond : Type 0} → Meaning Key Recon Cond → Speech Key Cond → Sheets → List NearRow → ℕ → Command → Type 0
TellsNear m speech S rows walk (asked.Near target limit) = WalksNear m speech S target limit rows walk
TellsNear m speech S rows walk c = ⊤
