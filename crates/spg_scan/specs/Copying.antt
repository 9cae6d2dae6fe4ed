-- What a scan copies for the class to sift, and how it goes on by that.
use Rattle.std.specs.Prelude.{◌≡◌, ◌⊎◌, ℕ, Bool, true, false, List, [], ◌∷◌, Option, Some, None, nat_eq, map}
use Rattle.spg_base.specs.Row.{RowAt}
use Rattle.spg_opclass.specs.Meaning.{Meaning}
use Rattle.spg_opclass.specs.declared.copied.Copied.{Copied}
use Rattle.spg_opclass.specs.declared.copied.Copied.TheVariants.{Inner, Leaves}
use Rattle.spg_opclass.specs.declared.query.Query.{Query}
use Rattle.spg_opclass.specs.declared.query.Query.TheVariants.{All, Null, Where}
use Rattle.spg_forest.specs.View.{Place, Leaf}
use Rattle.spg_forest.specs.Spot.{Spot, Branch, Bucket}
use Rattle.spg_forest.specs.Sheets.{Sheets}
use Rattle.spg_forest.specs.Shape.{spots}
use Rattle.spg_rows.specs.Table as rows
use Rattle.spg_tree.specs.Table.{Table, sheets_of}
use Rattle.spg_scan.specs.declared.copying.Copying.{Copying}
use Rattle.spg_scan.specs.declared.walk.ReadOut.TheVariants as read_out
use Rattle.spg_scan.specs.declared.scan_copy.ScanCopy.{ScanCopy}
use Rattle.spg_scan.specs.declared.scan_copy.ScanCopy.TheVariants.{Read, Latched, Sift}
use Rattle.spg_scan.specs.Items.{Item, held, inner, leaves, IsItem, rows_of}
use Rattle.spg_scan.specs.Held.{kept_as}
use Rattle.spg_scan.specs.Scanning.{Scanning, replaced}
use Rattle.spg_scan.specs.Reading.{ReadsItem, CopiesSpot, CopiesItem, Reads, met_with, met_of, IsFreeFor, IsReadOut}

abbrev pub rests_of : List Leaf → List (List ℕ)
rests_of ls = map (λ (l : Leaf). l.rest) ls

-- ---- the copy of an item that is being sifted

-- the conditions under which it is sifted: for all rows there are none
abbrev pub conds_of : {O Key Recon Cond : Type 0} → Query O Key Recon Cond → List Cond
conds_of All = []
conds_of Null = []
conds_of (Where conds) = conds

-- the copy of the item, where it is one
abbrev pub kept_copy : {O Key Recon Cond : Type 0} → Query O Key Recon Cond → Item Recon → Option (Copied O Key Recon Cond)
kept_copy query (held x r) = None
kept_copy query (inner None w ns) = None
kept_copy query (inner (Some recon) w ns) = Some (Inner (record { recon = recon; tuple = w; links = ns }) (conds_of query))
kept_copy query (leaves None ls) = None
kept_copy query (leaves (Some recon) ls) = Some (Leaves (record { recon = recon; rows = rows_of ls; rests = rests_of ls }) (conds_of query))

-- item i is being sifted and has this copy
abbrev pub HasKept : {O Key Recon Cond : Type 0} → Scanning O Key Recon Cond → ℕ → Copied O Key Recon Cond → Type 0
HasKept {O} {Key} {Recon} s i copied = (item : Item Recon) × IsItem s.items i item × (kept_copy s.query item ≡ Some copied)

-- item i has this copy, or is a place
abbrev pub IsCopyOf : {O Key Recon Cond : Type 0} → Scanning O Key Recon Cond → ℕ → Option (Copied O Key Recon Cond) → Type 0
IsCopyOf {O} {Key} {Recon} s i None = (x : Place) × (r : Option Recon) × IsItem s.items i (held x r)
IsCopyOf s i (Some copied) = HasKept s i copied

-- ---- what is copied

-- what stands at x is copied, where r is the rebuilt value: an inner tuple of the main tree, and where the query has conditions a chain or root leaf page of the main tree, but no dead tuple
abbrev pub is_copied : {O Key Recon Cond : Type 0} → Query O Key Recon Cond → Place → Option Recon → Spot → Bool
is_copied query x None spot = false
is_copied query x (Some recon) (Branch w ns) = true
is_copied (Where conds) x (Some recon) (Bucket []) = nat_eq x.offset 0
is_copied (Where conds) x (Some recon) (Bucket (l ∷ ls)) = true
is_copied query x (Some recon) spot = false

-- Item i, a place, was copied, and is being sifted; its tuples were met
pub record Copies {O Key Recon Cond : Type 0} (S : Sheets) (table : rows.Table O Key Recon Cond) (s s2 : Scanning O Key Recon Cond) (i : ℕ) (copied : Copied O Key Recon Cond) : Type 0 where
  pub place : Place
  pub recon : Option Recon
  pub item : Item Recon
  pub at : IsItem s.items i (held place recon)
  pub meant : is_copied s.query place recon (spots S place) ≡ true
  pub copies : CopiesItem S table (held place recon) (item ∷ []) []
  pub after : s2 ≡ replaced s i (item ∷ []) [] (met_of S (held place recon))
  pub kept : kept_copy s.query item ≡ Some copied

-- item i is a place of which the class is not asked
abbrev pub IsPlain : {O Key Recon Cond : Type 0} → Sheets → Scanning O Key Recon Cond → ℕ → Type 0
IsPlain {O} {Key} {Recon} S s i = (x : Place) × (r : Option Recon) × IsItem s.items i (held x r) × (is_copied s.query x r (spots S x) ≡ false)

-- what comes of a place whose block no other seat holds
abbrev pub IsPlaceOut : {O Key Recon Cond : Type 0} → Meaning Key Recon Cond → Sheets → rows.Table O Key Recon Cond → Scanning O Key Recon Cond → Scanning O Key Recon Cond → ℕ → ScanCopy O Key Recon Cond → Type 0
IsPlaceOut m S table s s2 i Read = IsPlain S s i × Reads m S table s s2 i
IsPlaceOut m S table s s2 i (Latched block by) = ⊥
IsPlaceOut m S table s s2 i (Sift copied) = Copies S table s s2 i copied

-- what comes of a copy: a place is copied, or read where the class is not asked, exactly where no other seat holds its block, and else nothing changes; what is being sifted gives its copy again
abbrev pub IsCopyOut : {O Key Recon Cond : Type 0} → Meaning Key Recon Cond → Table → rows.Table O Key Recon Cond → Scanning O Key Recon Cond → Scanning O Key Recon Cond → ℕ → ℕ → ScanCopy O Key Recon Cond → Type 0
IsCopyOut m t table s s2 i seat Read = IsFreeFor t s i seat × IsPlain (sheets_of t) s i × Reads m (sheets_of t) table s s2 i
IsCopyOut m t table s s2 i seat (Latched block by) = IsReadOut m t table s s2 i seat (read_out.Latched block by)
IsCopyOut m t table s s2 i seat (Sift copied) = (HasKept s i copied × (s2 ≡ s)) ⊎ (IsFreeFor t s i seat × Copies (sheets_of t) table s s2 i copied)

-- a copy, with what was met, of what stands at the place of item i; none where it is not copied
abbrev pub IsCopying : {O Key Recon Cond : Type 0} → Sheets → rows.Table O Key Recon Cond → Scanning O Key Recon Cond → ℕ → Option (Copying O Key Recon Cond) → Type 0
IsCopying {O} {Key} {Recon} S table s i None = (x : Place) (r : Option Recon) → IsItem s.items i (held x r) → is_copied s.query x r (spots S x) ≡ false
IsCopying {O} {Key} {Recon} S table s i (Some copying) = (x : Place) (r : Option Recon) → IsItem s.items i (held x r) →
    (is_copied s.query x r (spots S x) ≡ true) × CopiesSpot table r (spots S x) (kept_as copying.kept ∷ []) [] × (copying.met ≡ met_with x (spots S x))

-- ---- how the scan goes on by it

-- The copy of item i was taken in: whatever the pages are by then, it is read as the copy says, and nothing is met
pub record TakesIn {O Key Recon Cond : Type 0} (m : Meaning Key Recon Cond) (s s2 : Scanning O Key Recon Cond) (i : ℕ) (copied : Copied O Key Recon Cond) : Type 0 where
  pub item : Item Recon
  pub items : List (Item Recon)
  pub found : List RowAt
  pub at : IsItem s.items i item
  pub kept : kept_copy s.query item ≡ Some copied
  pub reads : (S : Sheets) (table : rows.Table O Key Recon Cond) → ReadsItem m S table s.query item items found
  pub after : s2 ≡ replaced s i items found 0
