-- Words of the parts of a read.
use Rattle.std.specs.Prelude.{◌≡◌, ℕ, Bool, true, false, List, [], ◌∷◌, Option, Some, None, IsSome, All as Each, get_or, nat_eq, if◌then◌else◌}
use Rattle.spg_base.specs.Row.{RowAt}
use Rattle.spg_opclass.specs.Meaning.{Meaning}
use Rattle.spg_opclass.specs.declared.query.Query.{Query}
use Rattle.spg_opclass.specs.declared.query.Query.TheVariants.{All, Null, Where}
use Rattle.spg_forest.specs.View.{Place, Leaf}
use Rattle.spg_forest.specs.Spot.{Branch}
use Rattle.spg_forest.specs.Classes.{key_of, HasEntry}
use Rattle.spg_forest.specs.Tuples.{Tuple, Inner, Live, Dead, Redirect, Placeholder}
use Rattle.spg_forest.specs.Pages.{tuple_on}
use Rattle.spg_forest.specs.Sheets.{Sheets, links}
use Rattle.spg_forest.specs.Shape.{spots}
use Rattle.spg_forest.specs.Walk.{met_at}
use Rattle.spg_page.specs.Kinds.{IsOffset, IsLive}
use Rattle.spg_page.specs.Reads.{frame_in}
use Rattle.spg_rows.specs.Table as rows
use Rattle.spg_scan.specs.Items.{Item, held, inner, leaves, IsItem, hold_all}
use Rattle.spg_scan.specs.Scanning.{Scanning, IsAskedAt, is_live, taken_of, replaced}
use Rattle.spg_scan.specs.Reading.{followed_at}

-- each leaf has a key with this rebuilt value
abbrev pub HaveKeys : {Key Recon Cond : Type 0} → Meaning Key Recon Cond → Option Recon → List Leaf → Type 0
HaveKeys m r ls = Each (λ (l : Leaf). IsSome (key_of m r l.rest)) ls

-- the rows of these leaves are live, where all rows that have an entry are
abbrev pub AreTold : {O Key Recon Cond : Type 0} → rows.Table O Key Recon Cond → Bool → List Leaf → Type 0
AreTold table all_live ls = Each (λ (l : Leaf). all_live ≡ true → is_live (rows.state_in table l.row) ≡ true) ls

-- each row that has an entry is live
abbrev pub EntriesLive : {O Key Recon Cond : Type 0} → Meaning Key Recon Cond → Sheets → rows.Table O Key Recon Cond → Type 0
EntriesLive {O} {Key} m S table = (row : RowAt) (key : Option Key) → HasEntry m (spots S) row key → is_live (rows.state_in table row) ≡ true

-- only live leaf tuples stand on the page
abbrev pub AreLive : List Tuple → Type 0
AreLive ts = (o : ℕ) → IsOffset ts o → IsLive (tuple_on ts o)

-- item i is this place
abbrev pub IsPlaceAt : {Recon : Type 0} → List (Item Recon) → ℕ → Place → Type 0
IsPlaceAt {Recon} items i place = (r : Option Recon) × IsItem items i (held place r)

-- the item is a place and was read as one at which this inner tuple, these leaves, or a redirect to y stands
abbrev pub ReadsInner : {O Key Recon Cond : Type 0} → Meaning Key Recon Cond → Scanning O Key Recon Cond → Scanning O Key Recon Cond → ℕ → Tuple → Type 0
ReadsInner {O} {Key} {Recon} m s s2 i t = (x : Place) (r : Option Recon) → IsItem s.items i (held x r) → IsAskedAt m (Branch (frame_in t) (links t)) s.query r ×
    (s2 ≡ replaced s i (hold_all (followed_at m s.query r (frame_in t) (links t))) [] 1)

abbrev pub ReadsLeaves : {O Key Recon Cond : Type 0} → Meaning Key Recon Cond → rows.Table O Key Recon Cond → Scanning O Key Recon Cond → Scanning O Key Recon Cond → ℕ → List Leaf → Type 0
ReadsLeaves {O} {Key} {Recon} m table s s2 i ls = (x : Place) (r : Option Recon) → IsItem s.items i (held x r) → s2 ≡ replaced s i [] (taken_of m table s.query r ls) (met_at x ls)

abbrev pub ReadsForward : {O Key Recon Cond : Type 0} → Scanning O Key Recon Cond → Scanning O Key Recon Cond → ℕ → Place → Type 0
ReadsForward {O} {Key} {Recon} s s2 i y = (x : Place) (r : Option Recon) → IsItem s.items i (held x r) → s2 ≡ replaced s i (held y r ∷ []) [] 0

-- the first tuple of the page is an inner one
abbrev pub starts_inner : List Tuple → Bool
starts_inner [] = false
starts_inner (Inner w ns ∷ ts) = true
starts_inner (Live l n ∷ ts) = false
starts_inner (Dead ∷ ts) = false
starts_inner (Redirect y u ∷ ts) = false
starts_inner (Placeholder ∷ ts) = false

-- the seat, where it is another than this one
abbrev pub other_than : ℕ → Option ℕ → Option ℕ
other_than seat None = None
other_than seat (Some by) = if nat_eq by seat then None else Some by

-- the query has conditions
abbrev pub is_where : {O Key Recon Cond : Type 0} → Query O Key Recon Cond → Bool
is_where All = false
is_where Null = false
is_where (Where conds) = true

-- item i is a place
abbrev pub HasPlace : {Recon : Type 0} → List (Item Recon) → ℕ → Type 0
HasPlace items i = (x : Place) × IsPlaceAt items i x

-- item i, where it is a place, is one of the main tree and has this rebuilt value
abbrev pub IsMainAt : {Recon : Type 0} → List (Item Recon) → ℕ → Recon → Type 0
IsMainAt {Recon} items i recon = (x : Place) (r : Option Recon) → IsItem items i (held x r) → r ≡ Some recon

-- the item with another place, where it is one
abbrev pub sent_on : {Recon : Type 0} → Place → Item Recon → Item Recon
sent_on y (held x r) = held y r
sent_on y (inner q w ns) = inner q w ns
sent_on y (leaves q ls) = leaves q ls

-- the places to which these nodes lead, each with its rebuilt value, but for empty downlinks
abbrev pub linked : {Recon : Type 0} → List (Option Place) → List (ℕ × Recon) → List (Place × Option Recon)
linked ns [] = []
linked ns (n ∷ nodes) = elim (get_or ns n.0 None) [ None ↦ linked ns nodes | Some y ↦ (y, Some n.1) ∷ linked ns nodes ]

-- of the rows that match a copy those that the query asks for: for nulls none of the main tree
abbrev pub rows_asked : {O Key Recon Cond : Type 0} → Query O Key Recon Cond → List RowAt → List RowAt
rows_asked All rs = rs
rows_asked Null rs = []
rows_asked (Where conds) rs = rs
