-- Where an open insert stands in a table, and what a section of it does.
use Rattle.std.specs.Prelude.{◌≡◌, ◌⊎◌, ◌<◌, ◌≤◌, ◌+◌, ℕ, Bool, true, false, List, [], length, Option, Some, None, if◌then◌else◌}
use Rattle.spg_opclass.specs.Meaning.{Meaning}
use Rattle.spg_forest.specs.View.{Place}
use Rattle.spg_forest.specs.Spot.{Frame}
use Rattle.spg_forest.specs.Tuples.{Live}
use Rattle.spg_forest.specs.Sheets.{sheet_at}
use Rattle.spg_forest.specs.Section.{Adds, Leaves, Cost}
use Rattle.spg_tree.specs.Table.{Table, sheets_of, latch_at, tuple_at}
use Rattle.spg_tree.specs.Descents.{Descending, in_nulls}
use Rattle.spg_tree.specs.declared.stand.Stand.TheVariants.{Start, Root}
use Rattle.spg_descend.specs.Carried.{carried, root_of, IsCarried}
use Rattle.spg_descend.specs.Follows.{IsAtInner}
use Rattle.spg_descend.specs.Puts.{Fits}
use Rattle.spg_descend.specs.Rules.{IsAtNoInner}
use Rattle.spg_forest.specs.Shape.{Shape, IsRestOf}
use Rattle.spg_forest.specs.Sheets.{links}
use Rattle.spg_forest.specs.Classes.{down_of}
use Rattle.spg_forest.specs.Follows.{GoesBelow}
use Rattle.spg_page.specs.Reads.{frame_in}
use Rattle.spg_opclass.specs.declared.view.Choice.TheVariants as choice
use Rattle.spg_descend.specs.Follows.{tuple_place}
use Rattle.spg_descend.specs.Answers.{IsAnswered}
use Rattle.spg_descend.specs.Makes.{MakesOne}
use Rattle.spg_seats.specs.Descending.{HasInnerRoot, Stands}
use Rattle.spg_core.specs.declared.answer.InsertOut.{InsertOut}
use Rattle.spg_core.specs.declared.answer.InsertOut.TheVariants.{Descended, Restructured, Restarted, Put}

-- a section may come: the pages are well formed, and the insert carries a key or a null and stands somewhere
pub record MayStep {Key Recon Cond : Type 0} (m : Meaning Key Recon Cond) (t : Table) (d : Descending Recon) : Type 0 where
  pub shape : Shape m (sheets_of t)
  pub of_key : (key : Option Key) × IsCarried m (sheets_of t) d key
  pub stands : Stands t d

-- the pages stay as they are
abbrev pub SamePages : Table → Table → Type 0
SamePages t t2 = (sheets_of t2 ≡ sheets_of t) × (t2.limit ≡ t.limit)

-- the limit stays, no page fewer is there, and the clock is not behind
abbrev pub Grows : Table → Table → Type 0
Grows t t2 = (t2.limit ≡ t.limit) × (length t.pages ≤ length t2.pages) × (t.clock ≤ t2.clock)

-- the insert goes on: it is of the same row, stands somewhere, and carries the key that it carried
abbrev pub GoesOn : {Key Recon Cond : Type 0} → Meaning Key Recon Cond → Table → Table → Descending Recon → Descending Recon → Type 0
GoesOn {Key} m t t2 d d2 = (d2.row ≡ d.row) × (in_nulls d2 ≡ in_nulls d) × Stands t2 d2 × ((key : Option Key) → IsCarried m (sheets_of t) d key → IsCarried m (sheets_of t2) d2 key)

-- the insert stands at its root, which is a leaf page on which its leaf does not fit
abbrev pub IsRootFull : {Recon : Type 0} → Table → Descending Recon → Type 0
IsRootFull t d = (d.stand ≡ Root (root_of (in_nulls d))) × ((sheet_at (sheets_of t) (root_of (in_nulls d))).inner ≡ false) × (Fits t (Root (root_of (in_nulls d))) (Live (carried d) 0) → ⊥)

-- the tree has outgrown its root page, or does so with the leaf of the insert
abbrev pub IsOutgrown : {Recon : Type 0} → Table → Descending Recon → Type 0
IsOutgrown t d = HasInnerRoot t (in_nulls d) ⊎ IsRootFull t d

-- fewer than 4 blocks are left below the limit
abbrev pub IsNearLimit : Table → Type 0
IsNearLimit t = t.limit < length t.pages + 4

-- at most one inner tuple is made: but at some place, one stands only where one stood
abbrev pub MakesAtMostOne : Table → Table → Type 0
MakesAtMostOne t t2 = (z : Place) × MakesOne t t2 z

-- a root is an inner tuple only where it was one, or where the insert has outgrown it
abbrev pub RootsGrow : {Recon : Type 0} → Table → Table → Descending Recon → Type 0
RootsGrow t t2 d = (nulls : Bool) → HasInnerRoot t2 nulls → HasInnerRoot t nulls ⊎ ((nulls ≡ in_nulls d) × IsRootFull t d)

-- What comes of a section of an insert. It comes to the root, or from an inner tuple to the child or the empty downlink of a node; the leaves are divided
-- without its own, a node is put into the inner tuple at which it is, or that tuple is split; another seat holds the block to be visited, and it is at its start again; or its row is put
abbrev pub IsStepOut : {Key Recon Cond : Type 0} → Meaning Key Recon Cond → Table → Table → Descending Recon → Descending Recon → ℕ → InsertOut → Type 0
IsStepOut m t t2 d d2 seat Descended = ((d.stand ≡ Start) ⊎ IsAtInner t d.stand) × SamePages t t2 × GoesOn m t t2 d d2
IsStepOut m t t2 d d2 seat Restructured = (d.stand ≡ Start → ⊥) × ((cost : Cost) × (f : Place → Place) × Leaves m (sheets_of t) (sheets_of t2) t2.touched cost 0 f) × (t2.limit ≡ t.limit) × RootsGrow t t2 d × GoesOn m t t2 d d2
IsStepOut m t t2 d d2 seat (Restarted block by) = (latch_at t block ≡ Some by) × (by ≡ seat → ⊥) × (d2.stand ≡ Start) × SamePages t t2 × GoesOn m t t2 d d2
IsStepOut {Key} m t t2 d d2 seat Put =
    IsAtNoInner t d.stand × ((key : Option Key) → IsCarried m (sheets_of t) d key → (cost : Cost) × (f : Place → Place) × Adds m (sheets_of t) (sheets_of t2) t2.touched cost d.row key f) × (t2.limit ≡ t.limit) × RootsGrow t t2 d × (d2.row ≡ d.row)

-- the node that an all-the-same tuple is followed at is the one that the counter names
abbrev pub named : ℕ → Frame → ℕ → ℕ
named turn w node = if w.all_same then turn else node

-- the class answers a match with this rest, and the node is the one that is followed then; in the nulls tree, and at an all-the-same tuple, it is the one that the counter names
abbrev pub IsNamed : {Key Recon Cond : Type 0} → Meaning Key Recon Cond → Table → Descending Recon → ℕ → List ℕ → Bool → Type 0
IsNamed m t d node rest by_turn =
    let w : Frame = frame_in (tuple_at t (tuple_place d.stand)) in
    ((d.recon ≡ None) × (node ≡ t.counter) × (rest ≡ []) × (by_turn ≡ true)) ⊎ ((answer : ℕ) × IsAnswered m t d (choice.Match answer rest) × (node ≡ named t.counter w answer) × (by_turn ≡ w.all_same))

-- a node that an insert goes down at an inner tuple: it is there, below it the insert carries what it carried, it is followed by what the class answers, and this is the rebuilt value there
abbrev pub IsToFollow : {Key Recon Cond : Type 0} → Meaning Key Recon Cond → Table → Descending Recon → ℕ → List ℕ → Bool → Option Recon → Type 0
IsToFollow {Key} m t d node rest by_turn below =
    let x : Place = tuple_place d.stand in
    (node < length (links (tuple_at t x))) × IsRestOf m (in_nulls d) rest × ((key : Option Key) → IsCarried m (sheets_of t) d key → GoesBelow m d.recon (frame_in (tuple_at t x)) node rest key) × IsNamed m t d node rest by_turn
    × (below ≡ down_of m d.recon (frame_in (tuple_at t x)) node)
