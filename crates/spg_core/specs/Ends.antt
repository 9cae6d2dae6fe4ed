-- How many sections of an open insert may come yet.
use Rattle.std.specs.Prelude.{◌≡◌, ◌≤◌, ◌⊎◌, ℕ, suc, Some, None, false}
use Rattle.spg_opclass.specs.Meaning.{Meaning}
use Rattle.spg_opclass.specs.Laws.{GoesOn}
use Rattle.spg_forest.specs.Pages.{place}
use Rattle.spg_forest.specs.Shape.{spots}
use Rattle.spg_forest.specs.Ranks.{IsRanked}
use Rattle.spg_page.specs.Reads.{frame_in}
use Rattle.spg_tree.specs.Table.{Table, sheets_of, tuple_at}
use Rattle.spg_tree.specs.Descents.{Descending, in_nulls}
use Rattle.spg_tree.specs.declared.stand.Stand.{Stand}
use Rattle.spg_tree.specs.declared.stand.Stand.TheVariants.{Start, Root, At, Empty}
use Rattle.spg_descend.specs.Carried.{root_of}
use Rattle.spg_descend.specs.Follows.{IsAtInner, tuple_place, link_of}
use Rattle.spg_descend.specs.Answers.{LeadsNowhere}
use Rattle.spg_core.specs.Stage.{Stage, free, descending, reading, sweeping}
use Rattle.spg_core.specs.Seen.{Seen, stage_at}
use Rattle.spg_core.specs.declared.answer.InsertOut.{InsertOut}
use Rattle.spg_core.specs.declared.answer.InsertOut.TheVariants.{Descended, Restructured, Restarted, Put}

-- the class goes on elsewhere than at the child's node, which alone leads somewhere, of a tuple that is not all-the-same
abbrev pub LeadsElsewhere : {Key Recon Cond : Type 0} → Meaning Key Recon Cond → Table → Descending Recon → Type 0
LeadsElsewhere {Key} {Recon} m t d =
    (recon : Recon) × (child : ℕ) × (d.recon ≡ Some recon) × GoesOn child (m.answer recon (frame_in (tuple_at t (tuple_place d.stand))) d.rest)
    × ((i : ℕ) → (i ≡ child → ⊥) → link_of t (tuple_place d.stand) i ≡ None) × ((frame_in (tuple_at t (tuple_place d.stand))).all_same ≡ false)

-- at the inner tuple the class answers with a node that leads nowhere, at once or once it is put in
abbrev pub IsNearEnd : {Key Recon Cond : Type 0} → Meaning Key Recon Cond → Table → Descending Recon → ℕ → Type 0
IsNearEnd m t d n = IsAtInner t d.stand × (((2 ≤ n) × LeadsNowhere m t d) ⊎ ((3 ≤ n) × LeadsElsewhere m t d))

-- at most n sections of an insert that stands there come yet
abbrev pub EndsAt : {Key Recon Cond : Type 0} → Meaning Key Recon Cond → Table → Descending Recon → ℕ → Stand → Type 0
EndsAt m t d n Start = (k : ℕ) × (n ≡ suc k) × IsRanked (spots (sheets_of t)) k (place (root_of (in_nulls d)) 0)
EndsAt m t d n (Root b) = IsRanked (spots (sheets_of t)) n (place b 0) ⊎ IsNearEnd m t d n
EndsAt m t d n (At x) = IsRanked (spots (sheets_of t)) n x ⊎ IsNearEnd m t d n
EndsAt m t d n Empty = 1 ≤ n

abbrev pub EndsWithin : {Key Recon Cond : Type 0} → Meaning Key Recon Cond → Table → Descending Recon → ℕ → Type 0
EndsWithin m t d n = EndsAt m t d n d.stand

-- after a section with this outcome at most n come yet; after a put or a restart none
abbrev pub ThenEnds : {Key Recon Cond : Type 0} → Meaning Key Recon Cond → Table → Descending Recon → ℕ → InsertOut → Type 0
ThenEnds m t d n Descended = EndsWithin m t d n
ThenEnds m t d n Restructured = EndsWithin m t d n
ThenEnds m t d n (Restarted block by) = Unit {0}
ThenEnds m t d n Put = Unit {0}

-- a section takes one of those that may come
abbrev pub TakesOne : {Key Recon Cond : Type 0} → Meaning Key Recon Cond → Table → Table → Descending Recon → Descending Recon → InsertOut → Type 0
TakesOne m t t2 d d2 out = (n : ℕ) → EndsWithin m t d (suc n) → ThenEnds m t2 d2 n out

-- at most n sections of the insert that is open at this stage come yet
abbrev pub StageEnds : {O Key Recon Cond : Type 0} → Meaning Key Recon Cond → Table → ℕ → Stage O Key Recon Cond → Type 0
StageEnds m t n free = ⊥
StageEnds m t n (descending key d) = EndsWithin m t d n
StageEnds m t n (reading s) = ⊥
StageEnds m t n (sweeping v) = ⊥

abbrev pub SeatEnds : {O Key Recon Cond : Type 0} → Meaning Key Recon Cond → Seen O Key Recon Cond → ℕ → ℕ → Type 0
SeatEnds m seen seat n = StageEnds m seen.table n (stage_at seen seat)

-- after a section of the seat's insert at most n come yet
abbrev pub SeatThenEnds : {O Key Recon Cond : Type 0} → Meaning Key Recon Cond → Seen O Key Recon Cond → ℕ → ℕ → InsertOut → Type 0
SeatThenEnds m seen seat n Descended = SeatEnds m seen seat n
SeatThenEnds m seen seat n Restructured = SeatEnds m seen seat n
SeatThenEnds m seen seat n (Restarted block by) = Unit {0}
SeatThenEnds m seen seat n Put = Unit {0}
