-- A section of an insert, and what the sections before it have left of the state.
use Rattle.std.proofs.Common.{◌≡◌, ◌≢◌, ◌⊎◌, ⊎_elim, inl, inr, ℕ, zero, suc, ◌+◌, ◌^◌, ◌≤◌, ◌<◌, List, ◌++◌, [], ◌∷◌, Option, Some, None, refl, sym, ap, ◌∙◌, subst, arith, set, get_or-set_other}
use Rattle.std.proofs.lemmas.Bool.{cases_eq}
use Rattle.spg_base.specs.Row.{RowAt}
use Rattle.spg_opclass.specs.Meaning.{Meaning}
use Rattle.spg_forest.specs.Ranks.{most_sections, EachIsRanked}
use Rattle.spg_forest.specs.Shape.{Shape}
use Rattle.spg_rows.specs.declared.event.Event.{Event}
use Rattle.spg_rows.specs.declared.event.Event.TheVariants as event
use Rattle.spg_tree.specs.Table.{Table, IsSound, sheets_of, sheet_at, latch_at}
use Rattle.spg_tree.specs.Descents.{Descending}
use Rattle.spg_seats.specs.Descending.{ChangesHeld}
use Rattle.spg_core.specs.declared.answer.InsertOut.{InsertOut}
use Rattle.spg_core.specs.declared.answer.InsertOut.TheVariants.{Descended, Restructured, Restarted, Put}
use Rattle.spg_seats.specs.Slots.{stage_in}
use Rattle.spg_core.specs.Stage.{Stage, free, descending, reading, sweeping, IsInserting}
use Rattle.spg_core.specs.Seen.{Seen, stage_at, moved}
use Rattle.spg_core.specs.Sections.{IsAfterSection, IsOutOf, IsInsertOut, OthersHold}
use Rattle.spg_core.specs.Ends.{StageEnds, SeatEnds, SeatThenEnds}
use Rattle.spg_core.specs.Through.{IsInsertOf, StillInserts, PutsRow, IsOnItsWay, DoesSection, DoesSections, StepsOn, OthersStay}
use Rattle.spg_core.proofs.Ends.{ends_somewhere, none_left}

-- a table has at most 131,072 pages
pub few_sections : (t : Table) (k : ℕ) → IsSound t → k ≤ most_sections (sheets_of t) + 1 → k + 0 < 2 ^ 64
few_sections t k sound most = omega arith

-- ---- latches and pages over more than one section

pub others_same : (t : Table) (seat : ℕ) → OthersHold t t seat
others_same t seat other b apart = (λ h. h, λ h. h)

pub others_then : (t t1 t2 : Table) (seat : ℕ) → OthersHold t t1 seat → OthersHold t1 t2 seat → OthersHold t t2 seat
others_then t t1 t2 seat a c other b apart = (λ h. (a other b apart).0 ((c other b apart).0 h), λ h. (c other b apart).1 ((a other b apart).1 h))

-- a block that another seat has latched at the start is as it was after each section
pub changes_then : (t t1 t2 : Table) (seat : ℕ) → OthersHold t t1 seat → ChangesHeld t t1 seat → ChangesHeld t1 t2 seat → ChangesHeld t t2 seat
changes_then t t1 t2 seat others a c b = go (latch_at t b) refl
  where
    go : (l : Option ℕ) → latch_at t b ≡ l → (sheet_at t2 b ≡ sheet_at t b) ⊎ ((latch_at t b ≡ None) ⊎ (latch_at t b ≡ Some seat))
    go None e = inr (inl e)
    go (Some by) e = ⊎_elim
        (λ q. inr (inr (e ∙ ap (λ n. Some n) q)))
        (λ apart.
        let now : latch_at t1 b ≡ Some by = (others by b apart).1 e in
        let none : (l : Option ℕ) → latch_at t1 b ≡ l → (l ≡ None) ⊎ (l ≡ Some seat) → ⊥ = λ l is. ⊎_elim (λ q. absurd (cc (sym now ∙ is ∙ q))) (λ q. let f : Some by ≡ Some seat = sym now ∙ is ∙ q in apart (cc f)) in
        ⊎_elim (λ q. ⊎_elim (λ p. inl (q ∙ p)) (λ h. inr h) (a b)) (λ h. absurd (none (latch_at t1 b) refl h)) (c b))
        (cases_eq by seat)

-- the insert was not sent back to its start
abbrev IsNoRestart : InsertOut → Type 0
IsNoRestart out = (block by : ℕ) → out ≡ Restarted block by → ⊥

-- an insert that is neither at its end nor at its start again goes on
pub on_its_way : (out : InsertOut) → (out ≡ Put → ⊥) → IsNoRestart out → IsOnItsWay out
on_its_way Descended no_put on = tt
on_its_way Restructured no_put on = tt
on_its_way (Restarted block by) no_put on = absurd (on block by refl)
on_its_way Put no_put on = absurd (no_put refl)

module _ {O Key Recon Cond : Type 0} where
  pub still_there : (s : Seen O Key Recon Cond) (seat : ℕ) → StillInserts s s seat
  still_there s seat = record { journal = refl; origin = refl; class = refl; insert = λ row key is. is }

  same_insert : (row : RowAt) (key : Option Key) (k : Option Key) (d d2 : Descending Recon) (stage : Stage O Key Recon Cond) → d2.row ≡ d.row → stage ≡ descending k d2 → (k ≡ key) × (d.row ≡ row) → IsInsertOf row key stage
  same_insert row key k d d2 stage same is (a, b) = subst (λ (s : Stage O Key Recon Cond). IsInsertOf row key s) (sym is) (a, same ∙ b)

  moves : (s1 s2 : Seen O Key Recon Cond) (seat : ℕ) (k : Option Key) (d d2 : Descending Recon) → stage_at s1 seat ≡ descending k d → d2.row ≡ d.row → s2 ≡ moved s1 seat (descending k d2) s2.table → stage_at s2 seat ≡ descending k d2 → StillInserts s1 s2 seat
  moves s1 s2 seat k d d2 at same is stage = record {
    journal = ap (λ s. s.journal) is;
    origin = ap (λ s. s.origin) is;
    class = ap (λ s. s.class) is;
    insert = λ row key was. same_insert row key k d d2 (stage_at s2 seat) same stage (subst (λ (s : Stage O Key Recon Cond). IsInsertOf row key s) at was);
  }

  -- a section that does not put the row
  section : (s1 s2 : Seen O Key Recon Cond) (seat : ℕ) (k : Option Key) (d : Descending Recon) (out : InsertOut) → stage_at s1 seat ≡ descending k d → IsAfterSection s1 s2 seat k d out → (out ≡ Put → ⊥) → StillInserts s1 s2 seat
  section s1 s2 seat k d Descended at (d2, same, pages, is, stage) no_put = moves s1 s2 seat k d d2 at same is stage
  section s1 s2 seat k d Restructured at (d2, same, is, stage) no_put = moves s1 s2 seat k d d2 at same is stage
  section s1 s2 seat k d (Restarted block by) at (d2, same, start, pages, is, stage) no_put = moves s1 s2 seat k d d2 at same is stage
  section s1 s2 seat k d Put at is no_put = absurd (no_put refl)

  section_of : (s1 s2 : Seen O Key Recon Cond) (seat : ℕ) (out : InsertOut) (stage : Stage O Key Recon Cond) → stage_at s1 seat ≡ stage → IsOutOf s1 s2 seat out stage → (out ≡ Put → ⊥) → StillInserts s1 s2 seat
  section_of s1 s2 seat out free at is no_put = absurd is
  section_of s1 s2 seat out (descending k d) at is no_put = section s1 s2 seat k d out at is.1 no_put
  section_of s1 s2 seat out (reading s) at is no_put = absurd is
  section_of s1 s2 seat out (sweeping v) at is no_put = absurd is

  pub goes_further : (s0 s1 s2 : Seen O Key Recon Cond) (seat : ℕ) (out : InsertOut) → StillInserts s0 s1 seat → IsInsertOut s1 s2 seat out → (out ≡ Put → ⊥) → StillInserts s0 s2 seat
  goes_further s0 s1 s2 seat out G is no_put =
      let H : StillInserts s1 s2 seat = section_of s1 s2 seat out (stage_at s1 seat) refl is no_put in
      record { journal = H.journal ∙ G.journal; origin = H.origin ∙ G.origin; class = H.class ∙ G.class; insert = λ row key was. H.insert row key (G.insert row key was) }

  still_inserting : (k : Option Key) (d2 : Descending Recon) (stage : Stage O Key Recon Cond) → stage ≡ descending k d2 → IsInserting stage
  still_inserting k d2 stage is = subst (λ (s : Stage O Key Recon Cond). IsInserting s) (sym is) tt

  inserting_of : (s1 s2 : Seen O Key Recon Cond) (seat : ℕ) (out : InsertOut) (stage : Stage O Key Recon Cond) → IsOutOf s1 s2 seat out stage → (out ≡ Put → ⊥) → IsInserting (stage_at s2 seat)
  inserting_of s1 s2 seat out free is no_put = absurd is
  inserting_of s1 s2 seat out (reading s) is no_put = absurd is
  inserting_of s1 s2 seat out (sweeping v) is no_put = absurd is
  inserting_of s1 s2 seat Descended (descending k d) (stood, (d2, same, pages, is, stage)) no_put = still_inserting k d2 (stage_at s2 seat) stage
  inserting_of s1 s2 seat Restructured (descending k d) (stood, (d2, same, is, stage)) no_put = still_inserting k d2 (stage_at s2 seat) stage
  inserting_of s1 s2 seat (Restarted block by) (descending k d) (stood, (d2, same, start, pages, is, stage)) no_put = still_inserting k d2 (stage_at s2 seat) stage
  inserting_of s1 s2 seat Put (descending k d) is no_put = absurd (no_put refl)

  pub goes_inserting : (s1 s2 : Seen O Key Recon Cond) (seat : ℕ) (out : InsertOut) → IsInsertOut s1 s2 seat out → (out ≡ Put → ⊥) → IsInserting (stage_at s2 seat)
  goes_inserting s1 s2 seat out is no_put = inserting_of s1 s2 seat out (stage_at s1 seat) is no_put

  -- ---- the row is put

  put_row : (s1 s2 : Seen O Key Recon Cond) (seat : ℕ) (k : Option Key) (d : Descending Recon) → stage_at s1 seat ≡ descending k d → IsAfterSection s1 s2 seat k d Put → PutsRow s1 s2 seat
  put_row s1 s2 seat k d at (is, stage) = record {
    journal = λ row key was. ap (λ s. s.journal) is ∙ ap (λ (x : RowAt). s1.journal ++ event.Put seat x ∷ []) (subst (λ (s : Stage O Key Recon Cond). IsInsertOf row key s) at was).1;
    origin = ap (λ s. s.origin) is;
    class = ap (λ s. s.class) is;
    stage = stage;
  }

  put_of : (s1 s2 : Seen O Key Recon Cond) (seat : ℕ) (stage : Stage O Key Recon Cond) → stage_at s1 seat ≡ stage → IsOutOf s1 s2 seat Put stage → PutsRow s1 s2 seat
  put_of s1 s2 seat free at is = absurd is
  put_of s1 s2 seat (descending k d) at is = put_row s1 s2 seat k d at is.1
  put_of s1 s2 seat (reading s) at is = absurd is
  put_of s1 s2 seat (sweeping v) at is = absurd is

  pub puts : (s0 s1 s2 : Seen O Key Recon Cond) (seat : ℕ) (out : InsertOut) → StillInserts s0 s1 seat → IsInsertOut s1 s2 seat out → out ≡ Put → PutsRow s0 s2 seat
  puts s0 s1 s2 seat out G is put =
      let P : PutsRow s1 s2 seat = put_of s1 s2 seat (stage_at s1 seat) refl (subst (λ (o : InsertOut). IsInsertOut s1 s2 seat o) put is) in
      record {
        journal = λ row key was. P.journal row key (G.insert row key was) ∙ ap (λ (j : List (Event O Key Recon Cond)). j ++ event.Put seat row ∷ []) G.journal;
        origin = P.origin ∙ G.origin;
        class = P.class ∙ G.class;
        stage = P.stage;
      }

  -- ---- the insert is sent back

  -- another seat has latched the block, then as before
  pub restarted_by : (s1 s2 : Seen O Key Recon Cond) (seat : ℕ) (out : InsertOut) (block by : ℕ) → IsInsertOut s1 s2 seat out → out ≡ Restarted block by → OthersHold s1.table s2.table seat → (latch_at s2.table block ≡ Some by) × (by ≢ seat)
  restarted_by s1 s2 seat out block by is back others = go (stage_at s1 seat) (subst (λ (o : InsertOut). IsInsertOut s1 s2 seat o) back is)
    where
      go : (stage : Stage O Key Recon Cond) → IsOutOf s1 s2 seat (Restarted block by) stage → (latch_at s2.table block ≡ Some by) × (by ≢ seat)
      go free h = absurd h
      go (descending k d) h = ((others by block h.0.1).1 h.0.0, h.0.1)
      go (reading s) h = absurd h
      go (sweeping v) h = absurd h

  -- ---- the insert comes to its end

  pub ends_from : (m : Meaning Key Recon Cond) → EachIsRanked m → (seen : Seen O Key Recon Cond) (seat : ℕ) → Shape m (sheets_of seen.table) → IsInserting (stage_at seen seat) → (k : ℕ) × (k ≤ most_sections (sheets_of seen.table) + 1) × SeatEnds m seen seat k
  ends_from m ranks seen seat H is = go (stage_at seen seat) is
    where
      go : (stage : Stage O Key Recon Cond) → IsInserting stage → (k : ℕ) × (k ≤ most_sections (sheets_of seen.table) + 1) × StageEnds m seen.table k stage
      go free is = absurd is
      go (descending key d) is = ends_somewhere m ranks seen.table d H
      go (reading s) is = absurd is
      go (sweeping v) is = absurd is

  pub one_comes : (m : Meaning Key Recon Cond) (seen : Seen O Key Recon Cond) (seat : ℕ) → SeatEnds m seen seat 0 → ⊥
  one_comes m seen seat h = go (stage_at seen seat) h
    where
      go : (stage : Stage O Key Recon Cond) → StageEnds m seen.table 0 stage → ⊥
      go free a = a
      go (descending key d) a = none_left m seen.table d d.stand a
      go (reading s) a = a
      go (sweeping v) a = a

  open_still : (m : Meaning Key Recon Cond) (seen : Seen O Key Recon Cond) (seat n : ℕ) (out : InsertOut) → SeatThenEnds m seen seat n out → (out ≡ Put → ⊥) → IsNoRestart out → SeatEnds m seen seat n
  open_still m seen seat n Descended h no_put on = h
  open_still m seen seat n Restructured h no_put on = h
  open_still m seen seat n (Restarted block by) h no_put on = absurd (on block by refl)
  open_still m seen seat n Put h no_put on = absurd (no_put refl)

  -- a section takes one of those that may come
  pub fewer_come : (m : Meaning Key Recon Cond) (s1 s2 : Seen O Key Recon Cond) (seat k turn top : ℕ) (out : InsertOut) → k + turn < top → SeatEnds m s1 seat k → ((n : ℕ) → SeatEnds m s1 seat (suc n) → SeatThenEnds m s2 seat n out) → (out ≡ Put → ⊥) → IsNoRestart out →
      (j : ℕ) × (j + (turn + 1) < top) × SeatEnds m s2 seat j
  fewer_come m s1 s2 seat zero turn top out few h takes no_put on = absurd (one_comes m s1 seat h)
  fewer_come m s1 s2 seat (suc n) turn top out few h takes no_put on = (n, omega arith, open_still m s2 seat n out (takes n h) no_put on)

  -- ---- one section after another

  more_sections : (m : Meaning Key Recon Cond) (before : List InsertOut) (s0 s1 s2 : Seen O Key Recon Cond) (seat : ℕ) (out : InsertOut) → DoesSections m s0 s1 seat before → IsOnItsWay out → DoesSection m s1 s2 seat out → DoesSections m s0 s2 seat (before ++ out ∷ [])
  more_sections m [] s0 s1 s2 seat out same on D = (on, s2, subst (λ (s : Seen O Key Recon Cond). DoesSection m s s2 seat out) same D, refl)
  more_sections m (first ∷ before) s0 s1 s2 seat out (on_way, next, D0, more) on D = (on_way, next, D0, more_sections m before next s1 s2 seat out more on D)

  pub steps_none : (m : Meaning Key Recon Cond) (s : Seen O Key Recon Cond) (seat : ℕ) → StepsOn m s s seat
  steps_none m s seat = ([], refl)

  -- one more section
  pub steps_more : (m : Meaning Key Recon Cond) (s0 s1 s2 : Seen O Key Recon Cond) (seat : ℕ) (out : InsertOut) → StepsOn m s0 s1 seat → IsOnItsWay out → DoesSection m s1 s2 seat out → StepsOn m s0 s2 seat
  steps_more m s0 s1 s2 seat out (before, D0) on D = (before ++ out ∷ [], more_sections m before s0 s1 s2 seat out D0 on D)

  -- ---- what the other seats have open

  pub stay_same : (s : Seen O Key Recon Cond) (seat : ℕ) → OthersStay s s seat
  stay_same s seat other apart = refl

  stay_set : (s1 s2 : Seen O Key Recon Cond) (seat : ℕ) (stage : Stage O Key Recon Cond) → s2.stages ≡ set s1.stages seat stage → OthersStay s1 s2 seat
  stay_set s1 s2 seat stage is other apart = ap (λ (l : List (Stage O Key Recon Cond)). stage_in l other) is ∙ get_or-set_other s1.stages seat other stage free apart

  stay_section : (s1 s2 : Seen O Key Recon Cond) (seat : ℕ) (k : Option Key) (d : Descending Recon) (out : InsertOut) → IsAfterSection s1 s2 seat k d out → OthersStay s1 s2 seat
  stay_section s1 s2 seat k d Descended (d2, same, pages, is, stage) = stay_set s1 s2 seat (descending k d2) (ap (λ (s : Seen O Key Recon Cond). s.stages) is)
  stay_section s1 s2 seat k d Restructured (d2, same, is, stage) = stay_set s1 s2 seat (descending k d2) (ap (λ (s : Seen O Key Recon Cond). s.stages) is)
  stay_section s1 s2 seat k d (Restarted block by) (d2, same, start, pages, is, stage) = stay_set s1 s2 seat (descending k d2) (ap (λ (s : Seen O Key Recon Cond). s.stages) is)
  stay_section s1 s2 seat k d Put (is, stage) = stay_set s1 s2 seat free (ap (λ (s : Seen O Key Recon Cond). s.stages) is)

  stay_of : (s1 s2 : Seen O Key Recon Cond) (seat : ℕ) (out : InsertOut) (stage : Stage O Key Recon Cond) → IsOutOf s1 s2 seat out stage → OthersStay s1 s2 seat
  stay_of s1 s2 seat out free is = absurd is
  stay_of s1 s2 seat out (descending k d) is = stay_section s1 s2 seat k d out is.1
  stay_of s1 s2 seat out (reading s) is = absurd is
  stay_of s1 s2 seat out (sweeping v) is = absurd is

  pub stay_then : (s0 s1 s2 : Seen O Key Recon Cond) (seat : ℕ) (out : InsertOut) → OthersStay s0 s1 seat → IsInsertOut s1 s2 seat out → OthersStay s0 s2 seat
  stay_then s0 s1 s2 seat out stay is other apart = stay_of s1 s2 seat out (stage_at s1 seat) is other apart ∙ stay other apart
