-- What a section of an insert leaves of what a state keeps.
use Rattle.std.proofs.Common.{◌≡◌, ◌⊎◌, ◌<◌, ◌≤◌, inl, inr, ⊎_elim, ℕ, Bool, true, false, cond, Some, [], ◌∷◌, ◌++◌, set, reverse, Option, refl, sym, ap, ◌∙◌, subst}
use Rattle.spg_base.specs.Row.{RowAt}
use Rattle.spg_opclass.specs.Meaning.{Meaning}
use Rattle.spg_opclass.specs.Laws.{CodeLaw}
use Rattle.std.proofs.lemmas.Bool.{false≢true}
use Rattle.spg_forest.specs.Pages.{IsFresh}
use Rattle.spg_forest.specs.Shape.{spots}
use Rattle.spg_forest.proofs.Keeping.{entry_of}
use Rattle.spg_forest.specs.Section.{Adds}
use Rattle.spg_forest.specs.Walk.{weight_of}
use Rattle.spg_rows.specs.declared.event.Event.TheVariants.{Put}
use Rattle.spg_rows.specs.History.{History, inserting}
use Rattle.spg_rows.specs.Lives.{lives}
use Rattle.spg_rows.specs.Rows.{is_claimed, is_present, state_of}
use Rattle.spg_rows.proofs.Uses.{present_claimed}
use Rattle.spg_rows.proofs.Histories.{sane_from_legal}
use Rattle.spg_tree.specs.Table as pages
use Rattle.spg_tree.specs.Table.{sheets_of}
use Rattle.spg_tree.specs.Descents.{Descending, in_nulls}
use Rattle.spg_seats.specs.Descending.{HasInnerRoot, ChangesHeld}
use Rattle.spg_seats.specs.Latching.{AreHeld, InsertHolds, rest_of}
use Rattle.spg_seats.specs.Opening.{SameRows, ChangesRows}
use Rattle.spg_seats.specs.Slots.{Stage, free, descending, stage_in, stage_holds, open_count, StageFits, Fields, IsKept, opened_keys}
use Rattle.spg_seats.proofs.Calls as calls
use Rattle.spg_seats.proofs.Holding.{latches_law}
use Rattle.spg_core.specs.declared.answer.InsertOut.{InsertOut}
use Rattle.spg_core.specs.declared.answer.InsertOut.TheVariants as outs
use Rattle.spg_core.specs.Stepping.{Grows, GoesOn, RootsGrow, IsRootFull, IsOutgrown}
use Rattle.spg_core.specs.Telling.{StepDone}
use Rattle.spg_core.proofs.Growing.{step_grows}
use Rattle.spg_core.proofs.Weights.{root_heavy}

module _ {O Key Recon Cond : Type 0} (m : Meaning Key Recon Cond) (codes : CodeLaw m) (s : Fields O Key Recon Cond) (kept : IsKept m s) (seat : ℕ) where
  -- a tree whose root page is full has heavy keys
  pub full_heavy : (key : Option Key) (d : Descending Recon) → StageFits m s.table (reverse s.journal) seat (descending key d) → IsRootFull s.table d → 8160 < weight_of m (in_nulls d) (opened_keys (reverse s.journal))
  full_heavy key d has f = root_heavy m codes (reverse s.journal) (sane_from_legal (reverse s.journal) kept.right.legal) s.table d key seat kept.tells.holds has.1 has.0 f

  -- a tree that has outgrown its root page too, where the state was not loaded
  pub outgrown_heavy : (key : Option Key) (d : Descending Recon) → StageFits m s.table (reverse s.journal) seat (descending key d) → IsOutgrown s.table d → s.origin.loaded ≡ false → 8160 < weight_of m (in_nulls d) (opened_keys (reverse s.journal))
  outgrown_heavy key d has out fresh = ⊎_elim
      (λ h. kept.tells.heavy fresh (in_nulls d) h)
      (λ f. full_heavy key d has f)
      out

module _ {O Key Recon Cond : Type 0} (m : Meaning Key Recon Cond) (s : Fields O Key Recon Cond) (kept : IsKept m s) where
  -- a row that is not claimed is no leaf's
  pub fresh_row : (row : RowAt) → is_claimed row (reverse s.journal) ≡ false → IsFresh (spots (sheets_of s.table)) row
  fresh_row row unclaimed x l a e =
      let past : History O Key Recon Cond = reverse s.journal in
      let (key, h) = entry_of m (sheets_of s.table) x l kept.tells.holds.shape a in
      let p : is_present l.row past ≡ true = ((kept.tells.holds.entries l.row key).0 h).0 in
      false≢true (sym unclaimed ∙ ap (λ r. is_claimed r past) (sym e) ∙ present_claimed past (state_of l.row past) (lives l.row past) ((sane_from_legal past kept.right.legal).says l.row) p)

module _ {O Key Recon Cond : Type 0} (m : Meaning Key Recon Cond) (s : Fields O Key Recon Cond) (kept : IsKept m s) (seat : ℕ) where
  -- what a seat has latched
  pub stage_held : (stage : Stage O Key Recon Cond) → stage_in s.stages seat ≡ stage → AreHeld s.table seat (rest_of s.table seat) (stage_holds stage)
  stage_held stage here = subst (λ (x : Stage O Key Recon Cond). AreHeld s.table seat (rest_of s.table seat) (stage_holds x)) here ((latches_law O Key Recon Cond).begins s.table seat (stage_holds (stage_in s.stages seat)) (kept.latches seat))

  -- what it has open
  pub stage_fits : (stage : Stage O Key Recon Cond) → stage_in s.stages seat ≡ stage → StageFits m s.table (reverse s.journal) seat stage
  stage_fits stage here = subst (λ (x : Stage O Key Recon Cond). StageFits m s.table (reverse s.journal) seat x) here (kept.stages seat)

  module _ (key : Option Key) (d : Descending Recon) (here : stage_in s.stages seat ≡ descending key d) where
    pub its_held : InsertHolds s.table seat (rest_of s.table seat) d
    its_held = stage_held (descending key d) here

    pub section_changes : (t2 : pages.Table) (d2 : Descending Recon) (out : InsertOut) → StepDone m s.table t2 d d2 seat out → ChangesHeld s.table t2 seat
    section_changes t2 d2 out S = S.within (λ b h. its_held.latch b ∙ ap (λ k. cond k (Some seat) (rest_of s.table seat b)) h)

    pub section_grows : (t2 : pages.Table) (d2 : Descending Recon) (out : InsertOut) → StepDone m s.table t2 d d2 seat out → Grows s.table t2
    section_grows t2 d2 out S = step_grows m s.table t2 d d2 seat out key (stage_fits (descending key d) here).1 S.ok

module _ {O Key Recon Cond : Type 0} (m : Meaning Key Recon Cond) (codes : CodeLaw m) (s : Fields O Key Recon Cond) (kept : IsKept m s) (seat : ℕ) (key : Option Key) (d : Descending Recon) (here : stage_in s.stages seat ≡ descending key d) (s2 : Fields O Key Recon Cond) (d2 : Descending Recon) where
  abbrev past : History O Key Recon Cond
  past = reverse s.journal

  has : StageFits m s.table past seat (descending key d)
  has = stage_fits m s kept seat (descending key d) here

  its : InsertHolds s.table seat (rest_of s.table seat) d
  its = its_held m s kept seat key d here

  grown : RootsGrow s.table s2.table d → (nulls : Bool) → HasInnerRoot s2.table nulls → HasInnerRoot s.table nulls ⊎ (8160 < weight_of m nulls (opened_keys past))
  grown grow nulls h = ⊎_elim (λ a. inl a) (λ (q, f). inr (subst (λ (b : Bool). 8160 < weight_of m b (opened_keys past)) (sym q) (full_heavy m codes s kept seat key d has f))) (grow nulls h)

  -- the insert goes on
  goes : GoesOn m s.table s2.table d d2 → StageFits m s2.table past seat (descending key d2)
  goes (row, nulls, at, carry) = (has.0 ∙ ap (λ (r : RowAt). inserting r key) (sym row), carry key has.1, at)

  module _ (stages : s2.stages ≡ set s.stages seat (descending key d2)) (now : stage_in s2.stages seat ≡ descending key d2) (room : open_count s2.stages ≤ s2.spare) (origin : s2.origin ≡ s.origin) (journal : s2.journal ≡ s.journal) (rows : SameRows s s2) where
    pub step_keeps : (out : InsertOut) → (out ≡ outs.Put → ⊥) → StepDone m s.table s2.table d d2 seat out → IsKept m s2
    step_keeps outs.Descended n S =
        let (stood, same, G) = S.ok in
        calls.kept_still m s s2 seat (descending key d2) kept stages now (S.latches (rest_of s.table seat) its) room same.1 origin same.0 journal rows (goes G)
    step_keeps (outs.Restarted block by) n S =
        let (latched, other, start, same, G) = S.ok in
        calls.kept_still m s s2 seat (descending key d2) kept stages now (S.latches (rest_of s.table seat) its).1 room same.1 origin same.0 journal rows (goes G)
    step_keeps outs.Restructured n S =
        let (off, (cost, f, L), limit, grow, G) = S.ok in
        calls.kept_section m s s2 seat (descending key d2) kept stages now (S.latches (rest_of s.table seat) its) room limit origin cost f L (section_changes m s kept seat key d here s2.table d2 outs.Restructured S) (grown grow) journal rows (goes G)
    step_keeps outs.Put n S = absurd (n refl)

  -- its row is put
  pub put_keeps : s2.stages ≡ set s.stages seat free → stage_in s2.stages seat ≡ free → open_count s2.stages ≤ s2.spare → s2.origin ≡ s.origin → (row : RowAt) → row ≡ d.row → s2.journal ≡ s.journal ++ Put seat row ∷ [] → ChangesRows (Put seat row) past s s2 →
      StepDone m s.table s2.table d d2 seat outs.Put → IsKept m s2
  put_keeps stages now room origin row r journal rows S =
      let (off, adds, limit, grow, er) = S.ok in
      let (cost, f, A) = adds key has.1 in
      calls.kept_put m s s2 seat free kept stages now (S.latches (rest_of s.table seat) its) room limit origin row key cost f refl (has.0 ∙ ap (λ (x : RowAt). inserting x key) (sym r))
      (subst (λ (x : RowAt). Adds m (sheets_of s.table) (sheets_of s2.table) s2.table.touched cost x key f) (sym r) A) (section_changes m s kept seat key d here s2.table d2 outs.Put S) (grown grow) journal rows
