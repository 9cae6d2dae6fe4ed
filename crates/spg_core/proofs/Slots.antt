-- The slots of the seats: what each says, how many are open, and the stages that contracts see.
use Rattle.std.proofs.Common.{◌≡◌, ◌≢◌, ◌<◌, ◌≤◌, ◌+◌, ℕ, zero, suc, true, false, cond, List, [], ◌∷◌, ◌++◌, Bool, Option, None, Result, Ok, Err, length, get_or, set, replicate, reverse, refl, sym, ap, ◌∙◌, arith, get_or-set_same, map}
use Rattle.std.proofs.lemmas.Bool.{false≢true}
use Rattle.std.proofs.lemmas.List.{map-set}
use Rattle.std.specs.Result.{OnErr}
use Rattle.spg_base.specs.declared.recorded.Origin.{Origin}
use Rattle.spg_opclass.specs.Meaning.{Meaning}
use Rattle.spg_rows.specs.declared.event.Event.{Event}
use Rattle.spg_rows.specs.History.{History, open_of}
use Rattle.spg_tree.specs.Table.{Table}
use Rattle.spg_tree.specs.Descents.{Descending}
use Rattle.spg_seats.specs.Slots.{Stage, free, descending, reading, sweeping, stage_in, is_open, open_count, StageFits}
use Rattle.spg_core.specs.declared.slot.Slot.{Slot}
use Rattle.spg_core.specs.declared.slot.Slot.TheVariants.{Free, Insert}
use Rattle.spg_core.specs.declared.kept.Kept.TheInside.{Inside}
use Rattle.spg_core.specs.Stage.{IsInserting, IsRead, IsSweeping, IsStageOf}
use Rattle.spg_core.specs.Seen.{Seen, stage_at, moved, logged, logged_all, past_of}
use Rattle.spg_core.specs.Slot.{stage_of}
use Rattle.spg_core.specs.Kept.{seen_of}

module _ {O Key Recon Cond : Type 0} where
  -- ---- how many seats have something open

  pub open_count-closed : (stages : List (Stage O Key Recon Cond)) (at : ℕ) → is_open (get_or stages at free) ≡ true → open_count (set stages at free) + 1 ≡ open_count stages
  open_count-closed [] at was = absurd (false≢true was)
  open_count-closed (x ∷ xs) zero was = rw was refl
  open_count-closed (x ∷ xs) (suc at) was = elim (is_open x) as (λ b. cond b (open_count (set xs at free) + 1) (open_count (set xs at free)) + 1 ≡ cond b (open_count xs + 1) (open_count xs)) [
    | true ↦ omega (arith, open_count-closed xs at was)
    | false ↦ open_count-closed xs at was
  ]

  pub open_count-le-length : (stages : List (Stage O Key Recon Cond)) → open_count stages ≤ length stages
  open_count-le-length [] = omega arith
  open_count-le-length (x ∷ xs) = one (is_open x) (open_count-le-length xs)
    where
      one : (b : Bool) → open_count xs ≤ length xs → cond b (open_count xs + 1) (open_count xs) ≤ suc (length xs)
      one true le = omega (arith, le)
      one false le = omega (arith, le)

  pub open_count-set-le : (stages : List (Stage O Key Recon Cond)) (at : ℕ) (stage : Stage O Key Recon Cond) → is_open (get_or stages at free) ≡ true → open_count (set stages at stage) ≤ open_count stages
  open_count-set-le [] at stage was = absurd (false≢true was)
  open_count-set-le (x ∷ xs) zero stage was = rw was (one (is_open stage))
    where
      one : (b : Bool) → cond b (open_count xs + 1) (open_count xs) ≤ open_count xs + 1
      one true = omega arith
      one false = omega arith
  open_count-set-le (x ∷ xs) (suc at) stage was = one (is_open x) (open_count-set-le xs at stage was)
    where
      one : (b : Bool) → open_count (set xs at stage) ≤ open_count xs → cond b (open_count (set xs at stage) + 1) (open_count (set xs at stage)) ≤ cond b (open_count xs + 1) (open_count xs)
      one true le = omega (arith, le)
      one false le = le

  -- any number of seats may have something open
  pub open_count-all : (stages : List (Stage O Key Recon Cond)) → length stages ≡ 64 → open_count stages ≤ 64
  open_count-all stages count = omega (arith, open_count-le-length stages, count)

  -- a stage that is put where it stands
  pub set_itself : (stages : List (Stage O Key Recon Cond)) (at : ℕ) → set stages at (get_or stages at free) ≡ stages
  set_itself [] at = refl
  set_itself (x ∷ xs) zero = refl
  set_itself (x ∷ xs) (suc at) = ap (λ ys. x ∷ ys) (set_itself xs at)

  -- a refused section leaves the slot as it was
  pub refused_slot : {T E : Type 0} (r : Result T E) (slots : List (Slot O Key Recon Cond)) (at : ℕ) (key : Option Key) (d d2 : Descending Recon) → get_or slots at Free ≡ Insert key d → OnErr r (d2 ≡ d) → OnErr r (set slots at (Insert key d2) ≡ slots)
  refused_slot (Ok x) slots at key d d2 here same = tt
  refused_slot (Err e) slots at key d d2 here same = ap (λ (x : Descending Recon). set slots at (Insert key x)) same ∙ ap (λ (x : Slot O Key Recon Cond). set slots at x) (sym here) ∙ itself slots at
    where
      itself : (xs : List (Slot O Key Recon Cond)) (i : ℕ) → set xs i (get_or xs i Free) ≡ xs
      itself [] i = refl
      itself (x ∷ xs) zero = refl
      itself (x ∷ xs) (suc i) = ap (λ ys. x ∷ ys) (itself xs i)

  -- a slot that is filled twice
  pub set_twice : (old between new : List (Slot O Key Recon Cond)) (seat : ℕ) (first then : Slot O Key Recon Cond) → between ≡ set old seat first → new ≡ set between seat then → new ≡ set old seat then
  set_twice old between new seat first then a b = b ∙ ap (λ l. set l seat then) a ∙ twice old seat
    where
      twice : (xs : List (Slot O Key Recon Cond)) (i : ℕ) → set (set xs i first) i then ≡ set xs i then
      twice [] i = refl
      twice (x ∷ xs) zero = refl
      twice (x ∷ xs) (suc i) = ap (λ ys. x ∷ ys) (twice xs i)

  -- ---- the stages of the slots

  -- the stage of a seat is that of its slot
  pub stage_get : (slots : List (Slot O Key Recon Cond)) (seat : ℕ) → stage_in (map stage_of slots) seat ≡ stage_of (get_or slots seat Free)
  stage_get [] i = refl
  stage_get (x ∷ xs) zero = refl
  stage_get (x ∷ xs) (suc i) = stage_get xs i

  pub stages_set : (slots old : List (Slot O Key Recon Cond)) (seat : ℕ) (slot : Slot O Key Recon Cond) → slots ≡ set old seat slot → map stage_of slots ≡ set (map stage_of old) seat (stage_of slot)
  stages_set slots old seat slot is = ap (map stage_of) is ∙ map-set stage_of old seat slot

  pub stages_count : (slots : List (Slot O Key Recon Cond)) → length slots ≡ length (map stage_of slots)
  stages_count [] = refl
  stages_count (x ∷ xs) = ap suc (stages_count xs)

  pub stage_set : (slots old : List (Slot O Key Recon Cond)) (seat : ℕ) (slot : Slot O Key Recon Cond) → slots ≡ set old seat slot → length old ≡ 64 → seat < 64 → stage_in (map stage_of slots) seat ≡ stage_of slot
  stage_set slots old seat slot is count within =
      let below : seat < length old = omega (arith, count) in
      stage_get slots seat ∙ ap stage_of (ap (λ l. get_or l seat Free) is ∙ get_or-set_same old seat slot Free below)

  -- ---- the state as contracts see it

  abbrev pub seen_as : List (Event O Key Recon Cond) → List (Stage O Key Recon Cond) → Table → Origin → Seen O Key Recon Cond
  seen_as j s t o = record { journal = j; stages = s; table = t; origin = o; class = None }

  module _ (s : Inside O Key Recon Cond) (seen : Seen O Key Recon Cond) (view : seen_of s ≡ seen) (seat : ℕ) where
    pub stage_is : stage_at seen seat ≡ stage_of (get_or s.slots.items seat Free)
    stage_is = ap (λ v. stage_at v seat) (sym view) ∙ stage_get s.slots.items seat

    pub past_is : past_of seen ≡ reverse s.journal.events
    past_is = ap past_of (sym view)

    pub table_is : seen.table ≡ s.table
    table_is = ap (λ (v : Seen O Key Recon Cond). v.table) (sym view)

    pub logged_is : (e : Event O Key Recon Cond) (slot : Slot O Key Recon Cond) (slots : List (Slot O Key Recon Cond)) (events : List (Event O Key Recon Cond)) (table : Table) → slots ≡ set s.slots.items seat slot → events ≡ s.journal.events ++ e ∷ []
        → seen_as events (map stage_of slots) table s.origin ≡ logged seen seat e (stage_of slot) table
    logged_is e slot slots events table slots_are events_are =
        ap (λ j. seen_as j (map stage_of slots) table s.origin) events_are ∙ ap (λ l. seen_as (s.journal.events ++ e ∷ []) l table s.origin) (stages_set slots s.slots.items seat slot slots_are) ∙ ap (λ v. logged v seat e (stage_of slot) table) view

    pub logged_all_is : (es : List (Event O Key Recon Cond)) (slot : Slot O Key Recon Cond) (slots : List (Slot O Key Recon Cond)) (events : List (Event O Key Recon Cond)) (table : Table) → slots ≡ set s.slots.items seat slot → events ≡ s.journal.events ++ es
        → seen_as events (map stage_of slots) table s.origin ≡ logged_all seen seat es (stage_of slot) table
    logged_all_is es slot slots events table slots_are events_are =
        ap (λ j. seen_as j (map stage_of slots) table s.origin) events_are ∙ ap (λ l. seen_as (s.journal.events ++ es) l table s.origin) (stages_set slots s.slots.items seat slot slots_are) ∙ ap (λ v. logged_all v seat es (stage_of slot) table) view

    pub moved_is : (slot : Slot O Key Recon Cond) (slots : List (Slot O Key Recon Cond)) (table : Table) → slots ≡ set s.slots.items seat slot → seen_as s.journal.events (map stage_of slots) table s.origin ≡ moved seen seat (stage_of slot) table
    moved_is slot slots table slots_are = ap (λ l. seen_as s.journal.events l table s.origin) (stages_set slots s.slots.items seat slot slots_are) ∙ ap (λ v. moved v seat (stage_of slot) table) view

  -- ---- what a seat has open, by its stage

  pub inserting_open : (stage : Stage O Key Recon Cond) → IsInserting stage → is_open stage ≡ true
  inserting_open free is = absurd is
  inserting_open (descending key d) is = refl
  inserting_open (reading s) is = refl
  inserting_open (sweeping v) is = refl

  pub read_open : (stage : Stage O Key Recon Cond) → IsRead stage → is_open stage ≡ true
  read_open free is = absurd is
  read_open (descending key d) is = refl
  read_open (reading s) is = refl
  read_open (sweeping v) is = refl

  pub sweeping_open : (stage : Stage O Key Recon Cond) → IsSweeping stage → is_open stage ≡ true
  sweeping_open free is = absurd is
  sweeping_open (descending key d) is = refl
  sweeping_open (reading s) is = refl
  sweeping_open (sweeping v) is = refl

  pub not_free_open : (stage : Stage O Key Recon Cond) → stage ≢ free → is_open stage ≡ true
  not_free_open free is = absurd (is refl)
  not_free_open (descending key d) is = refl
  not_free_open (reading s) is = refl
  not_free_open (sweeping v) is = refl

  module _ (m : Meaning Key Recon Cond) (t : Table) (past : History O Key Recon Cond) (seat : ℕ) where
    pub fits_stage : (stage : Stage O Key Recon Cond) → StageFits m t past seat stage → IsStageOf (open_of seat past) stage
    fits_stage free fits = fits
    fits_stage (descending key d) fits = fits.0
    fits_stage (reading s) fits = (fits.0, fits.1)
    fits_stage (sweeping v) fits = (fits.0, fits.1)

  -- the slots of a new state
  pub stages_new : (n : ℕ) → ◌≡◌ {A = List (Stage O Key Recon Cond)} (map stage_of (replicate n Free)) (replicate n free)
  stages_new zero = refl
  stages_new (suc n) = ap (λ ys. free ∷ ys) (stages_new n)

  all_free : (n i : ℕ) → ◌≡◌ {A = Stage O Key Recon Cond} (get_or (replicate n free) i free) free
  all_free zero i = refl
  all_free (suc n) zero = refl
  all_free (suc n) (suc i) = all_free n i

  pub all_stages_free : (n i : ℕ) → ◌≡◌ {A = Stage O Key Recon Cond} (get_or (map stage_of (replicate n Free)) i free) free
  all_stages_free n i = ap (λ l. get_or l i free) (stages_new n) ∙ all_free n i
