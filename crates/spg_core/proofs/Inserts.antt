-- What a section of an insert leaves of a state.
use Rattle.std.proofs.Common.{◌≡◌, ◌<◌, ◌+◌, ℕ, suc, Bool, true, false, List, [], ◌∷◌, ◌++◌, length, get_or, set, Option, Vec, refl, sym, ap, ◌∙◌, subst, get_or-set_same, length-set, map}
use Rattle.std.specs.Prelude.{is_none}
use Rattle.std.specs.declared.alloc.Global.{Global}
use Rattle.spg_base.specs.Row.{RowAt}
use Rattle.spg_opclass.specs.Meaning.{Meaning}
use Rattle.spg_opclass.specs.Laws.{CodeLaw}
use Rattle.spg_opclass.specs.Copies.{AtTuple, RestsAt}
use Rattle.spg_forest.specs.Walk.{weight_of}
use Rattle.spg_rows.specs.declared.event.Event.TheVariants.{Put}
use Rattle.spg_rows.specs.declared.table.RowState.TheVariants as row_state
use Rattle.spg_rows.specs.History.{Written, History}
use Rattle.spg_rows.specs.Table.{Table, state_in, SetsState, SameKeys}
use Rattle.spg_tree.specs.Table as pages
use Rattle.spg_tree.specs.Table.{sheets_of}
use Rattle.spg_tree.specs.Descents.{Descending}
use Rattle.spg_seats.specs.Descending.{ChangesHeld}
use Rattle.spg_seats.specs.Latching.{AreHeld, InsertHolds, rest_of}
use Rattle.spg_seats.specs.Slots.{Stage, free, descending, is_open, stage_in, StageFits, HasLatches, opened_keys}
use Rattle.spg_seats.proofs.Holding.{latches_law}
use Rattle.spg_core.specs.declared.answer.InsertOut.{InsertOut}
use Rattle.spg_core.specs.declared.answer.InsertOut.TheVariants as outs
use Rattle.spg_core.specs.declared.slot.Slot.{Slot}
use Rattle.spg_core.specs.declared.slot.Slot.TheVariants.{Free, Insert, Scan, Vacuum}
use Rattle.spg_core.specs.declared.kept.Kept.TheInside.{Inside}
use Rattle.spg_core.specs.Stepping.{SamePages, Grows, MakesAtMostOne, IsStepOut, MayStep}
use Rattle.spg_core.specs.Telling.{StepTells, StepDone}
use Rattle.spg_core.specs.Ends.{EndsWithin, StageEnds, SeatEnds, SeatThenEnds}
use Rattle.spg_core.specs.Operations.{CanStep, IsOutgrownBy, StepsFrom, IsInsert, IsDescentOf, IsRowOf}
use Rattle.spg_core.specs.Sections.{IsOutOf, IsHeavyFor, FindsNoPageFor, SeatFindsNoPage, TicksFor, SeatTicks, StoodFor, TellsFor, LatchesAfter, HasNone, OthersHold}
use Rattle.spg_core.specs.Latches.{HoldsAfter}
use Rattle.spg_core.specs.declared.guide.Guide.{Guide}
use Rattle.spg_core.specs.declared.guide.Guide.TheVariants as guides
use Rattle.spg_core.specs.Guides.{IsGuided, GuidedIn, IsSpottedAt, IsBunchAt, AsksAt}
use Rattle.spg_core.specs.Looking.{SpottedIn, IsSpotted, BunchIn, IsBunch, AsksIn, Asks}
use Rattle.spg_core.specs.Slot.{stage_of}
use Rattle.spg_core.specs.Stage.{IsInserting, reading, sweeping}
use Rattle.spg_core.specs.Seen.{Seen, stage_at, moved, logged}
use Rattle.spg_core.specs.Kept.{fields_of, seen_of, IsState}
use Rattle.spg_core.proofs.Weights.{nulls_key}
use Rattle.spg_core.proofs.Keeping.{outgrown_heavy, its_held, section_changes, section_grows, step_keeps, put_keeps}
use Rattle.spg_core.proofs.Slots.{set_twice, stages_set, stage_set, stage_get, stage_is, past_is, table_is, moved_is, logged_is, seen_as}
use Rattle.spg_core.proofs.Steps.{with_fields, same_rows, past, seats, fits, low, room_on, room_ended, insert_claimed}

-- what a seat has latched is its own, and what it has not is not
pub none_held : (t t2 : pages.Table) (seat : ℕ) → AreHeld t2 seat (rest_of t seat) (λ b. false) → HasNone t2 seat
none_held t t2 seat h b e = h.others b (sym (h.latch b) ∙ e)

-- a class guides an insert wherever it stands
pub class_guides : {O Key Recon Cond : Type 0} (m : Meaning Key Recon Cond) (t : pages.Table) (x : Stage O Key Recon Cond) (class : _) → IsInserting x → GuidedIn m t x (guides.Class class)
class_guides m t free class h = absurd h
class_guides m t (descending key d) class h = tt
class_guides m t (reading s) class h = absurd h
class_guides m t (sweeping v) class h = absurd h

-- where a section is refused, as callers see it
module _ {O Key Recon Cond : Type 0} (m : Meaning Key Recon Cond) (s : Inside O Key Recon Cond) (seen : Seen O Key Recon Cond) (view : seen_of s ≡ seen) (seat : ℕ) where
  pub finds_seen : FindsNoPageFor m s.table seat (stage_of (get_or s.slots.items seat Free)) → SeatFindsNoPage m seen seat
  finds_seen h = subst (λ (x : Stage O Key Recon Cond). FindsNoPageFor m seen.table seat x) (sym (stage_is s seen view seat)) (subst (λ (t : pages.Table). FindsNoPageFor m t seat (stage_of (get_or s.slots.items seat Free))) (sym (table_is s seen view 0)) h)

  pub finds_kept : SeatFindsNoPage m seen seat → FindsNoPageFor m s.table seat (stage_of (get_or s.slots.items seat Free))
  finds_kept h = subst (λ (t : pages.Table). FindsNoPageFor m t seat (stage_of (get_or s.slots.items seat Free))) (table_is s seen view 0) (subst (λ (x : Stage O Key Recon Cond). FindsNoPageFor m seen.table seat x) (stage_is s seen view seat) h)

  pub ticks_seen : TicksFor m s.table (stage_of (get_or s.slots.items seat Free)) → SeatTicks m seen seat
  ticks_seen h = subst (λ (x : Stage O Key Recon Cond). TicksFor m seen.table x) (sym (stage_is s seen view seat)) (subst (λ (t : pages.Table). TicksFor m t (stage_of (get_or s.slots.items seat Free))) (sym (table_is s seen view 0)) h)

  pub ticks_kept : SeatTicks m seen seat → TicksFor m s.table (stage_of (get_or s.slots.items seat Free))
  ticks_kept h = subst (λ (t : pages.Table). TicksFor m t (stage_of (get_or s.slots.items seat Free))) (table_is s seen view 0) (subst (λ (x : Stage O Key Recon Cond). TicksFor m seen.table x) (stage_is s seen view seat) h)

-- the insert in the seat's slot, as callers see it
module _ {O Key Recon Cond : Type 0} (s : Inside O Key Recon Cond) (seen : Seen O Key Recon Cond) (view : seen_of s ≡ seen) (seat : ℕ) where
  pub is_insert : (items : List (Slot O Key Recon Cond)) → items ≡ s.slots.items → IsInserting (stage_at seen seat) → IsInsert (get_or items seat Free)
  is_insert items same is = subst (λ (l : List (Slot O Key Recon Cond)). IsInsert (get_or l seat Free)) (sym same) (go (get_or s.slots.items seat Free) (subst (λ (x : Stage O Key Recon Cond). IsInserting x) (stage_is s seen view seat) is))
    where
      go : (slot : Slot O Key Recon Cond) → IsInserting (stage_of slot) → IsInsert slot
      go Free h = absurd h
      go (Insert key d) h = tt
      go (Scan x) h = absurd h
      go (Vacuum x) h = absurd h

  pub stage_here : (d : Descending Recon) → IsDescentOf (get_or s.slots.items seat Free) d → (key : Option Key) × (stage_at seen seat ≡ descending key d)
  stage_here d h = let (key, e) = go (get_or s.slots.items seat Free) h in (key, stage_is s seen view seat ∙ e)
    where
      go : (slot : Slot O Key Recon Cond) → IsDescentOf slot d → (key : Option Key) × (stage_of slot ≡ descending key d)
      go Free e = absurd e
      go (Insert key d2) e = (key, ap (λ (z : Descending Recon). descending key z) (sym e))
      go (Scan x) e = absurd e
      go (Vacuum x) e = absurd e

  -- what is said of it by the table and its stage is said of what callers see
  pub seen_here : (P : pages.Table → Stage O Key Recon Cond → Type 0) (key : Option Key) (d : Descending Recon) → stage_at seen seat ≡ descending key d → P s.table (descending key d) → P seen.table (stage_at seen seat)
  seen_here P key d e h = subst (λ (x : Stage O Key Recon Cond). P seen.table x) (sym e) (subst (λ (t : pages.Table). P t (descending key d)) (sym (table_is s seen view seat)) h)

  pub kept_here : (P : pages.Table → Stage O Key Recon Cond → Type 0) (key : Option Key) (d : Descending Recon) → stage_at seen seat ≡ descending key d → P seen.table (stage_at seen seat) → P s.table (descending key d)
  kept_here P key d e h = subst (λ (t : pages.Table). P t (descending key d)) (table_is s seen view seat) (subst (λ (x : Stage O Key Recon Cond). P seen.table x) e h)

  -- its guide, and the copies that a look gives
  module _ (d : Descending Recon) (items : List (Slot O Key Recon Cond)) (same : items ≡ s.slots.items) (it : IsDescentOf (get_or items seat Free) d) where
    it_is : IsDescentOf (get_or s.slots.items seat Free) d
    it_is = subst (λ (l : List (Slot O Key Recon Cond)). IsDescentOf (get_or l seat Free) d) same it

    pub guide_seen : (m : Meaning Key Recon Cond) (guide : Guide O Key Recon Cond) → IsGuided m s.table d guide → GuidedIn m seen.table (stage_at seen seat) guide
    guide_seen m guide h = let (key, e) = stage_here d it_is in seen_here (λ t x. GuidedIn m t x guide) key d e h

    pub spotted_seen : (x : AtTuple Recon) → IsSpottedAt s.table d x → IsSpotted seen seat x
    spotted_seen x h = let (key, e) = stage_here d it_is in seen_here (λ t z. SpottedIn t z x) key d e h

    pub spotted_kept : (x : AtTuple Recon) → IsSpotted seen seat x → IsSpottedAt s.table d x
    spotted_kept x h = let (key, e) = stage_here d it_is in kept_here (λ t z. SpottedIn t z x) key d e h

    pub bunch_seen : (x : RestsAt Recon) → IsBunchAt s.table d x → IsBunch seen seat x
    bunch_seen x h = let (key, e) = stage_here d it_is in seen_here (λ t z. BunchIn t z x) key d e h

    pub bunch_kept : (x : RestsAt Recon) → IsBunch seen seat x → IsBunchAt s.table d x
    bunch_kept x h = let (key, e) = stage_here d it_is in kept_here (λ t z. BunchIn t z x) key d e h

    pub asks_seen : AsksAt s.table d → Asks seen seat
    asks_seen h = let (key, e) = stage_here d it_is in seen_here (λ t z. AsksIn t z) key d e h

    pub asks_kept : Asks seen seat → AsksAt s.table d
    asks_kept h = let (key, e) = stage_here d it_is in kept_here (λ t z. AsksIn t z) key d e h

module _ {O Key Recon Cond : Type 0} (m : Meaning Key Recon Cond) (codes : CodeLaw m) (s : Inside O Key Recon Cond) (I : IsState m s) (seat : ℕ) where
  abbrev before : History O Key Recon Cond
  before = past m s I

  pub can_step : (slot : Slot O Key Recon Cond) → StageFits m s.table before seat (stage_of slot) → IsInserting (stage_of slot) → CanStep m s.table slot
  can_step Free has is = absurd is
  can_step (Insert key d) has is = (has.1, has.2)
  can_step (Scan x) has is = absurd is
  can_step (Vacuum x) has is = absurd is

  -- its insert may do a section
  pub may_step : (d : Descending Recon) (items : List (Slot O Key Recon Cond)) → items ≡ s.slots.items → IsDescentOf (get_or items seat Free) d → MayStep m s.table d
  may_step d items same it = go (get_or s.slots.items seat Free) (fits m s I seat) (subst (λ (l : List (Slot O Key Recon Cond)). IsDescentOf (get_or l seat Free) d) same it)
    where
      go : (slot : Slot O Key Recon Cond) → StageFits m s.table before seat (stage_of slot) → IsDescentOf slot d → MayStep m s.table d
      go Free has e = absurd e
      go (Insert key d2) has e = subst (λ (z : Descending Recon). MayStep m s.table z) (sym e) (record { shape = I.tells.holds.shape; of_key = (key, has.1); stands = has.2 })
      go (Scan x) has e = absurd e
      go (Vacuum x) has e = absurd e

  pub heavy_for : (seen : Seen O Key Recon Cond) → seen_of s ≡ seen → (slot : Slot O Key Recon Cond) → StageFits m s.table before seat (stage_of slot) → IsOutgrownBy s.table slot → IsHeavyFor m seen (stage_of slot)
  heavy_for seen view Free has out = absurd out
  heavy_for seen view (Insert key d) has out = λ fresh.
      subst (λ (h : History O Key Recon Cond). 8160 < weight_of m (is_none key) (opened_keys h)) (sym (past_is s seen view 0))
      (subst (λ (b : Bool). 8160 < weight_of m b (opened_keys before)) (nulls_key m (sheets_of s.table) d key has.1) (outgrown_heavy m codes (fields_of s) I seat key d has out (ap (λ (v : Seen O Key Recon Cond). v.origin.loaded) view ∙ fresh)))
  heavy_for seen view (Scan x) has out = absurd out
  heavy_for seen view (Vacuum x) has out = absurd out

  -- ---- the insert of the seat's slot

  module _ (key : Option Key) (d d2 : Descending Recon) (t2 : pages.Table) (here : get_or s.slots.items seat Free ≡ Insert key d) where
    at_stage : stage_in (map stage_of s.slots.items) seat ≡ descending key d
    at_stage = stage_get s.slots.items seat ∙ ap stage_of here

    was_open : is_open (stage_of (get_or s.slots.items seat Free)) ≡ true
    was_open = ap (λ (x : Slot O Key Recon Cond). is_open (stage_of x)) here

    its : InsertHolds s.table seat (rest_of s.table seat) d
    its = its_held m (fields_of s) I seat key d at_stage

    moves : (out : InsertOut) → (out ≡ outs.Put → ⊥) → StepDone m s.table t2 d d2 seat out → (slots : Vec (Slot O Key Recon Cond) Global) → slots.items ≡ set s.slots.items seat (Insert key d2) → IsState m (with_fields m s t2 s.rows slots s.journal)
    moves out n S slots items = step_keeps
        m
        codes
        (fields_of s)
        I
        seat
        key
        d
        at_stage
        (fields_of (with_fields m s t2 s.rows slots s.journal))
        d2
        (stages_set slots.items s.slots.items seat (Insert key d2) items)
        (stage_set slots.items s.slots.items seat (Insert key d2) items (seats m s I) (low m s I seat was_open))
        (room_on m s I seat (Insert key d2) slots.items items was_open)
        refl
        refl
        (same_rows m s t2 slots s.journal)
        out
        n
        S

    -- its row is put
    puts : (rows : Table O Key Recon Cond) (slots : Vec (Slot O Key Recon Cond) Global) (journal : Written O Key Recon Cond) (row : RowAt) → slots.items ≡ set s.slots.items seat Free → row ≡ d.row → StepDone m s.table t2 d d2 seat outs.Put → SetsState s.rows rows row row_state.Live → SameKeys s.rows rows →
        journal.events ≡ s.journal.events ++ Put seat row ∷ [] → journal.spare + 1 ≡ s.journal.spare → IsState m (with_fields m s t2 rows slots journal)
    puts rows slots journal row items r S states keys events spare = put_keeps
        m
        codes
        (fields_of s)
        I
        seat
        key
        d
        at_stage
        (fields_of (with_fields m s t2 rows slots journal))
        d2
        (stages_set slots.items s.slots.items seat Free items)
        (stage_set slots.items s.slots.items seat Free items (seats m s I) (low m s I seat was_open))
        (room_ended m s I seat slots.items journal.spare items spare was_open)
        refl
        row
        r
        events
        (record { row = (states, keys); targets = (λ r. refl, λ r. refl); vacuums = refl })
        S

    -- what the others have latched
    others_hold : (out : InsertOut) → HoldsAfter t2 seat (rest_of s.table seat) d2 out → OthersHold s.table t2 seat
    others_hold outs.Descended H = (latches_law O Key Recon Cond).stay s.table t2 seat _ H
    others_hold outs.Restructured H = (latches_law O Key Recon Cond).stay s.table t2 seat _ H
    others_hold (outs.Restarted block by) H = (latches_law O Key Recon Cond).stay s.table t2 seat _ H.1
    others_hold outs.Put H = (latches_law O Key Recon Cond).stay s.table t2 seat _ H

  -- ---- by the slot

  pub kept_step : (out : InsertOut) (slot : Slot O Key Recon Cond) (t2 : pages.Table) (slots : Vec (Slot O Key Recon Cond) Global) → get_or s.slots.items seat Free ≡ slot → (out ≡ outs.Put → ⊥) → StepsFrom m s.table t2 s.slots.items slots.items seat out slot → IsState m (with_fields m s t2 s.rows slots s.journal)
  kept_step out Free t2 slots e n h = absurd h
  kept_step out (Scan x) t2 slots e n h = absurd h
  kept_step out (Vacuum x) t2 slots e n h = absurd h
  kept_step out (Insert key d) t2 slots e n (d2, items, S) = moves key d d2 t2 e out n S slots items

  -- the row that is put, and the slots then
  pub put_row : (slot : Slot O Key Recon Cond) (t2 : pages.Table) (slots : List (Slot O Key Recon Cond)) (row : RowAt) → seat < length s.slots.items → StepsFrom m s.table t2 s.slots.items slots seat outs.Put slot → IsRowOf (get_or slots seat Free) row → IsRowOf slot row
  put_row Free t2 slots row within h r = absurd h
  put_row (Insert key d) t2 slots row within (d2, items, S) r =
      let e : get_or slots seat Free ≡ Insert key d2 = ap (λ l. get_or l seat Free) items ∙ get_or-set_same s.slots.items seat (Insert key d2) Free within in
      let (off, adds, limit, grow, er) = S.ok in
      subst (λ (x : Slot O Key Recon Cond). IsRowOf x row) e r ∙ er
  put_row (Scan x) t2 slots row within h r = absurd h
  put_row (Vacuum x) t2 slots row within h r = absurd h

  pub kept_put : (slot : Slot O Key Recon Cond) (t2 : pages.Table) (rows : Table O Key Recon Cond) (between slots : Vec (Slot O Key Recon Cond) Global) (journal : Written O Key Recon Cond) (row : RowAt) → get_or s.slots.items seat Free ≡ slot →
      StepsFrom m s.table t2 s.slots.items between.items seat outs.Put slot → IsRowOf slot row → slots.items ≡ set between.items seat Free → SetsState s.rows rows row row_state.Live → SameKeys s.rows rows →
      journal.events ≡ s.journal.events ++ Put seat row ∷ [] → journal.spare + 1 ≡ s.journal.spare → IsState m (with_fields m s t2 rows slots journal)
  kept_put Free t2 rows between slots journal row e h r items states keys events spare = absurd h
  kept_put (Scan x) t2 rows between slots journal row e h r items states keys events spare = absurd h
  kept_put (Vacuum x) t2 rows between slots journal row e h r items states keys events spare = absurd h
  kept_put (Insert key d) t2 rows between slots journal row e (d2, made, S) r items states keys events spare =
      puts key d d2 t2 e rows slots journal row (set_twice s.slots.items between.items slots.items seat (Insert key d2) Free made items) r S states keys events spare

  -- the row of the insert in a slot is claimed
  pub row_claimed : (slot : Slot O Key Recon Cond) (row : RowAt) → StageFits m s.table before seat (stage_of slot) → IsRowOf slot row → state_in s.rows row ≡ row_state.Claimed
  row_claimed Free row fit r = absurd r
  row_claimed (Insert key d) row fit r = ap (λ (x : RowAt). state_in s.rows x) r ∙ insert_claimed m s I seat d.row key fit.0
  row_claimed (Scan x) row fit r = absurd r
  row_claimed (Vacuum x) row fit r = absurd r

  -- it is an insert still
  pub steps_insert : (slot : Slot O Key Recon Cond) (t2 : pages.Table) (slots : List (Slot O Key Recon Cond)) (out : InsertOut) → seat < length s.slots.items → StepsFrom m s.table t2 s.slots.items slots seat out slot → IsInsert (get_or slots seat Free)
  steps_insert Free t2 slots out there h = absurd h
  steps_insert (Insert key d) t2 slots out there (d2, items, S) = subst (λ (x : Slot O Key Recon Cond). IsInsert x) (sym (ap (λ l. get_or l seat Free) items ∙ get_or-set_same s.slots.items seat (Insert key d2) Free there)) tt
  steps_insert (Scan x) t2 slots out there h = absurd h
  steps_insert (Vacuum x) t2 slots out there h = absurd h

  pub steps_length : (slot : Slot O Key Recon Cond) (t2 : pages.Table) (slots : List (Slot O Key Recon Cond)) (out : InsertOut) → StepsFrom m s.table t2 s.slots.items slots seat out slot → length slots ≡ 64
  steps_length Free t2 slots out h = absurd h
  steps_length (Insert key d) t2 slots out (d2, items, S) = ap (λ l. length l) items ∙ length-set s.slots.items seat (Insert key d2) ∙ seats m s I
  steps_length (Scan x) t2 slots out h = absurd h
  steps_length (Vacuum x) t2 slots out h = absurd h

  -- ---- what the callers see of it

  module _ (seen : Seen O Key Recon Cond) (view : seen_of s ≡ seen) where
    at_table : (P : pages.Table → Type 0) → P s.table → P seen.table
    at_table P h = subst P (sym (table_is s seen view 0)) h

    moved_by : (d d2 : Descending Recon) (key : Option Key) (t2 : pages.Table) (slots : List (Slot O Key Recon Cond)) → get_or s.slots.items seat Free ≡ Insert key d → slots ≡ set s.slots.items seat (Insert key d2) →
        (seen_as s.journal.events (map stage_of slots) t2 s.origin ≡ moved seen seat (descending key d2) t2) × (stage_in (map stage_of slots) seat ≡ descending key d2)
    moved_by d d2 key t2 slots e items = (moved_is s seen view seat (Insert key d2) slots t2 items, stage_set slots s.slots.items seat (Insert key d2) items (seats m s I) (low m s I seat (ap (λ (x : Slot O Key Recon Cond). is_open (stage_of x)) e)))

    pub seen_step : (out : InsertOut) (slot : Slot O Key Recon Cond) (t2 : pages.Table) (slots : List (Slot O Key Recon Cond)) → get_or s.slots.items seat Free ≡ slot → (out ≡ outs.Put → ⊥) →
        StepsFrom m s.table t2 s.slots.items slots seat out slot → IsOutOf seen (seen_as s.journal.events (map stage_of slots) t2 s.origin) seat out (stage_of slot)
    seen_step out Free t2 slots e n h = absurd h
    seen_step out (Scan x) t2 slots e n h = absurd h
    seen_step out (Vacuum x) t2 slots e n h = absurd h
    seen_step out (Insert key d) t2 slots e n (d2, items, S) = go out n S.ok
      where
        go : (o : InsertOut) → (o ≡ outs.Put → ⊥) → IsStepOut m s.table t2 d d2 seat o → IsOutOf seen (seen_as s.journal.events (map stage_of slots) t2 s.origin) seat o (descending key d)
        go outs.Descended n (stood, same, G) =
            let (a, b) = moved_by d d2 key t2 slots e items in
            (at_table (λ t. StoodFor t d seat outs.Descended) stood, (d2, G.0, at_table (λ t. SamePages t t2) same, a, b))
        go outs.Restructured n (off, L, limit, grow, G) =
            let (a, b) = moved_by d d2 key t2 slots e items in
            (off, (d2, G.0, a, b))
        go (outs.Restarted block by) n (latched, other, start, same, G) =
            let (a, b) = moved_by d d2 key t2 slots e items in
            (at_table (λ t. StoodFor t d seat (outs.Restarted block by)) (latched, other), (d2, G.0, start, at_table (λ t. SamePages t t2) same, a, b))
        go outs.Put n h = absurd (n refl)

    pub seen_put : (slot : Slot O Key Recon Cond) (t2 : pages.Table) (between slots : List (Slot O Key Recon Cond)) (row : RowAt) (events : List _) → get_or s.slots.items seat Free ≡ slot → StepsFrom m s.table t2 s.slots.items between seat outs.Put slot → IsRowOf slot row →
        slots ≡ set between seat Free → events ≡ s.journal.events ++ Put seat row ∷ [] → IsOutOf seen (seen_as events (map stage_of slots) t2 s.origin) seat outs.Put (stage_of slot)
    seen_put Free t2 between slots row events e h r items ev = absurd h
    seen_put (Scan x) t2 between slots row events e h r items ev = absurd h
    seen_put (Vacuum x) t2 between slots row events e h r items ev = absurd h
    seen_put (Insert key d) t2 between slots row events e (d2, made, S) r items ev =
        let (off, adds, limit, grow, er) = S.ok in
        let all = set_twice s.slots.items between slots seat (Insert key d2) Free made items in (
          at_table (λ t. StoodFor t d seat outs.Put) off,
          (
            subst (λ (x : RowAt). seen_as events (map stage_of slots) t2 s.origin ≡ logged seen seat (Put seat x) free t2) r (logged_is s seen view seat (Put seat row) Free slots events t2 all ev),
            stage_set slots s.slots.items seat Free all (seats m s I) (low m s I seat (ap (λ (x : Slot O Key Recon Cond). is_open (stage_of x)) e)),
          ),
        )

    -- which of its ways it took
    pub tells_step : (out : InsertOut) (slot : Slot O Key Recon Cond) (t2 : pages.Table) (slots : List (Slot O Key Recon Cond)) → get_or s.slots.items seat Free ≡ slot → (out ≡ outs.Put → ⊥) →
        StepsFrom m s.table t2 s.slots.items slots seat out slot → TellsFor m seen (seen_as s.journal.events (map stage_of slots) t2 s.origin) seat out (stage_of slot)
    tells_step out Free t2 slots e n h = absurd h
    tells_step out (Scan x) t2 slots e n h = absurd h
    tells_step out (Vacuum x) t2 slots e n h = absurd h
    tells_step out (Insert key d) t2 slots e n (d2, items, S) = go out n S.told
      where
        go : (o : InsertOut) → (o ≡ outs.Put → ⊥) → StepTells m s.table t2 d d2 seat o → TellsFor m seen (seen_as s.journal.events (map stage_of slots) t2 s.origin) seat o (descending key d)
        go outs.Descended n h = (d2, (moved_by d d2 key t2 slots e items).1, at_table (λ t. StepTells m t t2 d d2 seat outs.Descended) h)
        go outs.Restructured n h = (d2, (moved_by d d2 key t2 slots e items).1, at_table (λ t. StepTells m t t2 d d2 seat outs.Restructured) h)
        go (outs.Restarted block by) n h = (d2, (moved_by d d2 key t2 slots e items).1, at_table (λ t. StepTells m t t2 d d2 seat (outs.Restarted block by)) h)
        go outs.Put n h = absurd (n refl)

    pub tells_put : (slot : Slot O Key Recon Cond) (t2 : pages.Table) (between slots : List (Slot O Key Recon Cond)) (events : List _) → get_or s.slots.items seat Free ≡ slot → StepsFrom m s.table t2 s.slots.items between seat outs.Put slot →
        slots ≡ set between seat Free → TellsFor m seen (seen_as events (map stage_of slots) t2 s.origin) seat outs.Put (stage_of slot)
    tells_put Free t2 between slots events e h items = absurd h
    tells_put (Scan x) t2 between slots events e h items = absurd h
    tells_put (Vacuum x) t2 between slots events e h items = absurd h
    tells_put (Insert key d) t2 between slots events e (d2, made, S) items = (
      d2,
      stage_set slots s.slots.items seat Free (set_twice s.slots.items between slots seat (Insert key d2) Free made items) (seats m s I) (low m s I seat (ap (λ (x : Slot O Key Recon Cond). is_open (stage_of x)) e)),
      at_table (λ t. StepTells m t t2 d d2 seat outs.Put) S.told,
    )

    -- what it has latched then
    pub latches_step : (out : InsertOut) (slot : Slot O Key Recon Cond) (t2 : pages.Table) (slots : List (Slot O Key Recon Cond)) → get_or s.slots.items seat Free ≡ slot → (out ≡ outs.Put → ⊥) →
        StepsFrom m s.table t2 s.slots.items slots seat out slot → LatchesAfter (seen_as s.journal.events (map stage_of slots) t2 s.origin) seat out
    latches_step out Free t2 slots e n h = absurd h
    latches_step out (Scan x) t2 slots e n h = absurd h
    latches_step out (Vacuum x) t2 slots e n h = absurd h
    latches_step out (Insert key d) t2 slots e n (d2, items, S) = go out n (S.latches (rest_of s.table seat) (its key d d2 t2 e))
      where
        at_now : HasLatches {O = O} {Key = Key} {Recon = Recon} {Cond = Cond} t2 seat (descending key d2) → HasLatches t2 seat (stage_in (map stage_of slots) seat)
        at_now h = subst (λ (x : Stage O Key Recon Cond). HasLatches t2 seat x) (sym (moved_by d d2 key t2 slots e items).1) h

        go : (o : InsertOut) → (o ≡ outs.Put → ⊥) → HoldsAfter t2 seat (rest_of s.table seat) d2 o → LatchesAfter (seen_as s.journal.events (map stage_of slots) t2 s.origin) seat o
        go outs.Descended n H = at_now ((latches_law O Key Recon Cond).ends s.table t2 seat _ H)
        go outs.Restructured n H = at_now ((latches_law O Key Recon Cond).ends s.table t2 seat _ H)
        go (outs.Restarted block by) n H = none_held s.table t2 seat H.0
        go outs.Put n H = absurd (n refl)

    pub latches_put : (slot : Slot O Key Recon Cond) (t2 : pages.Table) (slots : List (Slot O Key Recon Cond)) → get_or s.slots.items seat Free ≡ slot → StepsFrom m s.table t2 s.slots.items slots seat outs.Put slot → HasNone t2 seat
    latches_put Free t2 slots e h = absurd h
    latches_put (Scan x) t2 slots e h = absurd h
    latches_put (Vacuum x) t2 slots e h = absurd h
    latches_put (Insert key d) t2 slots e (d2, items, S) = none_held s.table t2 seat (S.latches (rest_of s.table seat) (its key d d2 t2 e))

    pub others_step : (out : InsertOut) (slot : Slot O Key Recon Cond) (t2 : pages.Table) (slots : List (Slot O Key Recon Cond)) → get_or s.slots.items seat Free ≡ slot → StepsFrom m s.table t2 s.slots.items slots seat out slot → OthersHold seen.table t2 seat
    others_step out Free t2 slots e h = absurd h
    others_step out (Scan x) t2 slots e h = absurd h
    others_step out (Vacuum x) t2 slots e h = absurd h
    others_step out (Insert key d) t2 slots e (d2, items, S) = at_table (λ t. OthersHold t t2 seat) (others_hold key d d2 t2 e out (S.latches (rest_of s.table seat) (its key d d2 t2 e)))

    -- which blocks it may change
    pub within_step : (out : InsertOut) (slot : Slot O Key Recon Cond) (t2 : pages.Table) (slots : List (Slot O Key Recon Cond)) → get_or s.slots.items seat Free ≡ slot → StepsFrom m s.table t2 s.slots.items slots seat out slot → ChangesHeld seen.table t2 seat
    within_step out Free t2 slots e h = absurd h
    within_step out (Scan x) t2 slots e h = absurd h
    within_step out (Vacuum x) t2 slots e h = absurd h
    within_step out (Insert key d) t2 slots e (d2, items, S) = at_table (λ t. ChangesHeld t t2 seat) (section_changes m (fields_of s) I seat key d (at_stage key d d2 t2 e) t2 d2 out S)

    -- no page is lost
    pub grows_step : (out : InsertOut) (slot : Slot O Key Recon Cond) (t2 : pages.Table) (slots : List (Slot O Key Recon Cond)) → get_or s.slots.items seat Free ≡ slot → StepsFrom m s.table t2 s.slots.items slots seat out slot → Grows seen.table t2
    grows_step out Free t2 slots e h = absurd h
    grows_step out (Scan x) t2 slots e h = absurd h
    grows_step out (Vacuum x) t2 slots e h = absurd h
    grows_step out (Insert key d) t2 slots e (d2, items, S) = at_table (λ t. Grows t t2) (section_grows m (fields_of s) I seat key d (at_stage key d d2 t2 e) t2 d2 out S)

    -- one of the sections that may come is taken
    ends_seen : (key : Option Key) (d : Descending Recon) (n : ℕ) → get_or s.slots.items seat Free ≡ Insert key d → SeatEnds m seen seat n → EndsWithin m s.table d n
    ends_seen key d n e h = subst (λ (t : pages.Table). StageEnds {O = O} m t n (descending key d)) (table_is s seen view 0) (subst (λ (st : Stage O Key Recon Cond). StageEnds m seen.table n st) (stage_is s seen view seat ∙ ap stage_of e) h)

    pub ends_step : (out : InsertOut) (slot : Slot O Key Recon Cond) (t2 : pages.Table) (slots : List (Slot O Key Recon Cond)) → get_or s.slots.items seat Free ≡ slot → (out ≡ outs.Put → ⊥) →
        StepsFrom m s.table t2 s.slots.items slots seat out slot → (n : ℕ) → SeatEnds m seen seat (suc n) → SeatThenEnds m (seen_as s.journal.events (map stage_of slots) t2 s.origin) seat n out
    ends_step out Free t2 slots e no_put h n was = absurd h
    ends_step out (Scan x) t2 slots e no_put h n was = absurd h
    ends_step out (Vacuum x) t2 slots e no_put h n was = absurd h
    ends_step outs.Descended (Insert key d) t2 slots e no_put (d2, items, S) n was = subst (λ (st : Stage O Key Recon Cond). StageEnds m t2 n st) (sym (moved_by d d2 key t2 slots e items).1) (S.ends n (ends_seen key d (suc n) e was))
    ends_step outs.Restructured (Insert key d) t2 slots e no_put (d2, items, S) n was = subst (λ (st : Stage O Key Recon Cond). StageEnds m t2 n st) (sym (moved_by d d2 key t2 slots e items).1) (S.ends n (ends_seen key d (suc n) e was))
    ends_step (outs.Restarted block by) (Insert key d) t2 slots e no_put h n was = tt
    ends_step outs.Put (Insert key d) t2 slots e no_put h n was = absurd (no_put refl)

    -- and at most one inner tuple is made
    pub makes_step : (out : InsertOut) (slot : Slot O Key Recon Cond) (t2 : pages.Table) (slots : List (Slot O Key Recon Cond)) → StepsFrom m s.table t2 s.slots.items slots seat out slot → MakesAtMostOne seen.table t2
    makes_step out Free t2 slots h = absurd h
    makes_step out (Scan x) t2 slots h = absurd h
    makes_step out (Vacuum x) t2 slots h = absurd h
    makes_step out (Insert key d) t2 slots (d2, items, S) = at_table (λ t. MakesAtMostOne t t2) S.makes
