-- What a call does, as its callers see it, is what it does to some fields; so any list of calls keeps all.
use Rattle.std.proofs.Common.{◌≡◌, ◌≢◌, ◌++◌, ◌||◌, ◌&&◌, ◌<◌, ◌^◌, ◌↔◌, inl, inr, ℕ, Bool, true, false, cond, nat_eq, List, [], ◌∷◌, Option, Some, None, IsSome, length, reverse, refl, sym, ap, ◌∙◌, subst, arith}
use Rattle.std.proofs.lemmas.Bool.{false≢true, eqb-true, eqb-false}
use Rattle.std.proofs.lemmas.List.{append_assoc, append-nil}
use Rattle.spg_base.specs.Row.{RowAt, same_row}
use Rattle.spg_opclass.specs.Meaning.{Meaning}
use Rattle.spg_opclass.specs.Laws.{AddLaw, SplitLaw, KeptLaw, CodeLaw}
use Rattle.spg_opclass.specs.declared.copied.Copied.{Copied}
use Rattle.spg_opclass.specs.declared.query.Query.{Query}
use Rattle.spg_forest.specs.View.{Leaf}
use Rattle.spg_forest.specs.Spot.{Spot, Branch, Bucket, Forward, Nothing}
use Rattle.spg_forest.specs.Sheets.{Sheets}
use Rattle.spg_forest.specs.Shape.{spots}
use Rattle.spg_rows.specs.declared.event.Event.{Event}
use Rattle.spg_rows.specs.declared.event.Event.TheVariants as event
use Rattle.spg_rows.specs.declared.event.Why.{Why}
use Rattle.spg_rows.specs.declared.table.RowState.{RowState}
use Rattle.spg_rows.specs.declared.table.RowState.TheVariants as row_state
use Rattle.spg_rows.specs.declared.table.Stand.TheVariants as stand
use Rattle.spg_rows.specs.declared.table.RowEntry.{RowEntry}
use Rattle.spg_rows.specs.History.{History, own, inserting, open_of}
use Rattle.spg_rows.specs.Lives.{lives}
use Rattle.spg_rows.specs.Rows.{state_of}
use Rattle.spg_rows.specs.Targets.{is_killed, killed_before}
use Rattle.spg_rows.specs.Vacuums.{newest_ends, ended_by}
use Rattle.spg_rows.specs.Table as rows
use Rattle.spg_rows.proofs.Histories.{sane_from_legal}
use Rattle.spg_rows.proofs.RowOrder.{row-equal}
use Rattle.spg_rows.proofs.Tables.{sets_state, sets_key, has_entry}
use Rattle.spg_tree.specs.Table as pages
use Rattle.spg_tree.specs.Table.{sheets_of, latch_at}
use Rattle.spg_tree.specs.Descents.{Descending}
use Rattle.spg_descend.specs.Enters.{opened_for}
use Rattle.spg_scan.specs.Items as items
use Rattle.spg_scan.specs.Items.{Item}
use Rattle.spg_scan.specs.Scanning.{Scanning, is_live, asks_for, opened, taken_of}
use Rattle.spg_scan.specs.Reading.{ReadsSpot, ReadsItem, CopiesSpot, Reads, IsReadOut, live_leaves}
use Rattle.spg_scan.specs.Copying.{Copies, IsCopyOut}
use Rattle.spg_forest.specs.Classes.{key_of}
use Rattle.spg_scan.specs.declared.scan_copy.ScanCopy.{ScanCopy}
use Rattle.spg_scan.specs.declared.scan_copy.ScanCopy.TheVariants as copy_out
use Rattle.spg_scan.specs.declared.walk.ReadOut.{ReadOut}
use Rattle.spg_scan.specs.declared.walk.ReadOut.TheVariants as read_out
use Rattle.spg_vacuum.specs.declared.vacuum.Vacuum.{Vacuum}
use Rattle.spg_seats.specs.Latching.{HoldsNone, other_than, rest_of}
use Rattle.spg_seats.specs.Opening.{opened_vacuum, SameRows, sweeps, is_among}
use Rattle.spg_seats.specs.Slots.{Stage, free, descending, reading, sweeping, stage_in, open_count, horizon_of, Fields, IsKept}
use Rattle.spg_seats.proofs.SweptRows.{among_has}
use Rattle.spg_core.specs.declared.answer.InsertOut.{InsertOut}
use Rattle.spg_core.specs.declared.answer.InsertOut.TheVariants as outs
use Rattle.spg_core.specs.declared.answer.VacuumOut.{VacuumOut}
use Rattle.spg_core.specs.declared.answer.VacuumOut.TheVariants as work
use Rattle.spg_core.specs.Stage.{given_up}
use Rattle.spg_core.specs.Seen.{Seen, stage_at, moved, logged, logged_all, untouched}
use Rattle.spg_core.specs.Sections.{HasNone, OthersHold, ReadsFor, AreTargets, IsAfterWork}
use Rattle.spg_core.specs.Looking.{CopiesFor, SiftsFor}
use Rattle.spg_core.specs.Sweeping.{DoesWork, KeepsWork}
use Rattle.spg_core.specs.Telling.{StepDone}
use Rattle.spg_core.specs.Runs.{Call, refused, opens_insert, steps, kills, opens_scan, reads, copies, sifts, closes, drops, leaves, opens_vacuum, works, events_of, events_by, Goes, WorksTo, IsLeft, Does}
use Rattle.spg_core.specs.Calls.{InsertsTo, IsShortAfter, IsCall, shown, IsWhole, CallsKeep}
use Rattle.spg_core.proofs.Books.{claimed, without, dropped, restand, restand_state, restand_keys}
use Rattle.spg_core.proofs.Keeping.{stage_fits}
use Rattle.spg_core.proofs.Opens.{live_state}
use Rattle.spg_core.proofs.Vacuumed.{work_swept}
use Rattle.spg_core.proofs.Runs.{own_append, own_events, longer, one_keeps}
use Rattle.spg_core.proofs.Bounded.{one_bounded}

-- ---- the same by another table of rows that tells the same states

module _ {O Key Recon Cond : Type 0} (m : Meaning Key Recon Cond) (t t2 : rows.Table O Key Recon Cond) (same : (row : RowAt) → rows.state_in t row ≡ rows.state_in t2 row) where
  taken_as : (query : Query O Key Recon Cond) (r : Option Recon) (ls : List Leaf) → taken_of m t query r ls ≡ taken_of m t2 query r ls
  taken_as query r [] = refl
  taken_as query r (l ∷ ls) = ap (λ (x : RowState). cond (is_live x && asks_for m query (key_of m r l.rest)) (l.row ∷ taken_of m t query r ls) (taken_of m t query r ls)) (same l.row)
      ∙ ap (λ (xs : List RowAt). cond (is_live (rows.state_in t2 l.row) && asks_for m query (key_of m r l.rest)) (l.row ∷ xs) xs) (taken_as query r ls)

  live_as : (ls : List Leaf) → live_leaves t ls ≡ live_leaves t2 ls
  live_as [] = refl
  live_as (l ∷ ls) = ap (λ (x : RowState). cond (is_live x) (l ∷ live_leaves t ls) (live_leaves t ls)) (same l.row) ∙ ap (λ (xs : List Leaf). cond (is_live (rows.state_in t2 l.row)) (l ∷ xs) xs) (live_as ls)

  spot_as : (query : Query O Key Recon Cond) (r : Option Recon) (spot : Spot) (ys : List (Item Recon)) (found : List RowAt) → ReadsSpot m t query r spot ys found → ReadsSpot m t2 query r spot ys found
  spot_as query r (Branch w ns) ys found h = h
  spot_as query r (Bucket ls) ys found h = (h.0, h.1 ∙ taken_as query r ls)
  spot_as query r (Forward y u) ys found h = h
  spot_as query r Nothing ys found h = h

  read_as : (S : Sheets) (query : Query O Key Recon Cond) (it : Item Recon) (ys : List (Item Recon)) (found : List RowAt) → ReadsItem m S t query it ys found → ReadsItem m S t2 query it ys found
  read_as S query (items.held x r) ys found h = spot_as query r (spots S x) ys found h
  read_as S query (items.inner q w ns) ys found h = h
  read_as S query (items.leaves q ls) ys found h = h

  reads_as : (S : Sheets) (q q2 : Scanning O Key Recon Cond) (i : ℕ) → Reads m S t q q2 i → Reads m S t2 q q2 i
  reads_as S q q2 i R = record { item = R.item; items = R.items; found = R.found; at = R.at; reads = read_as S q.query R.item R.items R.found R.reads; after = R.after }

  copy_as : (r : Option Recon) (spot : Spot) (ys : List (Item Recon)) (found : List RowAt) → CopiesSpot t r spot ys found → CopiesSpot t2 r spot ys found
  copy_as r (Branch w ns) ys found h = h
  copy_as r (Bucket ls) ys found h = (h.0 ∙ ap (λ (xs : List Leaf). items.leaves r xs ∷ []) (live_as ls), h.1)
  copy_as r (Forward y u) ys found h = h
  copy_as r Nothing ys found h = h

  copies_as : (S : Sheets) (q q2 : Scanning O Key Recon Cond) (i : ℕ) (copied : Copied O Key Recon Cond) → Copies S t q q2 i copied → Copies S t2 q q2 i copied
  copies_as S q q2 i copied C = record { place = C.place; recon = C.recon; item = C.item; at = C.at; meant = C.meant; copies = copy_as C.recon (spots S C.place) (C.item ∷ []) [] C.copies; after = C.after; kept = C.kept }

  read_out_as : (p : pages.Table) (q q2 : Scanning O Key Recon Cond) (i seat : ℕ) (out : ReadOut) → IsReadOut m p t q q2 i seat out → IsReadOut m p t2 q q2 i seat out
  read_out_as p q q2 i seat read_out.Read (alone, R) = (alone, reads_as (sheets_of p) q q2 i R)
  read_out_as p q q2 i seat (read_out.Latched block by) h = h

  copy_out_as : (p : pages.Table) (q q2 : Scanning O Key Recon Cond) (i seat : ℕ) (out : ScanCopy O Key Recon Cond) → IsCopyOut m p t q q2 i seat out → IsCopyOut m p t2 q q2 i seat out
  copy_out_as p q q2 i seat copy_out.Read (alone, plain, R) = (alone, plain, reads_as (sheets_of p) q q2 i R)
  copy_out_as p q q2 i seat (copy_out.Latched block by) h = h
  copy_out_as p q q2 i seat (copy_out.Sift copied) (inl h) = inl h
  copy_out_as p q q2 i seat (copy_out.Sift copied) (inr (alone, C)) = inr (alone, copies_as (sheets_of p) q q2 i copied C)

-- ---- latches

-- what the others have latched is as it was
rest_same : (seat : ℕ) (l l2 : Option ℕ) → ((other : ℕ) → other ≢ seat → (l2 ≡ Some other) ↔ (l ≡ Some other)) → (l2 ≡ Some seat → ⊥) → l2 ≡ other_than seat l
rest_same seat None None others none = refl
rest_same seat None (Some by) others none = absurd (cc ((others by (λ e. none (ap (λ n. Some n) e))).0 refl))
rest_same seat (Some by) None others none = go (nat_eq by seat) refl
  where
    go : (b : Bool) → nat_eq by seat ≡ b → ◌≡◌ {A = Option ℕ} None (cond b None (Some by))
    go true e = refl
    go false e = (others by (eqb-false by seat e)).1 refl
rest_same seat (Some by) (Some n) others none = go (nat_eq by seat) refl
  where
    apart : n ≡ seat → ⊥
    apart e = none (ap (λ k. Some k) e)

    same : by ≡ n
    same = cc ((others n apart).0 refl)

    go : (b : Bool) → nat_eq by seat ≡ b → ◌≡◌ {A = Option ℕ} (Some n) (cond b None (Some by))
    go true e = absurd (apart (sym same ∙ eqb-true by seat e))
    go false e = ap (λ k. Some k) (sym same)

none_held : (t t2 : pages.Table) (seat : ℕ) → HasNone t2 seat → OthersHold t t2 seat → HoldsNone t2 seat (rest_of t seat)
none_held t t2 seat none others =
    let same : (b : ℕ) → latch_at t2 b ≡ rest_of t seat b = λ b. rest_same seat (latch_at t b) (latch_at t2 b) (λ other apart. others other b apart) (none b) in
    record { latch = same; free = λ b e. absurd (false≢true e); others = λ b e. none b (same b ∙ e) }

-- ---- tests that agree are one

one_test : (f g : RowAt → Bool) → ((r : RowAt) → f r ≡ g r) → f ≡ g
one_test f g same = λ i r. same r i

module _ {O Key Recon Cond : Type 0} (m : Meaning Key Recon Cond) where
  -- what is seen, with these rows, sets and vacuums, and just the room that it needs
  abbrev with_books : Seen O Key Recon Cond → rows.Table O Key Recon Cond → (RowAt → Bool) → (RowAt → Bool) → List (ℕ × Option ℕ) → Fields O Key Recon Cond
  with_books seen table targets later vacuums = record { journal = seen.journal; spare = open_count seen.stages; stages = seen.stages; table = seen.table; rows = table; targets = targets; later = later; vacuums = vacuums; origin = seen.origin }

  abbrev class_in : Seen O Key Recon Cond → Option O
  class_in seen = seen.class

  -- a call does this to some fields that show what is seen
  abbrev DoesSome : Option O → Fields O Key Recon Cond → Seen O Key Recon Cond → ℕ → Call O Key Recon Cond → Type 0
  DoesSome k s new seat call = (s2 : Fields O Key Recon Cond) × (shown k s2 ≡ new) × Does m s s2 seat call

  module _ (k : Option O) (s : Fields O Key Recon Cond) (kept : IsKept m s) (new : Seen O Key Recon Cond) (seat : ℕ) where
    abbrev past : History O Key Recon Cond
    past = reverse s.journal

    module _ (table : rows.Table O Key Recon Cond) (targets later : RowAt → Bool) (vacuums : List (ℕ × Option ℕ)) where
      is_shown : new.class ≡ k → shown k (with_books new table targets later vacuums) ≡ new
      is_shown same = λ i. record new { class = sym same i }

      goes_on : (stage : Stage O Key Recon Cond) (es : List (Event O Key Recon Cond)) (t : pages.Table) → new ≡ logged_all (shown k s) seat es stage t → stage_at new seat ≡ stage → Goes s (with_books new table targets later vacuums) seat stage es
      goes_on stage es t is here = record {
        journal = ap (λ (v : Seen O Key Recon Cond). v.journal) is;
        stages = ap (λ (v : Seen O Key Recon Cond). v.stages) is;
        here = here;
        origin = ap (λ (v : Seen O Key Recon Cond). v.origin) is;
        room = omega arith;
      }

    abbrev still : Fields O Key Recon Cond
    still = with_books new s.rows s.targets s.later s.vacuums

    same_rows : SameRows s still
    same_rows = record { rows = refl; targets = λ r. refl; later = λ r. refl; vacuums = refl }

    goes_still : (stage : Stage O Key Recon Cond) (t : pages.Table) → new ≡ moved (shown k s) seat stage t → stage_at new seat ≡ stage → Goes s still seat stage []
    goes_still stage t is here = record {
      journal = ap (λ (v : Seen O Key Recon Cond). v.journal) is ∙ sym (append-nil s.journal);
      stages = ap (λ (v : Seen O Key Recon Cond). v.stages) is;
      here = here;
      origin = ap (λ (v : Seen O Key Recon Cond). v.origin) is;
      room = omega arith;
    }

    table_then : (stage : Stage O Key Recon Cond) (es : List (Event O Key Recon Cond)) (t : pages.Table) → new ≡ logged_all (shown k s) seat es stage t → new.table ≡ t
    table_then stage es t is = ap (λ (v : Seen O Key Recon Cond). v.table) is

    -- ---- inserts

    present : (row : RowAt) (state : RowState) → state_of row past ≡ state → (row_state.Free ≡ state → ⊥) → (r : RowAt) → same_row row r ≡ true → IsSome (rows.entry_in s.rows r)
    present row state is taken r e = subst (λ (q : RowAt). IsSome (rows.entry_in s.rows q)) (row-equal row r e) (has_entry s.rows row state (kept.tells.states row ∙ is) taken)

    inserts : (key : Option Key) (d d2 : Descending Recon) (row : RowAt) → stage_in s.stages seat ≡ descending key d → d.row ≡ row → (out : InsertOut) → StepDone m s.table new.table d d2 seat out → InsertsTo (shown k s) new seat key d d2 out → DoesSome k s new seat (steps row out)
    inserts key d d2 row here of outs.Descended S (is, at) = (still, is_shown s.rows s.targets s.later s.vacuums (ap class_in is), (key, d, d2, here, of, S, (goes_still (descending key d2) new.table is at, same_rows)))
    inserts key d d2 row here of outs.Restructured S (is, at) = (still, is_shown s.rows s.targets s.later s.vacuums (ap class_in is), (key, d, d2, here, of, S, (goes_still (descending key d2) new.table is at, same_rows)))
    inserts key d d2 row here of (outs.Restarted block by) S (is, at) = (still, is_shown s.rows s.targets s.later s.vacuums (ap class_in is), (key, d, d2, here, of, S, (goes_still (descending key d2) new.table is at, same_rows)))
    inserts key d d2 row here of outs.Put S (is, at) =
        let has : open_of seat past ≡ inserting d.row key = (stage_fits m s kept seat (descending key d) here).0 in
        let claimed_now = ((sane_from_legal past kept.right.legal).inserts seat d.row key has).state in
        let table = restand (same_row d.row) stand.Live s.rows in (
          with_books new table s.targets s.later s.vacuums,
          is_shown table s.targets s.later s.vacuums (ap class_in is),
          (
            key,
            d,
            d2,
            here,
            of,
            S,
            (
              goes_on table s.targets s.later s.vacuums free (event.Put seat d.row ∷ []) new.table is at,
              record {
                row = (restand_state (same_row d.row) stand.Live s.rows (present d.row row_state.Claimed claimed_now (λ e. cc e)), restand_keys (same_row d.row) stand.Live s.rows);
                targets = (λ r. refl, λ r. refl);
                vacuums = refl;
              },
            ),
          ),
        )

    -- ---- scans

    reading_read : (item : ℕ) (out : ReadOut) (stage : Stage O Key Recon Cond) → stage_in s.stages seat ≡ stage → ReadsFor m (shown k s) new seat item out stage → DoesSome k s new seat (reads item out)
    reading_read item out free here h = absurd h
    reading_read item out (descending key d) here h = absurd h
    reading_read item out (reading q) here (q2, table, states, R, is, at) = (still, is_shown s.rows s.targets s.later s.vacuums (ap class_in is), (q, q2, here, read_out_as m table s.rows (λ row. states row ∙ sym (kept.tells.states row)) s.table q q2 item seat out R, goes_still (reading q2) (untouched s.table) is at, ap (λ (v : Seen O Key Recon Cond). v.table) is, same_rows))
    reading_read item out (sweeping v) here h = absurd h

    reading_copied : (item : ℕ) (out : ScanCopy O Key Recon Cond) (stage : Stage O Key Recon Cond) → stage_in s.stages seat ≡ stage → CopiesFor m (shown k s) new seat item out stage → DoesSome k s new seat (copies item out)
    reading_copied item out free here h = absurd h
    reading_copied item out (descending key d) here h = absurd h
    reading_copied item out (reading q) here (q2, table, states, C, is, at) = (still, is_shown s.rows s.targets s.later s.vacuums (ap class_in is), (q, q2, here, copy_out_as m table s.rows (λ row. states row ∙ sym (kept.tells.states row)) s.table q q2 item seat out C, goes_still (reading q2) (untouched s.table) is at, ap (λ (v : Seen O Key Recon Cond). v.table) is, same_rows))
    reading_copied item out (sweeping v) here h = absurd h

    reading_sifted : (item : ℕ) (copied : Copied O Key Recon Cond) (stage : Stage O Key Recon Cond) → stage_in s.stages seat ≡ stage → SiftsFor m (shown k s) new seat item copied stage → DoesSome k s new seat (sifts item copied)
    reading_sifted item copied free here h = absurd h
    reading_sifted item copied (descending key d) here h = absurd h
    reading_sifted item copied (reading q) here (q2, T, is, at) = (still, is_shown s.rows s.targets s.later s.vacuums (ap class_in is), (q, q2, here, T, goes_still (reading q2) (untouched s.table) is at, ap (λ (v : Seen O Key Recon Cond). v.table) is, same_rows))
    reading_sifted item copied (sweeping v) here h = absurd h

    -- ---- vacuums

    -- the targets of the vacuum are those that are kept
    targets_are : (v : Vacuum) (test : RowAt → Bool) → stage_in s.stages seat ≡ sweeping v → AreTargets test v.at (shown k s) → test ≡ s.targets
    targets_are v test here T =
        let (before, has, V) = stage_fits m s kept seat (sweeping v) here in
        one_test test s.targets (λ r. T r ∙ ap (λ n. killed_before n (state_of r past)) V.at ∙ sym (kept.tells.kills.early seat before has r))

    -- a row that it sweeps has an entry in the table
    swept_present : (v v2 : Vacuum) (horizon : ℕ) (out : VacuumOut) (swept : List RowAt) → DoesWork s.table new.table v v2 s.targets horizon seat out swept → (r : RowAt) → is_among swept r ≡ true → IsSome (rows.entry_in s.rows r)
    swept_present v v2 horizon out swept D r e =
        let target : s.targets r ≡ true = (work_swept m s.table new.table s.targets horizon kept.tells.holds.shape v v2 seat out swept D).0 r (among_has swept r e) in
        let killed : is_killed (state_of r past) ≡ true = sym (kept.tells.kills.killed r) ∙ ap (λ b. b || s.later r) target in
        has_entry s.rows r (state_of r past) (kept.tells.states r) (λ is. false≢true (ap is_killed is ∙ killed))

    sweeps_on : (v v2 : Vacuum) (swept : List RowAt) → ((r : RowAt) → is_among swept r ≡ true → IsSome (rows.entry_in s.rows r)) → new ≡ logged_all (shown k s) seat (sweeps seat swept) (sweeping v2) new.table → stage_at new seat ≡ sweeping v2 → length new.journal < 2 ^ 64 →
        (s2 : Fields O Key Recon Cond) × (shown k s2 ≡ new) × WorksTo s s2 seat v v2 swept work.Block
    sweeps_on v v2 swept there is at short =
        let table = restand (is_among swept) (stand.Swept v.at) s.rows in
        let targets : RowAt → Bool = λ r. cond (is_among swept r) false (s.targets r) in (
          with_books new table targets s.later s.vacuums,
          is_shown table targets s.later s.vacuums (ap class_in is),
          (
            goes_on table targets s.later s.vacuums (sweeping v2) (sweeps seat swept) new.table is at,
            record { states = restand_state (is_among swept) (stand.Swept v.at) s.rows there; keys = restand_keys (is_among swept) (stand.Swept v.at) s.rows; targets = λ r. refl; later = λ r. refl; vacuums = refl },
            short,
          ),
        )

    vacuum_works : (v v2 : Vacuum) (swept : List RowAt) (out : VacuumOut) → DoesWork s.table new.table v v2 s.targets (horizon_of s.stages v.stamp) seat out swept → IsAfterWork (shown k s) new seat v2 swept out → IsShortAfter out new → (s2 : Fields O Key Recon Cond) × (shown k s2 ≡ new) × WorksTo s s2 seat v v2 swept out
    vacuum_works v v2 swept work.Block D (is, at) short = sweeps_on v v2 swept (swept_present v v2 (horizon_of s.stages v.stamp) work.Block swept D) is at short
    vacuum_works v v2 swept work.Pending D (is, at) short = sweeps_on v v2 swept (swept_present v v2 (horizon_of s.stages v.stamp) work.Pending swept D) is at short
    vacuum_works v v2 swept (work.Latched block by) D (is, at) short = (still, is_shown s.rows s.targets s.later s.vacuums (ap class_in is), (goes_still (sweeping v2) new.table is at, same_rows))
    vacuum_works v v2 swept (work.Finished count) D (is, at) short = (
      with_books new s.rows s.targets s.later (newest_ends (length past) s.vacuums),
      is_shown s.rows s.targets s.later (newest_ends (length past) s.vacuums) (ap class_in is),
      (goes_on s.rows s.targets s.later (newest_ends (length past) s.vacuums) free (event.CloseVacuum seat count ∷ []) new.table is at, record { rows = refl; targets = λ r. refl; later = λ r. refl; vacuums = refl }),
    )

    -- ---- what is given up

    left_event : (stage : Stage O Key Recon Cond) (why : Why) → IsLeft stage → given_up seat stage why ≡ event.Leave seat
    left_event free why left = absurd left
    left_event (descending key d) why left = absurd left
    left_event (reading q) why left = refl
    left_event (sweeping v) why left = refl

    -- ---- any call

    one_seen : (call : Call O Key Recon Cond) → IsCall m (shown k s) new seat call → DoesSome k s new seat call
    one_seen refused is = (s, sym is, (s.spare, omega arith, refl))
    one_seen (opens_insert row key) (none, unclaimed, carries, (is, at)) =
        let entry : RowEntry O Key Recon Cond = record { stand = stand.Claimed; key = key } in
        let table : rows.Table O Key Recon Cond = (row, entry) ∷ s.rows in
        let stage : Stage O Key Recon Cond = descending key (opened_for m row key) in
        let es : List (Event O Key Recon Cond) = event.OpenInsert seat row key ∷ [] in (
          with_books new table s.targets s.later s.vacuums,
          is_shown table s.targets s.later s.vacuums (ap class_in is),
          (
            none,
            unclaimed,
            carries,
            goes_on table s.targets s.later s.vacuums stage es (untouched s.table) is at,
            table_then stage es (untouched s.table) is,
            record {
              row = (sets_state s.rows table row (Some entry) (claimed row entry s.rows), sets_key s.rows table row (Some entry) (claimed row entry s.rows));
              targets = (λ r. refl, λ r. refl);
              vacuums = refl;
            },
          ),
        )
    one_seen (steps row out) (key, d, d2, here, of, S, to) = inserts key d d2 row here of out S to
    one_seen (kills row) (none, (live, is, at)) =
        let table = restand (same_row row) (stand.Killed (length past)) s.rows in
        let later : RowAt → Bool = λ r. cond (same_row row r) true (s.later r) in
        let es : List (Event O Key Recon Cond) = event.Kill seat row ∷ [] in (
          with_books new table s.targets later s.vacuums,
          is_shown table s.targets later s.vacuums (ap class_in is),
          (
            none,
            live_state (state_of row past) (lives row past) ((sane_from_legal past kept.right.legal).says row) live,
            goes_on table s.targets later s.vacuums free es (untouched s.table) is at,
            table_then free es (untouched s.table) is,
            record {
              row = (restand_state (same_row row) (stand.Killed (length past)) s.rows (present row row_state.Live live (λ e. cc e)), restand_keys (same_row row) (stand.Killed (length past)) s.rows);
              targets = (λ r. refl, λ r. refl);
              vacuums = refl;
            },
          ),
        )
    one_seen (opens_scan query) (none, (is, at)) =
        let stage : Stage O Key Recon Cond = reading (opened m query (length s.journal) s.table.clock) in
        let es : List (Event O Key Recon Cond) = event.OpenScan seat query ∷ [] in
        (still, is_shown s.rows s.targets s.later s.vacuums (ap class_in is), (none, goes_on s.rows s.targets s.later s.vacuums stage es (untouched s.table) is at, table_then stage es (untouched s.table) is, same_rows))
    one_seen (reads item out) h = reading_read item out (stage_in s.stages seat) refl h
    one_seen (copies item out) h = reading_copied item out (stage_in s.stages seat) refl h
    one_seen (sifts item copied) h = reading_sifted item copied (stage_in s.stages seat) refl h
    one_seen (closes closed) (q, here, empty, C, (is, at, met)) =
        let es : List (Event O Key Recon Cond) = event.CloseScan seat closed.rows ∷ [] in
        (still, is_shown s.rows s.targets s.later s.vacuums (ap class_in is), (q, here, empty, C, goes_on s.rows s.targets s.later s.vacuums free es (untouched s.table) is at, table_then free es (untouched s.table) is, same_rows))
    one_seen (drops row why) (key, d, here, of, may, G) =
        let table = without row s.rows in
        let es : List (Event O Key Recon Cond) = event.Drop seat row why ∷ [] in
        let is : new ≡ logged (shown k s) seat (event.Drop seat row why) free new.table = G.is ∙ ap (λ (x : Stage O Key Recon Cond). logged (shown k s) seat (given_up seat x why) free new.table) here ∙ ap (λ r. logged (shown k s) seat (event.Drop seat r why) free new.table) of in (
          with_books new table s.targets s.later s.vacuums,
          is_shown table s.targets s.later s.vacuums (ap class_in is),
          (
            key,
            d,
            here,
            of,
            may,
            goes_on table s.targets s.later s.vacuums free es new.table is G.stage,
            (record s.table { latches = new.table.latches }, refl, G.table),
            none_held s.table new.table seat G.latches G.others,
            record {
              row = (sets_state s.rows table row None (dropped row s.rows), sets_key s.rows table row None (dropped row s.rows));
              targets = (λ r. refl, λ r. refl);
              vacuums = refl;
            },
          ),
        )
    one_seen leaves (left, why, G) =
        let es : List (Event O Key Recon Cond) = event.Leave seat ∷ [] in
        let vacuums = ended_by (open_of seat past) (length past) s.vacuums in
        let is : new ≡ logged (shown k s) seat (event.Leave seat) free new.table = G.is ∙ ap (λ e. logged (shown k s) seat e free new.table) (left_event (stage_in s.stages seat) why left) in (
          with_books new s.rows s.targets s.later vacuums,
          is_shown s.rows s.targets s.later vacuums (ap class_in is),
          (left, goes_on s.rows s.targets s.later vacuums free es new.table is G.stage, (record s.table { latches = new.table.latches }, refl, G.table), none_held s.table new.table seat G.latches G.others, record { row = refl; targets = (λ r. refl, λ r. refl); vacuums = refl }),
        )
    one_seen opens_vacuum (none, alone, (is, at)) =
        let stage : Stage O Key Recon Cond = sweeping (opened_vacuum (length s.journal) s.table.clock) in
        let es : List (Event O Key Recon Cond) = event.OpenVacuum seat ∷ [] in
        let targets : RowAt → Bool = λ r. s.targets r || s.later r in
        let none_later : RowAt → Bool = λ r. false in
        let vacuums : List (ℕ × Option ℕ) = (length past, None) ∷ s.vacuums in (
          with_books new s.rows targets none_later vacuums,
          is_shown s.rows targets none_later vacuums (ap class_in is),
          (none, alone, goes_on s.rows targets none_later vacuums stage es (untouched s.table) is at, table_then stage es (untouched s.table) is, record { row = refl; targets = (λ r. refl, λ r. refl); vacuums = refl }),
        )
    one_seen (works out swept) (v, v2, test, here, T, D, K, after, short) =
        let e : test ≡ s.targets = targets_are v test here T in
        let D2 = subst (λ (f : RowAt → Bool). DoesWork s.table new.table v v2 f (horizon_of s.stages v.stamp) seat out swept) e D in
        let K2 = subst (λ (f : RowAt → Bool). KeepsWork m s.table new.table v v2 f (horizon_of s.stages v.stamp) out swept) e K in
        let (s2, shows, to) = vacuum_works v v2 swept out D2 after short in
        let same : s2.table ≡ new.table = ap (λ (x : Seen O Key Recon Cond). x.table) shows in (
          s2,
          shows,
          (
            v,
            v2,
            here,
            subst (λ (t : pages.Table). DoesWork s.table t v v2 s.targets (horizon_of s.stages v.stamp) seat out swept) (sym same) D2,
            subst (λ (t : pages.Table). KeepsWork m s.table t v v2 s.targets (horizon_of s.stages v.stamp) out swept) (sym same) K2,
            to,
          ),
        )

  -- ---- any list of calls

  pub calls_keep : KeptLaw m → CodeLaw m → AddLaw m → SplitLaw m → CallsKeep O Key Recon Cond m
  calls_keep K L adds splits old new [] whole is = (subst (IsWhole m) (sym is) whole, ap class_in is, λ seat. ap (λ (v : Seen O Key Recon Cond). own seat v.journal) is ∙ sym (append-nil (own seat old.journal)))
  calls_keep K L adds splits old new ((by, call) ∷ more) (s, shows, kept, B) (next, does, rest) =
      let (s2, now, D) = one_seen old.class s kept next by call (subst (λ (v : Seen O Key Recon Cond). IsCall m v next by call) (sym shows) does) in
      let same : next.class ≡ old.class = ap class_in (sym now) in
      let whole : IsWhole m next = (s2, ap (λ c. shown c s2) same ∙ now, one_keeps m K L s s2 kept by call D, one_bounded m adds splits s s2 kept B by call D) in
      let (end, class, owns) = calls_keep K L adds splits next new more whole rest in
      let journal : next.journal ≡ old.journal ++ events_of by call = ap (λ (v : Seen O Key Recon Cond). v.journal) (sym now) ∙ longer m s s2 by call D ∙ ap (λ (v : Seen O Key Recon Cond). v.journal ++ events_of by call) shows in (
        end,
        class ∙ same,
        λ seat.
            owns seat
            ∙ ap (λ l. own seat l ++ events_by seat more) journal
            ∙ ap (λ l. l ++ events_by seat more) (own_append seat old.journal (events_of by call) ∙ ap (λ l. own seat old.journal ++ l) (own_events seat by call))
            ∙ append_assoc (own seat old.journal) (cond (nat_eq by seat) (events_of by call) []) (events_by seat more),
      )
