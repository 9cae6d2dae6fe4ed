-- What a call does to an index without its class, it does to the index with it.
use Rattle.std.proofs.Common.{◌≡◌, ℕ, Bool, true, false, suc, Option, Some, None, List, ap, subst}
use Rattle.spg_base.specs.Row.{RowAt}
use Rattle.spg_opclass.specs.Meaning.{Meaning}
use Rattle.spg_opclass.specs.declared.query.Query.{Query}
use Rattle.spg_opclass.specs.declared.copied.Copied.{Copied}
use Rattle.spg_keys.specs.declared.listing.Listed.{Listed}
use Rattle.spg_rows.specs.declared.event.Why.{Why}
use Rattle.spg_scan.specs.declared.scan_copy.ScanCopy.{ScanCopy}
use Rattle.spg_scan.specs.declared.walk.ReadOut.{ReadOut}
use Rattle.spg_scan.specs.declared.walk.Closed.{Closed}
use Rattle.spg_tree.specs.Table.{Table}
use Rattle.spg_tree.specs.Descents.{Descending}
use Rattle.spg_vacuum.specs.declared.vacuum.Vacuum.{Vacuum}
use Rattle.spg_core.specs.declared.answer.InsertOut.{InsertOut}
use Rattle.spg_core.specs.declared.answer.InsertOut.TheVariants as outs
use Rattle.spg_core.specs.declared.answer.VacuumOut.{VacuumOut}
use Rattle.spg_core.specs.declared.answer.VacuumOut.TheVariants as work
use Rattle.spg_core.specs.Stage.{Stage, free, descending, reading, sweeping}
use Rattle.spg_core.specs.Seen.{Seen, stage_at, with_class}
use Rattle.spg_core.specs.Sections.{IsNew, OpensInsert, IsAfterSection, IsOutOf, IsInsertOut, IsAtThen, TellsFor, TellsSection, LatchesAfter, KillsRow, IsHeavyFor, IsHeavy, OpensScan, ReadsFor, ReadsItem, ClosesScan, OpensVacuum, IsAfterWork, StepsFor, StepsVacuum, GivesUp}
use Rattle.spg_core.specs.Ends.{SeatEnds, SeatThenEnds}
use Rattle.spg_core.specs.Looking.{CopiesFor, SiftsFor}
use Rattle.spg_core.specs.Loading.{IsLoaded}
use Rattle.spg_core.specs.Runs.{Call, refused, opens_insert, steps, kills, opens_scan, reads, copies, sifts, closes, drops, leaves, opens_vacuum, works}
use Rattle.spg_core.specs.Calls.{InsertsTo, IsShortAfter, IsCall, Inserts, WorksOn, IsWhole, shown}

module _ {O Key Recon Cond : Type 0} (class : O) where
  abbrev classed : Seen O Key Recon Cond → Seen O Key Recon Cond
  classed seen = with_class seen class

  pub new_classed : (limit : ℕ) (seen : Seen O Key Recon Cond) → IsNew limit seen → IsNew limit (classed seen)
  new_classed limit seen N = record { journal = N.journal; stages = N.stages; table = N.table; origin = N.origin }

  pub loaded_classed : (t : Table) (es : List (Listed Key)) (seen : Seen O Key Recon Cond) → IsLoaded t es seen → IsLoaded t es (classed seen)
  loaded_classed t es seen L = record { journal = L.journal; stages = L.stages; table = L.table; origin = L.origin }

  module _ (m : Meaning Key Recon Cond) where
    pub whole_classed : (seen : Seen O Key Recon Cond) → IsWhole m seen → IsWhole m (classed seen)
    whole_classed seen (s, shows, kept, bounded) = (s, ap classed shows, kept, bounded)

    heavy_for : (seen : Seen O Key Recon Cond) (stage : Stage O Key Recon Cond) → IsHeavyFor m seen stage → IsHeavyFor m (classed seen) stage
    heavy_for seen free h = h
    heavy_for seen (descending key d) h = h
    heavy_for seen (reading s) h = h
    heavy_for seen (sweeping v) h = h

    module _ (old new : Seen O Key Recon Cond) (seat : ℕ) where
      after_section : (key : Option Key) (d : Descending Recon) (out : InsertOut) → IsAfterSection old new seat key d out → IsAfterSection (classed old) (classed new) seat key d out
      after_section key d outs.Put (is, at) = (ap classed is, at)
      after_section key d outs.Descended (d2, of, same, is, at) = (d2, of, same, ap classed is, at)
      after_section key d outs.Restructured (d2, of, is, at) = (d2, of, ap classed is, at)
      after_section key d (outs.Restarted block by) (d2, of, start, same, is, at) = (d2, of, start, same, ap classed is, at)

      out_of : (out : InsertOut) (stage : Stage O Key Recon Cond) → IsOutOf old new seat out stage → IsOutOf (classed old) (classed new) seat out stage
      out_of out free h = h
      out_of out (descending key d) (stood, after) = (stood, after_section key d out after)
      out_of out (reading s) h = h
      out_of out (sweeping v) h = h

      at_then : (key : Option Key) (d : Descending Recon) (out : InsertOut) → IsAtThen new seat key d out → IsAtThen (classed new) seat key d out
      at_then key d outs.Put h = h
      at_then key d outs.Descended h = h
      at_then key d outs.Restructured h = h
      at_then key d (outs.Restarted block by) h = h

      tells_for : (out : InsertOut) (stage : Stage O Key Recon Cond) → TellsFor m old new seat out stage → TellsFor m (classed old) (classed new) seat out stage
      tells_for out free h = h
      tells_for out (descending key d) (d2, at, told) = (d2, at_then key d2 out at, told)
      tells_for out (reading s) h = h
      tells_for out (sweeping v) h = h

      inserts_to : (key : Option Key) (d d2 : Descending Recon) (out : InsertOut) → InsertsTo old new seat key d d2 out → InsertsTo (classed old) (classed new) seat key d d2 out
      inserts_to key d d2 outs.Descended (is, at) = (ap classed is, at)
      inserts_to key d d2 outs.Restructured (is, at) = (ap classed is, at)
      inserts_to key d d2 (outs.Restarted block by) (is, at) = (ap classed is, at)
      inserts_to key d d2 outs.Put (is, at) = (ap classed is, at)

      kills_row : (row : RowAt) (killed : Bool) → KillsRow old new seat row killed → KillsRow (classed old) (classed new) seat row killed
      kills_row row true (live, is, at) = (live, ap classed is, at)
      kills_row row false (not, is) = (not, ap classed is)

      reads_for : (item : ℕ) (out : ReadOut) (stage : Stage O Key Recon Cond) → ReadsFor m old new seat item out stage → ReadsFor m (classed old) (classed new) seat item out stage
      reads_for item out free h = h
      reads_for item out (descending key d) h = h
      reads_for item out (reading s) (s2, table, states, R, is, at) = (s2, table, states, R, ap classed is, at)
      reads_for item out (sweeping v) h = h

      copies_for : (item : ℕ) (out : ScanCopy O Key Recon Cond) (stage : Stage O Key Recon Cond) → CopiesFor m old new seat item out stage → CopiesFor m (classed old) (classed new) seat item out stage
      copies_for item out free h = h
      copies_for item out (descending key d) h = h
      copies_for item out (reading s) (s2, table, states, C, is, at) = (s2, table, states, C, ap classed is, at)
      copies_for item out (sweeping v) h = h

      sifts_for : (item : ℕ) (copied : Copied O Key Recon Cond) (stage : Stage O Key Recon Cond) → SiftsFor m old new seat item copied stage → SiftsFor m (classed old) (classed new) seat item copied stage
      sifts_for item copied free h = h
      sifts_for item copied (descending key d) h = h
      sifts_for item copied (reading s) (s2, T, is, at) = (s2, T, ap classed is, at)
      sifts_for item copied (sweeping v) h = h

      closes_scan : (closed : Closed) → ClosesScan old new seat closed → ClosesScan (classed old) (classed new) seat closed
      closes_scan closed (is, at, met) = (ap classed is, at, met)

      after_work : (v : Vacuum) (swept : List RowAt) (out : VacuumOut) → IsAfterWork old new seat v swept out → IsAfterWork (classed old) (classed new) seat v swept out
      after_work v swept work.Block (is, at) = (ap classed is, at)
      after_work v swept work.Pending (is, at) = (ap classed is, at)
      after_work v swept (work.Latched block by) (is, at) = (ap classed is, at)
      after_work v swept (work.Finished count) (is, at) = (ap classed is, at)

      short_after : (out : VacuumOut) → IsShortAfter out new → IsShortAfter out (classed new)
      short_after work.Block h = h
      short_after work.Pending h = h
      short_after (work.Latched block by) h = h
      short_after (work.Finished count) h = h

      steps_for : (out : VacuumOut) (stage : Stage O Key Recon Cond) → StepsFor old new seat out stage → StepsFor (classed old) (classed new) seat out stage
      steps_for out free h = h
      steps_for out (descending key d) h = h
      steps_for out (reading s) h = h
      steps_for out (sweeping v) (v2, swept, test, T, D, after) = (v2, swept, test, T, D, after_work v2 swept out after)

      gives_up : (why : Why) → GivesUp old new seat why → GivesUp (classed old) (classed new) seat why
      gives_up why G = record { is = ap classed G.is; stage = G.stage; table = G.table; latches = G.latches; others = G.others }

      one_call : (call : Call O Key Recon Cond) → IsCall m old new seat call → IsCall m (classed old) (classed new) seat call
      one_call refused is = ap classed is
      one_call (opens_insert row key) (none, unclaimed, carries, (is, at)) = (none, unclaimed, carries, (ap classed is, at))
      one_call (steps row out) (key, d, d2, here, of, S, to) = (key, d, d2, here, of, S, inserts_to key d d2 out to)
      one_call (kills row) (none, K) = (none, kills_row row true K)
      one_call (opens_scan query) (none, (is, at)) = (none, (ap classed is, at))
      one_call (reads item out) h = reads_for item out (stage_at old seat) h
      one_call (copies item out) h = copies_for item out (stage_at old seat) h
      one_call (sifts item copied) h = sifts_for item copied (stage_at old seat) h
      one_call (closes closed) (s, here, empty, C, told) = (s, here, empty, C, closes_scan closed told)
      one_call (drops row why) (key, d, here, of, may, G) = (key, d, here, of, may, gives_up why G)
      one_call leaves (left, why, G) = (left, why, gives_up why G)
      one_call opens_vacuum (none, alone, (is, at)) = (none, alone, (ap classed is, at))
      one_call (works out swept) (v, v2, test, here, T, D, K, after, short) = (v, v2, test, here, T, D, K, after_work v2 swept out after, short_after out short)

      -- ---- what a contract tells, of the state whose value this is

      module _ (seen : Seen O Key Recon Cond) (view : classed old ≡ seen) where
        pub opens_insert_of : (row : RowAt) (key : Option Key) → OpensInsert m old new seat row key → OpensInsert m seen (classed new) seat row key
        opens_insert_of row key (is, at) = subst (λ v. OpensInsert m v (classed new) seat row key) view (ap classed is, at)

        pub insert_out_of : (out : InsertOut) → IsInsertOut old new seat out → IsInsertOut seen (classed new) seat out
        insert_out_of out h = subst (λ v. IsInsertOut v (classed new) seat out) view (out_of out (stage_at old seat) h)

        pub tells_of : (out : InsertOut) → TellsSection m old new seat out → TellsSection m seen (classed new) seat out
        tells_of out h = subst (λ v. TellsSection m v (classed new) seat out) view (tells_for out (stage_at old seat) h)

        pub latches_of : (out : InsertOut) → LatchesAfter new seat out → LatchesAfter (classed new) seat out
        latches_of outs.Descended h = h
        latches_of outs.Restructured h = h
        latches_of (outs.Restarted block by) h = h
        latches_of outs.Put h = h

        then_ends : (n : ℕ) (out : InsertOut) → SeatThenEnds m new seat n out → SeatThenEnds m (classed new) seat n out
        then_ends n outs.Descended h = h
        then_ends n outs.Restructured h = h
        then_ends n (outs.Restarted block by) h = h
        then_ends n outs.Put h = h

        pub ends_of : (out : InsertOut) → ((n : ℕ) → SeatEnds m old seat (suc n) → SeatThenEnds m new seat n out) → (n : ℕ) → SeatEnds m seen seat (suc n) → SeatThenEnds m (classed new) seat n out
        ends_of out ends n = subst (λ (v : Seen O Key Recon Cond). SeatEnds m v seat (suc n) → SeatThenEnds m (classed new) seat n out) view (λ e. then_ends n out (ends n e))

        pub heavy_of : IsHeavy m old seat → IsHeavy m seen seat
        heavy_of h = subst (λ v. IsHeavy m v seat) view (heavy_for old (stage_at old seat) h)

        pub kills_of : (row : RowAt) (killed : Bool) → KillsRow old new seat row killed → KillsRow seen (classed new) seat row killed
        kills_of row killed h = subst (λ v. KillsRow v (classed new) seat row killed) view (kills_row row killed h)

        pub opens_scan_of : (query : Query O Key Recon Cond) → OpensScan m old new seat query → OpensScan m seen (classed new) seat query
        opens_scan_of query (is, at) = subst (λ v. OpensScan m v (classed new) seat query) view (ap classed is, at)

        pub reads_of : (item : ℕ) (out : ReadOut) → ReadsItem m old new seat item out → ReadsItem m seen (classed new) seat item out
        reads_of item out h = subst (λ v. ReadsItem m v (classed new) seat item out) view (reads_for item out (stage_at old seat) h)

        pub closes_of : (closed : Closed) → ClosesScan old new seat closed → ClosesScan seen (classed new) seat closed
        closes_of closed h = subst (λ v. ClosesScan v (classed new) seat closed) view (closes_scan closed h)

        pub opens_vacuum_of : OpensVacuum old new seat → OpensVacuum seen (classed new) seat
        opens_vacuum_of (is, at) = subst (λ v. OpensVacuum v (classed new) seat) view (ap classed is, at)

        pub vacuum_of : (out : VacuumOut) → StepsVacuum old new seat out → StepsVacuum seen (classed new) seat out
        vacuum_of out h = subst (λ v. StepsVacuum v (classed new) seat out) view (steps_for out (stage_at old seat) h)

        pub gives_up_of : (why : Why) → GivesUp old new seat why → GivesUp seen (classed new) seat why
        gives_up_of why G = subst (λ v. GivesUp v (classed new) seat why) view (gives_up why G)

        pub call_of : (call : Call O Key Recon Cond) → IsCall m old new seat call → IsCall m seen (classed new) seat call
        call_of call h = subst (λ v. IsCall m v (classed new) seat call) view (one_call call h)

        pub inserts_of : (out : InsertOut) → Inserts m old new seat out → Inserts m seen (classed new) seat out
        inserts_of out (row, h) = (row, call_of (steps row out) h)

        pub works_of : (out : VacuumOut) → WorksOn m old new seat out → WorksOn m seen (classed new) seat out
        works_of out (swept, h) = (swept, call_of (works out swept) h)
