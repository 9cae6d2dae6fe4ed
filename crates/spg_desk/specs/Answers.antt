-- What a call of the desk answers, and what it has done then.
use Rattle.std.specs.Prelude.{◌≡◌, ◌⊎◌, ◌++◌, ℕ, Bool, true, false, List, [], ◌∷◌, length, map, reverse, Option, Some, Result, Ok, Err}
use Rattle.spg_base.specs.declared.point.Point.{Point}
use Rattle.spg_base.specs.Row.{RowAt}
use Rattle.spg_base.specs.declared.names.Span.{Span}
use Rattle.spg_base.specs.declared.memory.Memory.{Memory}
use Rattle.spg_core.specs.declared.answer.OpenRefused.{OpenRefused}
use Rattle.spg_core.specs.declared.answer.OpenRefused.TheVariants as open_refused
use Rattle.spg_core.specs.declared.answer.VacuumRefused.{VacuumRefused}
use Rattle.spg_core.specs.declared.answer.VacuumRefused.TheVariants as vacuum_refused
use Rattle.spg_desk.specs.declared.ended.Ended.{Ended}
use Rattle.spg_desk.specs.declared.ended.Ended.TheVariants as ended
use Rattle.spg_opclass.specs.Meaning.{Meaning}
use Rattle.spg_opclass.specs.declared.query.Query.{Query}
use Rattle.spg_rows.specs.declared.event.Event.{Event}
use Rattle.spg_rows.specs.declared.event.Event.TheVariants.{OpenInsert, Put, Drop, Kill, OpenScan, CloseScan, OpenVacuum, Sweep, CloseVacuum, Leave}
use Rattle.spg_rows.specs.declared.event.Why.TheVariants as cause
use Rattle.spg_rows.specs.History.{History, open_of, vacuuming}
use Rattle.spg_rows.specs.Rows.{held_by, is_live}
use Rattle.spg_rows.specs.Told.{IsUsed}
use Rattle.spg_turn.specs.declared.rule.View.{View}
use Rattle.spg_calls.specs.Calls.{past_at, span_at}
use Rattle.spg_desk.specs.declared.answer.InsertAnswer.{InsertAnswer}
use Rattle.spg_desk.specs.declared.answer.InsertAnswer.TheVariants as inserts
use Rattle.spg_desk.specs.declared.answer.KillAnswer.{KillAnswer}
use Rattle.spg_desk.specs.declared.answer.KillAnswer.TheVariants as kills
use Rattle.spg_desk.specs.declared.answer.FindAnswer.{FindAnswer}
use Rattle.spg_desk.specs.declared.answer.FindAnswer.TheVariants as finds
use Rattle.spg_desk.specs.declared.answer.NearAnswer.{NearAnswer}
use Rattle.spg_desk.specs.declared.answer.NearAnswer.TheVariants as nears
use Rattle.spg_desk.specs.declared.answer.VacuumAnswer.{VacuumAnswer}
use Rattle.spg_desk.specs.declared.answer.VacuumAnswer.TheVariants as vacuums
use Rattle.spg_near.specs.Nearest.{AreNearest}
use Rattle.spg_desk.specs.Full.{IsFullFor}
use Rattle.spg_desk.specs.Told.{Told}

-- what a call answers, by how it went
abbrev pub kill_answer : Result Bool Memory → Span → KillAnswer
kill_answer (Ok true) span = kills.Killed span
kill_answer (Ok false) span = kills.NotLive span
kill_answer (Err e) span = kills.Memory span

abbrev pub refused_insert : OpenRefused → Span → InsertAnswer
refused_insert open_refused.RowUsed span = inserts.RowUsed span
refused_insert (open_refused.RowHeld by) span = inserts.RowHeld by span
refused_insert open_refused.Memory span = inserts.Memory span

abbrev pub ended_insert : Ended → Span → InsertAnswer
ended_insert ended.Put span = inserts.Added span
ended_insert ended.Full span = inserts.IndexFull span
ended_insert ended.Clock span = inserts.ClockFull span
ended_insert ended.Refused span = inserts.Memory span

abbrev pub ended_find : Result (List RowAt) Memory → Span → FindAnswer
ended_find (Ok rows) span = finds.Found rows span
ended_find (Err e) span = finds.Memory span

abbrev pub refused_vacuum : VacuumRefused → Span → VacuumAnswer
refused_vacuum (vacuum_refused.Open by) span = vacuums.Open by span
refused_vacuum vacuum_refused.Memory span = vacuums.Memory span

abbrev pub ended_vacuum : Result ℕ Memory → Span → VacuumAnswer
ended_vacuum (Ok swept) span = vacuums.Vacuumed swept span
ended_vacuum (Err e) span = vacuums.Memory span

-- no seat has a vacuum open
abbrev pub NoneSweeps : {O Key Recon Cond : Type 0} → History O Key Recon Cond → Type 0
NoneSweeps {O} {Key} {Recon} {Cond} past = (by : ℕ) (before : History O Key Recon Cond) → open_of by past ≡ vacuuming before → ⊥

module _ {O Key Recon Cond : Type 0} (m : Meaning Key Recon Cond) (v w : View (Event O Key Recon Cond)) where
  -- `RowUsed` and `RowHeld` are told of the journal where the span begins, `IndexFull` and `ClockFull` of that where it ends
  abbrev pub DidInsert : RowAt → Option Key → InsertAnswer → Type 0
  DidInsert row key (inserts.Added span) = Told m v w span (OpenInsert v.number row key ∷ Put v.number row ∷ [])
  DidInsert row key (inserts.RowUsed span) = Told m v w span [] × IsUsed (past_at span.from w.seen) row
  DidInsert row key (inserts.RowHeld by span) = Told m v w span [] × (held_by row (past_at span.from w.seen) ≡ Some by)
  DidInsert row key (inserts.IndexFull span) = Told m v w span (OpenInsert v.number row key ∷ Drop v.number row cause.Full ∷ []) × IsFullFor m v.origin key (past_at span.to w.seen) cause.Full
  DidInsert row key (inserts.ClockFull span) = Told m v w span (OpenInsert v.number row key ∷ Drop v.number row cause.Clock ∷ []) × IsFullFor m v.origin key (past_at span.to w.seen) cause.Clock
  DidInsert row key (inserts.Memory span) = Told m v w span [] ⊎ Told m v w span (OpenInsert v.number row key ∷ Drop v.number row cause.Given ∷ [])

  -- `NotLive` and want of memory are told of the journal where the span begins
  abbrev pub DidKill : RowAt → KillAnswer → Type 0
  DidKill row (kills.Killed span) = Told m v w span (Kill v.number row ∷ [])
  DidKill row (kills.NotLive span) = Told m v w span [] × (is_live row (past_at span.from w.seen) ≡ false)
  DidKill row (kills.Memory span) = Told m v w span [] × (is_live row (past_at span.from w.seen) ≡ true)

  abbrev pub DidFind : Query O Key Recon Cond → FindAnswer → Type 0
  DidFind query (finds.Found rows span) = Told m v w span (OpenScan v.number query ∷ CloseScan v.number rows ∷ [])
  DidFind query (finds.Memory span) = Told m v w span [] ⊎ Told m v w span (OpenScan v.number query ∷ Leave v.number ∷ [])

  -- a vacuum opened, swept these rows, and ended so
  abbrev pub swept_then : List RowAt → Event O Key Recon Cond → List (Event O Key Recon Cond)
  swept_then rows last = OpenVacuum v.number ∷ (map (λ r. Sweep v.number r) rows ++ last ∷ [])

  -- `Open` and want of memory before the vacuum opened are told of the journal where the span begins
  abbrev pub DidVacuum : VacuumAnswer → Type 0
  DidVacuum (vacuums.Vacuumed swept span) = (rows : List RowAt) × (length rows ≡ swept) × Told m v w span (swept_then rows (CloseVacuum v.number swept))
  DidVacuum (vacuums.Open by span) = Told m v w span [] × ((before : History O Key Recon Cond) × (open_of by (past_at span.from w.seen) ≡ vacuuming before))
  DidVacuum (vacuums.Memory span) = (Told m v w span [] × NoneSweeps (past_at span.from w.seen)) ⊎ ((rows : List RowAt) × Told m v w span (swept_then rows (Leave v.number)))

module _ {O Recon Cond : Type 0} (m : Meaning Point Recon Cond) (v w : View (Event O Point Recon Cond)) where
  -- nothing was done, and the rows are the nearest after the events that the pass has seen then
  abbrev pub DidNear : Point → ℕ → NearAnswer → Type 0
  DidNear target limit (nears.Near rows span) = Told m v w span [] × (span ≡ span_at (length w.seen) (length w.seen)) × AreNearest (reverse w.seen) target limit rows
  DidNear target limit (nears.Memory span) = Told m v w span [] × (span ≡ span_at (length w.seen) (length w.seen))
