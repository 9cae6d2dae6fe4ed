-- What the sections of a call do to the index, and what its seat is doing between them.
use Rattle.std.specs.Prelude.{◌≡◌, ◌<◌, ◌++◌, ℕ, Bool, true, false, List, [], ◌∷◌, length, map, Option, Some, None, Result, Ok, Err, ⊤}
use Rattle.spg_base.specs.declared.recorded.Origin.{Origin}
use Rattle.spg_base.specs.Row.{RowAt}
use Rattle.spg_base.specs.declared.names.Span.{Span}
use Rattle.spg_base.specs.declared.memory.Memory.{Memory}
use Rattle.spg_opclass.specs.Meaning.{Meaning}
use Rattle.spg_opclass.specs.declared.query.Query.{Query}
use Rattle.spg_rows.specs.declared.event.Event.{Event}
use Rattle.spg_rows.specs.declared.event.Event.TheVariants.{OpenInsert, Put, Drop, Kill, OpenScan, CloseScan, OpenVacuum, Sweep, CloseVacuum, Leave}
use Rattle.spg_rows.specs.declared.event.Why.TheVariants as cause
use Rattle.spg_rows.specs.History.{History, open_of, vacuuming}
use Rattle.spg_rows.specs.Rows.{held_by}
use Rattle.spg_rows.specs.Told.{IsUsed}
use Rattle.spg_turn.specs.declared.rule.View.{View}
use Rattle.spg_core.specs.Seen.{Seen, past_of}
use Rattle.spg_core.specs.Stage.{Stage, free, descending, reading, sweeping, IsSweeping}
use Rattle.spg_core.specs.declared.answer.InsertOut.{InsertOut}
use Rattle.spg_core.specs.declared.answer.InsertOut.TheVariants as outs
use Rattle.spg_core.specs.declared.answer.OpenRefused.{OpenRefused}
use Rattle.spg_core.specs.declared.answer.OpenRefused.TheVariants as open_refused
use Rattle.spg_core.specs.declared.answer.VacuumRefused.{VacuumRefused}
use Rattle.spg_core.specs.declared.answer.VacuumRefused.TheVariants as vacuum_refused
use Rattle.spg_calls.specs.Calls.{Watched, past_at}
use Rattle.spg_calls.specs.Doing.{Doing, idle, puts, scans, sweeps}
use Rattle.spg_calls.specs.Swept.{swept_after}
use Rattle.spg_desk.specs.declared.ended.Ended.{Ended}
use Rattle.spg_desk.specs.declared.ended.Ended.TheVariants as ended
use Rattle.spg_desk.specs.declared.ended.Looked.{Looked}
use Rattle.spg_desk.specs.declared.ended.Looked.TheVariants as looked
use Rattle.spg_desk.specs.declared.ended.Read.{Read}
use Rattle.spg_desk.specs.declared.ended.Read.TheVariants as read
use Rattle.spg_desk.specs.declared.ended.Swept.{Swept}
use Rattle.spg_desk.specs.declared.ended.Swept.TheVariants as swept
use Rattle.spg_desk.specs.Full.{IsFullFor}
use Rattle.spg_desk.specs.Knowing.{doing_at}
use Rattle.spg_desk.specs.Told.{Told}
use Rattle.spg_desk.specs.Answers.{NoneSweeps, swept_then}

-- how a section with this outcome ended the insert, if it did
abbrev pub ended_of : InsertOut → Option Ended
ended_of outs.Descended = None
ended_of outs.Restructured = None
ended_of (outs.Restarted block by) = None
ended_of outs.Put = Some ended.Put

abbrev pub no_memory : Memory
no_memory = record {}

-- how a section of a vacuum ended it, if it did
abbrev pub sweep_end : Swept → Option (Result ℕ Memory)
sweep_end swept.On = None
sweep_end (swept.Closed count) = Some (Ok count)
sweep_end swept.Refused = Some (Err no_memory)

module _ {O Key Recon Cond : Type 0} where
  -- these events were added, and nothing else of the journal changed
  abbrev pub Adds : Seen O Key Recon Cond → Seen O Key Recon Cond → List (Event O Key Recon Cond) → Type 0
  Adds old new events = (new.journal ≡ old.journal ++ events) × (new.origin ≡ old.origin)

  -- an insert of the row with this key or null
  abbrev pub IsPutting : RowAt → Option Key → Stage O Key Recon Cond → Type 0
  IsPutting row key free = ⊥
  IsPutting row key (descending k d) = (d.row ≡ row) × (k ≡ key)
  IsPutting row key (reading s) = ⊥
  IsPutting row key (sweeping v) = ⊥

  -- a scan of the query
  abbrev pub IsScanning : Query O Key Recon Cond → Stage O Key Recon Cond → Type 0
  IsScanning query free = ⊥
  IsScanning query (descending k d) = ⊥
  IsScanning query (reading s) = s.query ≡ query
  IsScanning query (sweeping v) = ⊥

  -- the stage of a seat that does this
  abbrev pub IsStageFor : Doing O Key Recon Cond → Stage O Key Recon Cond → Type 0
  IsStageFor idle stage = stage ≡ free
  IsStageFor (puts row key) stage = IsPutting row key stage
  IsStageFor (scans query) stage = IsScanning query stage
  IsStageFor sweeps stage = IsSweeping stage

  -- the event by which a seat gives up what it does, for want of memory
  abbrev pub left_by : ℕ → Doing O Key Recon Cond → Event O Key Recon Cond
  left_by n idle = Leave n
  left_by n (puts row key) = Drop n row cause.Given
  left_by n (scans query) = Leave n
  left_by n sweeps = Leave n

  -- the events of a delete
  abbrev pub kill_events : ℕ → RowAt → Result Bool Memory → List (Event O Key Recon Cond)
  kill_events n row (Ok true) = Kill n row ∷ []
  kill_events n row (Ok false) = []
  kill_events n row (Err e) = []

  -- the events of an open
  abbrev pub open_events : ℕ → RowAt → Option Key → Result (Unit {0}) OpenRefused → List (Event O Key Recon Cond)
  open_events n row key (Ok x) = OpenInsert n row key ∷ []
  open_events n row key (Err e) = []

  abbrev pub scan_events : ℕ → Query O Key Recon Cond → Result (Unit {0}) Memory → List (Event O Key Recon Cond)
  scan_events n query (Ok x) = OpenScan n query ∷ []
  scan_events n query (Err e) = []

  abbrev pub vacuum_events : ℕ → Result (Unit {0}) VacuumRefused → List (Event O Key Recon Cond)
  vacuum_events n (Ok x) = OpenVacuum n ∷ []
  vacuum_events n (Err e) = []

  -- a seat has a vacuum open
  abbrev pub HasVacuum : History O Key Recon Cond → ℕ → Type 0
  HasVacuum past seat = (before : History O Key Recon Cond) × (open_of seat past ≡ vacuuming before)

  -- ---- inserts

  -- the event that ends the insert of a row
  abbrev pub ending : ℕ → RowAt → Ended → Event O Key Recon Cond
  ending n row ended.Put = Put n row
  ending n row ended.Full = Drop n row cause.Full
  ending n row ended.Clock = Drop n row cause.Clock
  ending n row ended.Refused = Drop n row cause.Given

  abbrev pub endings : ℕ → RowAt → Option Ended → List (Event O Key Recon Cond)
  endings n row None = []
  endings n row (Some e) = ending n row e ∷ []

module _ {O Key Recon Cond : Type 0} where
  abbrev pub IsPut : Doing O Key Recon Cond → Type 0
  IsPut idle = ⊥
  IsPut (puts row key) = ⊤
  IsPut (scans query) = ⊥
  IsPut sweeps = ⊥

  abbrev pub IsScan : Doing O Key Recon Cond → Type 0
  IsScan idle = ⊥
  IsScan (puts row key) = ⊥
  IsScan (scans query) = ⊤
  IsScan sweeps = ⊥

  -- the pass has only seen more, and its seat has done nothing
  abbrev pub IsOn : View (Event O Key Recon Cond) → View (Event O Key Recon Cond) → Type 0
  IsOn v w = (w ≡ record v { seen = w.seen }) × Watched v.number v.seen w.seen

  -- ---- scans and vacuums

  abbrev pub readings : ℕ → Read O Key Recon Cond → List (Event O Key Recon Cond)
  readings n read.On = []
  readings n (read.Sift item copied) = []
  readings n (read.Closed rows) = CloseScan n rows ∷ []
  readings n read.Refused = Leave n ∷ []

  -- how a section of a scan closed it, if it did
  abbrev pub closed_by : Read O Key Recon Cond → Option (Result (List RowAt) Memory)
  closed_by read.On = None
  closed_by (read.Sift item copied) = None
  closed_by (read.Closed rows) = Some (Ok rows)
  closed_by read.Refused = Some (Err no_memory)

  abbrev pub closings : ℕ → Result (List RowAt) Memory → List (Event O Key Recon Cond)
  closings n (Ok rows) = CloseScan n rows ∷ []
  closings n (Err e) = Leave n ∷ []

  -- a section of a vacuum swept these rows, or ended it
  abbrev pub sweepings : ℕ → List RowAt → Swept → List (Event O Key Recon Cond)
  sweepings n rows swept.On = map (λ r. Sweep n r) rows
  sweepings n rows (swept.Closed count) = CloseVacuum n count ∷ []
  sweepings n rows swept.Refused = Leave n ∷ []

  abbrev pub StepsSweep : Seen O Key Recon Cond → Seen O Key Recon Cond → ℕ → Swept → Type 0
  StepsSweep old new n out = (rows : List RowAt) × Adds old new (sweepings n rows out)

module _ {O Key Recon Cond : Type 0} (m : Meaning Key Recon Cond) where
  -- what ends an insert is due after this past
  abbrev pub IsDue : Origin → Option Key → History O Key Recon Cond → Option Ended → Type 0
  IsDue origin key past None = ⊤
  IsDue origin key past (Some ended.Put) = ⊤
  IsDue origin key past (Some ended.Full) = IsFullFor m origin key past cause.Full
  IsDue origin key past (Some ended.Clock) = IsFullFor m origin key past cause.Clock
  IsDue origin key past (Some ended.Refused) = ⊤

  -- a section of the insert of a row ended it so, or did not end it
  abbrev pub StepsPut : Seen O Key Recon Cond → Seen O Key Recon Cond → ℕ → RowAt → Option Key → Option Ended → Type 0
  StepsPut old new n row key end = Adds old new (endings n row end) × IsDue old.origin key (past_of old) end

  -- or the class is asked first, on a copy
  abbrev pub LooksPut : Seen O Key Recon Cond → Seen O Key Recon Cond → ℕ → RowAt → Option Key → Looked O Key Recon Cond → Type 0
  LooksPut old new n row key (looked.Stepped end) = StepsPut old new n row key end
  LooksPut old new n row key (looked.Choose spotted) = Adds old new []
  LooksPut old new n row key (looked.Part bunch) = Adds old new [] × (0 < length bunch.rests)

  -- ---- what a pass is told of sections

  abbrev pub OpensPut : View (Event O Key Recon Cond) → View (Event O Key Recon Cond) → Span → RowAt → Option Key → Result (Unit {0}) OpenRefused → Type 0
  OpensPut v w span row key (Ok x) = Told m v w span (OpenInsert v.number row key ∷ [])
  OpensPut v w span row key (Err open_refused.RowUsed) = Told m v w span [] × IsUsed (past_at span.from w.seen) row
  OpensPut v w span row key (Err (open_refused.RowHeld by)) = Told m v w span [] × (held_by row (past_at span.from w.seen) ≡ Some by)
  OpensPut v w span row key (Err open_refused.Memory) = Told m v w span []

  abbrev pub TellsPut : View (Event O Key Recon Cond) → View (Event O Key Recon Cond) → Span → Option Ended → Type 0
  TellsPut v w span end = (row : RowAt) (key : Option Key) → doing_at v ≡ puts row key → Told m v w span (endings v.number row end) × IsDue v.origin key (past_at span.to w.seen) end

  abbrev pub TellsLook : View (Event O Key Recon Cond) → View (Event O Key Recon Cond) → Span → Looked O Key Recon Cond → Type 0
  TellsLook v w span (looked.Stepped end) = TellsPut v w span end
  TellsLook v w span (looked.Choose spotted) = Told m v w span []
  TellsLook v w span (looked.Part bunch) = Told m v w span [] × (0 < length bunch.rests)

  abbrev pub OpensSweep : View (Event O Key Recon Cond) → View (Event O Key Recon Cond) → Span → Result (Unit {0}) VacuumRefused → Type 0
  OpensSweep v w span (Ok x) = Told m v w span (OpenVacuum v.number ∷ [])
  OpensSweep v w span (Err (vacuum_refused.Open by)) = Told m v w span [] × ((before : History O Key Recon Cond) × (open_of by (past_at span.from w.seen) ≡ vacuuming before))
  OpensSweep v w span (Err vacuum_refused.Memory) = Told m v w span [] × NoneSweeps (past_at span.from w.seen)

  -- the number of a vacuum that ended is that of the rows that its seat swept
  abbrev pub IsCounted : View (Event O Key Recon Cond) → Swept → Type 0
  IsCounted v swept.On = ⊤
  IsCounted v (swept.Closed count) = (was : ℕ) × (count ≡ swept_after v.number was v.mine)
  IsCounted v swept.Refused = ⊤

  abbrev pub TellsSweep : View (Event O Key Recon Cond) → View (Event O Key Recon Cond) → Span → Swept → Type 0
  TellsSweep v w span out = ((rows : List RowAt) × Told m v w span (sweepings v.number rows out)) × IsCounted v out

  -- a vacuum that had opened before swept rows and ended
  abbrev pub EndsSweep : View (Event O Key Recon Cond) → View (Event O Key Recon Cond) → Span → Result ℕ Memory → Type 0
  EndsSweep v w span (Ok count) = (rows : List RowAt) × (length rows ≡ count) × Told m v w span (swept_then m v w rows (CloseVacuum v.number count))
  EndsSweep v w span (Err e) = (rows : List RowAt) × Told m v w span (swept_then m v w rows (Leave v.number))
