-- What the lanes of a block do, each with the pass of its seat.
use Rattle.std.specs.Prelude.{◌≡◌, ◌≤◌, ◌+◌, ℕ, zero, suc, false, List, [], ◌∷◌, length, drop, None}
use Rattle.spg_base.specs.declared.recorded.Origin.{Origin}
use Rattle.spg_opclass.specs.Meaning.{Meaning}
use Rattle.spg_rows.specs.declared.event.Event.{Event}
use Rattle.spg_rows.specs.History.{own}
use Rattle.spg_calls.specs.Calls.{past_at, Watched, Called, span_at}
use Rattle.spg_base.specs.declared.names.Span.{Span}
use Rattle.spg_script.specs.declared.command.Command.{Command}
use Rattle.spg_script.specs.Speech.{Speech}
use Rattle.spg_report.specs.declared.outcome.Outcome.{Outcome}
use Rattle.spg_report.specs.declared.outcome.Outcome.TheVariants as outcome
use Rattle.spg_report.specs.declared.record.Record.{Record}
use Rattle.spg_histories.specs.Tasks.{Task}
use Rattle.spg_histories.specs.Run.{Does}
use Rattle.spg_histories.specs.Causes.{IsTooFull}
use Rattle.spg_turn.specs.declared.rule.View.{View}
use Rattle.spg_desk.specs.Knowing.{own_since}
use Rattle.spg_desk.specs.declared.answer.InsertAnswer.{InsertAnswer}
use Rattle.spg_desk.specs.declared.answer.InsertAnswer.TheVariants as inserts
use Rattle.spg_desk.specs.declared.answer.KillAnswer.{KillAnswer}
use Rattle.spg_desk.specs.declared.answer.KillAnswer.TheVariants as kills
use Rattle.spg_desk.specs.declared.answer.FindAnswer.{FindAnswer}
use Rattle.spg_desk.specs.declared.answer.FindAnswer.TheVariants as finds
use Rattle.spg_desk.specs.declared.answer.VacuumAnswer.{VacuumAnswer}
use Rattle.spg_desk.specs.declared.answer.VacuumAnswer.TheVariants as vacuums

-- a command of a seat, in a block, in a lane
abbrev pub lane_task : ℕ → ℕ → Command → Task
lane_task block seat command = record { block = block; seat = seat; alone = false; command = command }

-- ---- the records of the desk's answers

abbrev pub record_at : Span → Outcome → Record
record_at span outcome = record { span = span; outcome = outcome }

abbrev pub insert_record : InsertAnswer → Record
insert_record (inserts.Added span) = record_at span outcome.Added
insert_record (inserts.RowUsed span) = record_at span outcome.RowUsed
insert_record (inserts.RowHeld by span) = record_at span (outcome.RowHeld by)
insert_record (inserts.IndexFull span) = record_at span outcome.Full
insert_record (inserts.ClockFull span) = record_at span outcome.ClockFull
insert_record (inserts.Memory span) = record_at span outcome.Memory

abbrev pub kill_record : KillAnswer → Record
kill_record (kills.Killed span) = record_at span outcome.Killed
kill_record (kills.NotLive span) = record_at span outcome.NotLive
kill_record (kills.Memory span) = record_at span outcome.Memory

-- what a scan met is told outside lanes alone
abbrev pub find_record : FindAnswer → Record
find_record (finds.Found rows span) = record_at span (outcome.Found rows None)
find_record (finds.Memory span) = record_at span outcome.Memory

abbrev pub vacuum_record : VacuumAnswer → Record
vacuum_record (vacuums.Vacuumed swept span) = record_at span (outcome.Vacuumed swept)
vacuum_record (vacuums.Open by span) = record_at span (outcome.OpenBy by)
vacuum_record (vacuums.Memory span) = record_at span outcome.Memory

-- a command that had no memory, where the journal was so long
abbrev pub refused_at : ℕ → Record
refused_at at = record_at (span_at at at) outcome.Memory

-- so many of them
abbrev pub refusals : ℕ → ℕ → List Record
refusals at zero = []
refusals at (suc n) = refused_at at ∷ refusals at n

-- ---- what lanes do

module _ {O Key Recon Cond : Type 0} (m : Meaning Key Recon Cond) (speech : Speech Key Cond) where
  -- a command of a lane was done by its seat, from what its pass had seen to what it has seen then, with these events
  pub record CommandDone (origin : Origin) (seat : ℕ) (c : Command) (seen later : List (Event O Key Recon Cond)) (r : Record) (events : List (Event O Key Recon Cond)) : Type 0 where
    pub called : Called seat seen later r.span events
    pub does : (block : ℕ) → Does speech (lane_task block seat c) (past_at r.span.from later) events r.outcome
    pub full : IsTooFull m origin c (past_at r.span.to later) r.outcome

  -- commands of a lane were done one after another
  abbrev pub CommandsDone : Origin → ℕ → List (Event O Key Recon Cond) → List Command → List Record → List (Event O Key Recon Cond) → Type 0
  CommandsDone origin seat seen [] [] later = seen ≡ later
  CommandsDone origin seat seen [] (r ∷ records) later = ⊥
  CommandsDone origin seat seen (c ∷ commands) [] later = ⊥
  CommandsDone origin seat seen (c ∷ commands) (r ∷ records) later =
      (next : List (Event O Key Recon Cond)) × (events : List (Event O Key Recon Cond)) × CommandDone origin seat c seen next r events × CommandsDone origin seat next commands records later

  -- a pass that knew the one knows the other after these commands
  pub record Went (v w : View (Event O Key Recon Cond)) (commands : List Command) (records : List Record) : Type 0 where
    pub same : w ≡ record v { seen = w.seen; mine = w.mine }
    pub done : CommandsDone v.origin v.number v.seen commands records w.seen
    -- its seat has done just what it added
    pub whole : own_since w ≡ w.mine

  -- after one
  pub record WentOne (v w : View (Event O Key Recon Cond)) (c : Command) (r : Record) : Type 0 where
    pub same : w ≡ record v { seen = w.seen; mine = w.mine }
    pub events : List (Event O Key Recon Cond)
    pub done : CommandDone v.origin v.number c v.seen w.seen r events
    pub whole : own_since w ≡ w.mine

  -- the commands of a lane were done, from a journal to the one at the end of its block
  pub record LaneDone (origin : Origin) (seat : ℕ) (old journal : List (Event O Key Recon Cond)) (commands : List Command) (records : List Record) : Type 0 where
    pub seen : List (Event O Key Recon Cond)
    pub done : CommandsDone origin seat old commands records seen
    pub watched : Watched seat seen journal

  -- the lanes of a block were done, the first with this seat, and no other seat did anything
  abbrev pub LanesDone : Origin → ℕ → List (Event O Key Recon Cond) → List (Event O Key Recon Cond) → List (List Command) → List (List Record) → Type 0
  LanesDone origin seat old journal [] [] = (other : ℕ) → seat ≤ other → own other (drop (length old) journal) ≡ []
  LanesDone origin seat old journal [] (records ∷ groups) = ⊥
  LanesDone origin seat old journal (lane ∷ lanes) [] = ⊥
  LanesDone origin seat old journal (lane ∷ lanes) (records ∷ groups) = LaneDone origin seat old journal lane records × LanesDone origin (seat + 1) old journal lanes groups
