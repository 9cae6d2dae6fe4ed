-- What a call of a pair does is what its command does.
use Rattle.std.proofs.Common.{◌≡◌, inl, inr, true, false, length, Option, Some, Ok, Err, refl, ap, ◌∙◌}
use Rattle.spg_base.specs.Row.{RowAt}
use Rattle.spg_base.specs.declared.memory.Memory.{Memory}
use Rattle.spg_opclass.specs.Meaning.{Meaning}
use Rattle.spg_rows.specs.Right.{Right}
use Rattle.spg_core.specs.Stage.{free}
use Rattle.spg_core.specs.Seen.{Seen, stage_at, past_of}
use Rattle.spg_whole.specs.Calls.{AllClosed}
use Rattle.spg_whole.specs.declared.refused.InsertRefused.TheVariants as refused
use Rattle.spg_script.specs.declared.any_key.AnyKey.{AnyKey}
use Rattle.spg_script.specs.declared.command.Command.{Command}
use Rattle.spg_script.specs.declared.command.Command.TheVariants.{Insert, Delete, Vacuum}
use Rattle.spg_script.specs.Speech.{Speech, key_or_null_in}
use Rattle.spg_report.specs.declared.outcome.Outcome.{Outcome}
use Rattle.spg_report.specs.declared.outcome.Outcome.TheVariants as outcome
use Rattle.spg_report.specs.declared.record.Record.{Record}
use Rattle.spg_commands.specs.Acted.{Acts}
use Rattle.spg_commands.proofs.Acting.{Spans, rests}
use Rattle.spg_commands.proofs.Commands.{inserted, deleted, vacuumed}
use Rattle.spg_standby.specs.declared.wrote.Wrote.{Wrote}
use Rattle.spg_standby.specs.declared.wrote.Wrote.TheVariants as came
use Rattle.spg_standby.specs.Writes.{Inserted, Deleted, Vacuumed, Answers, IsSpanOf}
use Rattle.spg_standby.specs.Twin.{Twin}
use Rattle.spg_mirror.specs.Outcomes.{wrote_outcome}
use Rattle.spg_mirror.specs.Mirrored.{Writes}

no_memory : Memory
no_memory = record {}

-- ---- what came of a write is what its command does

module _ {O Key Recon Cond : Type 0} (m : Meaning Key Recon Cond) (speech : Speech Key Cond) (s0 s1 : Seen O Key Recon Cond) (idle : stage_at s0 0 ≡ free) (idle_then : stage_at s1 0 ≡ free) (right : Right m s1.journal) where
  abbrev At : Wrote → Record → Type 0
  At wrote r = Spans r (wrote_outcome wrote) (length s0.journal) (length s1.journal)

  pub insert_acts : (row : RowAt) (key : Option AnyKey) (k : Option Key) → key_or_null_in speech key ≡ Some k → s0.table.limit ≡ s0.origin.limit → (wrote : Wrote) (r : Record) → Inserted m s0 s1 0 row k wrote → At wrote r → Acts m speech s0 s1 0 true (Insert row key) r
  insert_acts row key k named limit came.Added r did at = inserted m speech s0 s1 0 true idle idle_then right row key k named limit r (Ok tt) did tt at
  insert_acts row key k named limit came.RowUsed r did at = inserted m speech s0 s1 0 true idle idle_then right row key k named limit r (Err refused.RowUsed) tt did at
  insert_acts row key k named limit came.IndexFull r did at = inserted m speech s0 s1 0 true idle idle_then right row key k named limit r (Err refused.IndexFull) tt did at
  insert_acts row key k named limit came.ClockFull r did at = inserted m speech s0 s1 0 true idle idle_then right row key k named limit r (Err refused.ClockFull) tt did at
  insert_acts row key k named limit came.Killed r did at = absurd did
  insert_acts row key k named limit came.NotLive r did at = absurd did
  insert_acts row key k named limit (came.Vacuumed n) r did at = absurd did
  insert_acts row key k named limit came.Memory r did at = inserted m speech s0 s1 0 true idle idle_then right row key k named limit r (Err refused.Memory) tt did at

  pub delete_acts : (row : RowAt) (wrote : Wrote) (r : Record) → Deleted s0 s1 0 row wrote → At wrote r → Acts m speech s0 s1 0 true (Delete row) r
  delete_acts row came.Added r did at = absurd did
  delete_acts row came.RowUsed r did at = absurd did
  delete_acts row came.IndexFull r did at = absurd did
  delete_acts row came.ClockFull r did at = absurd did
  delete_acts row came.Killed r did at = deleted m speech s0 s1 0 true idle idle_then right row r (Ok true) did tt at
  delete_acts row came.NotLive r did at = deleted m speech s0 s1 0 true idle idle_then right row r (Ok false) did tt at
  delete_acts row (came.Vacuumed n) r did at = absurd did
  delete_acts row came.Memory r did at = deleted m speech s0 s1 0 true idle idle_then right row r (Err no_memory) tt did at

  pub vacuum_acts : AllClosed (past_of s0) → (wrote : Wrote) (r : Record) → Vacuumed s0 s1 0 wrote → At wrote r → Acts m speech s0 s1 0 true Vacuum r
  vacuum_acts closed came.Added r did at = absurd did
  vacuum_acts closed came.RowUsed r did at = absurd did
  vacuum_acts closed came.IndexFull r did at = absurd did
  vacuum_acts closed came.ClockFull r did at = absurd did
  vacuum_acts closed came.Killed r did at = absurd did
  vacuum_acts closed came.NotLive r did at = absurd did
  vacuum_acts closed (came.Vacuumed n) r did at = vacuumed m speech s0 s1 0 true idle idle_then right closed r (Ok n) did tt at
  vacuum_acts closed came.Memory r did at = vacuumed m speech s0 s1 0 true idle idle_then right closed r (Err no_memory) tt did at

-- ---- what is answered of it

module _ {O Key Recon Cond : Type 0} (m : Meaning Key Recon Cond) (speech : Speech Key Cond) (p p2 : Twin O Key Recon Cond) (c : Command) (r : Record) (Came : Wrote → Type 0) (wrote : Wrote) (told : r.outcome ≡ wrote_outcome wrote) (span : IsSpanOf p.primary p2.primary r.span)
    (acts : (wr : Wrote) (x : Record) → Came wr → Spans x (wrote_outcome wr) (length p.primary.journal) (length p2.primary.journal) → Acts m speech p.primary p2.primary 0 true c x)
    (lag : p2.lag ≡ p.lag) (right : Right m p2.primary.journal) (closed : AllClosed (past_of p2.primary)) where
  abbrev spans_as : (wr : Wrote) → Record
  spans_as wr = record { span = r.span; outcome = wrote_outcome wr }

  pub writes : Answers Came (length p2.queue) p2.lag wrote → Writes m speech p p2 c r
  writes (wr, came_of, inl (few, e)) = record {
    came = spans_as wr;
    told = record { span = refl; outcome = inl (told ∙ ap wrote_outcome e) };
    acts = acts wr (spans_as wr) came_of (record { outcome_is = refl; from_is = span.0; to_is = span.1 });
    kept_up = λ other. few;
    left_behind = λ other. absurd (other (told ∙ ap wrote_outcome e));
    lag = lag;
    right = right;
    closed = closed;
  }
  writes (wr, came_of, inr (many, e)) = record {
    came = spans_as wr;
    told = record { span = refl; outcome = inr (told ∙ ap wrote_outcome e) };
    acts = acts wr (spans_as wr) came_of (record { outcome_is = refl; from_is = span.0; to_is = span.1 });
    kept_up = λ other. absurd (other (told ∙ ap wrote_outcome e));
    left_behind = λ other. many;
    lag = lag;
    right = right;
    closed = closed;
  }

-- nothing was done for want of memory
pub writes_nothing : {O Key Recon Cond : Type 0} (m : Meaning Key Recon Cond) (speech : Speech Key Cond) (p : Twin O Key Recon Cond) (c : Command) (r : Record) → Spans r outcome.Memory (length p.primary.journal) (length p.primary.journal) → stage_at p.primary 0 ≡ free → Right m p.primary.journal → AllClosed (past_of p.primary)
    → Writes m speech p p c r
writes_nothing m speech p c r at idle right closed = record {
  came = r;
  told = record { span = refl; outcome = inl refl };
  acts = rests m speech p.primary p.primary 0 true c outcome.Memory r at refl idle (λ block. inl refl) tt tt (λ q. tt) tt tt;
  kept_up = λ other. absurd (other at.outcome_is);
  left_behind = λ other. absurd (other refl);
  lag = refl;
  right = right;
  closed = closed;
}
