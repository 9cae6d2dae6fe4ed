-- One command of a lane: from what the desk tells to what was done.
use Rattle.std.proofs.Common.{◌≡◌, inl, inr, ℕ, List, [], ◌∷◌, length, drop, Option, Some, refl, sym, ap, ◌∙◌, subst}
use Rattle.std.proofs.lemmas.List.{append-nil}
use Rattle.spg_base.specs.Row.{RowAt}
use Rattle.spg_opclass.specs.Meaning.{Meaning}
use Rattle.spg_opclass.specs.declared.query.Query.{Query}
use Rattle.spg_rows.specs.declared.event.Event.{Event}
use Rattle.spg_rows.specs.History.{own}
use Rattle.spg_calls.specs.Calls.{past_at, Watched, Called, span_at}
use Rattle.spg_calls.proofs.Calls.{call_one}
use Rattle.spg_script.specs.declared.any_key.AnyKey.{AnyKey}
use Rattle.spg_script.specs.declared.any_query.AnyQuery.{AnyQuery}
use Rattle.spg_script.specs.declared.command.Command.{Command}
use Rattle.spg_script.specs.declared.command.Command.TheVariants as asked
use Rattle.spg_script.specs.Speech.{Speech, key_or_null_in, query_in}
use Rattle.spg_report.specs.declared.record.Record.{Record}
use Rattle.spg_histories.specs.Run.{Does}
use Rattle.spg_histories.specs.Causes.{IsTooFull}
use Rattle.spg_turn.specs.declared.rule.View.{View}
use Rattle.spg_desk.specs.Told.{Told}
use Rattle.spg_desk.specs.Knowing.{own_since}
use Rattle.spg_desk.specs.Answers.{DidInsert, DidKill, DidFind, DidVacuum}
use Rattle.spg_desk.specs.declared.answer.InsertAnswer.{InsertAnswer}
use Rattle.spg_desk.specs.declared.answer.InsertAnswer.TheVariants as inserts
use Rattle.spg_desk.specs.declared.answer.KillAnswer.{KillAnswer}
use Rattle.spg_desk.specs.declared.answer.KillAnswer.TheVariants as kills
use Rattle.spg_desk.specs.declared.answer.FindAnswer.{FindAnswer}
use Rattle.spg_desk.specs.declared.answer.FindAnswer.TheVariants as finds
use Rattle.spg_desk.specs.declared.answer.VacuumAnswer.{VacuumAnswer}
use Rattle.spg_desk.specs.declared.answer.VacuumAnswer.TheVariants as vacuums
use Rattle.spg_perform.specs.Lanes.{lane_task, WentOne, insert_record, kill_record, find_record, vacuum_record, refused_at}
use Rattle.spg_commands.proofs.Keys.{same_null}

module _ {O Key Recon Cond : Type 0} (m : Meaning Key Recon Cond) (speech : Speech Key Cond) (v w : View (Event O Key Recon Cond)) where
  went : (c : Command) (r : Record) (events : List (Event O Key Recon Cond)) → Told m v w r.span events → ((block : ℕ) → Does speech (lane_task block v.number c) (past_at r.span.from w.seen) events r.outcome)
      → IsTooFull m v.origin c (past_at r.span.to w.seen) r.outcome → WentOne m speech v w c r
  went c r events told does full = record {
    same = told.same ∙ ap (λ (l : List (Event O Key Recon Cond)). record v { seen = w.seen; mine = l }) (sym (ap (λ (z : View (Event O Key Recon Cond)). z.mine) told.same));
    events = events;
    done = record { called = told.called; does = does; full = full };
    whole = told.whole;
  }

  pub went_insert : (row : RowAt) (key : Option AnyKey) (k : Option Key) (answer : InsertAnswer) → key_or_null_in speech key ≡ Some k → DidInsert m v w row k answer → WentOne m speech v w (asked.Insert row key) (insert_record answer)
  went_insert row key k (inserts.Added span) known told = went (asked.Insert row key) (insert_record (inserts.Added span)) _ told (λ block. (k, known, refl)) tt
  went_insert row key k (inserts.RowUsed span) known told = went (asked.Insert row key) (insert_record (inserts.RowUsed span)) _ told.0 (λ block. (told.1, refl)) tt
  went_insert row key k (inserts.RowHeld by span) known told = went (asked.Insert row key) (insert_record (inserts.RowHeld by span)) _ told.0 (λ block. (told.1, refl)) tt
  went_insert row key k (inserts.IndexFull span) known told = went (asked.Insert row key) (insert_record (inserts.IndexFull span)) _ told.0 (λ block. (k, known, refl))
      (λ loaded. rw (sym (same_null speech key k known)) (told.1.outgrown loaded))
  went_insert row key k (inserts.ClockFull span) known told = went (asked.Insert row key) (insert_record (inserts.ClockFull span)) _ told.0 (λ block. (k, known, refl))
      (λ loaded. rw (sym (same_null speech key k known)) (told.1.outgrown loaded))
  went_insert row key k (inserts.Memory span) known (inl told) = went (asked.Insert row key) (insert_record (inserts.Memory span)) _ told (λ block. inl refl) tt
  went_insert row key k (inserts.Memory span) known (inr told) = went (asked.Insert row key) (insert_record (inserts.Memory span)) _ told (λ block. inr (k, known, refl)) tt

  pub went_delete : (row : RowAt) (answer : KillAnswer) → DidKill m v w row answer → WentOne m speech v w (asked.Delete row) (kill_record answer)
  went_delete row (kills.Killed span) told = went (asked.Delete row) (kill_record (kills.Killed span)) _ told (λ block. refl) tt
  went_delete row (kills.NotLive span) told = went (asked.Delete row) (kill_record (kills.NotLive span)) _ told.0 (λ block. (told.1, refl)) tt
  went_delete row (kills.Memory span) told = went (asked.Delete row) (kill_record (kills.Memory span)) _ told.0 (λ block. inl refl) tt

  pub went_find : (query : AnyQuery) (q : Query O Key Recon Cond) (answer : FindAnswer) → query_in speech query ≡ Some q → DidFind m v w q answer → WentOne m speech v w (asked.Find query) (find_record answer)
  went_find query q (finds.Found rows span) known told = went (asked.Find query) (find_record (finds.Found rows span)) _ told (λ block. ((q, known, refl), refl)) tt
  went_find query q (finds.Memory span) known (inl told) = went (asked.Find query) (find_record (finds.Memory span)) _ told (λ block. inl refl) tt
  went_find query q (finds.Memory span) known (inr told) = went (asked.Find query) (find_record (finds.Memory span)) _ told (λ block. inr (q, known, refl)) tt

  pub went_vacuum : (answer : VacuumAnswer) → DidVacuum m v w answer → WentOne m speech v w asked.Vacuum (vacuum_record answer)
  went_vacuum (vacuums.Vacuumed swept span) told = went asked.Vacuum (vacuum_record (vacuums.Vacuumed swept span)) _ told.2 (λ block. (told.0, told.1, refl)) tt
  went_vacuum (vacuums.Open by span) told = went asked.Vacuum (vacuum_record (vacuums.Open by span)) _ told.0 (λ block. (told.1, refl)) tt
  went_vacuum (vacuums.Memory span) (inl told) = went asked.Vacuum (vacuum_record (vacuums.Memory span)) _ told.0 (λ block. inl refl) tt
  went_vacuum (vacuums.Memory span) (inr told) = went asked.Vacuum (vacuum_record (vacuums.Memory span)) _ told.1 (λ block. inr (length told.0, (told.0, refl, refl))) tt

module _ {O Key Recon Cond : Type 0} (m : Meaning Key Recon Cond) (speech : Speech Key Cond) where
  drop_whole : (xs : List (Event O Key Recon Cond)) → drop (length xs) xs ≡ []
  drop_whole [] = refl
  drop_whole (x ∷ xs) = drop_whole xs

  pub watched_self : (seat : ℕ) (seen : List (Event O Key Recon Cond)) → Watched seat seen seen
  watched_self seat seen = record { grew = ([], sym (append-nil seen)); none = ap (own seat) (drop_whole seen) }

  nothing_called : (seat : ℕ) (seen : List (Event O Key Recon Cond)) → Called seat seen seen (span_at (length seen) (length seen)) []
  nothing_called seat seen = subst (λ (l : List (Event O Key Recon Cond)). Called seat seen l (span_at (length seen) (length l)) []) (append-nil seen) (call_one seat seen seen [] (watched_self seat seen) tt)

  pub went_wanting : (v : View (Event O Key Recon Cond)) (c : Command) → own_since v ≡ v.mine → WentOne m speech v v c (refused_at (length v.seen))
  went_wanting v c whole = record {
    same = refl;
    events = [];
    done = record { called = nothing_called v.number v.seen; does = λ block. inl refl; full = tt };
    whole = whole;
  }
