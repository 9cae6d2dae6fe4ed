-- What a whole call answers.
use Rattle.std.proofs.Common.{◌≡◌, ◌≢◌, ◌<◌, ◌⊎◌, inl, inr, ℕ, true, false, Bool, List, [], ◌∷◌, ◌++◌, length, map, Option, Some, None, Result, Ok, Err, IfOk, OnOk, OnErr, refl, sym, ap, ◌∙◌, subst}
use Rattle.std.proofs.lemmas.Bool.{eq-eqb}
use Rattle.spg_base.specs.Row.{RowAt}
use Rattle.spg_base.specs.declared.names.Span.{Span}
use Rattle.spg_base.specs.declared.memory.Memory.{Memory}
use Rattle.spg_opclass.specs.Meaning.{Meaning}
use Rattle.spg_rows.specs.declared.event.Event.{Event}
use Rattle.spg_rows.specs.Rows.{is_live, state_of}
use Rattle.spg_rows.specs.declared.table.RowState.TheVariants.{Live}
use Rattle.spg_rows.specs.Right.{Right}
use Rattle.spg_rows.specs.Legal.{IsLegal}
use Rattle.spg_turn.specs.declared.rule.View.{View}
use Rattle.spg_core.specs.Seen.{Seen, past_of}
use Rattle.spg_core.specs.Sections.{KillsRow}
use Rattle.spg_calls.specs.Calls.{past_at, span_at}
use Rattle.spg_calls.specs.Doing.{idle, doing_after}
use Rattle.spg_desk.specs.Knowing.{doing_at}
use Rattle.spg_desk.specs.Told.{Told}
use Rattle.spg_desk.specs.Acting.{kill_events}
use Rattle.spg_desk.specs.Answers.{DidKill, kill_answer}
use Rattle.spg_desk.proofs.Views.{told_doing}
use Rattle.spg_desk.proofs.Rows.{was_not_live}

module _ {O Key Recon Cond : Type 0} (m : Meaning Key Recon Cond) where
  pub killed : (v w : View (Event O Key Recon Cond)) (old new : Seen O Key Recon Cond) (seat : ℕ) (row : RowAt) (span : Span) (r : Result Bool Memory) → Told m v w span (kill_events v.number row r) → IsLegal (past_of old) → past_at span.from w.seen ≡ past_of old → IfOk r (λ killed. KillsRow old new seat row killed) → OnErr r (is_live row (past_of old) ≡ true) → DidKill m v w row (kill_answer r span)
  killed v w old new seat row span (Ok true) told legal past ok live = told
  killed v w old new seat row span (Ok false) told legal past ok live = (told, ap (is_live row) past ∙ was_not_live (past_of old) row legal ok.0)
  killed v w old new seat row span (Err e) told legal past ok live = (told, ap (is_live row) past ∙ live)

  pub kill_idle : (v w : View (Event O Key Recon Cond)) (row : RowAt) (span : Span) (r : Result Bool Memory) → doing_at v ≡ idle → Told m v w span (kill_events v.number row r) → doing_at w ≡ idle
  kill_idle v w row span r done told = told_doing m v w span (kill_events v.number row r) told ∙ (ap (λ d. doing_after v.number d (kill_events v.number row r)) done ∙ still v.number r)
    where
      still : (n : ℕ) (x : Result Bool Memory) → doing_after {O = O} {Key = Key} {Recon = Recon} {Cond = Cond} n idle (kill_events n row x) ≡ idle
      still n (Ok true) = rw (eq-eqb n n refl) refl
      still n (Ok false) = refl
      still n (Err e) = refl
