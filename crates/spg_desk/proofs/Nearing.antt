-- The search for the nearest rows, in one turn.
use Rattle.std.proofs.Common.{◌≡◌, ℕ, List, [], length, reverse, Option, Some, Result, Ok, IfOk, sym, ap, ◌∙◌, subst}
use Rattle.std.specs.Prelude.{IfSome}
use Rattle.spg_base.specs.Row.{RowAt}
use Rattle.spg_base.specs.declared.memory.Memory.{Memory}
use Rattle.spg_base.specs.declared.names.Span.{Span}
use Rattle.spg_base.specs.declared.point.Point.{Point}
use Rattle.spg_opclass.specs.Meaning.{Meaning}
use Rattle.spg_forest.specs.Shape.{Represents}
use Rattle.spg_rows.specs.declared.event.Event.{Event}
use Rattle.spg_rows.specs.History.{open_of}
use Rattle.spg_rows.specs.Legal.{IsLegal}
use Rattle.spg_rows.specs.Present.{IsPresentWith}
use Rattle.spg_rows.specs.Rows.{state_of}
use Rattle.spg_rows.specs.Table as rows
use Rattle.spg_tree.specs.Table.{Table, sheets_of}
use Rattle.spg_turn.specs.declared.rule.View.{View}
use Rattle.spg_core.specs.Seen.{Seen, stage_at, past_of}
use Rattle.spg_core.specs.Stage.{free, IsStageOf}
use Rattle.spg_calls.specs.Calls.{span_at}
use Rattle.spg_near.specs.Moment.{IsNow}
use Rattle.spg_near.specs.Nearest.{AreNearest}
use Rattle.spg_near.specs.declared.near_row.NearRow.{NearRow}
use Rattle.spg_desk.specs.declared.answer.NearAnswer.TheVariants as nears
use Rattle.spg_desk.specs.Acting.{IsOn}
use Rattle.spg_desk.specs.Answers.{DidNear}
use Rattle.spg_desk.specs.Told.{Told}
use Rattle.spg_desk.proofs.Composing.{on_told}

module _ {O Recon Cond : Type 0} where
  -- a search of this seat may begin
  pub begins : (m : Meaning Point Recon Cond) (seen : Seen O Point Recon Cond) (seat : ℕ) (t : Table) (table : rows.Table O Point Recon Cond) → t ≡ seen.table → IsLegal (past_of seen) → stage_at seen seat ≡ free → IsStageOf (open_of seat (past_of seen)) (stage_at seen seat)
      → Represents m (sheets_of seen.table) (IsPresentWith (past_of seen)) → ((r : RowAt) → rows.state_in table r ≡ state_of r (past_of seen)) → IsNow m seat (past_of seen) t table
  begins m seen seat t table same legal stage opened holds states = record {
    legal = (subst (IsStageOf (open_of seat (past_of seen))) stage opened, legal);
    holds = subst (λ (z : Table). Represents m (sheets_of z) (IsPresentWith (past_of seen))) (sym same) holds;
    told = states;
  }

  -- after looks alone
  pub did_near : (m : Meaning Point Recon Cond) (v u w : View (Event O Point Recon Cond)) (span : Span) (target : Point) (limit : ℕ) (found : Result (Option (List NearRow)) Memory) (rows : List NearRow) → IsOn v u → Told m u w span [] → span ≡ span_at (length w.seen) (length w.seen)
      → IfOk found (λ out. IfSome out (AreNearest (reverse w.seen) target limit)) → found ≡ Ok (Some rows) → DidNear m v w target limit (nears.Near rows span)
  did_near m v u w span target limit found rows on told moment near is = (on_told m v u w span [] on told, moment, subst (λ (r : Result (Option (List NearRow)) Memory). IfOk r (λ out. IfSome out (AreNearest (reverse w.seen) target limit))) is near)

  -- the span of a turn in which nothing was done
  pub one_moment : (h w : View (Event O Point Recon Cond)) (journal : List (Event O Point Recon Cond)) (span : Span) → h.seen ≡ journal → w.seen ≡ journal → span ≡ span_at (length h.seen) (length w.seen) → span ≡ span_at (length w.seen) (length w.seen)
  one_moment h w journal span a b is = is ∙ ap (λ (l : List (Event O Point Recon Cond)). span_at (length l) (length w.seen)) (a ∙ sym b)

  -- what was found of the index that the turn lent
  pub found_then : (w : View (Event O Point Recon Cond)) (lent state : Seen O Point Recon Cond) (target : Point) (limit : ℕ) (found : Result (Option (List NearRow)) Memory) → state ≡ lent → w.seen ≡ lent.journal
      → IfOk found (λ out. IfSome out (λ rows. AreNearest (past_of state) target limit rows)) → IfOk found (λ out. IfSome out (λ rows. AreNearest (reverse w.seen) target limit rows))
  found_then w lent state target limit found is after =
      subst (λ (l : List (Event O Point Recon Cond)). IfOk found (λ out. IfSome out (λ rows. AreNearest (reverse l) target limit rows))) (ap (λ (s : Seen O Point Recon Cond). s.journal) is ∙ sym after)
