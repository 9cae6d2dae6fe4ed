-- Calls of a seat, one after another.
use Rattle.std.proofs.Common.{◌≡◌, ◌≤◌, ◌+◌, ◌-◌, ℕ, suc, Bool, not, List, [], ◌∷◌, ◌++◌, length, drop, sym, ap, ◌∙◌, arith}
use Rattle.std.proofs.lemmas.List.{append_assoc, append-nil}
use Rattle.spg_rows.specs.declared.event.Event.{Event}
use Rattle.spg_rows.specs.History.{own}
use Rattle.spg_calls.specs.Calls.{GrewTo}
use Rattle.spg_calls.proofs.Journals.{past_at-grows}
use Rattle.spg_calls.proofs.Calls.{own_drop, long_grew, grew_on, between_grew, up_to_grew, by_grew}
use Rattle.spg_script.specs.declared.command.Command.{Command}
use Rattle.spg_script.specs.Blocks.{Part}
use Rattle.spg_script.specs.Speech.{Speech}
use Rattle.spg_report.specs.declared.record.Record.{Record}
use Rattle.spg_histories.specs.Tasks.{Task, lane_tasks, lanes_tasks, parts_tasks}
use Rattle.spg_histories.specs.Run.{past_at, between}
use Rattle.spg_histories.specs.Blocks.{Spans, spanned, LaneRan}
use Rattle.spg_histories.specs.Calls.{CallsTo, CallsCompose}

tasks_push : (block : ℕ) (parts : List Part) (p : Part) → parts_tasks block (parts ++ p ∷ []) ≡ parts_tasks block parts ++ lanes_tasks (block + length parts) 0 (not p.together) p.lanes
tasks_push block [] p = let same : block ≡ block + 0 = omega arith in append-nil (lanes_tasks block 0 (not p.together) p.lanes) ∙ ap (λ (n : ℕ). lanes_tasks n 0 (not p.together) p.lanes) same
tasks_push block (q ∷ parts) p =
    let same : (block + 1) + length parts ≡ block + suc (length parts) = omega arith in
    ap (λ l. lanes_tasks block 0 (not q.together) q.lanes ++ l) (tasks_push (block + 1) parts p ∙ ap (λ (n : ℕ). parts_tasks (block + 1) parts ++ lanes_tasks n 0 (not p.together) p.lanes) same)
    ∙ sym (append_assoc (lanes_tasks block 0 (not q.together) q.lanes) (parts_tasks (block + 1) parts) (lanes_tasks (block + suc (length parts)) 0 (not p.together) p.lanes))

module _ {O Key Recon Cond : Type 0} where
  module _ (speech : Speech Key Cond) where
    calls_grew : (block seat : ℕ) (alone : Bool) (cs : List Command) (rs : List Record) (seen journal : List (Event O Key Recon Cond)) → CallsTo speech seat seen (lane_tasks block seat alone cs) rs journal → GrewTo seen journal
    calls_grew block seat alone [] [] seen journal calls = calls.grew
    calls_grew block seat alone [] (r ∷ rs) seen journal calls = absurd calls
    calls_grew block seat alone (c ∷ cs) [] seen journal calls = absurd calls
    calls_grew block seat alone (c ∷ cs) (r ∷ rs) seen journal (later, events, called, does, rest) = grew_on seen later journal called.grew (calls_grew block seat alone cs rs later journal rest)

    lower : (journal : List (Event O Key Recon Cond)) (low low2 : ℕ) (ts : List Task) (rs : List Record) → low2 ≤ low → Spans speech journal low ts rs → Spans speech journal low2 ts rs
    lower journal low low2 [] [] le spans = omega (arith, spans, le)
    lower journal low low2 [] (r ∷ rs) le spans = absurd spans
    lower journal low low2 (t ∷ ts) [] le spans = absurd spans
    lower journal low low2 (t ∷ ts) (r ∷ rs) le spans = (omega (arith, spans.0, le), spans.1, spans.2, spans.3)

    calls_spans : (block seat : ℕ) (alone : Bool) (cs : List Command) (rs : List Record) (seen journal : List (Event O Key Recon Cond)) → CallsTo speech seat seen (lane_tasks block seat alone cs) rs journal
        → Spans speech journal (length seen) (lane_tasks block seat alone cs) rs
    calls_spans block seat alone [] [] seen journal calls = long_grew seen journal calls.grew
    calls_spans block seat alone [] (r ∷ rs) seen journal calls = absurd calls
    calls_spans block seat alone (c ∷ cs) [] seen journal calls = absurd calls
    calls_spans block seat alone (c ∷ cs) (r ∷ rs) seen journal (later, events, called, does, rest) =
        let grew = calls_grew block seat alone cs rs later journal rest in
        let t : Task = record { block = block; seat = seat; alone = alone; command = c } in
        let its : own seat (between r.span.from r.span.to journal) ≡ events = ap (own seat) (between_grew r.span.from r.span.to later journal grew called.order called.high) ∙ called.within in
        let past : past_at r.span.from journal ≡ past_at r.span.from later = ap (past_at r.span.from) grew.1 ∙ past_at-grows r.span.from later grew.0 (omega (arith, called.order, called.high)) in (
          called.low,
          called.order,
          record { does = rw (its, past) does; first = λ some. by_grew seat later journal r.span.from grew (omega (arith, some, called.high)) (called.first some); last = λ some. by_grew seat later journal (r.span.to - 1) grew (omega (arith, some, called.high)) (called.last some) },
          lower journal (length later) r.span.to (lane_tasks block seat alone cs) rs called.high (calls_spans block seat alone cs rs later journal rest),
        )

    calls_whole : (block seat : ℕ) (alone : Bool) (cs : List Command) (rs : List Record) (seen journal : List (Event O Key Recon Cond)) → CallsTo speech seat seen (lane_tasks block seat alone cs) rs journal
        → own seat (drop (length seen) journal) ≡ spanned seat journal rs
    calls_whole block seat alone [] [] seen journal calls = calls.none
    calls_whole block seat alone [] (r ∷ rs) seen journal calls = absurd calls
    calls_whole block seat alone (c ∷ cs) [] seen journal calls = absurd calls
    calls_whole block seat alone (c ∷ cs) (r ∷ rs) seen journal (later, events, called, does, rest) =
        let grew = calls_grew block seat alone cs rs later journal rest in
        own_drop seat (length seen) r.span.from journal called.low
        ∙ ap (λ l. own seat l ++ own seat (drop r.span.from journal)) (between_grew (length seen) r.span.from later journal grew called.low (omega (arith, called.order, called.high))) ∙ ap (λ l. l ++ own seat (drop r.span.from journal)) called.none_before
        ∙ own_drop seat r.span.from r.span.to journal called.order
        ∙ ap (λ l. own seat (between r.span.from r.span.to journal) ++ l) (own_drop seat r.span.to (length later) journal called.high ∙ ap (λ l. own seat l ++ own seat (drop (length later) journal)) (up_to_grew r.span.to later journal grew called.high)
        ∙ ap (λ l. l ++ own seat (drop (length later) journal)) called.none_after ∙ calls_whole block seat alone cs rs later journal rest)

    calls_ran : (seen journal : List (Event O Key Recon Cond)) (block seat : ℕ) (alone : Bool) (cs : List Command) (rs : List Record) → CallsTo speech seat seen (lane_tasks block seat alone cs) rs journal → LaneRan speech (length seen) journal seat (lane_tasks block seat alone cs) rs
    calls_ran seen journal block seat alone cs rs calls = record { spans = calls_spans block seat alone cs rs seen journal calls; whole = calls_whole block seat alone cs rs seen journal calls }

pub calls_compose : (O Key Recon Cond : Type 0) → CallsCompose O Key Recon Cond
calls_compose O Key Recon Cond = record { lane = calls_ran; tasks = tasks_push }
