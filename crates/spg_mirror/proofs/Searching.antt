-- What a find of a pair does is what its command does.
use Rattle.std.proofs.Common.{◌≡◌, ◌≤◌, true, List, length, take, Some, refl, sym, ap, subst, arith}
use Rattle.std.proofs.lemmas.List.{take_all}
use Rattle.spg_opclass.specs.Meaning.{Meaning}
use Rattle.spg_opclass.specs.declared.query.Query.{Query}
use Rattle.spg_rows.specs.declared.event.Event.{Event}
use Rattle.spg_rows.specs.Right.{ScanRight}
use Rattle.spg_calls.specs.Calls.{past_at}
use Rattle.spg_core.specs.Seen.{Seen}
use Rattle.spg_scan.specs.declared.walk.Closed.{Closed}
use Rattle.spg_script.specs.declared.any_query.AnyQuery.{AnyQuery}
use Rattle.spg_script.specs.Speech.{Speech, query_in}
use Rattle.spg_report.specs.declared.outcome.Outcome.{Outcome}
use Rattle.spg_report.specs.declared.outcome.Outcome.TheVariants as outcome
use Rattle.spg_report.specs.declared.record.Record.{Record}
use Rattle.spg_standby.specs.Finding.{Finds, IsBehind}
use Rattle.spg_standby.specs.Twin.{Twin}
use Rattle.spg_mirror.specs.Outcomes.{found_outcome}
use Rattle.spg_mirror.specs.Mirrored.{FindsBy, Searches}

module _ {O Key Recon Cond : Type 0} (m : Meaning Key Recon Cond) (speech : Speech Key Cond) (p p2 : Twin O Key Recon Cond) (asked : AnyQuery) where
  pub found_by : (query : Query O Key Recon Cond) → query_in speech asked ≡ Some query → (closed : Closed) (r : Record) → r.outcome ≡ found_outcome closed → Finds m p2.primary.journal query closed r.span → r.span.from ≤ r.span.to → r.span.to ≤ length p2.primary.journal
      → IsBehind p.primary.journal r.span.from (length p.queue) → p2.primary ≡ p.primary → length p2.queue ≤ length p.queue → p2.lag ≡ p.lag → Searches m speech p p2 asked r
  found_by query named closed r told right order within behind same queued lag =
      let journal : p2.primary.journal ≡ p.primary.journal = ap (λ (s : Seen O Key Recon Cond). s.journal) same in
      let all : take (length p.primary.journal) p.primary.journal ≡ p.primary.journal = take_all (length p.primary.journal) p.primary.journal (omega arith) in
      record {
        found = subst (λ (o : Outcome). FindsBy m speech (length p.queue) p.primary.journal (length p.primary.journal) true asked r.span o) (sym told) (record {
          asked = query;
          named = named;
          right = subst (λ (j : List (Event O Key Recon Cond)). ScanRight m (past_at r.span.from j) (past_at r.span.to j) query closed.rows) journal right;
          order = order;
          before = subst (λ (j : List (Event O Key Recon Cond)). r.span.to ≤ length j) journal within;
          within = omega arith;
          behind = λ kept. subst (λ (j : List (Event O Key Recon Cond)). IsBehind j r.span.from (length p.queue)) (sym all) behind;
          untold = refl;
        });
        primary = same;
        queued = queued;
        lag = lag;
      }

  pub found_nothing : (r : Record) → r.outcome ≡ outcome.Memory → r.span.from ≤ r.span.to → r.span.to ≤ length p2.primary.journal → IsBehind p.primary.journal r.span.from (length p.queue) → p2.primary ≡ p.primary → length p2.queue ≤ length p.queue → p2.lag ≡ p.lag → Searches m speech p p2 asked r
  found_nothing r told order within behind same queued lag =
      let journal : p2.primary.journal ≡ p.primary.journal = ap (λ (s : Seen O Key Recon Cond). s.journal) same in
      let all : take (length p.primary.journal) p.primary.journal ≡ p.primary.journal = take_all (length p.primary.journal) p.primary.journal (omega arith) in
      record {
        found = subst (λ (o : Outcome). FindsBy m speech (length p.queue) p.primary.journal (length p.primary.journal) true asked r.span o) (sym told) (record {
          order = order;
          before = subst (λ (j : List (Event O Key Recon Cond)). r.span.to ≤ length j) journal within;
          within = omega arith;
          behind = λ kept. subst (λ (j : List (Event O Key Recon Cond)). IsBehind j r.span.from (length p.queue)) (sym all) behind;
        });
        primary = same;
        queued = queued;
        lag = lag;
      }
