-- A scan over an index in which nothing is open, and to which nothing is done meanwhile.
use Rattle.std.proofs.Common.{◌≡◌, ◌↔◌, inl, inr, ℕ, List, [], ◌∷◌, length, Contains, refl, sym, ap, ◌∙◌, subst}
use Rattle.std.specs.List.Sorted.{IsStrictlySortedBy}
use Rattle.spg_base.specs.Row.{RowAt, row_cmp}
use Rattle.spg_opclass.specs.Meaning.{Meaning}
use Rattle.spg_opclass.specs.Laws.{KeptLaw, CodeLaw}
use Rattle.spg_opclass.specs.declared.query.Query.{Query}
use Rattle.spg_opclass.specs.declared.query.Query.TheVariants.{Where}
use Rattle.spg_forest.specs.Shape.{Represents}
use Rattle.spg_rows.specs.declared.event.Event.TheVariants.{OpenScan}
use Rattle.spg_rows.specs.Legal.{IsLegal}
use Rattle.spg_rows.specs.Present.{IsPresentWith}
use Rattle.spg_rows.specs.Rows.{state_of}
use Rattle.spg_rows.specs.Table as rows
use Rattle.spg_rows.proofs.Opened.{itself_opens}
use Rattle.spg_tree.specs.Table.{sheets_of}
use Rattle.spg_scan.specs.Scanning.{Scanning, opened, replaced}
use Rattle.spg_scan.specs.Cover.{IsScanOf}
use Rattle.spg_scan.specs.Reading.{Reads, met_of}
use Rattle.spg_scan.specs.declared.walk.ReadOut.TheVariants.{Read}
use Rattle.spg_scan.proofs.Covers.{scan_ends}
use Rattle.spg_scan.proofs.Gathering.{reads}
use Rattle.spg_scan.proofs.Opening.{scan_opens}
use Rattle.spg_scan.proofs.RestLaws.{opens_at_rest}
use Rattle.spg_core.specs.Sections.{ReadsItem}
use Rattle.spg_core.specs.Seen.{Seen, past_of, moved, untouched}
use Rattle.spg_core.specs.Stage.{reading}
use Rattle.spg_whole.specs.Answers.{IsAsked, IsAnswer}
use Rattle.spg_whole.specs.Calls.{AllClosed}
use Rattle.spg_whole.specs.Underway.{IsRestingScan, ReadsOn}
use Rattle.spg_whole.proofs.Answering.{live_by, exact}
use Rattle.spg_whole.proofs.Reading.{reads_nothing, reads_further}
use Rattle.spg_whole.proofs.Walking.{fewer_left}
use Rattle.spg_peek.specs.Peeking.{HasConds, IsScanNow, OpensNow, ReadsNow}

module _ {O Key Recon Cond : Type 0} (m : Meaning Key Recon Cond) (seen : Seen O Key Recon Cond) (legal : IsLegal (past_of seen)) (closed : AllClosed (past_of seen)) where
  pub opens_now : Represents m (sheets_of seen.table) (IsPresentWith (past_of seen)) → (conds : List Cond) (s : Scanning O Key Recon Cond) (at stamp : ℕ) → s ≡ opened m (Where conds) at stamp → at ≡ length (past_of seen) → stamp ≡ seen.table.clock → OpensNow m seen conds s
  opens_now holds conds s at stamp is a b =
      let query : Query O Key Recon Cond = Where conds in
      let same : s ≡ opened m query (length (past_of seen)) seen.table.clock = is ∙ ap (λ (k : ℕ). opened m query k stamp) a ∙ ap (opened m query (length (past_of seen))) b in
      subst (OpensNow m seen conds) (sym same) (record {
        now = record {
          scan = scan_opens m (sheets_of seen.table) (past_of seen) 0 query legal holds;
          rest = (refl, refl, opens_at_rest m (sheets_of seen.table) query (length (past_of seen)) seen.table.clock holds.shape, inr (0, refl));
          conds = tt;
        };
        query = refl;
        none = refl;
      })

  -- the index as it would be if seat 0 had this scan open
  abbrev over : Scanning O Key Recon Cond → Seen O Key Recon Cond
  over z = record seen { stages = reading z ∷ []; table = record seen.table { latches = [] } }

  module _ (holds : Represents m (sheets_of seen.table) (IsPresentWith (past_of seen))) (K : KeptLaw m) (C : CodeLaw m) (table : rows.Table O Key Recon Cond) (states : (r : RowAt) → rows.state_in table r ≡ state_of r (past_of seen)) where
    pub reads_now : (s s2 : Scanning O Key Recon Cond) (i : ℕ) (found : List RowAt) → IsScanNow m seen s → Reads m (sheets_of seen.table) table s s2 i → found ≡ s2.rows → ReadsNow m seen s s2 found
    reads_now s s2 i found N R same = record {
      now = record {
        scan = subst (λ (z : Scanning O Key Recon Cond). IsScanOf m (sheets_of seen.table) (past_of seen) (OpenScan 0 z.query ∷ past_of seen) z) (sym R.after) after;
        rest = subst (λ (q : Query O Key Recon Cond). IsRestingScan m (sheets_of seen.table) q (reading s2)) (sym query) (on.scan s.query N.rest);
        conds = subst HasConds (sym query) N.conds;
      };
      query = query;
      same = same;
      more = (R.found, ap (λ (z : Scanning O Key Recon Cond). z.rows) R.after);
      fewer = fewer_left m (over s) (over s) next 0 i Read holds.shape (s.query, N.rest) (reads_nothing m (over s) 0) item refl;
    }
      where
        query : s2.query ≡ s.query
        query = ap (λ (z : Scanning O Key Recon Cond). z.query) R.after

        after : IsScanOf m (sheets_of seen.table) (past_of seen) (OpenScan 0 s.query ∷ past_of seen) (replaced s i R.items R.found (met_of (sheets_of seen.table) R.item))
        after = reads m (sheets_of seen.table) (past_of seen) (OpenScan 0 s.query ∷ past_of seen) s 0 table i R.item R.items R.found (met_of (sheets_of seen.table) R.item) K C (closed 0, legal) (itself_opens (OpenScan 0 s.query) (past_of seen)) holds states R.at (inl R.reads) N.scan

        next : Seen O Key Recon Cond
        next = moved (over s) 0 (reading s2) (untouched (over s).table)

        item : ReadsItem m (over s) next 0 i Read
        item = (s2, table, states, (λ x q by at latched. absurd (cc latched), R), refl, refl)

        on : ReadsOn m (over s) next 0
        on = reads_further m (over s) (over s) next 0 i Read holds.shape (reads_nothing m (over s) 0) item

  pub asked_of : (s : Scanning O Key Recon Cond) → IsScanNow m seen s → (r : RowAt) → Contains s.rows r → IsAsked m (past_of seen) s.query r
  asked_of s N r there =
      let found = N.scan.found r there in
      let (live, key) = live_by (past_of seen) legal r found.life found.of_row found.lived in
      (live, (found.life.key, key, found.matching))

  pub answer_of : (s : Scanning O Key Recon Cond) (rs : List RowAt) → IsScanNow m seen s → s.items ≡ [] → ((r : RowAt) → Contains rs r ↔ Contains s.rows r) → IsStrictlySortedBy row_cmp rs → IsAnswer m (past_of seen) s.query rs
  answer_of s rs N none same rises = exact m (past_of seen) legal 0 s.query rs (scan_ends m (sheets_of seen.table) (past_of seen) (OpenScan 0 s.query ∷ past_of seen) s rs (closed 0, legal) N.scan none same rises)
