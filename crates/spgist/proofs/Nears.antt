-- The nearest rows while nobody else uses the index.
use Rattle.std.proofs.Common.{◌≡◌, ℕ, sym, subst}
use Rattle.spg_base.specs.Row.{RowAt}
use Rattle.spg_base.specs.declared.point.Point.{Point}
use Rattle.spg_opclass.specs.Meaning.{Meaning}
use Rattle.spg_forest.specs.Shape.{Represents}
use Rattle.spg_rows.specs.Legal.{IsLegal}
use Rattle.spg_rows.specs.Present.{IsPresentWith}
use Rattle.spg_rows.specs.Rows.{state_of}
use Rattle.spg_rows.specs.Table as rows
use Rattle.spg_tree.specs.Table.{Table, sheets_of}
use Rattle.spg_core.specs.Seen.{Seen, past_of}
use Rattle.spg_near.specs.Moment.{IsNow}
use Rattle.spg_whole.specs.Calls.{AllClosed}

-- a search of this moment may begin
pub begins : {O Recon Cond : Type 0} (m : Meaning Point Recon Cond) (seen : Seen O Point Recon Cond) (seat : ℕ) (t : Table) (table : rows.Table O Point Recon Cond) → t ≡ seen.table → IsLegal (past_of seen) → AllClosed (past_of seen) → Represents m (sheets_of seen.table) (IsPresentWith (past_of seen)) →
    ((r : RowAt) → rows.state_in table r ≡ state_of r (past_of seen)) → IsNow m seat (past_of seen) t table
begins m seen seat t table same legal closed holds states = record {
  legal = (closed seat, legal);
  holds = subst (λ (z : Table). Represents m (sheets_of z) (IsPresentWith (past_of seen))) (sym same) holds;
  told = states;
}
