-- The pages while a section writes them one after another.
use Rattle.std.proofs.Common.{◌≡◌, ℕ, ◌-◌, ◌≤◌, ◌<◌, List, ⊎_elim, length, refl, sym, ap, ◌∙◌, arith}
use Rattle.std.specs.Prelude.{nat_le}
use Rattle.std.proofs.lemmas.Bool.{cases_eq, cond-true, le-leb}
use Rattle.spg_opclass.specs.Meaning.{Meaning}
use Rattle.spg_forest.specs.View.{Place}
use Rattle.spg_forest.specs.Spot.{Spot}
use Rattle.spg_forest.specs.Tuples.{Tuple}
use Rattle.spg_forest.specs.Pages.{IsShown}
use Rattle.spg_forest.specs.Sheets.{Sheet, Sheets, sheet_at, with_tuples, pages_of}
use Rattle.spg_forest.specs.Shape.{ArePages}
use Rattle.spg_forest.specs.Walk.{page_spread, spread_on, lives_on}
use Rattle.spg_forest.specs.Edits.{with_sheet, AreChanged}
use Rattle.spg_forest.proofs.Edits.{sheet_same, sheet_other}
use Rattle.spg_forest.proofs.Stock.{changed_none}

-- S2 shows V, and came from S by writes on these pages
pub record Stage {Key Recon Cond : Type 0} (m : Meaning Key Recon Cond) (S S2 : Sheets) (V : Place → Spot) : Type 0 where
  pub shown : IsShown (pages_of S2) V
  pub changed : AreChanged m S S2
  pub count : length S2.sheets ≡ length S.sheets
  pub kinds : (b : ℕ) → ((sheet_at S2 b).inner ≡ (sheet_at S b).inner) × ((sheet_at S2 b).nulls ≡ (sheet_at S b).nulls)

pub high_spread : (b : ℕ) (ts : List Tuple) → 3 ≤ b → page_spread b ts ≡ spread_on ts
high_spread b ts h = let e = cond-true (nat_le 3 b) 0 (lives_on ts - 1) (le-leb 3 b h) in omega arith

pub kinds_set : (S1 : Sheets) (b : ℕ) (ts : List Tuple) → b < length S1.sheets → (d : ℕ) → ((sheet_at (with_sheet S1 b (with_tuples (sheet_at S1 b) ts)) d).inner ≡ (sheet_at S1 d).inner) × ((sheet_at (with_sheet S1 b (with_tuples (sheet_at S1 b) ts)) d).nulls ≡ (sheet_at S1 d).nulls)
kinds_set S1 b ts h d = ⊎_elim
    (λ e. let q : sheet_at (with_sheet S1 b (with_tuples (sheet_at S1 b) ts)) d ≡ with_tuples (sheet_at S1 b) ts = ap (sheet_at (with_sheet S1 b (with_tuples (sheet_at S1 b) ts))) e ∙ sheet_same S1 b (with_tuples (sheet_at S1 b) ts) h in
    (ap (λ (s : Sheet). s.inner) q ∙ ap (λ i. (sheet_at S1 i).inner) (sym e), ap (λ (s : Sheet). s.nulls) q ∙ ap (λ i. (sheet_at S1 i).nulls) (sym e)))
    (λ n. let q = sheet_other S1 b (with_tuples (sheet_at S1 b) ts) d n in (ap (λ (s : Sheet). s.inner) q, ap (λ (s : Sheet). s.nulls) q)) (cases_eq d b)

pub begin_stage : {Key Recon Cond : Type 0} (m : Meaning Key Recon Cond) (S : Sheets) (V : Place → Spot) → ArePages m S → IsShown (pages_of S) V → Stage m S S V
begin_stage m S V A H = record { shown = H; changed = changed_none m S A; count = refl; kinds = λ b. (refl, refl) }
