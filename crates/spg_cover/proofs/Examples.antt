-- The small index whose only row is swept.
use Rattle.std.proofs.Common.{◌≡◌, ℕ, List, [], ◌∷◌, Bool, true, false, Some, nat_eq, refl, ap, ◌∙◌, subst, arith}
use Rattle.std.specs.Prelude.{◌&&◌}
use Rattle.std.proofs.lemmas.Bool.{and_parts, cond-true, eqb-true, eq-eqb}
use Rattle.spg_base.specs.Row.{RowAt}
use Rattle.spg_opclass.specs.Meaning.{Meaning}
use Rattle.spg_forest.specs.View.{Leaf, Place}
use Rattle.spg_forest.specs.Spot.{Spot}
use Rattle.spg_forest.specs.Pages.{all_live}
use Rattle.spg_forest.specs.Sheets.{Sheets, sheet_at, with_tuples}
use Rattle.spg_forest.specs.Edits.{with_sheet}
use Rattle.spg_forest.specs.Section.{Takes}
use Rattle.spg_forest.specs.Steps.{HasRow}
use Rattle.spg_forest.specs.Puts.{spreads}
use Rattle.spg_forest.specs.Examples.{new_sheets, one_sheets}
use Rattle.spg_forest.proofs.Examples.{one_entry}
use Rattle.spg_cover.specs.Vacuum.{HandlesPage}
use Rattle.spg_cover.specs.Swept.{kept, targets_on}
use Rattle.spg_cover.specs.Examples.{is_row, OneSwept, RedirectsAge}
use Rattle.spg_cover.proofs.Own.{opens_law, block_law}
use Rattle.spg_cover.proofs.Roots.{handles_root}

and_both : (a b : Bool) → a ≡ true → b ≡ true → (a && b) ≡ true
and_both true b e f = f
and_both false b e f = e

row_self : (a : RowAt) → is_row a a ≡ true
row_self a = and_both (nat_eq a.block a.block) (nat_eq a.offset a.offset) (eq-eqb a.block a.block refl) (eq-eqb a.offset a.offset refl)

row_only : (a row : RowAt) → is_row a row ≡ true → row ≡ a
row_only a row e =
    let (b, o) = and_parts _ _ e in
    let mk : ℕ → ℕ → RowAt = λ x y. record { block = x; offset = y } in
    ap (λ x. mk x row.offset) (eqb-true row.block a.block b) ∙ ap (mk a.block) (eqb-true row.offset a.offset o)

abbrev Step : {Key Recon Cond : Type 0} → Meaning Key Recon Cond → Leaf → Sheets → List RowAt → Type 0
Step m new S2 rows = ((V1 : Place → Spot) × HandlesPage (one_sheets new) S2 V1 1 0 0 rows [] (is_row new.row)) × Takes m (one_sheets new) S2 (1 ∷ []) (spreads 0) 0 (HasRow rows)

pub one_swept : {Key Recon Cond : Type 0} (m : Meaning Key Recon Cond) → OneSwept m
one_swept m new key re ok fits =
    let E = (one_entry m new key re ok fits).0 in
    let test : RowAt → Bool = is_row new.row in
    let K = opens_law m (one_sheets new) (is_row new.row) E.shape (λ row e. (Some key, (E.entries row (Some key)).1 (row_only new.row row e, refl))) in
    let N = handles_root m (one_sheets new) 1 0 0 (is_row new.row) (new ∷ []) E.shape (omega arith) (omega arith) (omega arith) refl in
    let gone : kept (is_row new.row) (new ∷ []) ≡ [] = cond-true (is_row new.row new.row) [] (new ∷ []) (row_self new.row) in
    let rows : targets_on (is_row new.row) ((sheet_at (one_sheets new) 1).tuples) ≡ new.row ∷ [] = cond-true (is_row new.row new.row) (new.row ∷ []) [] (row_self new.row) in
    let ((V1, G), T) = subst (λ (rs : List RowAt). Step m new new_sheets rs) rows (subst (λ (ls : List Leaf). Step m new (with_sheet (one_sheets new) 1 (with_tuples (sheet_at (one_sheets new) 1) (all_live ls))) (targets_on (is_row new.row) ((sheet_at (one_sheets new) 1).tuples))) gone N) in
    (K, row_self new.row, T, block_law m (one_sheets new) new_sheets V1 (1 ∷ []) (spreads 0) 0 1 0 [] [] (new.row ∷ []) [] (is_row new.row) (λ row. false) E.shape (omega arith) G T (λ row l. cc) K)

pub redirects_age : RedirectsAge
redirects_age l = (refl, refl, refl)
