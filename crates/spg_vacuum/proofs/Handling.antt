-- A block's page that is handled.
use Rattle.std.proofs.Common.{◌≡◌, ℕ, ◌≤◌, ◌<◌, List, [], ◌∷◌, ⊎_elim, Bool, true, false, length, refl, sym, ap, ap₂, ◌∙◌, subst, inl, inr, arith}
use Rattle.std.specs.Prelude.{nat_lt}
use Rattle.std.proofs.lemmas.Bool.{cases_Bool}
use Rattle.std.proofs.lemmas.List.{set-get_or, get_or-set_same}
use Rattle.spg_base.specs.Row.{RowAt}
use Rattle.spg_opclass.specs.Meaning.{Meaning}
use Rattle.spg_forest.specs.View.{Place}
use Rattle.spg_forest.specs.Spot.{Spot}
use Rattle.spg_forest.specs.Tuples.{Tuple}
use Rattle.spg_forest.specs.Sheets.{Sheet, Sheets, with_tuples, blank}
use Rattle.spg_forest.specs.Shape.{Shape}
use Rattle.spg_forest.specs.Section.{Takes}
use Rattle.spg_forest.specs.Steps.{HasRow}
use Rattle.spg_forest.specs.Puts.{spreads}
use Rattle.spg_forest.specs.Edits.{with_sheet as with_page}
use Rattle.spg_forest.specs.Sheets as sheets
use Rattle.spg_cover.specs.Vacuum.{HandlesPage}
use Rattle.spg_cover.specs.Swept.{targets_on}
use Rattle.spg_tree.specs.Table.{Table, sheet_at, sheets_of, with_sheet, with_tuples_at, with_touched, tuples_at}
use Rattle.spg_vacuum.specs.declared.handle.Handled.{Handled}
use Rattle.spg_vacuum.specs.Handled.{AreHandled, IsHandled, HandlesBlock, found_at}
use Rattle.spg_vacuum.proofs.Steps.{Handling, stepped, swept_others, rows_are, sheet_back, retouched}

same_table : (t : Table) (b : ℕ) → with_tuples_at t b (tuples_at t b) ≡ t
same_table t b = ap (λ (ss : List Sheet). let u : Table = record t { pages = ss } in u) (set-get_or t.pages b (blank false))

module _ {Key Recon Cond : Type 0} (m : Meaning Key Recon Cond) (t : Table) (b : ℕ) (test : RowAt → Bool) (horizon : ℕ) (H : Shape m (sheets_of t)) (pos : 0 < b) (there : b < length t.pages) where
  pub block_handled : (since : ℕ) (h : Handled) → IsHandled (nat_lt b 3) test since horizon (sheet_at t b) h → (t2 : Table) →
      (h.changed ≡ true → t2 ≡ with_touched (with_sheet t b h.page) (b ∷ [])) → (h.changed ≡ false → t2 ≡ with_touched t []) → HandlesBlock t t2 b test horizon h.rows
  block_handled since h I t2 change stay = ⊎_elim (λ e. changed e) (λ e. idle e) (cases_Bool h.changed)
    where
      ts : List Tuple
      ts = tuples_at t b

      us : List Tuple
      us = h.page.tuples

      rows : h.rows ≡ targets_on test (tuples_at t b)
      rows = I.rows ∙ rows_are m (sheets_of t) b test H

      differ : h.changed ≡ true → (rs : List RowAt) → h.rows ≡ rs → h.page.tuples ≡ tuples_at t b → ⊥
      differ e [] q s = I.changed e q s
      differ e (r ∷ rs) q s = swept_others m (sheets_of t) b test H horizon horizon pos there (omega arith) h.page.tuples I.tuples r rs (sym rows ∙ q) s

      changed : h.changed ≡ true → HandlesBlock t t2 b test horizon h.rows
      changed e =
          let e2 : t2 ≡ with_touched (with_tuples_at t b h.page.tuples) (b ∷ []) = change e ∙ ap (λ (q : Sheet). with_touched (with_sheet t b q) (b ∷ [])) I.page in
          let at2 : tuples_at t2 b ≡ h.page.tuples = ap (λ (u : Table). tuples_at u b) e2 ∙ ap (λ (s : Sheet). s.tuples) (get_or-set_same t.pages b (with_tuples (sheet_at t b) h.page.tuples) (blank false) there) in
          record {
            tuples = subst (λ vs. AreHandled (nat_lt b 3) (sheet_at t b).inner test horizon (tuples_at t b) vs) (sym at2) I.tuples;
            table = e2 ∙ ap₂ (λ vs bs. with_touched (with_tuples_at t b vs) bs) (sym at2) (sym (ap (λ (u : Table). u.touched) e2));
            swept = rows;
            touched = inl (ap (λ (u : Table). u.touched) e2, λ q. differ e h.rows refl (sym at2 ∙ q));
          }

      idle : h.changed ≡ false → HandlesBlock t t2 b test horizon h.rows
      idle e =
          let at2 : tuples_at t2 b ≡ tuples_at t b = ap (λ (u : Table). tuples_at u b) (stay e) in
          record {
            tuples = subst (λ vs. AreHandled (nat_lt b 3) (sheet_at t b).inner test horizon (tuples_at t b) vs) (I.idle e ∙ sym at2) I.tuples;
            table = stay e ∙ ap₂ with_touched (sym (same_table t b) ∙ ap (with_tuples_at t b) (sym at2)) (sym (ap (λ (u : Table). u.touched) (stay e)));
            swept = rows;
            touched = inr (ap (λ (u : Table). u.touched) (stay e), at2);
          }

  -- as a step of the index, with the blocks that are touched
  pub block_step : (t2 : Table) (rows : List RowAt) (c : ℕ) → horizon ≤ c → HandlesBlock t t2 b test horizon rows →
      ((V1 : Place → Spot) × HandlesPage (sheets_of t) (sheets_of t2) V1 b c horizon rows (found_at c (sheet_at t b)) test) × Takes m (sheets_of t) (sheets_of t2) t2.touched (spreads 0) horizon (HasRow rows)
  block_step t2 rows c le D =
      let S : Sheets = sheets_of t in
      let N : Handling m S (with_page S b (with_tuples (sheet_at t b) (tuples_at t2 b))) b c horizon (targets_on test (tuples_at t b)) (found_at c (sheet_at t b)) test = stepped m S b test H c horizon pos there le (tuples_at t2 b) (nat_lt b 3) (sheet_at t b).inner refl refl D.tuples in
      let (V1, T) = subst (λ (rs : List RowAt). Handling m S (sheets_of t2) b c horizon rs (found_at c (sheet_at t b)) test) (sym D.swept)
      (subst (λ (X : Sheets). Handling m S X b c horizon (targets_on test (tuples_at t b)) (found_at c (sheet_at t b)) test) (sym (ap sheets_of D.table)) N) in (
        V1,
        ⊎_elim (λ (e, n). subst (λ bs. Takes m S (sheets_of t2) bs (spreads 0) horizon (HasRow rows)) (sym e) T) (λ (e, q). subst (λ bs. Takes m S (sheets_of t2) bs (spreads 0) horizon (HasRow rows)) (sym e)
            (retouched m S (sheets_of t2) rows [] T (λ d n. ap (λ (X : Sheets). sheets.sheet_at X d) (ap sheets_of D.table ∙ ap (λ (ts : List Tuple). with_page S b (with_tuples (sheet_at t b) ts)) q ∙ sheet_back S b)) (omega arith))) D.touched,
      )
