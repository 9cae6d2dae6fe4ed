-- A row that a reader hands out.
use Rattle.std.proofs.Common.{◌≡◌, ◌↔◌, ◌<◌, ◌≤◌, ◌+◌, ◌⊎◌, ⊎_elim, inl, inr, ℕ, zero, suc, List, [], ◌∷◌, ◌++◌, length, take, get_or, Contains, Option, Some, None, sym, ap, ◌∙◌, subst, arith}
use Rattle.std.specs.List.Sorted.{IsStrictlySortedBy}
use Rattle.std.proofs.lemmas.List.{length-take-le, take_all, take_more, take-append-le, get_or-take}
use Rattle.spg_base.specs.Row.{RowAt, row_cmp}
use Rattle.spg_opclass.specs.Meaning.{Meaning}
use Rattle.spg_opclass.specs.declared.query.Query.{Query}
use Rattle.spg_forest.specs.Counts.{AreDistinct}
use Rattle.spg_forest.specs.Steps.{HasRow}
use Rattle.spg_rows.specs.Legal.{IsLegal}
use Rattle.spg_scan.specs.Items.{copied_rows}
use Rattle.spg_scan.specs.Scanning.{Scanning}
use Rattle.spg_core.specs.Seen.{Seen, past_of}
use Rattle.spg_whole.specs.Answers.{IsAsked, IsAnswer}
use Rattle.spg_whole.specs.Calls.{AllClosed}
use Rattle.spg_peek.specs.Peeking.{ReadsTo, Reading, ReadsOver, HandsOut, handed}
use Rattle.spg_peek.proofs.Peeks.{asked_of, answer_of}
use Rattle.spg_peek.proofs.Firsts.{front_distinct}

has_at : (xs : List RowAt) (j : ℕ) (r d : RowAt) → j < length xs → get_or xs j d ≡ r → HasRow xs r
has_at [] j r d within is = absurd (omega (arith, within))
has_at (x ∷ xs) zero r d within is = inl (sym is)
has_at (x ∷ xs) (suc j) r d within is = inr (has_at xs j r d (omega (arith, within)) is)

-- one row does not stand at two places
apart : (xs : List RowAt) (i j : ℕ) (r d : RowAt) → AreDistinct xs → i < j → j < length xs → get_or xs i d ≡ r → get_or xs j d ≡ r → ⊥
apart [] i j r d once before within one two = absurd (omega (arith, within))
apart (x ∷ xs) i zero r d once before within one two = absurd (omega (arith, before))
apart (x ∷ xs) zero (suc j) r d (new, once) before within one two = new (has_at xs j x d (omega (arith, within)) (two ∙ sym one))
apart (x ∷ xs) (suc i) (suc j) r d (new, once) before within one two = apart xs i j r d once (omega (arith, before)) (omega (arith, within)) one two

module _ {O Key Recon Cond : Type 0} (m : Meaning Key Recon Cond) (seen : Seen O Key Recon Cond) (legal : IsLegal (past_of seen)) (closed : AllClosed (past_of seen)) (old : Reading O Key Recon Cond) (s2 : Scanning O Key Recon Cond) (found2 : List RowAt) (wanted : ℕ) (over : ReadsOver m seen old) (R : ReadsTo m seen wanted old.scan s2 found2) where
  kept : take old.told found2 ≡ handed old
  kept = ap (take old.told) (R.same ∙ R.more.1 ∙ ap (λ (l : List RowAt). l ++ R.more.0) (sym over.same)) ∙ take-append-le old.told old.found R.more.0 over.told

  -- ---- one more

  module _ (row : RowAt) (within : old.told < length found2) (stands : get_or found2 old.told row ≡ row) where
    distinct : AreDistinct found2
    distinct = subst AreDistinct (sym R.same) (front_distinct s2.rows (copied_rows s2.items) R.now.scan.once)

    not_before : Contains (handed old) row → ⊥
    not_before h =
        let (k, inside, is) = subst (λ (l : List RowAt). Contains l row) (sym kept) h in
        let long = length-take-le old.told found2 (omega (arith, within)) in
        let below : k < old.told = omega (arith, inside, long) in
        apart found2 k old.told row row distinct below within (sym (get_or-take old.told found2 k row below) ∙ is) stands

    pub hands_row : HandsOut m (past_of seen) old.scan.query (handed old) (take (old.told + 1) found2) (Some row)
    hands_row = (
      take_more found2 old.told row within ∙ ap (λ (l : List RowAt). l ++ get_or found2 old.told row ∷ []) kept ∙ ap (λ (x : RowAt). handed old ++ x ∷ []) stands,
      subst (λ (q : Query O Key Recon Cond). IsAsked m (past_of seen) q row) R.query (asked_of m seen legal closed s2 R.now row (subst (λ (l : List RowAt). Contains l row) R.same (old.told, within, stands))),
      not_before,
    )

  -- ---- none

  module _ (long : length found2 ≤ old.told) (one : wanted ≡ old.told + 1) where
    empty : s2.items ≡ []
    empty = ⊎_elim (λ a. a) (λ b. absurd (omega (arith, long, b, one))) R.end

    whole : handed old ≡ s2.rows
    whole = sym kept ∙ take_all old.told found2 long ∙ R.same

    pub hands_none : HandsOut m (past_of seen) old.scan.query (handed old) (take old.told found2) None
    hands_none = (
      kept,
      λ rows rises same. subst (λ (q : Query O Key Recon Cond). IsAnswer m (past_of seen) q rows) R.query
          (answer_of m seen legal closed s2 rows R.now empty (λ r. subst (λ (l : List RowAt). Contains rows r ↔ Contains l r) whole (same r)) rises),
    )
