use Rattle.std.proofs.Common.{◌≡◌, ◌||◌, Bool, sym, ap, ◌∙◌}
use Rattle.std.proofs.Math.Bool.{or_assoc}
use Rattle.std.proofs.lemmas.List.Folds.{list_any-append}
use Rattle.std.specs.BTreeSet.{BTreeSet, contains, MovesPrefix}
use Rattle.spg_base.specs.Row.{RowAt, row_cmp, same_row}
use Rattle.spg_base.proofs.row_set.RowSet.take_all.Goals as goal

moved : (s t n u : BTreeSet RowAt) → MovesPrefix row_cmp s t n u → (row : RowAt) → (contains row_cmp n row || contains row_cmp u row) ≡ (contains row_cmp s row || contains row_cmp t row)
moved s t n u (xs, parts, (union, ordered)) row =
    let test : RowAt → Bool = same_row row in
    ap (λ b. b || contains row_cmp u row) (union row) ∙ or_assoc (contains row_cmp s row) _ (contains row_cmp u row)
    ∙ ap (λ b. contains row_cmp s row || b) (sym (ap (λ ks. contains row_cmp (record { keys = ks }) row) parts ∙ list_any-append test xs u.keys))

pub returns-in_err-append-clause-rows : goal.returns-in_err-append-clause-rows
returns-in_err-append-clause-rows c = moved _ _ _ _ c.append.ensures.moves

pub returns-clause-rows : goal.returns-clause-rows
returns-clause-rows c = moved _ _ _ _ c.append.ensures.moves
