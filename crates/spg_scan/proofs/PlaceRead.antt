-- A held place is read.
use Rattle.std.proofs.Common.{◌≡◌, ⊎_elim, inl, inr, ℕ, List, [], ◌++◌, Option, Contains, refl, sym, ◌∙◌, subst}
use Rattle.std.proofs.lemmas.List.Elements.{Contains-append_left, Contains-append_right, Contains-append_cases}
use Rattle.spg_base.specs.Row.{RowAt}
use Rattle.spg_opclass.specs.Meaning.{Meaning}
use Rattle.spg_forest.specs.View.{Place, Under, Target}
use Rattle.spg_forest.specs.Classes.{class_of, HasRecon}
use Rattle.spg_forest.specs.Sheets.{Sheets}
use Rattle.spg_forest.specs.Shape.{Shape, spots, tree_of}
use Rattle.spg_forest.specs.Counts.{AreDistinct}
use Rattle.spg_forest.specs.Steps.{HasRow}
use Rattle.spg_forest.proofs.Scan.{target_once}
use Rattle.spg_rows.specs.History.{History}
use Rattle.spg_rows.specs.Scans.{IsNeeded}
use Rattle.spg_rows.specs.Table as rows
use Rattle.spg_scan.specs.Scanning.{Scanning, replaced, IsAskedAt}
use Rattle.spg_scan.proofs.CoverGives.{ReadsPlace, gives, found_below, found_right}
use Rattle.spg_scan.proofs.CoverTaken.{has_contains}
use Rattle.spg_scan.specs.Items.{Item, IsItem, held, hold_all, copied_rows}
use Rattle.spg_scan.specs.Cover.{given_of, IsScanOf}
use Rattle.spg_scan.proofs.Lists.{pair_is, held_spot, spot_held, copied_held, contains_has, held_no_leaves, held_no_inner, no_row, no_rows}
use Rattle.spg_scan.proofs.Swapping.{Gives}
use Rattle.spg_scan.proofs.Going.{step, given_cases, given_stays, found_given}
use Rattle.spg_scan.proofs.Grounds.{Grounds, asked, may_find}

module _ {O Key Recon Cond : Type 0} (m : Meaning Key Recon Cond) (S : Sheets) (before past : History O Key Recon Cond) (table : rows.Table O Key Recon Cond) (s : Scanning O Key Recon Cond) (A : Grounds m S before past table s) where
  abbrev needed : RowAt → Type 0
  needed = IsNeeded m before past s.query

  abbrev H : Shape m S
  H = A.holds.shape

  module _ (i : ℕ) (x : Place) (r : Option Recon) (at : IsItem s.items i (held x r)) (olds : List (Place × Option Recon)) (found : List RowAt) (met : ℕ) (asks : IsAskedAt m (spots S x) s.query r) (reads : ReadsPlace m table s.query r (spots S x) olds found) where
    abbrev given : List (Item Recon)
    given = hold_all olds

    its : (t : Place) × Target (tree_of m S) t x s.stamp × HasRecon m (spots S) t r
    its = A.is.spots.sheltered (i, 0) x r (held x r, at, (refl, refl, refl))

    none_copied : copied_rows given ≡ []
    none_copied = copied_held olds

    read_gives : Gives m S s.stamp (held x r) given (Contains (given_of s)) (Contains (given_of (replaced s i given found met))) needed
    read_gives =
        let (t, target, recon) = its in
        let G = gives m S table s.query x t r s.stamp H target recon needed (asked m S before past table s A) A.kept A.codes (given_of s) found olds (spots S x) refl asks reads in
        let to : (row : RowAt) → Contains (given_of (replaced s i given found met)) row → Contains (given_of s ++ found) row = λ row h. ⊎_elim (λ a. Contains-append_left (given_of s) found row a) (λ a. ⊎_elim (λ b. Contains-append_right (given_of s) found row (has_contains found row b)) (λ b. absurd (no_row (copied_rows given) row none_copied b)) a)
        (given_cases m S before past s i (held x r) given found met at row h) in
        let back : (row : RowAt) → Contains (given_of s ++ found) row → Contains (given_of (replaced s i given found met)) row = λ row h. ⊎_elim (λ a. ⊎_elim (λ b. b) (λ b. absurd b) (given_stays m S before past s i (held x r) given found met at row a)) (λ a. found_given m S before past s i (held x r) given found met at row (contains_has found row a)) (Contains-append_cases (given_of s) found row h) in
        record {
          shelters = λ k y q h. let (u, a, b, d) = G.shelters k.0 y q (held_spot m olds k.0 k.1 y q h).1 in (u, a, b, (0, x, t, r, (refl, refl, refl), target, d));
          apart = λ k l y z p q o e a b c d f. let (a0, a1) = held_spot m olds k.0 k.1 y o a in let (b0, b1) = held_spot m olds l.0 l.1 z e b in G.apart k.0 l.0 y z p q o e a1 b1 (λ g. c (pair_is k l g (a0 ∙ sym b0))) d f;
          keeps = λ row w h. back row (G.keeps row h);
          reads = λ row h. ⊎_elim (λ a. inl a) (λ a. inr ((0, x, t, r, (refl, refl, refl), target, a.0), λ k y u q g. a.1 k.0 y u q (held_spot m olds k.0 k.1 y q g).1)) (G.reads row (to row h));
          covers = λ row w j x2 t2 r2 (j0, ex, er) target2 under2.
              let same : t2 ≡ t = target_once (class_of m) (spots S) t2 t x s.stamp (subst (λ (p : Place). Target (tree_of m S) t2 p s.stamp) (sym ex) target2) target in
              ⊎_elim (λ a. inl (back row a)) (λ (k, y, q, e, f). inr ((k, 0), y, q, spot_held m olds k y q e, f)) (G.covers row w (subst (λ (p : Place). Under (tree_of m S) p row) same under2));
        }

    found_apart : (row : RowAt) → HasRow found row → Contains (given_of s) row → ⊥
    found_apart row h k = let (t, target, recon) = its in A.is.spots.fresh (i, 0) x t r row (held x r, at, (refl, refl, refl)) target k (found_below m S table s.query x t r s.stamp H target recon olds found (spots S x) refl reads row (has_contains found row h))

    pub read_stays : AreDistinct found → IsScanOf m S before past (replaced s i given found met)
    read_stays distinct = step m S before past s i (held x r) given found met at H A.is read_gives distinct (no_rows (copied_rows given) none_copied) (λ row a b. no_row (copied_rows given) row none_copied b)
        (λ row h. ⊎_elim (λ a. inr (found_apart row a)) (λ a. absurd (no_row (copied_rows given) row none_copied a)) h)
        (λ row h. let (t, target, recon) = its in let (live, has) = found_right m S table s.query x t r s.stamp H target recon olds found (spots S x) refl reads row (has_contains found row h) in may_find m S before past table s A row live has)
        (λ k q ls l e a. absurd (held_no_leaves olds k q ls e))
        (λ k q w ns j y row life e a b c. absurd (held_no_inner olds k q w ns e))
