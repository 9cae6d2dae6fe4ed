-- A scan goes on by copied leaves.
use Rattle.std.proofs.Common.{◌≡◌, ◌⊎◌, ⊎_elim, inl, inr, ℕ, Bool, true, false, cond, List, [], ◌∷◌, Option, Some, None, Contains, refl, sym, ap, ◌∙◌, subst}
use Rattle.std.proofs.lemmas.Bool.{false≢true}
use Rattle.spg_base.specs.Row.{RowAt}
use Rattle.spg_opclass.specs.Meaning.{Meaning}
use Rattle.spg_opclass.specs.Queries.{query_matches}
use Rattle.spg_forest.specs.View.{Place, Leaf}
use Rattle.spg_forest.specs.Spot.{IsIn}
use Rattle.spg_forest.specs.Classes.{key_of}
use Rattle.spg_forest.specs.Sheets.{Sheets}
use Rattle.spg_forest.specs.Shape.{Shape}
use Rattle.spg_forest.specs.Counts.{AreDistinct}
use Rattle.spg_forest.specs.Steps.{HasRow}
use Rattle.spg_rows.specs.History.{History}
use Rattle.spg_rows.specs.Scans.{IsNeeded, HasLivedWith}
use Rattle.spg_rows.specs.Table as rows
use Rattle.spg_rows.proofs.Scans.{found_may}
use Rattle.spg_scan.proofs.Since.{lived_key_since}
use Rattle.spg_scan.specs.Scanning.{Scanning, asks_for, replaced}
use Rattle.spg_scan.specs.Items.{IsItem, leaves, IsSpotOf, Spots, rows_of}
use Rattle.spg_scan.specs.Cover.{given_of, IsScanOf}
use Rattle.spg_scan.specs.Reading.{asked_rows}
use Rattle.spg_scan.proofs.LiveLeaves.{row_has, row_from}
use Rattle.spg_scan.proofs.Swapping.{Gives}
use Rattle.spg_scan.proofs.Going.{step, given_cases, given_stays, found_given, its_given, its_distinct}
use Rattle.spg_scan.proofs.Grounds.{Grounds}

module _ {O Key Recon Cond : Type 0} (m : Meaning Key Recon Cond) (S : Sheets) (before past : History O Key Recon Cond) (table : rows.Table O Key Recon Cond) (s : Scanning O Key Recon Cond) (A : Grounds m S before past table s) where
  abbrev needed : RowAt → Type 0
  needed = IsNeeded m before past s.query

  abbrev H : Shape m S
  H = A.holds.shape

  module _ (i : ℕ) (q : Option Recon) (ls : List Leaf) (at : IsItem s.items i (leaves q ls)) (met : ℕ) where
    abbrev asked_now : List RowAt
    asked_now = asked_rows m s.query q ls

    abbrev rest_of : Scanning O Key Recon Cond
    rest_of = replaced s i [] asked_now met

    asks_is : (o : Option (Option Key)) → asks_for m s.query o ≡ true → (key : Option Key) × (o ≡ Some key) × (query_matches m s.query key ≡ true)
    asks_is None e = absurd (false≢true e)
    asks_is (Some key) e = (key, refl, e)

    row_if : (b : Bool) (l : Leaf) (row : RowAt) (rs : List RowAt) → HasRow (cond b (l.row ∷ rs) rs) row → ((b ≡ true) × (row ≡ l.row)) ⊎ HasRow rs row
    row_if true l row rs (inl e) = inl (refl, e)
    row_if true l row rs (inr h) = inr h
    row_if false l row rs h = inr h

    row_first : (b : Bool) (l : Leaf) (rs : List RowAt) → b ≡ true → HasRow (cond b (l.row ∷ rs) rs) l.row
    row_first true l rs e = inl refl
    row_first false l rs e = absurd (false≢true e)

    row_later : (b : Bool) (l : Leaf) (row : RowAt) (rs : List RowAt) → HasRow rs row → HasRow (cond b (l.row ∷ rs) rs) row
    row_later true l row rs h = inr h
    row_later false l row rs h = h

    asked_from : (ms : List Leaf) (row : RowAt) → HasRow (asked_rows m s.query q ms) row → (l : Leaf) × IsIn l ms × (asks_for m s.query (key_of m q l.rest) ≡ true) × (l.row ≡ row)
    asked_from [] row h = absurd h
    asked_from (l ∷ ms) row h = ⊎_elim (λ (a, e). (l, inl refl, a, sym e)) (λ a. let (k, b, c, e) = asked_from ms row a in (k, inr b, c, e)) (row_if (asks_for m s.query (key_of m q l.rest)) l row (asked_rows m s.query q ms) h)

    asked_has : (ms : List Leaf) (l : Leaf) → IsIn l ms → asks_for m s.query (key_of m q l.rest) ≡ true → HasRow (asked_rows m s.query q ms) l.row
    asked_has [] l h a = absurd h
    asked_has (k ∷ ms) l (inl e) a =
        subst (λ (r : RowAt). HasRow (asked_rows m s.query q (k ∷ ms)) r) (ap (λ (x : Leaf). x.row) e) (row_first (asks_for m s.query (key_of m q k.rest)) k (asked_rows m s.query q ms) (ap (λ (x : Leaf). asks_for m s.query (key_of m q x.rest)) e ∙ a))
    asked_has (k ∷ ms) l (inr h) a = row_later (asks_for m s.query (key_of m q k.rest)) k l.row (asked_rows m s.query q ms) (asked_has ms l h a)

    asked_in : (ms : List Leaf) (row : RowAt) → HasRow (asked_rows m s.query q ms) row → HasRow (rows_of ms) row
    asked_in ms row h = let (l, a, b, e) = asked_from ms row h in subst (λ (r : RowAt). HasRow (rows_of ms) r) e (row_has ms l a)

    asked_once : (ms : List Leaf) → AreDistinct (rows_of ms) → AreDistinct (asked_rows m s.query q ms)
    asked_once [] h = tt
    asked_once (l ∷ ms) (n, h) = go (asks_for m s.query (key_of m q l.rest)) (asked_once ms h)
      where
        go : (b : Bool) → AreDistinct (asked_rows m s.query q ms) → AreDistinct (cond b (l.row ∷ asked_rows m s.query q ms) (asked_rows m s.query q ms))
        go true g = ((λ a. n (asked_in ms l.row a)), g)
        go false g = g

    -- a needed row that was copied is taken
    takes : (row : RowAt) → needed row → HasRow (rows_of ls) row → HasRow asked_now row
    takes row (life, put, match, unkilled) h =
        let (l, a, e) = row_from ls row h in
        let (key, is, lived) = A.is.copies i q l (ls, at, a) in
        let same : life.key ≡ key = lived_key_since before past A.none row key (subst (λ (r : RowAt). HasLivedWith before past r key) e lived) life put.last in
        let asks : asks_for m s.query (key_of m q l.rest) ≡ true = ap (λ (o : Option (Option Key)). asks_for m s.query o) is ∙ ap (query_matches m s.query) (sym same) ∙ match in
        subst (λ (r : RowAt). HasRow asked_now r) e (asked_has ls l a asks)

    none_held : (j : ℕ) (x : Place) (r : Option Recon) → IsSpotOf m (leaves q ls) j x r → ⊥
    none_held j x r h = h

    no_new : (k : ℕ × ℕ) (y : Place) (p : Option Recon) → Spots m [] k y p → ⊥
    no_new k y p (item, e, h) = absurd (cc e)

    end_gives : Gives m S s.stamp (leaves q ls) [] (Contains (given_of s)) (Contains (given_of rest_of)) needed
    end_gives = record {
      shelters = λ k y p h. absurd (no_new k y p h);
      apart = λ k l y z u v p o h g n c d. absurd (no_new k y p h);
      keeps = λ row n h. ⊎_elim (λ a. a) (λ a. found_given m S before past s i (leaves q ls) [] asked_now met at row (takes row n a)) (given_stays m S before past s i (leaves q ls) [] asked_now met at row h);
      reads = λ row h. inl (⊎_elim (λ a. a) (λ a. ⊎_elim (λ b. its_given m S before past s i (leaves q ls) [] asked_now met at row (asked_in ls row b)) (λ b. absurd b) a) (given_cases m S before past s i (leaves q ls) [] asked_now met at row h));
      covers = λ row n j x t r h target under. absurd h;
    }

    pub sift_leaves : IsScanOf m S before past rest_of
    sift_leaves = step m S before past s i (leaves q ls) [] asked_now met at H A.is end_gives (asked_once ls (its_distinct m S before past s i (leaves q ls) [] asked_now met at A.is.once)) tt (λ row a b. b)
        (λ row h. ⊎_elim (λ a. inl (asked_in ls row a)) (λ a. absurd a) h)
        (λ row h.
        let (l, a, b, e) = asked_from ls row h in
        let (key, is, lived) = A.is.copies i q l (ls, at, a) in
        let (k, ek, match) = asks_is (key_of m q l.rest) b in
        let same : k ≡ key = cc (sym ek ∙ is) in
        found_may m past before s.query row key (subst (λ (r : RowAt). HasLivedWith before past r key) e lived) (ap (query_matches m s.query) (sym same) ∙ match))
        (λ k p ms l e a. absurd (cc e)) (λ k p v ms j y row life e a b c. absurd (cc e))
