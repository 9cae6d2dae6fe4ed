-- The leaves that a walk lists.
use Rattle.std.proofs.Common.{◌≡◌, ℕ, ◌+◌, ◌*◌, ◌<◌, ◌≤◌, List, [], ◌∷◌, ◌++◌, ◌⊎◌, ⊎_elim, Bool, true, false, cond, Option, Some, None, length, get_or, set, map, min, replicate, refl, sym, ap, ◌∙◌, subst, inl, inr, arith}
use Rattle.std.specs.List.{AllZip}
use Rattle.std.proofs.lemmas.Bool.{false≢true, cond-true}
use Rattle.std.proofs.lemmas.List.{append_assoc, append-nil}
use Rattle.spg_base.specs.Row.{RowAt}
use Rattle.spg_opclass.specs.Meaning.{Meaning}
use Rattle.spg_forest.specs.View.{Place, Leaf}
use Rattle.spg_forest.specs.Spot.{Spot, Branch, Bucket, IsIn, leaves_of}
use Rattle.spg_forest.specs.Tuples.{Tuple, Live}
use Rattle.spg_forest.specs.Pages.{tuple_on}
use Rattle.spg_forest.specs.Classes.{HasRecon, key_of}
use Rattle.spg_forest.specs.Sheets.{Sheets}
use Rattle.spg_forest.specs.Shape.{spots}
use Rattle.spg_forest.proofs.Trees.{stands_with_leaf}
use Rattle.spg_clauses.specs.Clauses.{tuples_on, stands_at}
use Rattle.spg_survey.specs.Cells.{cell}
use Rattle.spg_survey.specs.Reaching.{IsCell, IsOn, is_marked}
use Rattle.spg_survey.proofs.Walks.{marked_kept, marked_here, marked_either, none_marked}
use Rattle.spg_keys.specs.declared.listing.Listed.{Listed}
use Rattle.spg_keys.specs.declared.listing.Listing.{Listing}
use Rattle.spg_keys.specs.Ways.{Passed, Keyed}
use Rattle.spg_keys.specs.Paths.{AreRight}
use Rattle.spg_keys.specs.Listings.{listed, noted, IsMet, Lists, IsListedOf, Gathers, AreDistinct, Gathered, KeepsList, AreListed}
use Rattle.spg_keys.proofs.SpotFacts.{standing_cell}
use Rattle.spg_keys.proofs.Roots.{root, all_met}

pub zip_more : {A B : Type 0} (R : A → B → Type 0) (xs : List A) (ys : List B) (x : A) (y : B) → AllZip R xs ys → R x y → AllZip R (xs ++ x ∷ []) (ys ++ y ∷ [])
zip_more R [] [] x y a r = (r, tt)
zip_more R [] (v ∷ ys) x y a r = absurd a
zip_more R (u ∷ xs) [] x y a r = absurd a
zip_more R (u ∷ xs) (v ∷ ys) x y (p, a) r = (p, zip_more R xs ys x y a r)

pub zip_weaker : {A B : Type 0} (R Q : A → B → Type 0) → ((x : A) (y : B) → R x y → Q x y) → (xs : List A) (ys : List B) → AllZip R xs ys → AllZip Q xs ys
zip_weaker R Q f [] [] a = tt
zip_weaker R Q f [] (v ∷ ys) a = absurd a
zip_weaker R Q f (u ∷ xs) [] a = absurd a
zip_weaker R Q f (u ∷ xs) (v ∷ ys) (p, a) = (f u v p, zip_weaker R Q f xs ys a)

module _ {Key Recon Cond : Type 0} (m : Meaning Key Recon Cond) (recon : Option Recon) (block : ℕ) (ts : List Tuple) where
  -- no leaf was met yet
  pub lists_none : (old : Listing Key) → Lists m recon block ts old old []
  lists_none old = record { wanted = refl; more = λ w. ([], sym (append-nil old.found.items), tt) }

  -- one leaf more
  pub lists_more : (old mid new : Listing Key) (ls : List Leaf) (l : Leaf) (place : Place) (row : RowAt) (key : Option Key) → Lists m recon block ts old mid ls → new.wanted ≡ mid.wanted → new.found.items ≡ noted mid place row key → IsMet m recon block ts (listed place row key) l → Lists m recon block ts old new (ls ++ l ∷ [])
  lists_more old mid new ls l place row key L w f M = record {
    wanted = w ∙ L.wanted;
    more = λ t.
        let (more, e, z) = L.more t in (
          more ++ listed place row key ∷ [],
          f ∙ cond-true mid.wanted (mid.found.items ++ listed place row key ∷ []) mid.found.items (L.wanted ∙ t) ∙ ap (λ xs. xs ++ listed place row key ∷ []) e ∙ append_assoc old.found.items more (listed place row key ∷ []),
          zip_more (IsMet m recon block ts) more ls (listed place row key) l z M,
        );
  }

module _ {Key Recon Cond : Type 0} (m : Meaning Key Recon Cond) (S : Sheets) where
  abbrev n : ℕ
  n = length S.sheets

  -- nothing is marked
  pub keeps_same : (marks : List Bool) (old : Listing Key) (low : ℕ) → KeepsList m S n marks old low marks old low
  keeps_same marks old low = record { wanted = refl; fit = λ e. e; gathered = λ w e G. G }

  pub keeps_both : (a b c : List Bool) (s t u : Listing Key) (i j k : ℕ) → KeepsList m S n a s i b t j → KeepsList m S n b t j c u k → KeepsList m S n a s i c u k
  keeps_both a b c s t u i j k A B = record {
    wanted = B.wanted ∙ A.wanted;
    fit = λ e. A.fit (B.fit e);
    gathered = λ w e G. B.gathered (A.wanted ∙ w) e (A.gathered w (B.fit e) G);
  }

  pub gathered_none : (marks : List Bool) → marks ≡ replicate (409 * n) false → Gathered m S n marks []
  gathered_none marks e = record {
    places = [];
    from = refl;
    distinct = tt;
    marked = λ x h. absurd h;
    all = λ x l c h k. let q : false ≡ true = sym (none_marked (409 * n) (cell x)) ∙ sym (ap (λ ms. get_or ms (cell x) false) e) ∙ h in cc;
  }

  -- a place without leaves is marked
  pub mark_empty : (marks : List Bool) (es : List (Listed Key)) (to : Place) → IsCell n to → ((l : Leaf) → IsIn l (leaves_of (spots S to)) → ⊥) → Gathered m S n marks es → Gathered m S n (set marks (cell to) true) es
  mark_empty marks es to c none G = record {
    places = G.places;
    from = G.from;
    distinct = G.distinct;
    marked = λ x h. let (a, b) = G.marked x h in (a, marked_kept marks (cell to) x b);
    all = λ x l d h k. ⊎_elim (λ e. absurd (none l (subst (λ (y : Place). IsIn l (leaves_of (spots S y))) e k))) (λ b. G.all x l d b k) (marked_either n marks to x c d h);
  }

  -- a place is marked, and its leaves are listed
  pub mark_leaves : (marks : List Bool) (es more : List (Listed Key)) (to : Place) → length marks ≡ 409 * n → IsCell n to → is_marked marks to ≡ false → AllZip (IsListedOf m S to) more (leaves_of (spots S to)) → Gathered m S n marks es → Gathered m S n (set marks (cell to) true) (es ++ more)
  mark_leaves marks es more to len c new z G = record {
    places = to ∷ G.places;
    from = (es, more, refl, z, G.from);
    distinct = ((λ h. false≢true (sym new ∙ (G.marked to h).1)), G.distinct);
    marked = λ x h. ⊎_elim
        (λ e. (subst (IsCell n) e c, subst (λ (y : Place). is_marked (set marks (cell to) true) y ≡ true) e (marked_here n marks to len c)))
        (λ k. let (a, b) = G.marked x k in (a, marked_kept marks (cell to) x b)) h;
    all = λ x l d h k. ⊎_elim (λ e. inl (sym e)) (λ b. inr (G.all x l d b k)) (marked_either n marks to x c d h);
  }

  pub keeps_empty : (marks : List Bool) (old : Listing Key) (low : ℕ) (to : Place) → IsCell n to → ((l : Leaf) → IsIn l (leaves_of (spots S to)) → ⊥) → KeepsList m S n marks old low (set marks (cell to) true) old low
  keeps_empty marks old low to c none = record { wanted = refl; fit = λ e. e; gathered = λ w e G. mark_empty marks old.found.items to c none G }

  -- what was met on the page of a spot is listed of it
  pub listed_of : (to : Place) (recon : Option Recon) → HasRecon m (spots S) to recon → (e : Listed Key) (l : Leaf) → IsMet m recon to.block (tuples_on S to.block) e l → IsListedOf m S to e l
  listed_of to recon r e l M = record {
    stands = let (k, q) = M.stands in (k, subst (λ (b : ℕ). tuple_on (tuples_on S b) e.place.offset ≡ Live l k) (sym M.block) q);
    row = M.row;
    recon = recon;
    there = r;
    key = M.key;
  }

  pub keeps_leaves : (marks : List Bool) (old new : Listing Key) (low : ℕ) (to : Place) (recon : Option Recon) (ls : List Leaf) → length marks ≡ 409 * n → IsCell n to → is_marked marks to ≡ false → HasRecon m (spots S) to recon → leaves_of (spots S to) ≡ ls →
      Lists m recon to.block (tuples_on S to.block) old new ls → KeepsList m S n marks old low (set marks (cell to) true) new low
  keeps_leaves marks old new low to recon ls len c u r same L = record {
    wanted = L.wanted;
    fit = λ e. e;
    gathered = λ w e G.
        let (more, q, z) = L.more w in
        subst (λ (es : List (Listed Key)). Gathered m S n (set marks (cell to) true) es) (sym q)
        (mark_leaves marks old.found.items more to len c u (subst (λ (ks : List Leaf). AllZip (IsListedOf m S to) more ks) (sym same) (zip_weaker (IsMet m recon to.block (tuples_on S to.block)) (IsListedOf m S to) (listed_of to recon r) more ls z)) G);
  }

  -- one leaf does not fit: the list is of no use
  pub keeps_misfit : (marks marks2 : List Bool) (old new : Listing Key) (low b : ℕ) → b < n → new.wanted ≡ old.wanted → KeepsList m S n marks old low marks2 new (min low b)
  keeps_misfit marks marks2 old new low b h w = record { wanted = w; fit = λ e. absurd (omega arith); gathered = λ w e G. absurd (omega arith) }

  -- at the end all leaves are listed
  pub are_listed : (R : AreRight m S) (marks : List Bool) (es : List (Listed Key)) (low : ℕ) → Keyed m (spots S) n marks [] low → is_marked marks (root m S R 1) ≡ true → is_marked marks (root m S R 2) ≡ true → Gathered m S n marks es → AreListed m S es
  are_listed R marks es low K a b G = record {
    places = G.places;
    from = G.from;
    distinct = G.distinct;
    all = λ x l h. let s = stands_with_leaf (spots S x) l h in G.all x l (standing_cell S R.links R.count R.short x s) (all_met m S R marks low K a b x s) h;
  }
