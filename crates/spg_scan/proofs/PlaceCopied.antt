-- What stands at a held place is copied.
use Rattle.std.proofs.Common.{◌≡◌, ⊎_elim, inl, inr, ℕ, true, List, [], ◌∷◌, ◌++◌, Option, Some, None, get_or, Contains, refl, sym, ap, ◌∙◌, subst, append-nil}
use Rattle.std.specs.Prelude.{slice_get}
use Rattle.spg_base.specs.Row.{RowAt}
use Rattle.spg_opclass.specs.Meaning.{Meaning}
use Rattle.spg_forest.specs.View.{Place, Leaf, View, AreApart, Under, Target}
use Rattle.spg_forest.specs.Spot.{Frame, Spot, Branch, Bucket, IsStanding, IsTree, IsIn, NoRepeat, child_of, step_of, leaves_of}
use Rattle.spg_forest.specs.Classes.{class_of, down_of, key_of, admits_of, HasRecon, HasEntry}
use Rattle.spg_forest.specs.Sheets.{Sheets}
use Rattle.spg_forest.specs.Shape.{Shape, spots, tree_of}
use Rattle.spg_forest.specs.Counts.{AreDistinct}
use Rattle.spg_forest.specs.Steps.{HasRow}
use Rattle.spg_forest.specs.Opens.{BelowAt}
use Rattle.spg_forest.proofs.Forest.{children_apart, under_children}
use Rattle.spg_forest.proofs.FitWay.{recon_of_fit}
use Rattle.spg_forest.proofs.Keeping.{entry_of}
use Rattle.spg_forest.proofs.Trees.{recon_once}
use Rattle.spg_forest.proofs.Scan.{target_once}
use Rattle.spg_forest.proofs.Sections.{shape_tree}
use Rattle.spg_rows.specs.History.{History}
use Rattle.spg_rows.specs.Lives.{Life}
use Rattle.spg_rows.specs.Scans.{WasPut, IsNeeded, HasLivedWith}
use Rattle.spg_rows.specs.Table as rows
use Rattle.spg_rows.proofs.Histories.{sane_from_legal}
use Rattle.spg_rows.proofs.Scans.{live_found, last_key}
use Rattle.spg_scan.specs.Scanning.{Scanning, is_live, replaced}
use Rattle.spg_scan.proofs.CoverGives.{under_bucket}
use Rattle.spg_scan.proofs.CoverKeys.{admitted}
use Rattle.spg_scan.proofs.CoverTaken.{live_is}
use Rattle.spg_scan.specs.Items.{Item, IsItem, held, inner, leaves, IsSpotOf, Spots, rows_of, copied_rows}
use Rattle.spg_scan.specs.Cover.{given_of, IsScanOf}
use Rattle.spg_scan.specs.Reading.{live_leaves}
use Rattle.spg_scan.proofs.LiveLeaves.{live_has, live_from, live_repeat, row_has, row_from, rows_distinct}
use Rattle.spg_scan.proofs.Lists.{pair_is, one_item}
use Rattle.spg_scan.proofs.Swapping.{Gives}
use Rattle.spg_scan.proofs.Going.{step, given_cases, given_stays, copied_given}
use Rattle.spg_scan.proofs.Grounds.{Grounds, asked}

distinct_nil : (rs : List RowAt) → AreDistinct rs → AreDistinct (rs ++ [])
distinct_nil rs h = subst AreDistinct (sym (append-nil rs)) h

module _ {O Key Recon Cond : Type 0} (m : Meaning Key Recon Cond) (S : Sheets) (before past : History O Key Recon Cond) (table : rows.Table O Key Recon Cond) (s : Scanning O Key Recon Cond) (A : Grounds m S before past table s) where
  abbrev needed : RowAt → Type 0
  needed = IsNeeded m before past s.query

  abbrev H : Shape m S
  H = A.holds.shape

  abbrev V : Place → Spot
  V = spots S

  abbrev W : View (Option Recon)
  W = tree_of m S

  T : IsTree (class_of m) V S.clock
  T = shape_tree m S H

  module _ (i : ℕ) (x : Place) (r : Option Recon) (at : IsItem s.items i (held x r)) (met : ℕ) where
    target_of : (t : Place) × Target W t x s.stamp × HasRecon m V t r
    target_of = A.is.spots.sheltered (i, 0) x r (held x r, at, (refl, refl, refl))

    -- what stands there is its own target
    at_x : IsStanding (V x) → Target W x x s.stamp × HasRecon m V x r
    at_x h =
        let (t, target, recon) = target_of in
        let same : t ≡ x = target_once (class_of m) V t x x s.stamp target (Target.stands h) in
        (Target.stands h, subst (λ (p : Place). HasRecon m V p r) same recon)

    module _ (w : Frame) (ns : List (Option Place)) (is : V x ≡ Branch w ns) where
      abbrev copied : List (Item Recon)
      copied = inner r w ns ∷ []

      abbrev after : Scanning O Key Recon Cond
      after = replaced s i copied [] met

      child : (k : ℕ) (y : Place) → get_or ns k None ≡ Some y → child_of (V x) k ≡ Some y
      child k y e = ap (λ z. child_of z k) is ∙ e

      stands : IsStanding (V x)
      stands = subst IsStanding (sym is) tt

      copy_gives : Gives m S s.stamp (held x r) copied (Contains (given_of s)) (Contains (given_of after)) needed
      copy_gives =
          let (target, recon) = at_x stands in
          record {
            shelters = λ k y q (item, e, h).
                let (z, same) = one_item (inner r w ns) item k.0 e in
                let (link, down) = subst (λ (n : Item Recon). IsSpotOf m n k.1 y q) (sym same) h in
                let (o, ks, root, way) = recon in (
                  y,
                  Target.stands (T.targets x k.1 y (child k.1 y link)).0,
                  (o, k.1 ∷ ks, root, (x, r, way, child k.1 y link, ap (λ p. step_of (down_of m) p k.1 r) is ∙ down)),
                  (0, x, x, r, (refl, refl, refl), target, (k.1 ∷ [], (x, refl, child k.1 y link))),
                );
            apart = λ k l y z p q a b (item, e, h) (other, f, g) apart c d.
                let (k0, ka) = one_item (inner r w ns) item k.0 e in
                let (l0, la) = one_item (inner r w ns) other l.0 f in
                let (link, down) = subst (λ (n : Item Recon). IsSpotOf m n k.1 y a) (sym ka) h in
                let (link2, down2) = subst (λ (n : Item Recon). IsSpotOf m n l.1 z b) (sym la) g in
                let py : y ≡ p = target_once (class_of m) V y p y s.stamp (Target.stands (T.targets x k.1 y (child k.1 y link)).0) c in
                let qz : z ≡ q = target_once (class_of m) V z q z s.stamp (Target.stands (T.targets x l.1 z (child l.1 z link2)).0) d in
                subst (λ (v : Place). AreApart W v q) py (subst (λ (v : Place). AreApart W y v) qz (children_apart (class_of m) V S.clock T x y z k.1 l.1 (child k.1 y link) (child l.1 z link2) (λ n. apart (pair_is k l (k0 ∙ sym l0) n))));
            keeps = λ row n h. ⊎_elim (λ a. a) (λ a. absurd a) (given_stays m S before past s i (held x r) copied [] met at row h);
            reads = λ row h. inl (⊎_elim (λ a. a) (λ a. absurd (⊎_elim (λ b. b) (λ b. b) a)) (given_cases m S before past s i (held x r) copied [] met at row h));
            covers = λ row n j x2 t2 r2 (j0, ex, er) target2 under2.
                let same : t2 ≡ x = target_once (class_of m) V t2 x x s.stamp (subst (λ (p : Place). Target W t2 p s.stamp) (sym ex) target2) target in
                let (k, y, c, g) = under_children (class_of m) V S.clock T x w ns row is (subst (λ (p : Place). Under W p row) same under2) in
                inr ((0, k), y, down_of m r w k, (inner r w ns, refl, (ap (λ z. child_of z k) (sym is) ∙ c, refl)), (y, Target.stands (T.targets x k y c).0, g));
          }

      copy_admits : (k : ℕ) (q : Option Recon) (w2 : Frame) (ns2 : List (Option Place)) (j : ℕ) (y : Place) (row : RowAt) (life : Life Key) → slice_get copied k ≡ Some (inner q w2 ns2) → get_or ns2 j None ≡ Some y → BelowAt W s.stamp y row → WasPut before past row life → admits_of m q w2 j (Some life.key) ≡ true
      copy_admits k q w2 ns2 j y row life e link (u, target, (z, reach, (l, b, d))) put =
          let (k0, same) = one_item (inner r w ns) (inner q w2 ns2) k e in
          let eq : r ≡ q = cc same in
          let ew : w ≡ w2 = cc same in
          let en : ns ≡ ns2 = cc same in
          let link2 : get_or ns j None ≡ Some y = ap (λ xs. get_or xs j None) en ∙ link in
          let uy : u ≡ y = target_once (class_of m) V u y y s.stamp target (Target.stands (T.targets x j y (child j y link2)).0) in
          let (key, entry) = entry_of m S z l H b in
          let entry2 : HasEntry m V row key = subst (λ (n : RowAt). HasEntry m V n key) d entry in
          let one : key ≡ life.key = cc (sym ((A.holds.entries row key).0 entry2).1 ∙ last_key past row life put.last) in
          let ok = (admitted m S H x y w ns r j row key is (at_x stands).1 link2 (subst (λ (p : Place). Under W p row) uy (z, reach, (l, b, d))) entry2).0 in
          ap (λ a. admits_of m a w2 j (Some life.key)) (sym eq) ∙ ap (λ a. admits_of m r a j (Some life.key)) (sym ew) ∙ ap (λ a. admits_of m r w j (Some a)) (sym one) ∙ ok

      pub copy_inner : IsScanOf m S before past after
      copy_inner = step m S before past s i (held x r) copied [] met at H A.is copy_gives tt tt (λ row a b. a) (λ row h. absurd (⊎_elim (λ a. a) (λ a. a) h)) (λ row h. absurd h) (λ k q ls l e a. absurd (cc (one_item (inner r w ns) (leaves q ls) k e).1)) copy_admits

    module _ (ls : List Leaf) (is : V x ≡ Bucket ls) where
      abbrev kept : List Leaf
      kept = live_leaves table ls

      abbrev leaf_copy : List (Item Recon)
      leaf_copy = leaves r kept ∷ []

      abbrev then : Scanning O Key Recon Cond
      then = replaced s i leaf_copy [] met

      stands_too : IsStanding (V x)
      stands_too = subst IsStanding (sym is) tt

      once : NoRepeat kept
      once = live_repeat table ls (subst (λ (z : Spot). NoRepeat (leaves_of z)) is (T.once x))

      no_spot : (k : ℕ × ℕ) (y : Place) (q : Option Recon) → Spots m leaf_copy k y q → ⊥
      no_spot k y q (item, e, h) = let (z, same) = one_item (leaves r kept) item k.0 e in subst (λ (n : Item Recon). IsSpotOf m n k.1 y q) (sym same) h

      leaf_at : (l : Leaf) → IsIn l ls → Under W x l.row
      leaf_at l h = (x, ([], refl), (l, subst (λ (z : Spot). IsIn l (leaves_of z)) (sym is) h, refl))

      -- a row that is copied is that of a live leaf below the spot
      copied_leaf : (row : RowAt) → HasRow (copied_rows leaf_copy) row → (l : Leaf) × IsIn l ls × (is_live (rows.state_in table l.row) ≡ true) × (l.row ≡ row)
      copied_leaf row h = let (l, a, e) = row_from kept row (subst (λ (rs : List RowAt). HasRow rs row) (append-nil (rows_of kept)) h) in let (b, c) = live_from table ls l a in (l, b, c, e)

      copied_under : (row : RowAt) → HasRow (copied_rows leaf_copy) row → Under W x row
      copied_under row h = let (l, a, b, e) = copied_leaf row h in subst (λ (n : RowAt). Under W x n) e (leaf_at l a)

      leaves_give : Gives m S s.stamp (held x r) leaf_copy (Contains (given_of s)) (Contains (given_of then)) needed
      leaves_give =
          let (target, recon) = at_x stands_too in
          record {
            shelters = λ k y q h. absurd (no_spot k y q h);
            apart = λ k l y z p q a b h g n c d. absurd (no_spot k y a h);
            keeps = λ row n h. ⊎_elim (λ a. a) (λ a. absurd a) (given_stays m S before past s i (held x r) leaf_copy [] met at row h);
            reads = λ row h. ⊎_elim (λ a. inl a) (λ a. ⊎_elim (λ b. absurd b) (λ b. inr ((0, x, x, r, (refl, refl, refl), target, copied_under row b), λ k y u q g. absurd (no_spot k y q g))) a)
                (given_cases m S before past s i (held x r) leaf_copy [] met at row h);
            covers = λ row n j x2 t2 r2 (j0, ex, er) target2 under2.
                let same : t2 ≡ x = target_once (class_of m) V t2 x x s.stamp (subst (λ (p : Place). Target W t2 p s.stamp) (sym ex) target2) target in
                let (l, a, e) = under_bucket m S table s.query x x r s.stamp H target recon ls row is (subst (λ (p : Place). Under W p row) same under2) in
                let live : is_live (rows.state_in table l.row) ≡ true = ap (λ (n : RowAt). is_live (rows.state_in table n)) e ∙ ap is_live (asked m S before past table s A row n).0 in
                inl (copied_given m S before past s i (held x r) leaf_copy [] met at row (subst (λ (rs : List RowAt). HasRow rs row) (sym (append-nil (rows_of kept))) (subst (λ (n : RowAt). HasRow (rows_of kept) n) e (row_has kept l (live_has table ls l a live)))));
          }

      copied_new : (row : RowAt) → HasRow (copied_rows leaf_copy) row → Contains (given_of s) row → ⊥
      copied_new row h k = A.is.spots.fresh (i, 0) x x r row (held x r, at, (refl, refl, refl)) (at_x stands_too).0 k (copied_under row h)

      -- a copied leaf has the key of its row, which is live
      leaf_copies : (k : ℕ) (q : Option Recon) (ms : List Leaf) (l : Leaf) → slice_get leaf_copy k ≡ Some (leaves q ms) → IsIn l ms → (key : Option Key) × (key_of m q l.rest ≡ Some key) × HasLivedWith before past l.row key
      leaf_copies k q ms l e h =
          let (k0, same) = one_item (leaves r kept) (leaves q ms) k e in
          let eq : r ≡ q = cc same in
          let em : kept ≡ ms = cc same in
          let (a, live) = live_from table ls l (subst (λ (xs : List Leaf). IsIn l xs) (sym em) h) in
          let there : IsIn l (leaves_of (V x)) = subst (λ (z : Spot). IsIn l (leaves_of z)) (sym is) a in
          let (p, key, fit, is_key) = H.keys x l there in
          let recon : HasRecon m V x p = recon_of_fit (class_of m) V (Some key) x p fit in
          let one : p ≡ r = recon_once (class_of m) V S.clock T x p r recon (at_x stands_too).1 in
          let entry : HasEntry m V l.row key = (x, p, l, recon, there, refl, is_key) in
          (key, ap (λ (z : Option Recon). key_of m z l.rest) (sym (one ∙ eq)) ∙ is_key, live_found past (sane_from_legal past A.legal) before l.row key (sym (A.states l.row) ∙ live_is (rows.state_in table l.row) live) ((A.holds.entries l.row key).0 entry).1)

      pub copy_leaves : IsScanOf m S before past then
      copy_leaves = step m S before past s i (held x r) leaf_copy [] met at H A.is leaves_give tt (distinct_nil (rows_of kept) (rows_distinct kept once)) (λ row a b. a) (λ row h. ⊎_elim (λ a. absurd a) (λ a. inr (copied_new row a)) h) (λ row h. absurd h) leaf_copies
          (λ k q w ns j y row life e link b put. absurd (cc (one_item (leaves r kept) (inner q w ns) k e).1))
