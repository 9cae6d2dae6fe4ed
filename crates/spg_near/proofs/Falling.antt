-- Each read of a search leaves fewer, while the pages stay as they are.
use Rattle.std.proofs.Common.{◌≡◌, ◌<◌, ◌≤◌, ℕ, zero, suc, ◌+◌, List, [], ◌∷◌, ◌++◌, length, Option, Some, None, get_or, take, drop, refl, sym, ap, ◌∙◌, subst, arith}
use Rattle.std.specs.Prelude.{slice_get}
use Rattle.spg_base.specs.declared.point.Point.{Point}
use Rattle.spg_opclass.specs.Meaning.{Meaning}
use Rattle.spg_forest.specs.View.{Place, Target}
use Rattle.spg_forest.specs.Spot.{Frame, Spot, Branch, Bucket, Forward, Nothing, IsStanding, child_of}
use Rattle.spg_forest.specs.Sheets.{Sheets}
use Rattle.spg_forest.specs.Shape.{Shape, spots, tree_of}
use Rattle.spg_forest.specs.Ranks.{IsRankedAt, IsRanked, most_sections}
use Rattle.spg_forest.specs.Walk.{below}
use Rattle.spg_forest.proofs.Ranks.{each_is_ranked}
use Rattle.spg_forest.proofs.Sections.{shape_tree}
use Rattle.spg_rows.specs.Table as rows
use Rattle.spg_scan.specs.Items.{held}
use Rattle.spg_scan.proofs.CoverLists.{around}
use Rattle.spg_near.specs.declared.near_row.NearRow.{NearRow}
use Rattle.spg_near.specs.Nearing.{Boxing, NearItem, Nearing, NearSpot, near_children}
use Rattle.spg_near.specs.Left.{reads_at, child_reads, spot_reads, place_reads, item_reads, longest_way, near_left, NearFalls}
use Rattle.spg_near.proofs.Reading.{item_at}

-- ---- the reads from a place on

module _ (V : Place → Spot) where
  abbrev from : ℕ → Place → ℕ
  from = place_reads V

  same_children : (f g : Place → ℕ) (ns : List (Option Place)) (is : List ℕ) → ((i : ℕ) (y : Place) → get_or ns i None ≡ Some y → f y ≡ g y) → child_reads f ns is ≡ child_reads g ns is
  same_children f g ns [] h = refl
  same_children f g ns (i ∷ is) h = let a = at (get_or ns i None) refl in let b = same_children f g ns is h in omega (arith, a, b)
    where
      at : (o : Option Place) → get_or ns i None ≡ o → reads_at f o ≡ reads_at g o
      at None e = refl
      at (Some y) e = h i y e

  module _ (stand : (x : Place) (i : ℕ) (y : Place) → child_of (V x) i ≡ Some y → IsStanding (V y)) where
    same_at : (n k : ℕ) (x : Place) (s : Spot) → V x ≡ s → IsStanding s → IsRankedAt n (IsRanked V n) s → ((y : Place) → IsStanding (V y) → IsRanked V n y → from k y ≡ from n y) → spot_reads (from k) s ≡ spot_reads (from n) s
    same_at n k x (Branch w ns) e st (a, ranked) h = ap (λ z. suc z) (same_children (from k) (from n) ns (below (length ns)) (λ i y f. h y (stand x i y (ap (λ t. child_of t i) e ∙ f)) (ranked i y f)))
    same_at n k x (Bucket ls) e st r h = refl
    same_at n k x (Forward y u) e st r h = absurd st
    same_at n k x Nothing e st r h = absurd st

    -- at a place that stands more is no more
    enough : (n k : ℕ) (x : Place) → IsStanding (V x) → IsRanked V n x → n ≤ k → from k x ≡ from n x
    enough zero k x st r l = absurd r
    enough (suc n) zero x st r l = absurd (omega arith)
    enough (suc n) (suc k) x st r l = same_at n k x (V x) refl st r (λ y st2 r2. enough n k y st2 r2 (omega arith))

  abbrev Agree : ℕ → ℕ → Place → Type 0
  Agree k j x = from k x ≡ from j x

  -- so at a redirect, where there is room for those that follow
  through : (k j : ℕ) (x y : Place) (u : ℕ) → V x ≡ Forward y u → 0 < k → 0 < j → ((k2 j2 : ℕ) → k ≡ suc k2 → j ≡ suc j2 → Agree k2 j2 y) → Agree k j x
  through zero j x y u f p q h = absurd (omega arith)
  through (suc k) zero x y u f p q h = absurd (omega arith)
  through (suc k) (suc j) x y u f p q h = ap (spot_reads (from k)) f ∙ ap (λ z. suc z) (h k j refl refl) ∙ sym (ap (spot_reads (from j)) f)

-- ---- a read

module _ {Recon Cond : Type 0} (m : Meaning Point Recon Cond) (S : Sheets) (H : Shape m S) where
  abbrev W : ℕ → Place → ℕ
  W = place_reads (spots S)

  abbrev deep : ℕ
  deep = most_sections S

  stand : (x : Place) (i : ℕ) (y : Place) → child_of (spots S x) i ≡ Some y → IsStanding (spots S y)
  stand x i y e = ((shape_tree m S H).targets x i y e).0

  settled : (t x : Place) (s k j : ℕ) → Target (tree_of m S) t x s → deep ≤ k → deep ≤ j → S.clock + deep ≤ k + s → S.clock + deep ≤ j + s → W k x ≡ W j x
  settled t x s k j (Target.stands st) a b c d = enough (spots S) stand deep k x st (each_is_ranked m S H x) a ∙ sym (enough (spots S) stand deep j x st (each_is_ranked m S H x) b)
  settled t x s k j (Target.follows {y = y} {u = u} f l g) a b c d =
      let early : u < S.clock = (shape_tree m S H).stamps x y u f in
      through (spots S) k j x y u f (omega arith) (omega arith) (λ k2 j2 e1 e2. settled t y (suc u) k2 j2 g (omega arith) (omega arith) (omega arith) (omega arith))

  abbrev far : ℕ
  far = longest_way S

  -- what stands at a held place is one read, and the reads that it leads to
  unfolds : (t x : Place) (s : ℕ) (sp : Spot) → spots S x ≡ sp → Target (tree_of m S) t x s → W far x ≡ spot_reads (W far) sp
  unfolds t x s sp e g = settled t x s far (suc far) g (omega arith) (omega arith) (omega arith) (omega arith) ∙ ap (spot_reads (W far)) e

  abbrev reads_of : List (NearItem Recon) → ℕ
  reads_of items = item_reads (spots S) far items

  module _ (boxing : Boxing Recon) (it : NearItem Recon) where
    kids_reads : (w : Frame) (ns : List (Option Place)) (is : List ℕ) → reads_of (near_children m boxing it w ns is) ≡ child_reads (W far) ns is
    kids_reads w ns [] = refl
    kids_reads w ns (i ∷ is) = at (kids_reads w ns is) (get_or ns i None)
      where
        at : reads_of (near_children m boxing it w ns is) ≡ child_reads (W far) ns is → (o : Option Place) → reads_of (elim o [ None ↦ near_children m boxing it w ns is | Some y ↦ record { place = y; recon = m.down it.recon w i; area = boxing it.recon w i it.area } ∷ near_children m boxing it w ns is ]) ≡ reads_at (W far) o + child_reads (W far) ns is
        at more None = more ∙ omega arith
        at more (Some y) = ap (λ z. W far y + z) more

    module _ {O : Type 0} (table : rows.Table O Point Recon Cond) (p : Point) (t : Place) (s : ℕ) (target : Target (tree_of m S) t it.place s) (ys : List (NearItem Recon)) (found : List NearRow) where
      spot_falls : (sp : Spot) → spots S it.place ≡ sp → NearSpot m boxing table p it sp ys found → reads_of ys < W far it.place
      spot_falls (Branch w ns) e (is, none) =
          let a = unfolds t it.place s (Branch w ns) e target in
          let b : reads_of ys ≡ child_reads (W far) ns (below (length ns)) = ap reads_of is ∙ kids_reads w ns (below (length ns)) in
          omega (arith, a, b)
      spot_falls (Bucket ls) e (is, f) = let a = unfolds t it.place s (Bucket ls) e target in let b : reads_of ys ≡ 0 = ap reads_of is in omega (arith, a, b)
      spot_falls (Forward y u) e (is, none) =
          let a = unfolds t it.place s (Forward y u) e target in
          let b : reads_of ys ≡ W far y + 0 = ap reads_of is in
          omega (arith, a, b)
      spot_falls Nothing e never = absurd never

  reads_append : (xs ys : List (NearItem Recon)) → reads_of (xs ++ ys) ≡ reads_of xs + reads_of ys
  reads_append [] ys = omega arith
  reads_append (x ∷ xs) ys = let a = reads_append xs ys in omega (arith, a)

  -- where fewer take the place of one, the sum falls
  sum_falls : (xs ys : List (NearItem Recon)) (i : ℕ) (x : NearItem Recon) → slice_get xs i ≡ Some x → reads_of ys < W far x.place → reads_of (take i xs ++ (ys ++ drop (i + 1) xs)) < reads_of xs
  sum_falls xs ys i x e h =
      let a : reads_of xs ≡ reads_of (take i xs ++ (x ∷ drop (i + 1) xs)) = ap reads_of (around xs i x e).0 in
      let b : reads_of (take i xs ++ (x ∷ drop (i + 1) xs)) ≡ reads_of (take i xs) + (W far x.place + reads_of (drop (i + 1) xs)) = reads_append (take i xs) (x ∷ drop (i + 1) xs) in
      let c = reads_append (take i xs) (ys ++ drop (i + 1) xs) in
      let d = reads_append ys (drop (i + 1) xs) in
      omega (arith, a, b, c, d, h)

pub near_falls : {O Recon Cond : Type 0} (m : Meaning Point Recon Cond) (boxing : Boxing Recon) → NearFalls O Recon Cond m boxing
near_falls {O} {Recon} {Cond} m boxing S before past n n2 table i H D R =
    let (t, target, recon) = D.whole.scan.spots.sheltered (i, 0) R.item.place (Some R.item.recon) (held R.item.place (Some R.item.recon), item_at n.items i R.item R.at, (refl, refl, refl)) in
    let less = spot_falls m S H boxing R.item table n.target t n.stamp target R.items R.live (spots S R.item.place) refl R.reads in
    subst (λ (z : Nearing Recon). near_left S z < near_left S n) (sym R.after) (sum_falls m S H n.items R.items i R.item R.at less)
