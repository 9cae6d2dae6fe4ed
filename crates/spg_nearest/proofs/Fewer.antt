-- A search for the nearest rows meets no more tuples than stand below the main root.
use Rattle.std.proofs.Common.{◌≡◌, ℕ, ◌≤◌, List, [], ◌∷◌, ◌++◌, Option, Some, None, get_or, length, refl, sym, ap, ◌∙◌, subst, arith}
use Rattle.spg_base.specs.declared.point.Point.{Point}
use Rattle.spg_opclass.specs.Meaning.{Meaning}
use Rattle.spg_opclass.specs.Laws.{KeptLaw, CodeLaw}
use Rattle.spg_opclass.specs.declared.query.Query.TheVariants.{All}
use Rattle.spg_forest.specs.View.{Place}
use Rattle.spg_forest.specs.Spot.{Frame}
use Rattle.spg_forest.specs.Classes.{down_of}
use Rattle.spg_forest.specs.Sheets.{Sheets}
use Rattle.spg_forest.specs.Shape.{Shape, spots}
use Rattle.spg_forest.specs.Walk.{Met, below, children_at, followed}
use Rattle.spg_scan.specs.Scanning.{counted}
use Rattle.spg_scan.proofs.RestMet.{met_split}
use Rattle.spg_near.specs.Nearing.{Boxing, NearItem, near_children}
use Rattle.spg_near.specs.NearRest.{NearMet, NearWalk}
use Rattle.spg_walks.proofs.Meeting.{met_branch, met_bucket}
use Rattle.spg_walks.proofs.Walks.{main_has_a_walk}

abbrev places : {Recon : Type 0} → List (NearItem Recon) → List (Place × Option Recon)
places [] = []
places (it ∷ items) = (it.place, Some it.recon) ∷ places items

module _ (O : Type 0) {Recon Cond : Type 0} (m : Meaning Point Recon Cond) (boxing : Boxing Recon) (S : Sheets) (p : Point) (last : Option ℕ) where
  abbrev M : List (Place × Option Recon) → ℕ → Type 0
  M = Met (down_of m) (followed {O = O} m All) (spots S)

  places_append : (xs ys : List (NearItem Recon)) → places (xs ++ ys) ≡ places xs ++ places ys
  places_append [] ys = refl
  places_append (x ∷ xs) ys = ap (λ zs. (x.place, Some x.recon) ∷ zs) (places_append xs ys)

  places_below : (it : NearItem Recon) (w : Frame) (ns : List (Option Place)) (is : List ℕ) → places (near_children m boxing it w ns is) ≡ children_at (down_of m) (Some it.recon) w ns is
  places_below it w ns [] = refl
  places_below it w ns (i ∷ is) = one (get_or ns i None) (near_children m boxing it w ns is) (children_at (down_of m) (Some it.recon) w ns is) (places_below it w ns is)
    where
      one : (o : Option Place) (xs : List (NearItem Recon)) (ys : List (Place × Option Recon)) → places xs ≡ ys →
          places (elim o [ None ↦ xs | Some y ↦ record { place = y; recon = m.down it.recon w i; area = boxing it.recon w i it.area } ∷ xs ]) ≡ elim o [ None ↦ ys | Some y ↦ (y, Some (m.down it.recon w i)) ∷ ys ]
      one None xs ys e = e
      one (Some y) xs ys e = ap (λ zs. (y, Some (m.down it.recon w i)) ∷ zs) e

  -- from items on no more are met than a scan of all rows meets
  fewer : (items : List (NearItem Recon)) (n : ℕ) → NearMet m boxing S p last items n → (k : ℕ) → M (places items) k → n ≤ k
  fewer items n (NearMet.done) k t = omega arith
  fewer items n (NearMet.beyond {it = it} {items = others} {n = i} b rest) k t =
      let (a, c, f, g, e) = met_split (down_of m) (followed {O = O} m All) (spots S) ((it.place, Some it.recon) ∷ places others) k t ((it.place, Some it.recon) ∷ []) (places others) refl in
      let low = fewer others i rest c g in
      omega (arith, low, e)
  fewer items n (NearMet.inner {it = it} {items = others} {n = i} {w = w} {ns = ns} b e rest) k t =
      let (j, u, q) = met_branch (down_of m) (followed {O = O} m All) (spots S) ((it.place, Some it.recon) ∷ places others) k t it.place (Some it.recon) (places others) w ns refl e in
      let kids : places (near_children m boxing it w ns (below (length ns)) ++ others) ≡ children_at (down_of m) (Some it.recon) w ns (below (length ns)) ++ places others =
      places_append (near_children m boxing it w ns (below (length ns))) others ∙ ap (λ zs. zs ++ places others) (places_below it w ns (below (length ns))) in
      let low = fewer (near_children m boxing it w ns (below (length ns)) ++ others) i rest j (subst (λ (zs : List (Place × Option Recon)). M zs j) (sym kids) u) in
      omega (arith, low, q)
  fewer items n (NearMet.leaves {it = it} {items = others} {n = i} {ls = ls} b e rest) k t =
      let (j, u, q) = met_bucket (down_of m) (followed {O = O} m All) (spots S) ((it.place, Some it.recon) ∷ places others) k t it.place (Some it.recon) (places others) ls refl e in
      let low = fewer others i rest j u in
      omega (arith, low, q)

  -- so their number is told in 64 bits
  pub walk_told : KeptLaw m → CodeLaw m → Shape m S → length S.sheets ≤ 131072 → (n met : ℕ) → NearWalk m boxing S p last n → counted n ≡ met → NearWalk m boxing S p last met
  walk_told K L H pages n met walk is =
      let (k, t, few) = main_has_a_walk O m K L S H pages in
      let low = fewer _ n walk k t in
      let same : n ≡ met = omega (arith, low, few, is) in
      subst (λ (i : ℕ). NearWalk m boxing S p last i) same walk
