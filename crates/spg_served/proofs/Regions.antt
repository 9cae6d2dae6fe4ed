-- The boxes of a class of points are the regions of its keys.
use Rattle.std.proofs.Common.{◌≡◌, ◌<◌, ◌≤◌, ⊎_elim, inl, inr, ℕ, suc, ◌+◌, Bool, true, false, ◌&&◌, List, [], ◌∷◌, ◌++◌, length, Option, Some, None, get_or, refl, sym, ap, ◌∙◌, subst, arith}
use Rattle.std.specs.Prelude.{⊤}
use Rattle.std.proofs.lemmas.Option.{same_Some}
use Rattle.spg_base.specs.declared.point.Point.{Point}
use Rattle.spg_base.specs.declared.point.PointCond.{PointCond}
use Rattle.spg_opclass.specs.Meaning.{Meaning}
use Rattle.spg_points.specs.Codec.{is_point}
use Rattle.spg_forest.specs.View.{Place}
use Rattle.spg_forest.specs.Spot.{Frame, Spot, Branch, child_of, step_of}
use Rattle.spg_forest.specs.Classes.{HasRecon, down_of}
use Rattle.spg_forest.specs.Pages.{place}
use Rattle.spg_forest.specs.Sheets.{Sheets}
use Rattle.spg_forest.specs.Shape.{Shape, spots}
use Rattle.spg_forest.specs.Walk.{below, met_at}
use Rattle.spg_forest.proofs.Relocate.{within_from_some}
use Rattle.spg_scan.proofs.CoverRoots.{main_stands}
use Rattle.spg_scan.proofs.CoverWays.{main_tuple, node_count}
use Rattle.spg_near.specs.Boxes.{in_box, distance, bound_of, whole_plane, IsBound}
use Rattle.spg_near.specs.Nearing.{NearItem, Boxing, near_children}
use Rattle.spg_near.specs.NearRest.{NearMet, NearWalk}
use Rattle.spg_near.specs.Laws.{CutLaw, NarrowLaw}
use Rattle.spg_near.proofs.Boxes.{bound_is_least}
use Rattle.spg_script.specs.Speech.{point_speech}
use Rattle.spg_histories.specs.Nearest.{Region, IsLeast, regions_below, MetWithin, WalkWithin}

module _ {Recon : Type 0} (m : Meaning Point Recon PointCond) (boxing : Boxing Recon) (S : Sheets) (p : Point) (cuts : CutLaw m boxing) (narrows : NarrowLaw boxing) (H : Shape m S) where
  -- one place: a key may stand below it just where it is in the box
  record IsLike (it : NearItem Recon) (r : Region Point Recon) : Type 0 where
    place_is : r.place ≡ it.place
    recon_is : r.recon ≡ it.recon
    known : HasRecon m (spots S) it.place (Some it.recon)
    may_is : (q : Point) → r.may q ≡ in_box it.area q
    plane : (q : Point) → in_box it.area q ≡ true → is_point q ≡ true

  abbrev AreLike : List (NearItem Recon) → List (Region Point Recon) → Type 0
  AreLike [] [] = ⊤
  AreLike [] (r ∷ rs) = ⊥
  AreLike (it ∷ items) [] = ⊥
  AreLike (it ∷ items) (r ∷ rs) = IsLike it r × AreLike items rs

  like_append : (xs ys : List (NearItem Recon)) (rs qs : List (Region Point Recon)) → AreLike xs rs → AreLike ys qs → AreLike (xs ++ ys) (rs ++ qs)
  like_append [] ys [] qs like more = more
  like_append [] ys (r ∷ rs) qs like more = absurd like
  like_append (x ∷ xs) ys [] qs like more = absurd like
  like_append (x ∷ xs) ys (r ∷ rs) qs like more = (like.0, like_append xs ys rs qs like.1 more)

  -- the bound
  least : (it : NearItem Recon) (r : Region Point Recon) → IsLike it r → IsLeast point_speech p r.may (bound_of p it.area)
  least it r like = go (bound_is_least p it.area)
    where
      boxed : (z key : Point) → Some z ≡ Some key → r.may key ≡ true → in_box it.area z ≡ true
      boxed z key is h = sym (like.may_is z) ∙ ap r.may (same_Some z key is) ∙ h

      go : IsBound p it.area (bound_of p it.area) → IsLeast point_speech p r.may (bound_of p it.area)
      go (inl ((q, inside, far), all)) = inl ((q, q, refl, like.may_is q ∙ inside, far), λ z key is h. all z (boxed z key is h))
      go (inr (none, e)) = inr ((λ z key is h. none z (boxed z key is h)), e)

  -- a child
  module _ (it : NearItem Recon) (r : Region Point Recon) (like : IsLike it r) (w : Frame) (ns : List (Option Place)) (e : spots S it.place ≡ Branch w ns) (j : ℕ) (y : Place) (link : get_or ns j None ≡ Some y) where
    within : j < length w.labels
    within = let a = within_from_some ns j y link in let count = node_count m S H it.place w ns e in omega arith

    admitted : (q : Point) → (b : Bool) → in_box it.area q ≡ b → (b && m.admits it.recon w j q) ≡ in_box (boxing it.recon w j it.area) q
    admitted q true inside = ap (λ (b : Bool). b && m.admits it.recon w j q) (sym inside) ∙ sym (cuts it.recon w j it.area q (main_tuple m S H it.place it.recon w ns like.known e) within (like.plane q inside))
    admitted q false out = go (in_box (boxing it.recon w j it.area) q) refl
      where
        go : (b : Bool) → in_box (boxing it.recon w j it.area) q ≡ b → false ≡ b
        go true f = sym out ∙ narrows it.recon w j it.area q f
        go false f = refl

    child_known : HasRecon m (spots S) y (Some (m.down it.recon w j))
    child_known =
        let (o, ks, root, way) = like.known in
        let child : child_of (spots S it.place) j ≡ Some y = ap (λ (t : Spot). child_of t j) e ∙ link in
        let step : step_of (down_of m) (spots S it.place) j (Some it.recon) ≡ Some (m.down it.recon w j) = ap (λ (t : Spot). step_of (down_of m) t j (Some it.recon)) e in
        (o, j ∷ ks, root, (it.place, Some it.recon, way, child, step))

    child_like : IsLike (record { place = y; recon = m.down it.recon w j; area = boxing it.recon w j it.area }) (record { place = y; recon = m.down r.recon w j; may = λ key. r.may key && m.admits r.recon w j key })
    child_like = record {
      place_is = refl;
      recon_is = ap (λ (x : Recon). m.down x w j) like.recon_is;
      known = child_known;
      may_is = λ q. ap (λ (x : Recon). r.may q && m.admits x w j q) like.recon_is ∙ ap (λ (b : Bool). b && m.admits it.recon w j q) (like.may_is q) ∙ admitted q (in_box it.area q) refl;
      plane = λ q h. like.plane q (narrows it.recon w j it.area q h);
    }

  children_like : (it : NearItem Recon) (r : Region Point Recon) → IsLike it r → (w : Frame) (ns : List (Option Place)) → spots S it.place ≡ Branch w ns → (is : List ℕ) → AreLike (near_children m boxing it w ns is) (regions_below m r w ns is)
  children_like it r like w ns e [] = tt
  children_like it r like w ns e (j ∷ is) = go (get_or ns j None) refl (children_like it r like w ns e is)
    where
      go : (o : Option Place) → get_or ns j None ≡ o → AreLike (near_children m boxing it w ns is) (regions_below m r w ns is) →
          AreLike (elim o [ None ↦ near_children m boxing it w ns is | Some y ↦ record { place = y; recon = m.down it.recon w j; area = boxing it.recon w j it.area } ∷ near_children m boxing it w ns is ])
          (elim o [ None ↦ regions_below m r w ns is | Some y ↦ record { place = y; recon = m.down r.recon w j; may = λ key. r.may key && m.admits r.recon w j key } ∷ regions_below m r w ns is ])
      go None link rest = rest
      go (Some y) link rest = (child_like it r like w ns e j y link, rest)

  -- what is met from both
  met_within : (last : Option ℕ) (items : List (NearItem Recon)) (n : ℕ) → NearMet m boxing S p last items n → (rs : List (Region Point Recon)) → AreLike items rs → MetWithin m point_speech S p last rs n
  met_within last items n (NearMet.done) [] like = MetWithin.done
  met_within last items n (NearMet.done) (r ∷ rs) like = absurd like
  met_within last items n (NearMet.beyond {it = it} {items = more} {n = k} far t) [] like = absurd like
  met_within last items n (NearMet.beyond {it = it} {items = more} {n = k} far t) (r ∷ rs) like = MetWithin.beyond (least it r like.0) far (met_within last more k t rs like.1)
  met_within last items n (NearMet.inner {it = it} {items = more} {n = k} {w = w} {ns = ns} near e t) [] like = absurd like
  met_within last items n (NearMet.inner {it = it} {items = more} {n = k} {w = w} {ns = ns} near e t) (r ∷ rs) like =
      let cs : List (NearItem Recon) = near_children m boxing it w ns (below (length ns)) in
      let qs : List (Region Point Recon) = regions_below m r w ns (below (length ns)) in
      MetWithin.inner (least it r like.0) near (ap (spots S) like.0.place_is ∙ e)
      (met_within last (cs ++ more) k t (qs ++ rs) (like_append cs more qs rs (children_like it r like.0 w ns e (below (length ns))) like.1))
  met_within last items n (NearMet.leaves {it = it} {items = more} {n = k} {ls = ls} near e t) [] like = absurd like
  met_within last items n (NearMet.leaves {it = it} {items = more} {n = k} {ls = ls} near e t) (r ∷ rs) like =
      subst (λ (x : Place). MetWithin m point_speech S p last (r ∷ rs) (met_at x ls + k)) like.0.place_is
      (MetWithin.leaves (least it r like.0) near (ap (spots S) like.0.place_is ∙ e) (met_within last more k t rs like.1))

  -- the whole tree
  pub walk_within : ((q : Point) → m.is_key q ≡ in_box whole_plane q) → ((q : Point) → in_box whole_plane q ≡ true → is_point q ≡ true) → (last : Option ℕ) (n : ℕ) → NearWalk m boxing S p last n → WalkWithin m point_speech S p last n
  walk_within keys plane last n walk = met_within last _ n walk _ (
    record {
      place_is = refl;
      recon_is = refl;
      known = (place 1 0, [], (refl, main_stands m S H), (refl, refl));
      may_is = keys;
      plane = plane;
    },
    tt,
  )
