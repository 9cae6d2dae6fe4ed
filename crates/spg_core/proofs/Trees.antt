-- The tree of the page on which an insert stands, by what it carries there.
use Rattle.std.proofs.Common.{◌≡◌, ℕ, List, [], ◌∷◌, ⊎_elim, Option, Some, None, is_none, refl, sym, ap, ◌∙◌, subst}
use Rattle.spg_opclass.specs.Meaning.{Meaning}
use Rattle.spg_forest.specs.View.{Place, View, Way}
use Rattle.spg_forest.specs.Spot.{Spot, Branch, Bucket, Forward, Nothing, step_of}
use Rattle.spg_forest.specs.Classes.{class_of, down_of, start_of, HasRecon}
use Rattle.spg_forest.specs.Sheets.{Sheets, sheet_at}
use Rattle.spg_forest.specs.Shape.{Shape, spots, tree_of}
use Rattle.spg_forest.proofs.FitWay.{recon_of_fit}
use Rattle.spg_tree.specs.Descents.{Descending, in_nulls}
use Rattle.spg_tree.specs.declared.stand.Stand.{Stand}
use Rattle.spg_tree.specs.declared.stand.Stand.TheVariants.{At}
use Rattle.spg_descend.specs.Carried.{IsCarried, WayFits}
use Rattle.spg_scan.proofs.CoverWays.{root_is, child_tree}
use Rattle.spg_core.proofs.Weights.{nulls_key, recon_key}

module _ {Key Recon Cond : Type 0} (m : Meaning Key Recon Cond) where
  -- below a tuple something is rebuilt exactly where something is at the tuple
  step_null : (s : Spot) (i : ℕ) (r : Option Recon) → is_none (step_of (down_of m) s i r) ≡ is_none r
  step_null (Branch w ns) i None = refl
  step_null (Branch w ns) i (Some r) = refl
  step_null (Bucket ls) i r = refl
  step_null (Forward y u) i r = refl
  step_null Nothing i r = refl

  module _ (S : Sheets) (H : Shape m S) where
    abbrev W : View (Option Recon)
    W = tree_of m S

    way_null : (o x : Place) (p r : Option Recon) (ks : List ℕ) → Way W o p ks x r → is_none r ≡ is_none p
    way_null o x p r [] (e, h) = ap is_none (sym h)
    way_null o x p r (i ∷ is) (z, q, w, c, e) = ap is_none (sym e) ∙ step_null (spots S z) i q ∙ way_null o z p q is w

    way_tree : (o x : Place) (p r : Option Recon) (ks : List ℕ) → Way W o p ks x r → (sheet_at S x.block).nulls ≡ (sheet_at S o.block).nulls
    way_tree o x p r [] (e, h) = ap (λ (z : Place). (sheet_at S z.block).nulls) (sym e)
    way_tree o x p r (i ∷ is) (z, q, w, c, e) = child_tree m S H z x i c ∙ way_tree o z p q is w

    -- a place is in the nulls tree exactly where nothing is rebuilt
    recon_tree : (x : Place) (r : Option Recon) → HasRecon m (spots S) x r → (sheet_at S x.block).nulls ≡ is_none r
    recon_tree x r (o, ks, (z, h), w) = way_tree o x (start_of m o.block) r ks w ∙ ⊎_elim
        (λ e. ap (λ (y : Place). (sheet_at S y.block).nulls) e ∙ H.pages.main ∙ ap (λ (y : Place). is_none (start_of m y.block)) (sym e))
        (λ e. ap (λ (y : Place). (sheet_at S y.block).nulls) e ∙ H.pages.nulls ∙ ap (λ (y : Place). is_none (start_of m y.block)) (sym e))
        (root_is m S H o z h) ∙ sym (way_null o x (start_of m o.block) r ks w)

    -- an insert at a place is of the tree of its page
    pub place_tree : (d : Descending Recon) (key : Option Key) (x : Place) → IsCarried m S d key → d.stand ≡ At x → (sheet_at S x.block).nulls ≡ in_nulls d
    place_tree d key x C e =
        let way : WayFits m S (At x) d.parent d.recon key = subst (λ (s : Stand). WayFits m S s d.parent d.recon key) e C.way in
        recon_tree x d.recon (recon_of_fit (class_of m) (spots S) (Some key) x d.recon way) ∙ recon_key m S d key C ∙ sym (nulls_key m S d key C)
