-- A scan that opens.
use Rattle.std.proofs.Common.{inl, inr, refl, sym, ap, subst, ⊎_elim, ◌∙◌, ℕ, List, [], ◌∷◌, Option, Contains, arith}
use Rattle.spg_base.specs.Row.{RowAt}
use Rattle.spg_opclass.specs.Meaning.{Meaning}
use Rattle.spg_opclass.specs.Queries.{query_matches}
use Rattle.spg_forest.specs.View.{Place}
use Rattle.spg_forest.specs.Classes.{start_of}
use Rattle.spg_forest.specs.Opens.{ScanHolds}
use Rattle.spg_forest.specs.Counts.{AreDistinct}
use Rattle.spg_forest.specs.Sheets.{Sheets}
use Rattle.spg_forest.specs.Shape.{tree_of}
use Rattle.spg_forest.specs.Walk.{roots_of}
use Rattle.spg_rows.specs.declared.event.Event.TheVariants.{OpenScan}
use Rattle.spg_rows.specs.Lives.{lives}
use Rattle.spg_rows.specs.States.{StateSays}
use Rattle.spg_rows.specs.Scans.{IsNeeded}
use Rattle.spg_rows.proofs.Histories.{Sane, sane_from_legal}
use Rattle.spg_rows.proofs.Scans.{needed_before, needed_live}
use Rattle.spg_rows.proofs.Uses.{live_present}
use Rattle.spg_scan.specs.Items.{Spots, hold_all}
use Rattle.spg_scan.specs.Opening.{ScanOpens}
use Rattle.spg_scan.proofs.CoverKeys.{HasAsked}
use Rattle.spg_scan.proofs.CoverLists.{IsPlaceIn}
use Rattle.spg_scan.proofs.CoverNodes.{contains_none}
use Rattle.spg_scan.proofs.CoverRoots.{roots_hold}
use Rattle.spg_scan.proofs.Lists.{held_spot, spot_held, copied_held, held_no_leaves, held_no_inner}

-- held places and no other items
held_holds : {Key Recon Cond : Type 0} (m : Meaning Key Recon Cond) (S : Sheets) (c : ℕ) (ys : List (Place × Option Recon)) (read needed : RowAt → Type 0) → ScanHolds (tree_of m S) (start_of m) c (IsPlaceIn ys) read needed → ScanHolds (tree_of m S) (start_of m) c (Spots m (hold_all ys)) read needed
held_holds m S c ys read needed D = record {
  sheltered = λ k x q h. D.sheltered k.0 x q (held_spot m ys k.0 k.1 x q h).1;
  apart = λ k l x y t u q r h g n a b.
      let (a0, a1) = held_spot m ys k.0 k.1 x q h in
      let (b0, b1) = held_spot m ys l.0 l.1 y r g in
      D.apart k.0 l.0 x y t u q r a1 b1 (λ e. n (λ i. (e i, (a0 ∙ sym b0) i))) a b;
  fresh = λ k x t q row h a n u. D.fresh k.0 x t q row (held_spot m ys k.0 k.1 x q h).1 a n u;
  all = λ row n. ⊎_elim (λ a. inl a) (λ (j, x, q, h, t). inr ((j, 0), x, q, spot_held m ys j x q h, t)) (D.all row n);
}

pub scan_opens : {O Key Recon Cond : Type 0} (m : Meaning Key Recon Cond) → ScanOpens O Key Recon Cond m
scan_opens m S past seat query legal R = record {
  at = refl;
  stamp = omega arith;
  spots = subst (λ (rs : List RowAt). ScanHolds (tree_of m S) (start_of m) S.clock (Spots m (hold_all (roots_of m query))) (Contains rs) needed) (sym (copied_held (roots_of m query)))
      (held_holds m S S.clock (roots_of m query) (Contains []) needed (roots_hold m S R.shape S.clock query needed asked));
  once = subst (λ rs. AreDistinct rs) (sym (copied_held (roots_of m query))) tt;
  found = λ row h. absurd (contains_none row h);
  copies = λ i q l (ls, e, h). absurd (held_no_leaves (roots_of m query) i q ls e);
  admitted = λ i q w j x row life (ns, e, link) b put. absurd (held_no_inner (roots_of m query) i q w ns e);
}
  where
    needed : RowAt → Type 0
    needed = IsNeeded m past (OpenScan seat query ∷ past) query

    sane : Sane past
    sane = sane_from_legal past legal

    -- what it must give is live, and has an entry
    asked : (row : RowAt) → needed row → HasAsked m S query row
    asked row (life, was, match, kept) =
        let (old, put, key, kill) = needed_before (OpenScan seat query) past past row life (omega arith) was in
        let same = ap (query_matches m query) key ∙ match in
        let (live, keyed) = needed_live m past sane past query row (old, put, same, kill kept) in
        (old.key, (R.entries row old.key).1 (live_present (lives row past) (subst (λ x. StateSays x (lives row past)) live (sane.says row)), keyed), same)
