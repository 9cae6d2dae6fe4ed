-- A search for the nearest rows, as a class of points serves it.
use Rattle.std.proofs.Common.{◌≡◌, ◌<◌, ◌⊎◌, ℕ, true, List, ◌∷◌, Option, Some, Contains, length, refl, sym, ap, ◌∙◌, subst}
use Rattle.std.proofs.lemmas.Option.{same_Some}
use Rattle.spg_base.specs.Row.{RowAt}
use Rattle.spg_base.specs.declared.point.Point.{Point}
use Rattle.spg_base.specs.declared.point.PointCond.{PointCond}
use Rattle.spg_opclass.specs.Meaning.{Meaning}
use Rattle.spg_points.specs.Codec.{is_point}
use Rattle.spg_forest.specs.Sheets.{Sheets}
use Rattle.spg_forest.specs.Shape.{Shape}
use Rattle.spg_rows.specs.History.{History}
use Rattle.spg_tree.specs.Table.{sheets_of}
use Rattle.spg_core.specs.Seen.{Seen, past_of}
use Rattle.spg_near.specs.declared.near_row.NearRow.{NearRow}
use Rattle.spg_near.specs.Boxes.{in_box, whole_plane}
use Rattle.spg_near.specs.Nearing.{Boxing, IsBefore}
use Rattle.spg_near.specs.NearRight.{NearRight, near_of}
use Rattle.spg_near.specs.Laws.{CutLaw, NarrowLaw}
use Rattle.spg_nearest.specs.Finds.{FindsNearest}
use Rattle.spg_script.specs.Speech.{point_speech}
use Rattle.spg_histories.specs.Nearest.{AreNearest, WalkWithin}
use Rattle.spg_served.specs.Serves.{ServesNear}
use Rattle.spg_served.proofs.Regions.{walk_within}

-- the class's key of a point is that point
nearest_are : {O Recon : Type 0} (before past : History O Point Recon PointCond) (p : Point) (limit : ℕ) (rows : List NearRow) → NearRight before past p limit rows → AreNearest point_speech before past p limit rows
nearest_are before past p limit rows right = record {
  few = right.few;
  rises = right.rises;
  found = λ h c. let (life, key, has, is, lived, e) = right.found h c in (life, key, key, has, is, refl, lived, e);
  complete = λ row life key q has is of put kill near.
      let same : q ≡ key = same_Some q key of in
      subst (λ (k : Point). Contains rows (near_of p row k)) (sym same) (right.complete row life key has is put kill (subst (λ (k : Point). (length rows < limit) ⊎ ((last : NearRow) × Contains rows last × IsBefore (near_of p row k) last)) same near));
}

pub serves : {O Recon : Type 0} (m : Meaning Point Recon PointCond) (boxing : Boxing Recon) → CutLaw m boxing → NarrowLaw boxing → ((q : Point) → m.is_key q ≡ in_box whole_plane q) → ((q : Point) → in_box whole_plane q ≡ true → is_point q ≡ true)
    → (old new : Seen O Point Recon PointCond) (seat : ℕ) (target : Point) (limit : ℕ) (rows : List NearRow) (met : ℕ) → Shape m (sheets_of old.table) → FindsNearest m boxing old new seat target limit rows met → ServesNear m point_speech old new seat target limit rows met
serves m boxing cuts narrows keys plane old new seat target limit rows met shape F = record {
  did = F.did;
  pages = F.pages;
  right = nearest_are (past_of old) _ target limit rows F.right;
  walk = λ last r. subst (λ (S : Sheets). WalkWithin m point_speech S target last met) (sym F.pages.0) (walk_within m boxing (sheets_of old.table) target cuts narrows shape keys plane last met (F.walk last r));
}
