-- Where the row of each entry is live, so are the rows of the leaves at a place.
use Rattle.std.proofs.Common.{◌≡◌, Bool, true, List, Option, Some, None, IsSome, get_or, refl, sym, subst}
use Rattle.spg_opclass.specs.Meaning.{Meaning}
use Rattle.spg_forest.specs.View.{Place, Leaf}
use Rattle.spg_forest.specs.Spot.{Spot, Bucket, IsIn, leaves_of as leaves_in}
use Rattle.spg_forest.specs.Classes.{HasRecon, key_of}
use Rattle.spg_forest.specs.Sheets.{Sheets}
use Rattle.spg_forest.specs.Shape.{spots}
use Rattle.spg_rows.specs.Table as rows
use Rattle.spg_scan.specs.Parts.{HaveKeys, AreTold, EntriesLive}
use Rattle.spg_scan.proofs.Stands.{is_in}

some_key : {X : Type 0} (o : Option X) → IsSome o → (y : X) × (o ≡ Some y)
some_key None h = cc
some_key (Some y) h = (y, refl)

pub leaves_told : {O Key Recon Cond : Type 0} (m : Meaning Key Recon Cond) (S : Sheets) (table : rows.Table O Key Recon Cond) (all : Bool) → (all ≡ true → EntriesLive m S table) → (x : Place) (r : Option Recon) → HasRecon m (spots S) x r → (ls : List Leaf) → spots S x ≡ Bucket ls → HaveKeys m r ls → AreTold table all ls
leaves_told m S table all live x r recon ls e keys = λ k d h on.
    let l : Leaf = get_or ls k d in
    let (key, keyed) = some_key (key_of m r l.rest) (keys k d h) in
    live on l.row key (x, r, l, recon, subst (λ (v : Spot). IsIn l (leaves_in v)) (sym e) (is_in ls k d h), refl, keyed)
