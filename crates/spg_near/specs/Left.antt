-- How many reads are left of a search while the pages stay as they are.
use Rattle.std.specs.Prelude.{◌<◌, ◌+◌, ℕ, zero, suc, List, [], ◌∷◌, Option, Some, None, get_or, length}
use Rattle.spg_base.specs.declared.point.Point.{Point}
use Rattle.spg_opclass.specs.Meaning.{Meaning}
use Rattle.spg_forest.specs.View.{Place}
use Rattle.spg_forest.specs.Spot.{Spot, Branch, Bucket, Forward, Nothing}
use Rattle.spg_forest.specs.Sheets.{Sheets}
use Rattle.spg_forest.specs.Shape.{Shape, spots}
use Rattle.spg_forest.specs.Ranks.{most_sections}
use Rattle.spg_forest.specs.Walk.{below}
use Rattle.spg_rows.specs.History.{History}
use Rattle.spg_rows.specs.Table as rows
use Rattle.spg_near.specs.Nearing.{Boxing, NearItem, Nearing}
use Rattle.spg_near.specs.Reads.{ReadsNear}
use Rattle.spg_near.specs.Cover.{IsNearOf}

-- the reads of the children at these nodes, where `reads` tells those of a place
abbrev pub reads_at : (Place → ℕ) → Option Place → ℕ
reads_at reads None = 0
reads_at reads (Some y) = reads y

abbrev pub child_reads : (Place → ℕ) → List (Option Place) → List ℕ → ℕ
child_reads reads ns [] = 0
child_reads reads ns (i ∷ is) = reads_at reads (get_or ns i None) + child_reads reads ns is

-- a read of what stands at a place, and all reads below it, or of where it leads to
abbrev pub spot_reads : (Place → ℕ) → Spot → ℕ
spot_reads reads (Branch w ns) = suc (child_reads reads ns (below (length ns)))
spot_reads reads (Bucket ls) = 1
spot_reads reads (Forward y u) = suc (reads y)
spot_reads reads Nothing = 1

-- how many reads there are from a place on, where no way from it is longer than n
abbrev pub place_reads : (Place → Spot) → ℕ → Place → ℕ
place_reads V zero x = 1
place_reads V (suc n) x = spot_reads (place_reads V n) (V x)

abbrev pub item_reads : {Recon : Type 0} → (Place → Spot) → ℕ → List (NearItem Recon) → ℕ
item_reads V n [] = 0
item_reads V n (it ∷ items) = place_reads V n it.place + item_reads V n items

-- redirects that follow one another have rising stamps below the clock, and then the way goes down the tree
abbrev pub longest_way : Sheets → ℕ
longest_way S = S.clock + most_sections S

abbrev pub near_left : {Recon : Type 0} → Sheets → Nearing Recon → ℕ
near_left S n = item_reads (spots S) (longest_way S) n.items

-- each read leaves fewer
abbrev pub NearFalls : (O Recon Cond : Type 0) → Meaning Point Recon Cond → Boxing Recon → Type 0
NearFalls O Recon Cond m boxing = (S : Sheets) (before past : History O Point Recon Cond) (n n2 : Nearing Recon) (table : rows.Table O Point Recon Cond) (i : ℕ) →
    Shape m S → IsNearOf m S before past n → ReadsNear m boxing S table n n2 i → near_left S n2 < near_left S n
