-- How many reads are left of a scan of a standby while its pages stay as they are.
use Rattle.std.specs.Prelude.{◌+◌, ℕ, zero, suc, Option, Some, None}
use Rattle.spg_opclass.specs.Meaning.{Meaning}
use Rattle.spg_opclass.specs.declared.query.Query.{Query}
use Rattle.spg_forest.specs.View.{Place}
use Rattle.spg_forest.specs.Spot.{Spot, Branch, Bucket, Forward, Nothing}
use Rattle.spg_forest.specs.Sheets.{Sheets}
use Rattle.spg_forest.specs.Shape.{spots}
use Rattle.spg_forest.specs.Ranks.{most_sections}
use Rattle.spg_tree.specs.Table.{sheets_of}
use Rattle.spg_scan.specs.Items.{Item, held, inner, leaves}
use Rattle.spg_scan.specs.Scanning.{Scanning}
use Rattle.spg_scan.specs.Reading.{followed_at}
use Rattle.spg_whole.specs.Underway.{sum_of}
use Rattle.spg_standby.specs.Standing.{Standing, scan_at}

-- a read of what stands at a place, and all reads from there on, where `next` tells those of a place to which it leads
abbrev pub spot_reads : {O Key Recon Cond : Type 0} → Meaning Key Recon Cond → Query O Key Recon Cond → (Place × Option Recon → ℕ) → Option Recon → Spot → ℕ
spot_reads m query next r (Branch w ns) = suc (sum_of next (followed_at m query r w ns))
spot_reads m query next r (Bucket ls) = 1
spot_reads m query next r (Forward y u) = suc (next (y, r))
spot_reads m query next r Nothing = 1

-- how many reads the query makes from a place on, where no way from it, down or along redirects, is longer than n
abbrev pub place_reads : {O Key Recon Cond : Type 0} → Meaning Key Recon Cond → (Place → Spot) → Query O Key Recon Cond → ℕ → Place × Option Recon → ℕ
place_reads m V query zero y = 1
place_reads m V query (suc n) y = spot_reads m query (place_reads m V query n) y.1 (V y.0)

abbrev pub item_reads : {O Key Recon Cond : Type 0} → Meaning Key Recon Cond → (Place → Spot) → Query O Key Recon Cond → ℕ → Item Recon → ℕ
item_reads m V query n (held x r) = place_reads m V query n (x, r)
item_reads m V query n (inner q w ns) = suc (sum_of (place_reads m V query n) (followed_at m query q w ns))
item_reads m V query n (leaves q ls) = 1

-- no way is longer: stamps rise along redirects, and are below the clock
abbrev pub longest : Sheets → ℕ
longest S = most_sections S + S.clock

abbrev pub slot_reads : {O Key Recon Cond : Type 0} → Meaning Key Recon Cond → Sheets → Option (Scanning O Key Recon Cond) → ℕ
slot_reads m S None = 0
slot_reads m S (Some s) = sum_of (item_reads m (spots S) s.query (longest S)) s.items

abbrev pub reads_left : {O Key Recon Cond : Type 0} → Meaning Key Recon Cond → Standing O Key Recon Cond → ℕ → ℕ
reads_left m f seat = slot_reads m (sheets_of f.table) (scan_at f seat)
