use Rattle.std.proofs.Common.{◌≡◌, refl, sym, ap, ◌∙◌, subst}
use Rattle.spg_forest.specs.Shape.{Shape}
use Rattle.spg_forest.proofs.Examples.{new_shape}
use Rattle.spg_tree.specs.Table.{Table, sheets_of, start_table}
use Rattle.spg_scan.specs.Items.{held}
use Rattle.spg_scan.specs.Reading.{IsHeld}
use Rattle.spg_scan.specs.Scanning.{Scanning, opened}
use Rattle.spg_test_pages.proofs.copied_scans.copied_scan.Goals as goal

pub copy_item-requires-clause-shape : goal.copy_item-requires-clause-shape
copy_item-requires-clause-shape g c =
    let m = g.O.OpClass.meaning in
    subst (λ (t : Table). Shape m (sheets_of t)) (sym c.in_ok-table.ensures) (new_shape m)

pub copy_item-requires-clause-held : goal.copy_item-requires-clause-held
copy_item-requires-clause-held g c =
    let m = g.O.OpClass.meaning in
    let query = c.args.query in
    let scan_is : c.in_ok-scan.scan ≡ opened m query 0 0 = c.in_ok-scan.ensures ∙ ap (λ stamp. opened m query 0 stamp) c.at.ensures in
    let scans = c.new_scan.ensures 0 query in
    let new : IsHeld m (sheets_of (start_table 4)) (opened m query 0 0) 0 = λ x r at. scans.spots.sheltered (0, 0) x r (held x r, at, (refl, refl, refl)) in
    subst (λ (s : Scanning _ _ _ _). IsHeld m (sheets_of c.in_ok-table.table) s 0) (sym scan_is)
    (subst (λ (t : Table). IsHeld m (sheets_of t) (opened m query 0 0) 0) (sym c.in_ok-table.ensures) new)
