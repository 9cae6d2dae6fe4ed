use Rattle.std.proofs.Common.{◌≡◌, map, take}
use Rattle.spg_scan.specs.Items.{hold_all}
use Rattle.spg_scan.specs.Held.{item_of}
use Rattle.spg_scan.specs.Parts.{linked}
use Rattle.spg_scan.proofs.scan_sifted.children_at.Given as goal

abbrev pub invariant-loop-i : goal.invariant-loop-i
invariant-loop-i g l = map item_of l.children.items ≡ hold_all (linked l.links (take l.i l.nodes))
