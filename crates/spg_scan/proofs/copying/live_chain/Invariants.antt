use Rattle.std.proofs.Common.{◌≡◌, length, map}
use Rattle.spg_chain.specs.Chains.{leaves_of, member_of}
use Rattle.spg_scan.specs.Items.{rows_of}
use Rattle.spg_scan.specs.Reading.{live_leaves}
use Rattle.spg_scan.specs.Copying.{rests_of}
use Rattle.spg_scan.proofs.copying.live_chain.Given as goal

abbrev pub invariant-loop-leaf : goal.invariant-loop-leaf
invariant-loop-leaf g l = (l.met ≡ length l.yielded) × (l.rows ≡ rows_of (live_leaves l.table (leaves_of (map member_of l.yielded)))) × (l.rests ≡ rests_of (live_leaves l.table (leaves_of (map member_of l.yielded))))
