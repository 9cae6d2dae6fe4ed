use Rattle.std.proofs.Common.{take}
use Rattle.spg_opclass.specs.Copies.{AreKeys}
use Rattle.spg_test_pages.proofs.makes.are_keys.Given as goal

abbrev pub invariant-loop-i : goal.invariant-loop-i
invariant-loop-i g l = AreKeys g.O.OpClass.meaning l.recon (take l.i l.rests)
