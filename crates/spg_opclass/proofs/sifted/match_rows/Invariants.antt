use Rattle.std.proofs.Common.{◌≡◌, take}
use Rattle.spg_opclass.specs.Copies.{matching}
use Rattle.spg_opclass.proofs.sifted.match_rows.Given as goal

abbrev pub invariant-loop-i : goal.invariant-loop-i
invariant-loop-i g l = l.rows ≡ matching g.O.OpClass.meaning l.recon l.conds (take l.i l.copied) (take l.i l.rests)
