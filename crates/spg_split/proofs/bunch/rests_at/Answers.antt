use Rattle.std.proofs.Common.{sym}
use Rattle.spg_split.proofs.Parting.{live_at}
use Rattle.spg_split.proofs.bunch.rests_at.Goals as goal

pub rests_at_root-requires : goal.rests_at_root-requires
rests_at_root-requires g c = live_at g.O.OpClass.meaning g.O.OpClass.codes c.args.table.now c.args.descent.now c.requires.shape c.requires.spot c.requires.of_key c.in-Root.root c.page.result.now (sym c.in-Root.ensures) c.page.ensures
