use Rattle.std.proofs.Common.{Some, ap, sym, ◌∙◌}
use Rattle.spg_split.proofs.Parting.{bunch_keys}
use Rattle.spg_split.proofs.bunch.bunch_at.Goals as goal

pub new-requires : goal.new-requires
new-requires g c = bunch_keys g.O.OpClass.meaning g.O.OpClass.codes c.args.table.now c.args.descent.now c.requires.shape c.requires.spot c.requires.of_key c.in_ok-copy-in-Some.field-0 c.in_ok-rests-in-Some.rests
    (sym c.in-Some.ensures.value ∙ ap Some (sym c.in_ok-copy-in-Some.ensures)) c.in_ok-rests-in-Some.ensures
