use Rattle.std.proofs.Common.{sym, ◌∙◌}
use Rattle.spg_vacuum.proofs.Holders.{next_there}
use Rattle.spg_vacuum.proofs.vacuum.Vacuum.held_next.Goals as goal

pub other_holder-requires : goal.other_holder-requires
other_holder-requires g c = next_there c.args.table.now c.args.self.now g.O.OpClass.meaning c.requires.vacuum.0 c.requires.shape c.requires.vacuum.1 c.next_block.ensures.high c.in_ok-block.block (sym c.next_block.ensures.value ∙ c.in_ok-block.was)
