use Rattle.std.proofs.Common.{arith}
use Rattle.spg_page.proofs.area.TupleArea.push.Goals as goal

pub make_gap-requires : goal.make_gap-requires
make_gap-requires c = omega (arith, c.requires.room)

pub append-requires-clause-fits : goal.append-requires-clause-fits
append-requires-clause-fits c = rw c.make_gap.ensures.tuples c.requires.room

pub append-requires-clause-room : goal.append-requires-clause-room
append-requires-clause-room c = omega (arith, c.make_gap.ensures.room)
