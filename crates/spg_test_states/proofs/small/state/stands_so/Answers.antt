use Rattle.std.proofs.Common.{refl, arith}
use Rattle.spg_test_states.proofs.Seeing.{small}
use Rattle.spg_test_states.proofs.small.state.stands_so.Goals as goal

pub returns-then-has_latched : goal.returns-then-has_latched
returns-then-has_latched g c = λ done copy so. small g.O.OpClass.meaning c.args.bare.now c.journal-journal.ensures.whole c.first.result c.args.scanner c.args.sweeper 3 c.args.at c.args.since (omega arith) (c.if-has_latched.ensures refl) copy done c.requires (c.redirects.ensures so)
