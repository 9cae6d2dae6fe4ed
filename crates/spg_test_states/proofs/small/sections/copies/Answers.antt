use Rattle.spg_test_states.proofs.Working.{copied_inner}
use Rattle.spg_test_states.proofs.small.sections.copies.Goals as goal

pub returns-in-Ok-Sift-Inner-clause-copied : goal.returns-in-Ok-Sift-Inner-clause-copied
returns-in-Ok-Sift-Inner-clause-copied g c = λ so. copied_inner g.O.OpClass.meaning c.args.bare.now c.scan_copy.new.self c.args.seat c.in-Ok-Sift-Inner.field-0 c.in-Ok-Sift-Inner.field-0-0 _ _ c.in-Ok-Sift-Inner.ensures.ok c.in-Ok-Sift-Inner.field-0-is c.in-Ok-Sift-Inner.field-0-0-is
