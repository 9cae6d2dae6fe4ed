use Rattle.spg_rows.specs.Present.{IsPresentWith}
use Rattle.spg_core.specs.Seen.{past_of}
use Rattle.spg_image.proofs.MetaOut.{represents_same}
use Rattle.spg_image.proofs.saving.save.Goals as goal

pub returns-clause-represents : goal.returns-clause-represents
returns-clause-represents g c =
    represents_same g.O.OpClass.meaning g.O.OpClass.code_number c.args.state.now.table (IsPresentWith (past_of c.args.state.now)) c.pages.ensures.represents
