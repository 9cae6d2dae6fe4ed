use Rattle.std.proofs.Common.{◌≡◌, [], ◌∷◌, sym, ap, ◌∙◌, subst, refl}
use Rattle.spg_turn.specs.Passes.{pass_view, held_view, held_state}
use Rattle.spg_desk.specs.Knowing.{doing_at}
use Rattle.spg_desk.specs.Told.{Told}
use Rattle.spg_desk.proofs.Composing.{told_on}
use Rattle.spg_desk.proofs.Finding.{on_scan, on_reads}
use Rattle.spg_desk.proofs.desk.Desk.read_once.Goals as goal

pub sift-requires-clause-scanning : goal.sift-requires-clause-scanning
sift-requires-clause-scanning g c = on_scan _ _ (told_on g.O.OpClass.meaning _ _ _ (rw c.in-Sift.is at c.read-going.ensures.told)) c.requires.scanning

pub returns-in-Sift-clause-told : goal.returns-in-Sift-clause-told
returns-in-Sift-clause-told g c = on_reads g.O.OpClass.meaning _ _ _ _ _ (told_on g.O.OpClass.meaning _ _ _ (rw c.in-Sift.is at c.read-going.ensures.told)) c.sift.ensures.told
