use Rattle.std.proofs.Common.{◌≡◌, [], ◌∷◌, sym, ap, ◌∙◌, subst, refl}
use Rattle.spg_turn.specs.Passes.{pass_view, held_view, held_state}
use Rattle.spg_desk.specs.Knowing.{doing_at}
use Rattle.spg_desk.specs.Told.{Told}
use Rattle.spg_desk.proofs.Composing.{told_on}
use Rattle.spg_desk.proofs.Inserting.{on_put, on_puts}
use Rattle.spg_desk.proofs.desk.Desk.put_once.Goals as goal

pub choose-requires-clause-putting : goal.choose-requires-clause-putting
choose-requires-clause-putting g c = on_put _ _ (told_on g.O.OpClass.meaning _ _ _ (rw c.in-Choose.is at c.look_at_insert-going.ensures.told)) c.requires.putting

pub part-requires-clause-putting : goal.part-requires-clause-putting
part-requires-clause-putting g c = on_put _ _ (told_on g.O.OpClass.meaning _ _ _ (rw c.in-Part.is at c.look_at_insert-going.ensures.told).0) c.requires.putting

pub part-requires-clause-some : goal.part-requires-clause-some
part-requires-clause-some g c = (rw c.in-Part.is at c.look_at_insert-going.ensures.told).1

pub returns-in-Choose-clause-told : goal.returns-in-Choose-clause-told
returns-in-Choose-clause-told g c = on_puts g.O.OpClass.meaning _ _ _ _ _ (told_on g.O.OpClass.meaning _ _ _ (rw c.in-Choose.is at c.look_at_insert-going.ensures.told)) c.choose.ensures.told

pub returns-in-Part-clause-told : goal.returns-in-Part-clause-told
returns-in-Part-clause-told g c = on_puts g.O.OpClass.meaning _ _ _ _ _ (told_on g.O.OpClass.meaning _ _ _ (rw c.in-Part.is at c.look_at_insert-going.ensures.told).0) c.part.ensures.told
