use Rattle.std.proofs.Common.{refl, sym, ◌∙◌, arith}
use Rattle.spg_mirror.proofs.Searching.{found_nothing}
use Rattle.spg_mirror.proofs.find.find.Goals as goal

pub returns-in-Ok-Some : goal.returns-in-Ok-Some
returns-in-Ok-Some g c = c.search.ensures c.args.query.now (sym c.in-Ok-Some.ensures ∙ c.in-Ok-Some.field-0-is)

pub returns-in-Err : goal.returns-in-Err
returns-in-Err g c = found_nothing g.O.OpClass.meaning g.O.Spoken.speech c.args.pair.now c.args.pair.now c.args.query.now _ refl (omega arith) c.applied-at.ensures.within c.applied-at.ensures.behind refl (omega arith) refl
