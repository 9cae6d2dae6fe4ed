use Rattle.std.proofs.Common.{refl, subst, inl}
use Rattle.spg_descend.specs.Puts.{IsPutOut}
use Rattle.spg_descend.specs.declared.put.PutOut.{PutOut}
use Rattle.spg_core.proofs.Stands.{stand_put}
use Rattle.spg_core.specs.declared.answer.InsertOut.TheVariants as outs
use Rattle.spg_core.proofs.Ticks.{put_ticks}
use Rattle.spg_core.proofs.Finds.{put_finds}
use Rattle.spg_core.proofs.Refusals.{done_so}
use Rattle.spg_core.proofs.insert.put.Goals as goal

pub put_leaf-requires-clause-spot : goal.put_leaf-requires-clause-spot
put_leaf-requires-clause-spot g c = stand_put g.O.OpClass.meaning c.args.table.now c.args.descent.now c.requires.can.shape c.requires.can.stands c.requires.rule.0

pub returns-clause-does : goal.returns-clause-does
returns-clause-does g c =
    let done = c.in_ok-put_leaf.ensures in
    let put = subst (λ (o : PutOut). IsPutOut g.O.OpClass.meaning c.args.table.now c.put_leaf.new.table c.args.descent.now o) c.in-Put.is done.ok in
    record { told = (refl, inl (c.requires.rule, put, done.table c.in-Put.is)); exact = done.exact c.in-Put.is; held = done.held c.in-Put.is; stood = inl refl }

pub returns-clause-refused : goal.returns-clause-refused
returns-clause-refused g c =
    let m = g.O.OpClass.meaning in
    let t = c.args.table.now in
    let d = c.args.descent.now in
    done_so _ _ _ _ _ _ outs.Put (λ ticks last. put_ticks m t d c.requires.rule ticks) (put_finds m t d c.args.seat c.requires.rule (c.in_ok-put_leaf.ensures.not_full c.in-Put.is))
