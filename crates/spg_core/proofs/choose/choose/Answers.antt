use Rattle.std.proofs.Common.{option_copied, subst}
use Rattle.spg_core.specs.Guides.{IsGuided}
use Rattle.spg_core.specs.declared.guide.Guide.{Guide}
use Rattle.spg_core.proofs.Looks.{told_inner}
use Rattle.spg_core.proofs.choose.choose.Goals as goal

pub do_chosen-requires-clause-spotted : goal.do_chosen-requires-clause-spotted
do_chosen-requires-clause-spotted g c = subst (λ (q : Guide _ _ _ _). IsGuided g.O.OpClass.meaning c.args.table.now c.args.descent.now q) c.in-Chosen.is c.requires.guided

pub go_by_counter-requires-clause-nulls : goal.go_by_counter-requires-clause-nulls
go_by_counter-requires-clause-nulls g c =
    let m = g.O.OpClass.meaning in
    let t = c.args.table.now in
    let d = c.args.descent.now in
    let (key, C) = c.requires.can.of_key in
    told_inner m t d key C (option_copied c.in-Parted.field-0) (subst (λ (q : Guide _ _ _ _). IsGuided m t d q) c.in-Parted.is c.requires.guided) c.requires.inner
