use Rattle.std.proofs.Common.{option_copied, subst}
use Rattle.spg_core.specs.Guides.{IsGuided}
use Rattle.spg_core.specs.declared.guide.Guide.{Guide}
use Rattle.spg_core.proofs.Looks.{told_parted}
use Rattle.spg_core.proofs.insert.divide.Goals as goal

pub unreachable-requires : goal.unreachable-requires
unreachable-requires g c =
    let spotted = subst (λ (q : Guide _ _ _ _). IsGuided g.O.OpClass.meaning c.args.table.now c.args.descent.now q) c.in-Chosen.is c.requires.guided in
    c.requires.rule.0.1 spotted.0

pub divide_as-requires-in-Parted-clause-parted : goal.divide_as-requires-in-Parted-clause-parted
divide_as-requires-in-Parted-clause-parted g c =
    let m = g.O.OpClass.meaning in
    let t = c.args.table.now in
    let d = c.args.descent.now in
    let (key, C) = c.requires.can.of_key in
    told_parted m t d key C (option_copied c.in-Parted.parted) (subst (λ (q : Guide _ _ _ _). IsGuided m t d q) c.in-Parted.is c.requires.guided) c.requires.rule
