use Rattle.std.proofs.Common.{ap, ◌∙◌, sym, subst}
use Rattle.spg_base.specs.declared.recorded.Origin.{Origin}
use Rattle.spg_forest.specs.Shape.{Shape}
use Rattle.spg_tree.specs.Table.{Table, sheets_of}
use Rattle.spg_core.specs.Seen.{past_of}
use Rattle.spg_desk.specs.Looks.{MayStand}
use Rattle.spg_desk.proofs.Moments.{roots, copied_in}
use Rattle.spg_desk.proofs.copying.copy_in.Goals as goal

pub copy_table-requires : goal.copy_table-requires
copy_table-requires g c =
    let m = g.O.OpClass.meaning in
    let p = c.pages-pages.ensures in
    roots m c.pages-pages.result.now (subst (λ (t : Table). Shape m (sheets_of t)) (sym p.value) p.represents.shape) c.page_count.ensures.sound.meta

pub returns : goal.returns
returns g c =
    let m = g.O.OpClass.meaning in
    let p = c.pages-pages.ensures in
    let seen = c.args.bare.now in
    let stands : MayStand m seen.origin (past_of seen) seen.table = record { holds = p.represents; bounds = p.bounds; limit = c.origin.ensures.limit ∙ ap (λ (o : Origin). o.limit) c.origin.ensures.value } in
    copied_in m seen.origin (past_of seen) c.pages-pages.result.now c.copy_table.result (subst (MayStand m seen.origin (past_of seen)) (sym p.value) stands)
    (roots m c.pages-pages.result.now (subst (λ (t : Table). Shape m (sheets_of t)) (sym p.value) p.represents.shape) c.page_count.ensures.sound.meta) c.copy_table.ensures
