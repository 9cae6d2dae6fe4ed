use Rattle.std.proofs.Common.{sym, ap, ◌∙◌}
use Rattle.spg_forest.specs.Pages.{tuple_on}
use Rattle.spg_forest.specs.Sheets.{links}
use Rattle.spg_forest.specs.Links.{leaves_on}
use Rattle.spg_page.specs.Reads.{frame_in}
use Rattle.spg_tree.specs.Table.{sheets_of}
use Rattle.spg_scan.specs.Held.{kept_as}
use Rattle.spg_scan.specs.Parts.{is_where}
use Rattle.spg_scan.proofs.Readings.{root_known, root_live, root_keys}
use Rattle.spg_scan.proofs.Places.{main_follows, main_keys, makes_root_inner, makes_root_leaves, plain_root}
use Rattle.spg_scan.proofs.scan.Scan.copy_root.Goals as goal

pub copy_inner-requires-clause-known : goal.copy_inner-requires-clause-known
copy_inner-requires-clause-known g c =
    let P = c.page-page.result.now in
    main_follows g.O.OpClass.meaning (sheets_of c.args.table.now) c.requires.shape c.args.self.now c.args.item c.requires.held c.args.place c.requires.place c.args.recon.now c.requires.recon (frame_in (tuple_on P.tuples 1)) (links (tuple_on P.tuples 1))
    (root_known g.O.OpClass.meaning (sheets_of c.args.table.now) c.requires.shape c.args.self.now c.args.item c.requires.held c.args.place c.requires.place c.page-page.result.now c.page-page.ensures c.requires.root g.O.OpClass.codes (sym c.starts_inner.ensures ∙ c.if-starts_inner.true))

pub copy_page-requires-clause-live : goal.copy_page-requires-clause-live
copy_page-requires-clause-live g c =
    root_live g.O.OpClass.meaning (sheets_of c.args.table.now) c.requires.shape c.args.self.now c.args.item c.requires.held c.args.place c.requires.place c.page-page.result.now c.page-page.ensures c.requires.root (sym c.starts_inner.ensures ∙ c.if-starts_inner.false)

pub copy_page-requires-clause-keys : goal.copy_page-requires-clause-keys
copy_page-requires-clause-keys g c =
    main_keys g.O.OpClass.meaning (sheets_of c.args.table.now) c.requires.shape c.args.self.now c.args.item c.requires.held c.args.place c.requires.place c.args.recon.now c.requires.recon (leaves_on c.page-page.result.now.tuples)
    (root_keys g.O.OpClass.meaning (sheets_of c.args.table.now) c.requires.shape c.args.self.now c.args.item c.requires.held c.args.place c.requires.place c.page-page.result.now c.page-page.ensures c.requires.root (sym c.starts_inner.ensures ∙ c.if-starts_inner.false))

pub returns-in_ok-copy_inner : goal.returns-in_ok-copy_inner
returns-in_ok-copy_inner g c =
    makes_root_inner g.O.OpClass.meaning (sheets_of c.args.table.now) c.requires.shape c.args.self.now c.args.item c.requires.held c.args.place c.requires.place c.page-page.result.now c.page-page.ensures c.requires.root c.args.rows.now c.args.recon.now c.requires.recon (kept_as c.in_ok-copy_inner.field-0.kept) c.in_ok-copy_inner.field-0.met
    (sym c.starts_inner.ensures ∙ c.if-starts_inner.true) c.in_ok-copy_inner.ensures.kept c.in_ok-copy_inner.ensures.met

pub returns-in_ok-copy_page : goal.returns-in_ok-copy_page
returns-in_ok-copy_page g c =
    makes_root_leaves g.O.OpClass.meaning (sheets_of c.args.table.now) c.requires.shape c.args.self.now c.args.item c.requires.held c.args.place c.requires.place c.page-page.result.now c.page-page.ensures c.requires.root c.args.rows.now c.args.recon.now c.requires.recon (ap (λ v. is_where v.query) (sym c.self.view_is) ∙ sym c.is_where.ensures ∙ c.if-is_where.true)
    (kept_as c.in_ok-copy_page.field-0.kept) c.in_ok-copy_page.field-0.met (sym c.starts_inner.ensures ∙ c.if-starts_inner.false) c.in_ok-copy_page.ensures.kept c.in_ok-copy_page.ensures.met

pub returns-else-is_where : goal.returns-else-is_where
returns-else-is_where g c =
    plain_root g.O.OpClass.meaning (sheets_of c.args.table.now) c.requires.shape c.args.self.now c.args.item c.requires.held c.args.place c.requires.place c.page-page.result.now c.page-page.ensures c.requires.root (sym c.starts_inner.ensures ∙ c.if-starts_inner.false) (ap (λ v. is_where v.query) (sym c.self.view_is) ∙ sym c.is_where.ensures ∙ c.if-is_where.false)
