use Rattle.std.proofs.Common.{sym, ap, ◌∙◌}
use Rattle.spg_forest.specs.Pages.{tuple_on}
use Rattle.spg_forest.specs.Sheets.{links}
use Rattle.spg_page.specs.Reads.{frame_in}
use Rattle.spg_chain.specs.Chains.{chain_members, leaves_of}
use Rattle.spg_tree.specs.Table.{sheets_of}
use Rattle.spg_scan.specs.Held.{kept_as}
use Rattle.spg_scan.specs.Parts.{is_where}
use Rattle.spg_scan.proofs.Readings.{page_there, tuple_within, no_placeholder, inner_known, chain_keys}
use Rattle.spg_scan.proofs.Places.{main_follows, main_keys, makes_inner, makes_chain, plain_chain, plain_dead, plain_forward}
use Rattle.spg_scan.proofs.scan.Scan.copy_tuple.Goals as goal

pub page-page-requires : goal.page-page-requires
page-page-requires g c = page_there g.O.OpClass.meaning (sheets_of c.args.table.now) c.requires.shape c.args.self.now c.args.item c.requires.held c.args.place c.requires.place

pub kind_at-requires : goal.kind_at-requires
kind_at-requires g c = tuple_within g.O.OpClass.meaning (sheets_of c.args.table.now) c.requires.shape c.args.self.now c.args.item c.requires.held c.args.place c.requires.place c.page-page.result.now c.page-page.ensures c.requires.high

pub copy_inner-requires-clause-known : goal.copy_inner-requires-clause-known
copy_inner-requires-clause-known g c =
    let P = c.page-page.result.now in
    main_follows g.O.OpClass.meaning (sheets_of c.args.table.now) c.requires.shape c.args.self.now c.args.item c.requires.held c.args.place c.requires.place c.args.recon.now c.requires.recon (frame_in (tuple_on P.tuples c.args.place.offset)) (links (tuple_on P.tuples c.args.place.offset))
    (inner_known g.O.OpClass.meaning (sheets_of c.args.table.now) c.requires.shape c.args.self.now c.args.item c.requires.held c.args.place c.requires.place c.page-page.result.now c.page-page.ensures c.requires.high g.O.OpClass.codes (sym c.kind_at.ensures.value ∙ c.in-Inner.is))

pub copy_chain-requires : goal.copy_chain-requires
copy_chain-requires g c =
    main_keys g.O.OpClass.meaning (sheets_of c.args.table.now) c.requires.shape c.args.self.now c.args.item c.requires.held c.args.place c.requires.place c.args.recon.now c.requires.recon (leaves_of (chain_members c.page-page.result.now.tuples c.args.place.offset))
    (chain_keys g.O.OpClass.meaning (sheets_of c.args.table.now) c.requires.shape c.args.self.now c.args.item c.requires.held c.args.place c.requires.place c.page-page.result.now c.page-page.ensures c.requires.high (sym c.kind_at.ensures.value ∙ c.in-Leaf.is))

pub unreachable-requires : goal.unreachable-requires
unreachable-requires g c = no_placeholder g.O.OpClass.meaning (sheets_of c.args.table.now) c.requires.shape c.args.self.now c.args.item c.requires.held c.args.place c.requires.place c.page-page.result.now c.page-page.ensures c.requires.high (sym c.kind_at.ensures.value ∙ c.in-Placeholder.is)

pub returns-in_ok-copy_inner-in-Inner : goal.returns-in_ok-copy_inner-in-Inner
returns-in_ok-copy_inner-in-Inner g c =
    makes_inner g.O.OpClass.meaning (sheets_of c.args.table.now) c.requires.shape c.args.self.now c.args.item c.requires.held c.args.place c.requires.place c.page-page.result.now c.page-page.ensures c.requires.high c.args.rows.now c.args.recon.now c.requires.recon (kept_as c.in_ok-copy_inner-in-Inner.field-0.kept) c.in_ok-copy_inner-in-Inner.field-0.met
    (sym c.kind_at.ensures.value ∙ c.in-Inner.is) c.in_ok-copy_inner-in-Inner.ensures.kept c.in_ok-copy_inner-in-Inner.ensures.met

pub returns-in_ok-copy_chain-in-Leaf : goal.returns-in_ok-copy_chain-in-Leaf
returns-in_ok-copy_chain-in-Leaf g c =
    makes_chain g.O.OpClass.meaning (sheets_of c.args.table.now) c.requires.shape c.args.self.now c.args.item c.requires.held c.args.place c.requires.place c.page-page.result.now c.page-page.ensures c.requires.high c.args.rows.now c.args.recon.now c.requires.recon (ap (λ v. is_where v.query) (sym c.self.view_is) ∙ sym c.is_where.ensures ∙ c.if-is_where.true)
    (kept_as c.in_ok-copy_chain-in-Leaf.field-0.kept) c.in_ok-copy_chain-in-Leaf.field-0.met (sym c.kind_at.ensures.value ∙ c.in-Leaf.is) c.in_ok-copy_chain-in-Leaf.ensures.kept c.in_ok-copy_chain-in-Leaf.ensures.met

pub returns-else-is_where : goal.returns-else-is_where
returns-else-is_where g c =
    plain_chain g.O.OpClass.meaning (sheets_of c.args.table.now) c.requires.shape c.args.self.now c.args.item c.requires.held c.args.place c.requires.place c.page-page.result.now c.page-page.ensures c.requires.high (sym c.kind_at.ensures.value ∙ c.in-Leaf.is) (ap (λ v. is_where v.query) (sym c.self.view_is) ∙ sym c.is_where.ensures ∙ c.if-is_where.false)

pub returns-in-Dead : goal.returns-in-Dead
returns-in-Dead g c = plain_dead g.O.OpClass.meaning (sheets_of c.args.table.now) c.requires.shape c.args.self.now c.args.item c.requires.held c.args.place c.requires.place c.page-page.result.now c.page-page.ensures c.requires.high (sym c.kind_at.ensures.value ∙ c.in-Dead.is)

pub returns-in-Redirect : goal.returns-in-Redirect
returns-in-Redirect g c = plain_forward g.O.OpClass.meaning (sheets_of c.args.table.now) c.requires.shape c.args.self.now c.args.item c.requires.held c.args.place c.requires.place c.page-page.result.now c.page-page.ensures c.requires.high (sym c.kind_at.ensures.value ∙ c.in-Redirect.is)
