use Rattle.std.proofs.Common.{◌∙◌, sym}
use Rattle.spg_tree.specs.Table.{sheets_of}
use Rattle.spg_scan.specs.Items.{held}
use Rattle.spg_scan.proofs.Replacing.{item_at}
use Rattle.spg_scan.proofs.Places.{plain_nulls}
use Rattle.spg_scan.proofs.scan.Scan.copy_place.Goals as goal

pub recon_of-requires : goal.recon_of-requires
recon_of-requires g c =
    let s = c.self.inside in
    let (r, a) = c.requires.place in
    (c.args.place, r, item_at s.query s.at s.stamp s.items.items s.rows.items s.met c.args.item c.args.self.now c.index.result.now c.self.view_is c.index.ensures (held c.args.place r) a)

pub copy_root-requires-clause-recon : goal.copy_root-requires-clause-recon
copy_root-requires-clause-recon g c = λ x r a.
    let s = c.self.inside in
    sym (c.recon_of.ensures x r (item_at s.query s.at s.stamp s.items.items s.rows.items s.met c.args.item c.args.self.now c.index.result.now c.self.view_is c.index.ensures (held x r) a)) ∙ c.in-Some.is

pub copy_tuple-requires-clause-recon : goal.copy_tuple-requires-clause-recon
copy_tuple-requires-clause-recon g c = λ x r a.
    let s = c.self.inside in
    sym (c.recon_of.ensures x r (item_at s.query s.at s.stamp s.items.items s.rows.items s.met c.args.item c.args.self.now c.index.result.now c.self.view_is c.index.ensures (held x r) a)) ∙ c.in-Some.is

pub returns-in-None : goal.returns-in-None
returns-in-None g c =
    let s = c.self.inside in
    plain_nulls g.O.OpClass.meaning (sheets_of c.args.table.now) c.requires.shape c.args.self.now c.args.item c.requires.held c.args.place c.requires.place (λ x r a. sym c.in-None.is ∙ c.recon_of.ensures x r (item_at s.query s.at s.stamp s.items.items s.rows.items s.met c.args.item c.args.self.now c.index.result.now c.self.view_is c.index.ensures (held x r) a))
