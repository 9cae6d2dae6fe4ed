use Rattle.std.proofs.Common.{ap, subst}
use Rattle.spg_scan.specs.Held.{item_of}
use Rattle.spg_scan.specs.Items.{Item, held, IsItem}
use Rattle.spg_scan.proofs.Replacing.{item_at, item_here, no_place}
use Rattle.spg_scan.proofs.scan.Scan.place_at.Goals as goal

pub returns : goal.returns
returns g c =
    let s = c.self.inside in
    let p = c.index.result.now in
    (c.in-Held.held.recon, subst (λ (z : Item _). IsItem c.args.self.now.items c.args.item z) (ap item_of c.in-Held.is) (item_here s.query s.at s.stamp s.items.items s.rows.items s.met c.args.item c.args.self.now p c.self.view_is c.index.ensures c.requires.item))

pub unreachable-requires : goal.unreachable-requires
unreachable-requires g c =
    let s = c.self.inside in
    let p = c.index.result.now in
    let (x, (r, a)) = c.requires.place in
    no_place p _ x r c.in-Kept.is (item_at s.query s.at s.stamp s.items.items s.rows.items s.met c.args.item c.args.self.now p c.self.view_is c.index.ensures (held x r) a)
