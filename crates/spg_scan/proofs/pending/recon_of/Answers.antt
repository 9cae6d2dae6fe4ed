use Rattle.std.proofs.Common.{◌≡◌, ◌∙◌, sym, ap}
use Rattle.spg_scan.specs.Held.{item_of}
use Rattle.spg_scan.specs.Items.{held}
use Rattle.spg_scan.proofs.Replacing.{no_place}
use Rattle.spg_scan.proofs.pending.recon_of.Goals as goal

pub returns : goal.returns
returns g c = λ x r e.
    let h = c.in-Held.held in
    let f : held h.place h.recon ≡ held x r = sym (ap item_of c.in-Held.is) ∙ e in
    cc f

pub unreachable-requires : goal.unreachable-requires
unreachable-requires g c = let (x, r, e) = c.requires in no_place c.args.item.now _ x r c.in-Kept.is e
