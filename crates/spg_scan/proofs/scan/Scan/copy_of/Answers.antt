use Rattle.std.proofs.Common.{◌∙◌, sym, ap, subst}
use Rattle.spg_scan.specs.Held.{item_of, kept_as}
use Rattle.spg_scan.specs.Items.{IsItem, held}
use Rattle.spg_scan.specs.Copying.{kept_copy}
use Rattle.spg_scan.proofs.Replacing.{item_here, item_at, no_place}
use Rattle.spg_scan.proofs.Outcomes.{on_err}
use Rattle.spg_scan.proofs.scan.Scan.copy_of.Goals as goal

pub returns-in-Held-clause-ok : goal.returns-in-Held-clause-ok
returns-in-Held-clause-ok g c =
    let s = c.self.inside in
    let h = c.in-Held.field-0 in
    (h.place, h.recon, subst (λ z. IsItem c.args.self.now.items c.args.item z) (ap item_of c.in-Held.is) (item_here s.query s.at s.stamp s.items.items s.rows.items s.met c.args.item c.args.self.now c.index.result.now c.self.view_is c.index.ensures c.requires))

pub returns-in_ok-hand_out-in-Kept-clause-ok : goal.returns-in_ok-hand_out-in-Kept-clause-ok
returns-in_ok-hand_out-in-Kept-clause-ok g c =
    let s = c.self.inside in
    let k = c.in-Kept.kept in (
      kept_as k,
      subst (λ z. IsItem c.args.self.now.items c.args.item z) (ap item_of c.in-Kept.is) (item_here s.query s.at s.stamp s.items.items s.rows.items s.met c.args.item c.args.self.now c.index.result.now c.self.view_is c.index.ensures c.requires),
      ap (λ v. kept_copy v.query (kept_as k)) (sym c.self.view_is) ∙ c.in_ok-hand_out-in-Kept.ensures,
    )

pub returns-in_err-hand_out-in-Kept-clause-place : goal.returns-in_err-hand_out-in-Kept-clause-place
returns-in_err-hand_out-in-Kept-clause-place g c =
    let s = c.self.inside in
    on_err c.from_residual.result (λ (x, (r, a)). no_place c.index.result.now c.in-Kept.kept x r c.in-Kept.is (item_at s.query s.at s.stamp s.items.items s.rows.items s.met c.args.item c.args.self.now c.index.result.now c.self.view_is c.index.ensures (held x r) a))
