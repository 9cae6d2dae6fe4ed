use Rattle.std.proofs.Common.{◌≡◌, ◌∙◌, ◌<◌, sym, ap, subst, length, arith}
use Rattle.std.proofs.lemmas.List.{length-map}
use Rattle.std.proofs.lemmas.Bool.{false≢true}
use Rattle.spg_scan.specs.Held.{item_of, kept_as}
use Rattle.spg_scan.specs.Items.{IsItem}
use Rattle.spg_scan.specs.Copying.{kept_copy}
use Rattle.spg_scan.proofs.Replacing.{item_at, item_here}
use Rattle.spg_scan.proofs.Outcomes.{no_copy}
use Rattle.spg_scan.proofs.scan.Scan.has_copy.Goals as goal

pub returns-in-Held : goal.returns-in-Held
returns-in-Held g c =
    let s = c.self.inside in
    let h = c.in-Held.field-0 in
    (λ t. absurd (false≢true t), λ (item, a, e). absurd (no_copy c.args.self.now.query item h.place h.recon c.args.copied.now (sym (item_at s.query s.at s.stamp s.items.items s.rows.items s.met c.args.item c.args.self.now c.index.result.now c.self.view_is c.index.ensures item a) ∙ ap item_of c.in-Held.is) e))

pub returns-in-Kept : goal.returns-in-Kept
returns-in-Kept g c =
    let s = c.self.inside in
    let k = c.in-Kept.kept in
    let n : length c.args.self.now.items ≡ length s.items.items = sym (ap (λ v. length v.items) c.self.view_is) ∙ length-map s.items.items item_of in
    let b : c.args.item < length c.args.self.now.items = omega arith in (
      λ t. (
        kept_as k,
        subst (λ z. IsItem c.args.self.now.items c.args.item z) (ap item_of c.in-Kept.is) (item_here s.query s.at s.stamp s.items.items s.rows.items s.met c.args.item c.args.self.now c.index.result.now c.self.view_is c.index.ensures b),
        ap (λ v. kept_copy v.query (kept_as k)) (sym c.self.view_is) ∙ c.is_copy_of.ensures.0 t,
      ),
      λ (item, a, e). c.is_copy_of.ensures.1
          (ap (λ v. kept_copy v.query (kept_as k)) c.self.view_is
          ∙ ap (kept_copy c.args.self.now.query) (sym (ap item_of c.in-Kept.is) ∙ item_at s.query s.at s.stamp s.items.items s.rows.items s.met c.args.item c.args.self.now c.index.result.now c.self.view_is c.index.ensures item a) ∙ e),
    )
