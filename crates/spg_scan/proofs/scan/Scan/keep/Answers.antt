use Rattle.std.proofs.Common.{◌≡◌, ◌∷◌, [], length, sym, ap, ◌∙◌, arith}
use Rattle.std.proofs.lemmas.List.{append-nil, length-map}
use Rattle.spg_scan.specs.declared.pending.Pending.TheVariants as pending
use Rattle.spg_scan.specs.Held.{item_of, kept_as}
use Rattle.spg_scan.specs.Copying.{kept_copy}
use Rattle.spg_scan.proofs.Replacing.{replaced_is, set_in_place}
use Rattle.spg_scan.proofs.scan.Scan.keep.Goals as goal

pub returns-clause-ok : goal.returns-clause-ok
returns-clause-ok g c = ap (λ v. kept_copy v.query (kept_as c.args.copying.kept)) (sym c.self.view_is) ∙ c.in_ok-copied.ensures

pub returns-clause-after : goal.returns-clause-after
returns-clause-after g c =
    let s = c.self.inside in
    let k = pending.Kept c.args.copying.kept in
    let n : length c.args.self.now.items ≡ length s.items.items = sym (ap (λ v. length v.items) c.self.view_is) ∙ length-map s.items.items item_of in
    replaced_is s.query s.at s.stamp s.items.items _ (k ∷ []) s.rows.items s.rows.items [] s.met c.saturating_add-self-inside.result c.args.copying.met c.args.item c.args.self.now
    c.self.view_is (set_in_place s.items.items c.args.item k (omega (arith, c.requires))) (sym (append-nil s.rows.items)) c.saturating_add-self-inside.ensures
