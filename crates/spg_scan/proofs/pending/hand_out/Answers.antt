use Rattle.std.proofs.Common.{Some, sym, ap, ap₂, ◌∙◌}
use Rattle.spg_opclass.specs.declared.copied.Copied.TheVariants.{Leaves}
use Rattle.spg_scan.specs.Held.{kept_as}
use Rattle.spg_scan.specs.Copying.{kept_copy}
use Rattle.spg_scan.proofs.Siftings.{kept_leaves}
use Rattle.spg_scan.proofs.pending.hand_out.Goals as goal

pub returns-in_ok-copy-in-Leaves : goal.returns-in_ok-copy-in-Leaves
returns-in_ok-copy-in-Leaves g c =
    ap (λ k. kept_copy c.args.query.now (kept_as k)) c.in-Leaves.is ∙ kept_leaves c.args.query.now c.in-Leaves.leaves c.recon.ensures.known.each
    ∙ ap₂ (λ u v. Some (Leaves u v)) (sym c.in_ok-copy-in-Leaves.ensures) (sym c.in_ok-conds.ensures)
