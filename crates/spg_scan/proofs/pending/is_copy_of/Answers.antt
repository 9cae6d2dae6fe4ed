use Rattle.std.proofs.Common.{sym, ◌∙◌}
use Rattle.std.proofs.lemmas.Bool.{false≢true}
use Rattle.spg_scan.proofs.Siftings.{leaves_same}
use Rattle.spg_scan.proofs.pending.is_copy_of.Goals as goal

pub returns-then-same-2 : goal.returns-then-same-2
returns-then-same-2 g c =
    let law = leaves_same c.args.query.now c.args.kept.now c.args.copied.now c.in-Leaves-Leaves.own c.in-Leaves-Leaves.leaves c.in-Leaves-Leaves.conds c.in-Leaves-Leaves.is-0 c.in-Leaves-Leaves.is-1 c.recon.ensures.known.each in
    (λ t. law.1 (c.same-in-Leaves-Leaves.ensures.0 c.if-same-2.true, c.are_conds-then-same-2.ensures.0 t), λ h. c.are_conds-then-same-2.ensures.1 (law.0 h).1)

pub returns-else-same-2 : goal.returns-else-same-2
returns-else-same-2 g c =
    let law = leaves_same c.args.query.now c.args.kept.now c.args.copied.now c.in-Leaves-Leaves.own c.in-Leaves-Leaves.leaves c.in-Leaves-Leaves.conds c.in-Leaves-Leaves.is-0 c.in-Leaves-Leaves.is-1 c.recon.ensures.known.each in
    (λ t. absurd (false≢true (sym c.if-same-2.false ∙ t)), λ h. c.same-in-Leaves-Leaves.ensures.1 (law.0 h).0)
