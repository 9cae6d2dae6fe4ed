use Rattle.std.proofs.Common.{◌≡◌, ◌∙◌, ap, subst, List, [], ℕ, IfOk}
use Rattle.spg_kd.specs.Kd.{median_of, halves}
use Rattle.spg_kd.specs.Ties.{ties_of, sides}
use Rattle.spg_kd.specs.KdLemmas.{sides_halves}
use Rattle.spg_kd.proofs.division.halves_of.Goals as goal

pub returns : goal.returns
returns c =
    let ks = c.args.ks.now in
    let same : sides c.args.p c.ties.result ks ≡ halves ks [] ks =
    ap (λ (t : ℕ). sides c.args.p t ks) c.ties.ensures ∙ ap (λ (p : ℕ). sides p (ties_of p ks) ks) c.requires.middle ∙ sides_halves ks c.requires.some in
    subst (λ (ns : List ℕ). IfOk c.nodes_of.result (λ nodes. nodes ≡ ns)) same c.nodes_of.ensures
