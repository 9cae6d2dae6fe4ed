use Rattle.std.proofs.Common.{◌≡◌, ◌∙◌, ◌++◌, ◌∷◌, [], ◌+◌, take, sym, ap}
use Rattle.std.proofs.lemmas.List.{take_more}
use Rattle.spg_scan.specs.Items.{hold_all}
use Rattle.spg_scan.specs.Parts.{linked}
use Rattle.spg_scan.proofs.Lives.{linked-more}
use Rattle.spg_scan.proofs.scan_sifted.children_at.Goals as goal

pub loop-i-preserved : goal.loop-i-preserved
loop-i-preserved g c =
    let ns = c.args.links.now in
    let nodes = c.as_slice-nodes.result.now in
    let i = c.loop-i.i in
    let x = c.index-nodes-i.result in
    let e : take (i + 1) nodes ≡ take i nodes ++ x ∷ [] = take_more nodes i x c.loop-i-test.true ∙ ap (λ z. take i nodes ++ z ∷ []) (sym c.index-nodes-i.is) in
    c.in_ok-hold_child.ensures ∙ ap (λ z. z ++ hold_all (linked ns (x ∷ []))) c.loop-i.invariant ∙ linked-more ns (take i nodes) (x ∷ []) ∙ ap (λ z. hold_all (linked ns z)) (sym e)
