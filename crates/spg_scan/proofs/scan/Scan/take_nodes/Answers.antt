use Rattle.std.proofs.Common.{◌≡◌, ◌+◌, [], sym, ap, ◌∙◌, arith}
use Rattle.std.proofs.lemmas.List.{append-nil}
use Rattle.spg_scan.specs.Scanning.{replaced, counted}
use Rattle.spg_scan.proofs.Replacing.{replaced_is}
use Rattle.spg_scan.proofs.scan.Scan.take_nodes.Goals as goal

pub returns-clause-ok : goal.returns-clause-ok
returns-clause-ok g c =
    let s = c.self.inside in
    let now = c.args.self.now in
    let kids = c.in_ok-children.children.items in
    let m : s.met ≡ counted (s.met + 0) = omega (arith, c.self.invariant) in
    replaced_is s.query s.at s.stamp s.items.items c.put_in_place.new.items.items kids s.rows.items s.rows.items [] s.met s.met 0 c.args.item now
    c.self.view_is c.in_ok-put_in_place.ensures.ok (sym (append-nil s.rows.items)) m
    ∙ ap (λ z. replaced now c.args.item z [] 0) c.in_ok-children.ensures
