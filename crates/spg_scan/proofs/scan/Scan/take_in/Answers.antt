use Rattle.std.proofs.Common.{◌≡◌, [], sym, ◌∙◌}
use Rattle.std.proofs.lemmas.Result.{IfOk-weaker}
use Rattle.spg_scan.specs.Items.{hold_all}
use Rattle.spg_scan.specs.Scanning.{replaced}
use Rattle.spg_scan.specs.Parts.{linked, rows_asked}
use Rattle.spg_scan.specs.Copying.{TakesIn}
use Rattle.spg_scan.proofs.Siftings.{in_inner, in_leaves}
use Rattle.spg_scan.proofs.scan.Scan.take_in.Goals as goal

pub returns-in-Inner-clause-ok : goal.returns-in-Inner-clause-ok
returns-in-Inner-clause-ok g c =
    let m = g.O.OpClass.meaning in
    let now = c.args.self.now in
    let new = c.take_nodes.new.self in
    IfOk-weaker c.take_nodes.result (λ _. new ≡ replaced now c.args.item (hold_all (linked c.links.result.now c.nodes.result.now)) [] 0) (λ _. TakesIn m now new c.args.item c.args.sifted.now)
    (λ _ after. in_inner m now new c.args.item g.O.OpClass.keeps c.args.sifted.now c.in-Inner.tuple _ (sym c.copied.ensures.value ∙ c.in-Inner.is) c.requires c.links.ensures.known c.nodes.ensures.asked c.links.result.now c.nodes.result.now c.links.ensures.value c.nodes.ensures.value after)
    c.take_nodes.ensures.ok

pub returns-in-Leaves-clause-ok : goal.returns-in-Leaves-clause-ok
returns-in-Leaves-clause-ok g c =
    let m = g.O.OpClass.meaning in
    let now = c.args.self.now in
    let new = c.take_rows.new.self in
    IfOk-weaker c.take_rows.result (λ _. new ≡ replaced now c.args.item [] (rows_asked now.query c.as_slice.result.now) 0) (λ _. TakesIn m now new c.args.item c.args.sifted.now)
    (λ _ after. in_leaves m now new c.args.item c.args.sifted.now _ _ (sym c.copied.ensures.value ∙ c.in-Leaves.is) c.requires c.as_slice.result.now (c.as_slice.ensures ∙ c.rows.ensures) after)
    c.take_rows.ensures.ok
