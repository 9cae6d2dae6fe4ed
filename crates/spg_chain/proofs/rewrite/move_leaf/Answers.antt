use Rattle.std.proofs.Common.{◌≡◌, ap, sym, ◌∙◌, arith}
use Rattle.spg_opclass.specs.Laws.{leaf_size}
use Rattle.spg_forest.specs.Pages.{tuple_on}
use Rattle.spg_forest.specs.Sheets.{Sheet, size_of, weight}
use Rattle.spg_chain.proofs.Renewing.{moved_room, live_parts}
use Rattle.spg_chain.proofs.rewrite.move_leaf.Goals as goal

pub replace-requires-clause-room : goal.replace-requires-clause-room
replace-requires-clause-room c =
    let r = c.free-room.ensures.room in
    let v = c.size_at-size.ensures.value in
    let l = c.size_at-size.ensures.low in
    let m = moved_room c.args.page.now.tuples c.args.from c.args.to c.requires.from c.requires.empty (omega arith) (omega arith) in
    let q = live_parts (tuple_on c.args.page.now.tuples c.args.from) c.requires.live in
    let e : size_of c.in_ok-bytes.bytes ≡ size_of (tuple_on c.args.page.now.tuples c.args.from) = ap size_of c.in_ok-bytes.ensures ∙ ap leaf_size (c.in_ok-rest.ensures ∙ c.rest_at.ensures.value) ∙ sym (ap size_of q) in
    let p = ap (λ (s : Sheet). s.tuples) c.put_placeholder.ensures in
    let z = ap (λ us. size_of (tuple_on us c.args.to)) p in
    let w = ap weight p in
    omega arith
