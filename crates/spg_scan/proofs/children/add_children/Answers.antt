use Rattle.std.proofs.Common.{◌≡◌, ◌∙◌, ◌<◌, ◌++◌, ◌∷◌, [], length, map, get_or, take, IsSome, ap, sym, subst, arith, append_assoc}
use Rattle.std.proofs.lemmas.List.{take_more, take_all, take-map, length-map}
use Rattle.spg_opclass.specs.InPlace.{shown}
use Rattle.spg_forest.specs.Classes.{down_of}
use Rattle.spg_forest.specs.Pages.{tuple_on}
use Rattle.spg_forest.specs.Sheets.{links}
use Rattle.spg_forest.specs.Spot.{Branch}
use Rattle.spg_forest.specs.Walk.{children_at, followed}
use Rattle.spg_page.specs.Reads.{frame_in}
use Rattle.spg_scan.specs.Held.{item_of}
use Rattle.spg_scan.specs.Items.{hold_all, recon_at}
use Rattle.spg_scan.specs.Reading.{followed_at}
use Rattle.spg_scan.specs.Scanning.{IsAskedAt}
use Rattle.spg_scan.proofs.Gathers.{children_at-append, hold_append}
use Rattle.spg_scan.proofs.InPlace.{recon_there, place_stays, recon_stays, within_stays, cut_back}
use Rattle.spg_scan.proofs.children.add_children.Goals as goal

pub add_child-requires-clause-item : goal.add_child-requires-clause-item
add_child-requires-clause-item g c =
    let X = map item_of c.args.items.now.items in
    let Y = map item_of c.loop-node.items.items in
    let K = hold_all (children_at (down_of g.O.OpClass.meaning) (recon_at X c.args.item) (shown c.inner_at-tuple.result) (links (tuple_on c.args.page.now.tuples c.args.offset)) (take c.loop-node.node-index c.as_slice-node-items.result.now)) in
    let h : c.args.item < length X = omega (arith, length-map c.args.items.now.items item_of) in
    let b : c.args.item < length Y = within_stays X K Y c.args.item c.loop-node.invariant h in
    omega (arith, length-map c.loop-node.items.items item_of)

pub add_child-requires-clause-place : goal.add_child-requires-clause-place
add_child-requires-clause-place g c =
    let X = map item_of c.args.items.now.items in
    let Y = map item_of c.loop-node.items.items in
    let K = hold_all (children_at (down_of g.O.OpClass.meaning) (recon_at X c.args.item) (shown c.inner_at-tuple.result) (links (tuple_on c.args.page.now.tuples c.args.offset)) (take c.loop-node.node-index c.as_slice-node-items.result.now)) in
    let h : c.args.item < length X = omega (arith, length-map c.args.items.now.items item_of) in
    place_stays X K Y c.args.item c.loop-node.invariant h c.requires.place

pub add_child-requires-clause-class : goal.add_child-requires-clause-class
add_child-requires-clause-class g c = λ some.
    let X = map item_of c.args.items.now.items in
    let Y = map item_of c.loop-node.items.items in
    let K = hold_all (children_at (down_of g.O.OpClass.meaning) (recon_at X c.args.item) (shown c.inner_at-tuple.result) (links (tuple_on c.args.page.now.tuples c.args.offset)) (take c.loop-node.node-index c.as_slice-node-items.result.now)) in
    let h : c.args.item < length X = omega (arith, length-map c.args.items.now.items item_of) in
    c.requires.class (subst IsSome (recon_stays X K Y c.args.item c.loop-node.invariant h) some)

pub returns-in-Err-clause-err : goal.returns-in-Err-clause-err
returns-in-Err-clause-err g c =
    let X = map item_of c.args.items.now.items in
    let Y = map item_of c.loop-node.items.items in
    let K = hold_all (children_at (down_of g.O.OpClass.meaning) (recon_at X c.args.item) (shown c.inner_at-tuple.result) (links (tuple_on c.args.page.now.tuples c.args.offset)) (take c.loop-node.node-index c.as_slice-node-items.result.now)) in
    let h : c.args.item < length X = omega (arith, length-map c.args.items.now.items item_of) in
    let n = c.len-held.result in
    let k : n ≡ length X = omega (arith, length-map c.args.items.now.items item_of) in
    ap (map item_of) c.truncate.ensures.items ∙ sym (take-map item_of n c.add_child.new.items.items) ∙ ap (λ z. take n (map item_of z)) c.in-Err.ensures.err ∙ cut_back X K Y c.args.item c.loop-node.invariant h n k

pub loop-node-preserved : goal.loop-node-preserved
loop-node-preserved g c =
    let D = down_of g.O.OpClass.meaning in
    let ns = links (tuple_on c.args.page.now.tuples c.args.offset) in
    let ks = c.as_slice-node-items.result.now in
    let i = c.loop-node.node-index in
    let b : i < length ks = omega arith in
    let w = shown c.inner_at-tuple.result in
    let X = map item_of c.args.items.now.items in
    let Y = map item_of c.loop-node.items.items in
    let r = recon_at X c.args.item in
    let K = hold_all (children_at D r w ns (take i ks)) in
    let more = children_at D r w ns (get_or ks i 0 ∷ []) in
    let h : c.args.item < length X = omega (arith, length-map c.args.items.now.items item_of) in
    c.in_default.ensures.ok ∙ ap (λ q. Y ++ hold_all (children_at D q w ns (get_or ks i 0 ∷ []))) (recon_stays X K Y c.args.item c.loop-node.invariant h)
    ∙ ap (λ z. z ++ hold_all more) c.loop-node.invariant ∙ append_assoc X K (hold_all more)
    ∙ ap (λ z. X ++ z) (sym (ap (λ is. hold_all (children_at D r w ns is)) (take_more ks i 0 b) ∙ ap hold_all (children_at-append D r w ns (take i ks) (get_or ks i 0 ∷ []))
    ∙ hold_append (children_at D r w ns (take i ks)) more))

pub returns-clause-asked : goal.returns-clause-asked
returns-clause-asked g c =
    let m = g.O.OpClass.meaning in
    let ns = links (tuple_on c.args.page.now.tuples c.args.offset) in
    let e = recon_there c.args.items.now.items c.args.item c.index.result.now c.recon_of.result.now c.index.ensures c.requires.place c.recon_of.ensures in
    subst (λ q. IsAskedAt m (Branch (frame_in (tuple_on c.args.page.now.tuples c.args.offset)) ns) c.args.query.now q) e
    (subst (λ w. IsAskedAt m (Branch w ns) c.args.query.now c.recon_of.result.now) c.inner_at-tuple.ensures.value c.in_ok-nodes.ensures.asked)

pub returns-clause-ok : goal.returns-clause-ok
returns-clause-ok g c =
    let m = g.O.OpClass.meaning in
    let D = down_of m in
    let ns = links (tuple_on c.args.page.now.tuples c.args.offset) in
    let ks = c.as_slice-node-items.result.now in
    let i = c.loop-node.node-index in
    let w = shown c.inner_at-tuple.result in
    let X = map item_of c.args.items.now.items in
    let r = recon_at X c.args.item in
    let e = recon_there c.args.items.now.items c.args.item c.index.result.now c.recon_of.result.now c.index.ensures c.requires.place c.recon_of.ensures in
    c.loop-node.invariant
    ∙ ap (λ z. X ++ hold_all z) (ap (λ is. children_at D r w ns is) (take_all i ks (omega arith) ∙ c.as_slice-node-items.ensures ∙ c.in_ok-nodes.ensures.nodes)
    ∙ ap (λ q. children_at D r w ns (followed m c.args.query.now q w ns)) e ∙ ap (λ v. followed_at m c.args.query.now r v ns) c.inner_at-tuple.ensures.value)
