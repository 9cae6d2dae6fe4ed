use Rattle.std.proofs.Common.{◌≡◌, ◌∙◌, ◌++◌, ◌∷◌, [], map, ap, sym, arith, length-append}
use Rattle.std.proofs.lemmas.List.{length-map}
use Rattle.std.proofs.lemmas.Iterator.Consumers.{YieldsList-end, YieldsList-turn, YieldsList-from_first}
use Rattle.spg_forest.specs.View.{Leaf}
use Rattle.spg_chain.proofs.Members.{length-chain_members}
use Rattle.spg_chain.specs.Chains.{Member, member_of, members_left, chain_members, leaves_of}
use Rattle.spg_scan.specs.Items.{rows_of}
use Rattle.spg_scan.specs.Reading.{live_leaves}
use Rattle.spg_scan.specs.Copying.{rests_of}
use Rattle.spg_scan.proofs.Gathers.{leaves_more}
use Rattle.spg_scan.proofs.Lives.{rows-more, rests-more}
use Rattle.spg_scan.proofs.copying.live_chain.Goals as goal

pub overflow_add-met : goal.overflow_add-met
overflow_add-met g c =
    let ms = chain_members c.args.page.now.tuples c.args.head in
    let e : members_left c.into_iter-leaf-iterator.result ≡ ms = cc in
    let t = YieldsList-turn (YieldsList-from_first member_of members_left ms e) c.loop-leaf.yielded c.loop-leaf.leaf-iterator c.loop-leaf.yielded_by _ c.next.new.self c.in-Some.leaf c.in-Some.is c.next.ensures.steps in
    let few = length-chain_members c.args.page.now.tuples c.args.head in
    omega (arith, t.0, c.loop-leaf.invariant.0)

pub loop-leaf-preserved : goal.loop-leaf-preserved
loop-leaf-preserved g c =
    let ys = c.loop-leaf.yielded in
    let l : Leaf = record { row = c.in-Some.leaf.row; rest = c.in-Some.leaf.rest.now } in
    let ls = leaves_of (map member_of ys) in
    let table = c.args.table.now in (
      omega (arith, c.loop-leaf.invariant.0, length-append ys (c.in-Some.leaf ∷ [])),
      c.in_ok-copy_leaf.ensures.rows ∙ ap (λ z. z ++ rows_of (live_leaves table (l ∷ []))) c.loop-leaf.invariant.1 ∙ rows-more table ls (l ∷ []) ∙ ap (λ k. rows_of (live_leaves table k)) (sym (leaves_more ys c.in-Some.leaf)),
      c.in_ok-copy_leaf.ensures.rests ∙ ap (λ z. z ++ rests_of (live_leaves table (l ∷ []))) c.loop-leaf.invariant.2 ∙ rests-more table ls (l ∷ []) ∙ ap (λ k. rests_of (live_leaves table k)) (sym (leaves_more ys c.in-Some.leaf)),
    )

pub returns-clause-met : goal.returns-clause-met
returns-clause-met g c =
    let ms = chain_members c.args.page.now.tuples c.args.head in
    let e : members_left c.into_iter-leaf-iterator.result ≡ ms = cc in
    let t = YieldsList-end (YieldsList-from_first member_of members_left ms e) c.loop-leaf.yielded c.loop-leaf.leaf-iterator c.loop-leaf.yielded_by _ c.next.new.self c.in-None.is c.next.ensures.steps in
    c.loop-leaf.invariant.0 ∙ t.1 ∙ sym (length-map ms (λ (m : Member). m.leaf))
