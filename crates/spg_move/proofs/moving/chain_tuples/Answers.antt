use Rattle.std.proofs.Common.{◌≡◌, ◌++◌, ◌∷◌, [], length, ap, ap₂, sym, ◌∙◌}
use Rattle.std.proofs.lemmas.Iterator.Consumers.{YieldsList-end, YieldsList-turn, YieldsList-from_first}
use Rattle.spg_forest.specs.Pages.{all_live}
use Rattle.spg_chain.specs.Chains.{member_of, members_left, chain_members, leaves_of}
use Rattle.spg_move.proofs.Gathering.{tuples_more, small_member}
use Rattle.spg_move.proofs.moving.chain_tuples.Goals as goal

pub leaf_tuple-requires : goal.leaf_tuple-requires
leaf_tuple-requires c =
    let e : members_left c.into_iter-leaf-iterator.result ≡ chain_members c.args.page.now.tuples c.args.head = cc in
    let t = YieldsList-turn (YieldsList-from_first member_of members_left (chain_members c.args.page.now.tuples c.args.head) e) c.loop-leaf.yielded c.loop-leaf.leaf-iterator c.loop-leaf.yielded_by _ c.next.new.self c.in-Some.leaf c.in-Some.is c.next.ensures.steps in
    small_member (chain_members c.args.page.now.tuples c.args.head) (length c.loop-leaf.yielded) (member_of c.in-Some.leaf) t.0 t.1 c.requires

pub loop-leaf-preserved : goal.loop-leaf-preserved
loop-leaf-preserved c = c.in_ok-push.ensures.ok ∙ ap₂ (λ us t. us ++ t ∷ []) c.loop-leaf.invariant c.in_ok-leaf_tuple.ensures ∙ sym (tuples_more c.loop-leaf.yielded c.in-Some.leaf)

pub returns : goal.returns
returns c =
    let e : members_left c.into_iter-leaf-iterator.result ≡ chain_members c.args.page.now.tuples c.args.head = cc in
    let t = YieldsList-end (YieldsList-from_first member_of members_left (chain_members c.args.page.now.tuples c.args.head) e) c.loop-leaf.yielded c.loop-leaf.leaf-iterator c.loop-leaf.yielded_by _ c.next.new.self c.in-None.is c.next.ensures.steps in
    c.loop-leaf.invariant ∙ ap (λ ms. all_live (leaves_of ms)) t.0
