use Rattle.std.proofs.Common.{◌≡◌, ap, ◌∙◌}
use Rattle.std.proofs.lemmas.Iterator.Consumers.{YieldsList-end, YieldsList-from_first}
use Rattle.spg_chain.specs.Chains.{member_of, members_left, chain_members, offsets_of}
use Rattle.spg_chain.proofs.chain.chain_offsets.Goals as goal

pub returns-clause-offsets : goal.returns-clause-offsets
returns-clause-offsets c =
    let e : members_left c.into_iter-leaf-iterator.result ≡ chain_members c.args.page.now.tuples c.args.head = cc in
    let t = YieldsList-end (YieldsList-from_first member_of members_left (chain_members c.args.page.now.tuples c.args.head) e) c.loop-leaf.yielded c.loop-leaf.leaf-iterator c.loop-leaf.yielded_by _ c.next.new.self c.in-None.is c.next.ensures.steps in
    c.loop-leaf.invariant ∙ ap offsets_of t.0
