use Rattle.std.proofs.Common.{◌≡◌, ℤ, List, IfOk, insert, ap, sym, ◌∙◌, subst}
use Rattle.std.specs.Int.{w16}
use Rattle.std.proofs.lemmas.Int.{to_z-of_z}
use Rattle.spg_page.specs.declared.tuple.Node.{Node}
use Rattle.spg_forest.specs.Pages.{tuple_on}
use Rattle.spg_forest.specs.Tuples.{Tuple}
use Rattle.spg_page.specs.Told.{told}
use Rattle.spg_page.specs.Spelling.{IsTuple}
use Rattle.spg_move.proofs.NodeTuple.{new_node, widened_told, may_spell}
use Rattle.spg_move.proofs.node_tuple.longer_tuple.Goals as goal

pub of-requires : goal.of-requires
of-requires c = may_spell c.in-Inner.inner (tuple_on c.args.page.now.tuples c.args.offset) c.args.at c.args.label c.in_ok-nodes-in-Inner.nodes (ap told (sym c.in-Inner.is) ∙ c.in_ok-inner.ensures.value)
    (c.in_ok-nodes-in-Inner.ensures ∙ ap (λ (z : ℤ). insert c.as_slice.result.now c.args.at (new_node z)) (to_z-of_z w16 c.args.label c.ranges.label) ∙ ap (λ (ns : List Node). insert ns c.args.at (new_node c.args.label)) c.as_slice.ensures.value) (subst IsTuple c.in-Inner.is c.in_ok-inner.ensures.fits) c.requires.size

pub returns : goal.returns
returns c = subst (λ (u : Tuple). IfOk c.of.result (λ longer. longer ≡ u))
    (widened_told c.in-Inner.inner (tuple_on c.args.page.now.tuples c.args.offset) c.args.at c.args.label c.in_ok-nodes-in-Inner.nodes (ap told (sym c.in-Inner.is) ∙ c.in_ok-inner.ensures.value)
    (c.in_ok-nodes-in-Inner.ensures ∙ ap (λ (z : ℤ). insert c.as_slice.result.now c.args.at (new_node z)) (to_z-of_z w16 c.args.label c.ranges.label) ∙ ap (λ (ns : List Node). insert ns c.args.at (new_node c.args.label)) c.as_slice.ensures.value)) c.of.ensures
