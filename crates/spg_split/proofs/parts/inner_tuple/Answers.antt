use Rattle.std.proofs.Common.{◌≡◌, IfOk, ap, ap₂, sym, ◌∙◌, subst, arith, length, List, ◌<◌, ℤ}
use Rattle.std.specs.List.{AllByRecursion}
use Rattle.std.specs.Prelude.{IfSome}
use Rattle.spg_forest.specs.Tuples.{Tuple, Inner}
use Rattle.spg_page.specs.declared.tuple.Node.{Node}
use Rattle.spg_page.specs.Told.{labels_of, links_of}
use Rattle.spg_descend.specs.BareNodes.{nodes_of, bare}
use Rattle.spg_descend.proofs.BareNodes.{bare_labels, bare_links, bare_length, bare_all}
use Rattle.spg_split.proofs.parts.inner_tuple.Goals as goal

pub of-requires : goal.of-requires
of-requires c =
    let e : c.in_ok-nodes.nodes ≡ nodes_of c.args.frame.labels = c.in_ok-nodes.ensures ∙ ap nodes_of c.as_slice.ensures.value in
    let n = ap length e ∙ bare_length c.args.frame.labels in
    let a = c.requires.some in let b = c.requires.small in
    (omega arith, subst (λ (ns : List Node). AllByRecursion (λ (n : Node). IfSome n.link (λ to. (0 < to.block) × (0 < to.offset))) ns) (sym e) (bare_all c.args.frame.labels), omega arith)

pub returns : goal.returns
returns c =
    let e : c.in_ok-nodes.nodes ≡ nodes_of c.args.frame.labels = c.in_ok-nodes.ensures ∙ ap nodes_of c.as_slice.ensures.value in
    let l : labels_of c.in_ok-nodes.nodes ≡ c.args.frame.labels = ap labels_of e ∙ bare_labels c.args.frame.labels in
    let k : links_of c.in_ok-nodes.nodes ≡ bare (length c.args.frame.labels) = ap links_of e ∙ bare_links c.args.frame.labels in
    subst (λ (t : Tuple). IfOk c.of.result (λ inner. inner ≡ t)) (ap₂ (λ (ls : List ℤ) ns. Inner (record { all_same = c.args.frame.all_same; prefix = c.args.frame.prefix; labels = ls }) ns) l k) c.of.ensures
