use Rattle.std.proofs.Common.{◌≡◌, IfOk, ap, sym, ◌∙◌, subst, arith, length, List, ◌<◌, ℤ, ℕ, false}
use Rattle.std.specs.List.{AllByRecursion}
use Rattle.std.specs.Prelude.{IfSome}
use Rattle.spg_forest.specs.Tuples.{Tuple, Inner}
use Rattle.spg_page.specs.declared.tuple.Node.{Node}
use Rattle.spg_page.specs.Told.{labels_of, links_of}
use Rattle.spg_descend.specs.BareNodes.{nodes_of, bare}
use Rattle.spg_descend.proofs.BareNodes.{bare_labels, bare_links, bare_length, bare_all}
use Rattle.spg_move.proofs.split_tuples.upper_tuple.Goals as goal

pub of-requires : goal.of-requires
of-requires c =
    let e : c.in_ok-nodes.nodes ≡ nodes_of c.args.labels.now = c.in_ok-nodes.ensures ∙ ap nodes_of c.as_slice-2.ensures.value in
    let n = ap length e ∙ bare_length c.args.labels.now in
    let p = ap length (c.in_ok-prefix.ensures ∙ c.as_slice.ensures.value) in
    let a = c.requires.some in let b = c.requires.small in
    (omega arith, subst (λ (ns : List Node). AllByRecursion (λ (n : Node). IfSome n.link (λ to. (0 < to.block) × (0 < to.offset))) ns) (sym e) (bare_all c.args.labels.now), omega arith)

pub returns : goal.returns
returns c =
    let e : c.in_ok-nodes.nodes ≡ nodes_of c.args.labels.now = c.in_ok-nodes.ensures ∙ ap nodes_of c.as_slice-2.ensures.value in
    let p : c.in_ok-prefix.prefix ≡ c.args.prefix.now = c.in_ok-prefix.ensures ∙ c.as_slice.ensures.value in
    let l : labels_of c.in_ok-nodes.nodes ≡ c.args.labels.now = ap labels_of e ∙ bare_labels c.args.labels.now in
    let k : links_of c.in_ok-nodes.nodes ≡ bare (length c.args.labels.now) = ap links_of e ∙ bare_links c.args.labels.now in
    let t : Tuple = Inner (record { all_same = false; prefix = c.in_ok-prefix.prefix; labels = labels_of c.in_ok-nodes.nodes }) (links_of c.in_ok-nodes.nodes) in
    let same : t ≡ Inner (record { all_same = false; prefix = c.args.prefix.now; labels = c.args.labels.now }) (bare (length c.args.labels.now)) =
    ap (λ (q : List ℕ). Inner (record { all_same = false; prefix = q; labels = labels_of c.in_ok-nodes.nodes }) (links_of c.in_ok-nodes.nodes)) p
    ∙ ap (λ (ls : List ℤ). Inner (record { all_same = false; prefix = c.args.prefix.now; labels = ls }) (links_of c.in_ok-nodes.nodes)) l
    ∙ ap (λ ns. Inner (record { all_same = false; prefix = c.args.prefix.now; labels = c.args.labels.now }) ns) k in
    subst (λ (u : Tuple). IfOk c.of.result (λ bytes. bytes ≡ u)) same c.of.ensures
