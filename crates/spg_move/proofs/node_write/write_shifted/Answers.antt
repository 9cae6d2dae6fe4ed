use Rattle.std.proofs.Common.{◌<◌, ℕ, length, ap, sym, subst}
use Rattle.spg_forest.specs.Pages.{place}
use Rattle.spg_forest.specs.Sheets.{links}
use Rattle.spg_tree.specs.Table.{Table, tuple_at}
use Rattle.spg_move.proofs.NodeWrites.{left_is, p_node}
use Rattle.spg_move.proofs.node_write.write_shifted.Goals as goal

pub relink-requires-clause-node : goal.relink-requires-clause-node
relink-requires-clause-node c =
    let e = left_is c.args.table.now c.args.at.now c.args.parent.now c.args.node c.args.block c.args.longer.now c.requires.hung c.requires.block c.requires.apart c.add_on-offset.new.self c.put_at.new.self (place c.args.block c.add_on-offset.result) c.redirect-redirect.result c.at-stamp.result c.clock.result
    c.add_on-offset.ensures.table (ap (λ (o : ℕ). place c.args.block o) c.add_on-offset.ensures.at) c.redirect-redirect.ensures c.at-stamp.ensures c.clock.ensures.value c.put_at.ensures in
    subst (λ (z : Table). c.args.node < length (links (tuple_at z c.args.parent.now))) (sym e) (p_node c.args.table.now c.args.at.now c.args.parent.now c.args.node c.args.block c.args.longer.now c.requires.hung c.requires.block c.requires.apart)
