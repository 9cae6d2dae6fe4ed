use Rattle.std.proofs.Common.{◌∙◌}
use Rattle.spg_opclass.proofs.Sifts.{kept_there}
use Rattle.spg_opclass.proofs.sifted.keep_nodes.Goals as goal

pub down-requires : goal.down-requires
down-requires g c =
    kept_there g.O.OpClass.meaning g.O.OpClass.keeps c.args.inner.now c.recon-recon.ensures.known c.recon-recon.result.now c.tuple-tuple.result.now c.args.conds.now c.recon-recon.ensures.value c.tuple-tuple.ensures.value c.inner_consistent.ensures.known
    c.as_slice-node-items.result.now (c.as_slice-node-items.ensures ∙ c.in_ok-kept.ensures.ok) c.loop-node.node-index c.loop-node-test.true
