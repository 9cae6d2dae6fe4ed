use Rattle.std.proofs.Common.{sym, subst}
use Rattle.spg_chain.specs.Chains.{IsChainedPage}
use Rattle.spg_move.proofs.Leaving.{other_page}
use Rattle.spg_move.proofs.moving.write_chain.Goals as goal

pub take_from-requires-clause-chained : goal.take_from-requires-clause-chained
take_from-requires-clause-chained c = subst IsChainedPage (sym (other_page c.args.table.now c.put_on-offset.new.table c.args.block c.args.at.block _ c.put_on-offset.ensures.table c.requires.at.2)) c.requires.chained
