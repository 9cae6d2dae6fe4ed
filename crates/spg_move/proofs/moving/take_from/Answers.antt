use Rattle.std.proofs.Common.{◌∙◌}
use Rattle.spg_move.proofs.Leaving.{left_page}
use Rattle.spg_move.proofs.moving.take_from.Goals as goal

pub take_chain-requires-clause-chained : goal.take_chain-requires-clause-chained
take_chain-requires-clause-chained c = rw c.page_mut-page.ensures.value c.requires.chained

pub returns : goal.returns
returns c = left_page c.args.table.now c.args.at.now.block c.page_mut-page.result.now c.take_chain.new.page c.args.at.now.offset c.args.to c.at-stamp.result c.args.table.now.clock c.page_mut-page.ensures.value (c.at-stamp.ensures ∙ c.clock.ensures.value) c.take_chain.ensures.tuples
