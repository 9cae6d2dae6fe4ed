use Rattle.std.proofs.Common.{sym, ap, ap₂, ◌∙◌, subst, ℕ}
use Rattle.spg_forest.specs.Sheets.{Sheet, with_tuples}
use Rattle.spg_chain.specs.Chains.{IsChainedPage, BeginsChain}
use Rattle.spg_tree.specs.Table.{with_sheet}
use Rattle.spg_split.specs.Writing.{taken_from}
use Rattle.spg_split.proofs.write.take_to.Goals as goal

pub take_chain-requires-clause-chained : goal.take_chain-requires-clause-chained
take_chain-requires-clause-chained c = subst (λ (s : Sheet). IsChainedPage s.tuples) (sym c.page_mut.ensures.value) c.requires.chained

pub take_chain-requires-clause-head : goal.take_chain-requires-clause-head
take_chain-requires-clause-head c = subst (λ (s : Sheet). BeginsChain s.tuples c.args.head) (sym c.page_mut.ensures.value) c.requires.begins

pub returns : goal.returns
returns c = ap (with_sheet c.args.table.now c.args.block) (c.take_chain.ensures.tuples
    ∙ ap₂ (λ (s : Sheet) (k : ℕ). with_tuples s (taken_from s.tuples c.args.head c.args.to k)) c.page_mut.ensures.value (c.at-stamp.ensures ∙ c.clock.ensures.value))
