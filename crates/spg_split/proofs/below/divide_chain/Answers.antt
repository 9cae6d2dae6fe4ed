use Rattle.spg_split.proofs.Outcome.{chain_split}
use Rattle.spg_split.proofs.Causes.{noted_chain, rise_noted_chain}
use Rattle.spg_split.proofs.Fulls.{chain_not_full}
use Rattle.spg_split.proofs.Held.{noted_free}
use Rattle.spg_split.specs.Causes.{chain_bytes, chain_in_one}
use Rattle.spg_split.proofs.below.divide_chain.Goals as goal

pub returns-clause-ok : goal.returns-clause-ok
returns-clause-ok g c = chain_split g.O.OpClass.meaning c.args.table.now c.divide_below.new.table c.args.descent.now c.note_chain.new.descent c.in_ok-done-in-At-Some.done.at c.in_ok-done-in-At-Some.done.way c.note_chain.result
    c.in_ok-done-in-At-Some.ensures.ok.0 c.in_ok-done-in-At-Some.ensures.ok.2 c.note_chain.ensures

pub returns-clause-cause : goal.returns-clause-cause
returns-clause-cause g c = noted_chain (chain_bytes g.O.OpClass.meaning c.args.table.now c.args.descent.now) c.args.descent.now c.note_chain.new.descent c.in_ok-done-in-At-Some.done.at c.in_ok-done-in-At-Some.done.way c.note_chain.result
    c.in_ok-done-in-At-Some.ensures.cause c.note_chain.ensures

pub returns-clause-rise : goal.returns-clause-rise
returns-clause-rise g c = rise_noted_chain g.O.OpClass.meaning (chain_in_one g.O.OpClass.meaning c.args.table.now c.args.descent.now) c.args.table.now c.divide_below.new.table c.args.descent.now c.note_chain.new.descent c.in_ok-done-in-At-Some.done.at c.in_ok-done-in-At-Some.done.way c.note_chain.result
    c.in_ok-done-in-At-Some.ensures.rise c.in_ok-done-in-At-Some.ensures.ok.0 c.note_chain.ensures

pub returns-clause-stands : goal.returns-clause-stands
returns-clause-stands g c = noted_free c.args.table.now c.divide_below.new.table c.args.descent.now c.note_chain.new.descent c.in_ok-done-in-At-Some.done.at c.args.seat c.in_ok-done-in-At-Some.done.way c.note_chain.result
    c.note_chain.ensures c.in_ok-done-in-At-Some.ensures.home

pub returns-clause-table : goal.returns-clause-table
returns-clause-table g c = (c.in_ok-done-in-At-Some.done, c.in_ok-done-in-At-Some.ensures.table, c.note_chain.ensures)

pub returns-clause-not_full : goal.returns-clause-not_full
returns-clause-not_full g c = chain_not_full g.O.OpClass.meaning c.args.table.now c.divide_below.new.table c.args.descent.now c.args.seat c.in_ok-done-in-At-Some.done c.in_ok-done-in-At-Some.ensures.table
