use Rattle.std.proofs.Common.{rules}
use Rattle.spg_tree.proofs.Outcomes.{if_ok_then}
use Rattle.spg_split.specs.Splits.{IsAtRoot, IsSplitOut}
use Rattle.spg_split.specs.Below.{IsChainSplit}
use Rattle.spg_split.specs.Causes.{IsCause, root_bytes, chain_bytes}
use Rattle.spg_split.specs.Tables.{RootTable, ChainTable}
use Rattle.spg_split.specs.Cases.{IsLeafSplit, LeafTable, IsLeafCause, RootRises, ChainRises, RisesAtMost, NotesRoot}
use Rattle.spg_split.proofs.Cases.{root_case, ok_named}
use Rattle.spg_split.proofs.split.split_leaf.Goals as goal

pub returns-in-Root-clause-ok : goal.returns-in-Root-clause-ok
returns-in-Root-clause-ok g c =
    let m = g.O.OpClass.meaning in
    let t = c.args.table.now in
    let t2 = c.divide_root.new.table in
    let d = c.args.descent.now in
    let d2 = c.divide_root.new.descent in
    let low : IsAtRoot d.stand = search rules in
    if_ok_then c.divide_root.result (λ out. IsSplitOut m t t2 d d2 out) (λ out. IsLeafSplit m t t2 d d2 out)
    (λ out a. root_case d.stand (IsSplitOut m t t2 d d2 out) (IsChainSplit m t t2 d d2 out) low a) c.divide_root.ensures.ok

pub returns-in-Root-clause-table : goal.returns-in-Root-clause-table
returns-in-Root-clause-table g c =
    let m = g.O.OpClass.meaning in
    let t = c.args.table.now in
    let t2 = c.divide_root.new.table in
    let d = c.args.descent.now in
    let d2 = c.divide_root.new.descent in
    let seat = c.args.seat in
    let low : IsAtRoot d.stand = search rules in
    ok_named c.divide_root.result (RootTable m t t2 d seat) (λ out. LeafTable m t t2 d d2 seat out)
    (λ out a. root_case d.stand (RootTable m t t2 d seat) (ChainTable m t t2 d d2 seat out) low a) c.divide_root.ensures.table

pub returns-in-Root-clause-cause : goal.returns-in-Root-clause-cause
returns-in-Root-clause-cause g c =
    let m = g.O.OpClass.meaning in
    let t = c.args.table.now in
    let d = c.args.descent.now in
    let low : IsAtRoot d.stand = search rules in
    if_ok_then c.divide_root.result (λ out. IsCause (root_bytes m t d) out) (λ out. IsLeafCause m t d out)
    (λ out a. root_case d.stand (IsCause (root_bytes m t d) out) (IsCause (chain_bytes m t d) out) low a) c.divide_root.ensures.cause

pub returns-in-Root-clause-rise : goal.returns-in-Root-clause-rise
returns-in-Root-clause-rise g c =
    let m = g.O.OpClass.meaning in
    let t = c.args.table.now in
    let t2 = c.divide_root.new.table in
    let d = c.args.descent.now in
    let d2 = c.divide_root.new.descent in
    let low : IsAtRoot d.stand = search rules in
    if_ok_then c.divide_root.result (λ out. RootRises m t t2 d d2 out) (λ out. RisesAtMost m t t2 d d2 out)
    (λ out a. root_case d.stand (RootRises m t t2 d d2 out) (ChainRises m t t2 d d2 out) low a) c.divide_root.ensures.rise

pub returns-in-Root-clause-noted : goal.returns-in-Root-clause-noted
returns-in-Root-clause-noted g c =
    let m = g.O.OpClass.meaning in
    let t = c.args.table.now in
    let d = c.args.descent.now in
    let d2 = c.divide_root.new.descent in
    if_ok_then c.divide_root.result (λ out. NotesRoot m t d d2 out) (λ out. IsAtRoot d.stand → NotesRoot m t d d2 out) (λ out a low. a) c.divide_root.ensures.noted
