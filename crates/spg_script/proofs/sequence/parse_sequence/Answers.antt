use Rattle.std.proofs.Common.{◌∙◌, sym, arith}
use Rattle.std.proofs.lemmas.Bool.{eqb-true}
use Rattle.spg_radix.specs.TextLemmas.{bytes_from}
use Rattle.spg_script.specs.Sequences.{script_of}
use Rattle.spg_script.proofs.ReadLines.{written, empty_is}
use Rattle.spg_script.proofs.SequenceLines.{more_commands, foreign_line, sequence_read, no_class_line}
use Rattle.spg_script.proofs.sequence.parse_sequence.Goals as goal

pub returns-then-not-branch-clause-bad : goal.returns-then-not-branch-clause-bad
returns-then-not-branch-clause-bad c = foreign_line c.args.bytes.now c.loop-rest.reader c.loop-rest.rest.now c.loop-rest.number c.loop-rest.invariant c.first_line.result.0.now c.first_line.result.1.now
    c.read.new.self c.first_line.ensures.lines (rw c.if-not-branch.true at c.in_ok-read.ensures)

pub loop-rest-preserved : goal.loop-rest-preserved
loop-rest-preserved c = more_commands c.args.bytes.now c.loop-rest.reader c.loop-rest.rest.now c.loop-rest.number c.loop-rest.invariant c.first_line.result.0.now c.first_line.result.1.now
    c.read.new.self c.first_line.ensures.lines c.first_line.ensures.shorter (rw c.if-not-branch.false at c.in_ok-read.ensures)

pub returns-in-Named-clause-found : goal.returns-in-Named-clause-found
returns-in-Named-clause-found c =
    sequence_read c.args.bytes.now c.loop-rest.reader c.loop-rest.rest.now c.loop-rest.number c.loop-rest.invariant (empty_is c.loop-rest.rest.now (eqb-true _ 0 (sym c.is_empty.ensures ∙ c.loop-rest-test.false))) c.in-Named.sequence c.in-Named.is

pub returns-in-Named-clause-written : goal.returns-in-Named-clause-written
returns-in-Named-clause-written c =
    written c.args.bytes.now (script_of c.in-Named.sequence) (bytes_from c.args.bytes.now (λ i. omega (arith, c.type_inv.bytes i))) c.requires
    (sequence_read c.args.bytes.now c.loop-rest.reader c.loop-rest.rest.now c.loop-rest.number c.loop-rest.invariant (empty_is c.loop-rest.rest.now (eqb-true _ 0 (sym c.is_empty.ensures ∙ c.loop-rest-test.false))) c.in-Named.sequence c.in-Named.is).is_script

pub returns-in-Start-clause-bad : goal.returns-in-Start-clause-bad
returns-in-Start-clause-bad c = no_class_line c.args.bytes.now c.loop-rest.reader c.loop-rest.rest.now c.loop-rest.number c.loop-rest.invariant (empty_is c.loop-rest.rest.now (eqb-true _ 0 (sym c.is_empty.ensures ∙ c.loop-rest-test.false))) c.in-Start.is
