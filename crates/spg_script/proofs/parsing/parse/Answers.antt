use Rattle.std.proofs.Common.{◌∙◌, sym, arith}
use Rattle.std.proofs.lemmas.Bool.{eqb-true}
use Rattle.spg_radix.specs.TextLemmas.{bytes_from}
use Rattle.spg_script.specs.Steps.{place_of}
use Rattle.spg_script.specs.Reader.{script_at}
use Rattle.spg_script.proofs.ReadLines.{read_more, read_bad, read_script, read_short, written, empty_is}
use Rattle.spg_script.proofs.parsing.parse.Goals as goal

pub returns-then-not-branch-clause-bad : goal.returns-then-not-branch-clause-bad
returns-then-not-branch-clause-bad c = read_bad c.args.bytes.now (place_of c.loop-rest.reader) c.loop-rest.rest.now c.loop-rest.number c.loop-rest.invariant c.first_line.result.0.now c.first_line.result.1.now c.first_line.ensures.lines
    (place_of c.read.new.self) (rw c.if-not-branch.true at c.in_ok-read.ensures)

pub loop-rest-preserved : goal.loop-rest-preserved
loop-rest-preserved c = read_more c.args.bytes.now (place_of c.loop-rest.reader) c.loop-rest.rest.now c.loop-rest.number c.loop-rest.invariant c.first_line.result.0.now c.first_line.result.1.now c.first_line.ensures.lines
    (place_of c.read.new.self) c.first_line.ensures.shorter (rw c.if-not-branch.false at c.in_ok-read.ensures)

pub new-requires : goal.new-requires
new-requires c =
    written c.args.bytes.now (script_at c.in-Some.class c.in-Some.parts) (bytes_from c.args.bytes.now (λ i. omega (arith, c.type_inv.bytes i))) c.requires
    (read_script c.args.bytes.now (place_of c.loop-rest.reader) c.loop-rest.rest.now c.loop-rest.number c.loop-rest.invariant (empty_is c.loop-rest.rest.now (eqb-true _ 0 (sym c.is_empty.ensures ∙ c.loop-rest-test.false))) c.in-Some.class c.in-Some.parts c.in-Some.ensures.some)

pub returns-in-Some-clause-found : goal.returns-in-Some-clause-found
returns-in-Some-clause-found c = rw c.new.ensures
    (read_script c.args.bytes.now (place_of c.loop-rest.reader) c.loop-rest.rest.now c.loop-rest.number c.loop-rest.invariant (empty_is c.loop-rest.rest.now (eqb-true _ 0 (sym c.is_empty.ensures ∙ c.loop-rest-test.false))) c.in-Some.class c.in-Some.parts c.in-Some.ensures.some)

pub returns-in-None-clause-bad : goal.returns-in-None-clause-bad
returns-in-None-clause-bad c = read_short c.args.bytes.now (place_of c.loop-rest.reader) c.loop-rest.rest.now c.loop-rest.number c.loop-rest.invariant (empty_is c.loop-rest.rest.now (eqb-true _ 0 (sym c.is_empty.ensures ∙ c.loop-rest-test.false))) c.in-None.ensures.none
