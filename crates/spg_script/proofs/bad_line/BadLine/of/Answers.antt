use Rattle.std.proofs.Common.{◌≡◌, ◌+◌, ◌-◌, suc, sym, ap, ◌∙◌, arith}
use Rattle.std.proofs.lemmas.Bool.{eqb-true}
use Rattle.spg_script.specs.Script.{lines_of}
use Rattle.spg_script.proofs.ReadLines.{empty_is}
use Rattle.spg_script.proofs.Wantings.{line_read, ends_early, ends_at}
use Rattle.spg_script.proofs.bad_line.BadLine.of.Goals as goal
use Rattle.spg_script.proofs.bad_line.BadLine.of.Goals.{then-loop-next-test+else-not-is_empty, else-loop-next-test}

pub loop-next-preserved : goal.loop-next-preserved
loop-next-preserved c =
    let counted : c.args.number - c.loop-next.next ≡ suc (c.args.number - (c.loop-next.next + 1)) = omega arith in
    rw c.after-spot.ensures
    (line_read (lines_of c.args.bytes.now) c.args.number c.loop-next.spot (lines_of c.loop-next.rest.now) c.first_line.result.0.now (lines_of c.first_line.result.1.now) (c.args.number - c.loop-next.next) (c.args.number - (c.loop-next.next + 1))
    c.first_line.ensures.lines counted c.loop-next.invariant)

pub returns-then-is_empty-clause-wanted : goal.returns-then-is_empty-clause-wanted
returns-then-is_empty-clause-wanted c =
    let none_left = ap lines_of (empty_is c.loop-next.rest.now (eqb-true _ 0 (sym c.is_empty-2.ensures ∙ c.if-is_empty.true))) in
    c.end_wants.ensures ∙ sym (ends_early (lines_of c.args.bytes.now) c.args.number c.loop-next.spot (lines_of c.loop-next.rest.now) (c.args.number - c.loop-next.next) none_left c.loop-next.invariant).1

pub returns-clause-wanted : goal.returns-clause-wanted
returns-clause-wanted c =
    let none_before : c.args.number - c.loop-next.next ≡ 0 = elim c.loop-next-test.branch [ then-loop-next-test+else-not-is_empty w ↦ (cc) | else-loop-next-test w ↦ omega arith ] in
    c.line_wants.ensures
    ∙ sym (ends_at (lines_of c.args.bytes.now) c.args.number c.loop-next.spot (lines_of c.loop-next.rest.now) c.first_line-2.result.0.now (lines_of c.first_line-2.result.1.now) (c.args.number - c.loop-next.next)
    c.first_line-2.ensures.lines none_before c.loop-next.invariant).1
