use Rattle.std.proofs.Common.{◌+◌, ◌-◌, sym, ap, ◌∙◌, arith}
use Rattle.std.proofs.lemmas.List.{take_rest}
use Rattle.spg_script.specs.Reading.{told}
use Rattle.spg_script.specs.Wanting.{conds_want}
use Rattle.spg_script.proofs.Wantings.{no_cond, cond_alone, cond_more, eight_read}
use Rattle.spg_script.proofs.wanting.conds_want.Goals as goal

pub loop-read-preserved : goal.loop-read-preserved
loop-read-preserved c =
    let left = c.in-Some.left.now in
    let now = 8 - (c.loop-read._read + 1) in
    cond_more (conds_want 8 c.args.bytes.now) (8 - c.loop-read._read) now c.loop-read.rest.now left c.in-Some.field-0-0 c.loop-read.invariant (omega arith) (sym c.point_cond_then.ensures ∙ ap told c.in-Some.is)
    (sym c.starts_with.ensures.value ∙ c.if-not-starts_with.false)
    ∙ ap (conds_want now) (sym (take_rest left 5))

pub returns-in_default : goal.returns-in_default
returns-in_default c =
    c.cond_wants.ensures
    ∙ sym (no_cond (conds_want 8 c.args.bytes.now) (8 - c.loop-read._read) (8 - (c.loop-read._read + 1)) c.loop-read.rest.now c.loop-read.invariant (omega arith) (sym c.point_cond_then.ensures ∙ ap told c.in_default.is))

pub returns-then-not-starts_with : goal.returns-then-not-starts_with
returns-then-not-starts_with c =
    sym (cond_alone (conds_want 8 c.args.bytes.now) (8 - c.loop-read._read) (8 - (c.loop-read._read + 1)) c.loop-read.rest.now c.in-Some.left.now c.in-Some.field-0-0 c.loop-read.invariant (omega arith) (sym c.point_cond_then.ensures ∙ ap told c.in-Some.is)
    (sym c.starts_with.ensures.value ∙ c.if-not-starts_with.true))

pub returns : goal.returns
returns c = sym (eight_read (conds_want 8 c.args.bytes.now) (8 - c.loop-read._read) c.loop-read.rest.now c.loop-read.invariant (omega arith))
