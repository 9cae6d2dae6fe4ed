use Rattle.std.proofs.Common.{Bool, ◌&&◌, length, take, sym, ap, ◌∙◌, arith}
use Rattle.std.specs.Str.{bytes_eq}
use Rattle.spg_radix.proofs.Joined.{joined, too_short}
use Rattle.spg_radix.proofs.condition.is_both.Goals as goal

pub returns-then-text-front : goal.returns-then-text-front
returns-then-text-front c = too_short c.args.front.now c.args.back.now c.args.text.now (omega arith)

pub returns-then-eq : goal.returns-then-eq
returns-then-eq c =
    let front = c.args.front.now in
    let back = c.args.back.now in
    let behind = sym (c.eq.ensures ∙ ap (bytes_eq back) c.split_at.ensures.back) ∙ c.if-eq.true in
    c.eq-then-eq.ensures ∙ ap (bytes_eq front) c.split_at.ensures.front
    ∙ sym (ap (λ (b : Bool). b && bytes_eq front (take (length front) c.args.text.now)) behind)
    ∙ joined front back c.args.text.now (omega arith)

pub returns-else-eq : goal.returns-else-eq
returns-else-eq c =
    let front = c.args.front.now in
    let back = c.args.back.now in
    let behind = sym (c.eq.ensures ∙ ap (bytes_eq back) c.split_at.ensures.back) ∙ c.if-eq.false in
    c.if-eq.false
    ∙ sym (ap (λ (b : Bool). b && bytes_eq front (take (length front) c.args.text.now)) behind)
    ∙ joined front back c.args.text.now (omega arith)
