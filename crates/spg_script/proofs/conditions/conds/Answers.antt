use Rattle.std.proofs.Common.{◌≡◌, ◌<◌, ◌≤◌, ◌-◌, ℕ, List, [], ◌∷◌, length, Option, Some, None, refl, sym, ap, ◌∙◌, arith, length-append}
use Rattle.std.specs.Borrow.{Bor}
use Rattle.spg_script.specs.Reading.{told_cond, put_before, conds_of}
use Rattle.spg_script.proofs.CondsLemmas.{conds_none, conds_last, conds_more, past_most}
use Rattle.spg_script.proofs.conditions.conds.Goals as goal

pub loop-rest-preserved : goal.loop-rest-preserved
loop-rest-preserved c =
    let few : length c.loop-rest.conds < 8 = omega arith in
    let first = sym (rw c.in-Ok-Some.field-0-is at c.in-Ok-Some.ensures) ∙ ap (λ (m : Option (Bor (List ℕ))). told_cond (Some (c.in-Ok-Some.cond, m))) c.in-Some.is in
    record {
      read = rw c.in_ok-push-in-Ok-Some.ensures.ok (conds_more c.args.keys _ c.loop-rest.conds c.loop-rest.rest.now c.loop-rest.invariant.read few c.in-Ok-Some.cond c.in-Some.more.now first);
      few = rw c.in_ok-push-in-Ok-Some.ensures.ok (omega (arith, length-append c.loop-rest.conds (c.in-Ok-Some.cond ∷ [])));
    }

pub returns-in-None : goal.returns-in-None
returns-in-None c =
    let few : length c.loop-rest.conds < 8 = omega arith in
    let first = sym (rw c.in-Ok-Some.field-0-is at c.in-Ok-Some.ensures) ∙ ap (λ (m : Option (Bor (List ℕ))). told_cond (Some (c.in-Ok-Some.cond, m))) c.in-None.is in
    rw c.in_ok-push-in-Ok-Some.ensures.ok (sym (conds_last c.args.keys _ c.loop-rest.conds c.loop-rest.rest.now c.loop-rest.invariant.read few c.in-Ok-Some.cond first))

pub returns-in-Ok-None : goal.returns-in-Ok-None
returns-in-Ok-None c =
    let few : length c.loop-rest.conds < 8 = omega arith in
    sym (conds_none c.args.keys _ c.loop-rest.conds c.loop-rest.rest.now c.loop-rest.invariant.read few (sym (rw c.in-Ok-None.field-0-is at c.in-Ok-None.ensures)))

pub returns : goal.returns
returns c = sym (c.loop-rest.invariant.read ∙ over (length c.loop-rest.conds) (omega arith))
  where
    over : (n : ℕ) → 8 ≤ n → put_before c.loop-rest.conds (conds_of c.args.keys (8 - n) c.loop-rest.rest.now) ≡ None
    over n past = let none_left : 8 - n ≡ 0 = omega arith in rw (none_left, past_most c.args.keys c.loop-rest.rest.now) refl
