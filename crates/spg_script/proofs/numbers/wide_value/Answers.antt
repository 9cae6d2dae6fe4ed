use Rattle.std.proofs.Common.{◌≡◌, ◌<◌, ◌^◌, ◌≤◌, ◌+◌, ◌*◌, arith, rules}
use Rattle.std.proofs.Math.Nat.{pow-le-pow_right}
use Rattle.std.proofs.lemmas.Grind.{common_steps, pow_more}
use Rattle.spg_script.proofs.numbers.wide_value.Goals as goal

pub overflow_mul-value : goal.overflow_mul-value
overflow_mul-value c =
    let cap : 10 ^ c.loop-at.at ≤ 10 ^ 18 = pow-le-pow_right (omega arith) (let h : c.loop-at.at ≤ 18 = omega arith in h) in search rules

pub overflow_add-value : goal.overflow_add-value
overflow_add-value c =
    let cap : 10 ^ c.loop-at.at ≤ 10 ^ 18 = pow-le-pow_right (omega arith) (let h : c.loop-at.at ≤ 18 = omega arith in h) in search rules

pub loop-at-preserved : goal.loop-at-preserved
loop-at-preserved c =
    let cap : 10 ^ c.loop-at.at ≤ 10 ^ 18 = pow-le-pow_right (omega arith) (let h : c.loop-at.at ≤ 18 = omega arith in h) in
    let more : 10 ^ (c.loop-at.at + 1) ≡ 10 ^ c.loop-at.at * 10 = pow_more 10 c.loop-at.at in
    let fits : c.loop-at.value * 10 + c.from.result < 18446744073709551616 = omega (arith, cap) in
    let below : c.loop-at.value * 10 + c.from.result < 10 ^ (c.loop-at.at + 1) = omega (arith, more) in
    (grind (arith, common_steps), below)
