use Rattle.std.proofs.Common.{◌≡◌, true, ◌+◌, ◌-◌, ℕ, drop, take, sym, ap, ◌∙◌, arith}
use Rattle.std.specs.List.{list_all}
use Rattle.spg_script.specs.Quoted.{is_plain}
use Rattle.spg_script.proofs.PlainRuns.{next_run}
use Rattle.spg_script.proofs.texts.plain_before.Goals as goal

pub loop-at-preserved : goal.loop-at-preserved
loop-at-preserved c =
    let at = c.loop-at.at in
    let bytes = c.args.bytes.now in
    let few : 16 ≡ (at + 16) - at = omega arith in
    let plain : list_all is_plain (take 16 (drop at bytes)) ≡ true = ap (λ (n : ℕ). list_all is_plain (take n (drop at bytes))) few ∙ sym c.are_plain.ensures ∙ c.if-are_plain.true in
    record {
      counted = next_run bytes at 16 c.loop-at.invariant.counted (omega (arith, c.loop-at-test.true, c.loop-at.invariant.within)) plain;
      within = omega (arith, c.loop-at-test.true, c.loop-at.invariant.within);
    }
