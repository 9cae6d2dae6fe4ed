use Rattle.std.proofs.Common.{◌≡◌, true, ◌+◌, ◌-◌, ℕ, drop, take, sym, ap, ◌∙◌, arith}
use Rattle.std.specs.List.{list_all}
use Rattle.spg_script.specs.Reading.{is_other}
use Rattle.spg_script.proofs.OtherRuns.{next_run}
use Rattle.spg_script.proofs.bytes.len_before_far.Goals as goal

pub loop-at-preserved : goal.loop-at-preserved
loop-at-preserved c =
    let at = c.loop-at.at in
    let stop = c.args.stop in
    let bytes = c.args.bytes.now in
    let few : 16 ≡ (at + 16) - at = omega arith in
    let others : list_all (is_other stop) (take 16 (drop at bytes)) ≡ true = ap (λ (n : ℕ). list_all (is_other stop) (take n (drop at bytes))) few ∙ sym c.lack.ensures ∙ c.if-lack.true in
    record {
      counted = next_run stop bytes at 16 c.loop-at.invariant.counted (omega (arith, c.loop-at-test.true, c.loop-at.invariant.within)) others;
      within = omega (arith, c.loop-at-test.true, c.loop-at.invariant.within);
    }
