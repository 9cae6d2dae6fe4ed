-- Records of commands that were not begun, and of lanes, as they are noted.
use Rattle.std.proofs.Common.{◌≡◌, ◌<◌, ◌≤◌, ◌+◌, ◌==◌, ℕ, zero, suc, Bool, true, false, List, [], ◌∷◌, ◌++◌, length, take, sym, ap, ◌∙◌, arith, length-append}
use Rattle.std.proofs.lemmas.Bool.{eqb-true}
use Rattle.std.proofs.lemmas.List.{append_assoc}
use Rattle.spg_script.specs.declared.command.Command.{Command}
use Rattle.spg_report.specs.declared.record.Record.{Record}
use Rattle.spg_histories.specs.Tasks.{lane_tasks, lanes_tasks}
use Rattle.spg_perform.proofs.Tasks.{lanes_length}
use Rattle.spg_perform.specs.Lanes.{refused_at, refusals}

refusals-add : (at n k : ℕ) → refusals at (n + k) ≡ refusals at n ++ refusals at k
refusals-add at zero k = let same : 0 + k ≡ k = omega arith in ap (refusals at) same
refusals-add at (suc n) k = let same : suc n + k ≡ suc (n + k) = omega arith in ap (refusals at) same ∙ ap (λ (rs : List Record). refused_at at ∷ rs) (refusals-add at n k)

-- one more
pub refused_more : (at n : ℕ) (old records : List Record) → records ≡ old ++ refusals at n → records ++ refused_at at ∷ [] ≡ old ++ refusals at (n + 1)
refused_more at n old records is = ap (λ (rs : List Record). rs ++ refused_at at ∷ []) is ∙ append_assoc old (refusals at n) (refused_at at ∷ []) ∙ ap (λ (rs : List Record). old ++ rs) (sym (refusals-add at n 1))

-- those of one more lane
pub refused_lane : (at n k all : ℕ) (old records now : List Record) → records ≡ old ++ refusals at n → now ≡ records ++ refusals at k → all ≡ n + k → now ≡ old ++ refusals at all
refused_lane at n k all old records now is more sum = more ∙ ap (λ (rs : List Record). rs ++ refusals at k) is ∙ append_assoc old (refusals at n) (refusals at k) ∙ ap (λ (rs : List Record). old ++ rs) (sym (refusals-add at n k) ∙ ap (refusals at) (sym sum))

-- the first lanes have no more commands than all
pub taken_count : (lanes : List (List Command)) (k : ℕ) → length (lanes_tasks 0 0 true (take k lanes)) ≤ length (lanes_tasks 0 0 true lanes)
taken_count lanes zero = omega arith
taken_count [] (suc k) = omega arith
taken_count (lane ∷ lanes) (suc k) = omega (
  arith,
  length-append (lane_tasks 0 0 true lane) (lanes_tasks 0 1 true (take k lanes)),
  length-append (lane_tasks 0 0 true lane) (lanes_tasks 0 1 true lanes),
  lanes_length 0 1 true 0 0 true (take k lanes),
  lanes_length 0 1 true 0 0 true lanes,
  taken_count lanes k,
)

-- a test of a lane's commands
pub filled : (commands : List Command) (test : Bool) → test ≡ (length commands == 0) → test ≡ false → 0 < length commands
filled [] test is told = let clash : true ≡ false = sym is ∙ told in (cc)
filled (c ∷ commands) test is told = omega arith

pub emptied : (commands : List Command) (test : Bool) → test ≡ (length commands == 0) → test ≡ true → length commands ≡ 0
emptied commands test is told = eqb-true (length commands) 0 (sym is ∙ told)
