use Rattle.std.proofs.Common.{◌≡◌, vec_len}
use Rattle.spg_test_desk.proofs.many.lanes.Given as goal

abbrev pub invariant-loop-number : goal.invariant-loop-number
invariant-loop-number l = record {
  count : vec_len l.lanes ≡ l.number;
}
