use Rattle.std.proofs.Common.{◌≡◌, map, take}
use Rattle.spg_core.proofs.loading.by_row.Given as goal

abbrev pub invariant-loop-one : goal.invariant-loop-one
invariant-loop-one g l = map (λ b. b.now) l.leaves.items ≡ take l.one-index l.listed
