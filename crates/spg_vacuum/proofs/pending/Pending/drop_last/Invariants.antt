use Rattle.std.proofs.Common.{◌≡◌, ◌-◌, length, take}
use Rattle.spg_vacuum.proofs.pending.Pending.drop_last.Given as goal

abbrev pub invariant-loop-step : goal.invariant-loop-step
invariant-loop-step l = l.self ≡ record { done = l.fn.self.done; todo = take (length l.fn.self.todo - l.step) l.fn.self.todo }
