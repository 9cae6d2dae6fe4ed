use Rattle.std.specs.Prelude.{◌≡◌, ◌≤◌, length, take}
use Rattle.spg_standby.proofs.pool.Pool.keep_behind.Given as goal

abbrev pub invariant-loop-pages : goal.invariant-loop-pages
invariant-loop-pages l = (l.count ≤ length l.pages.items) × (l.pages.items ≡ take (length l.pages.items) l.initial.pages.items)

abbrev pub decreases-loop-pages : goal.decreases-loop-pages
decreases-loop-pages l = length l.pages.items
