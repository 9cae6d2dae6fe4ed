use Rattle.std.proofs.Common.{◌≡◌, ℕ, ◌<◌, false, get_or}
use Rattle.spg_io.proofs.Stores.{no_file, has_name}
use Rattle.spg_io.proofs.store.Store.place.Given as goal

abbrev pub invariant-loop-at : goal.invariant-loop-at
invariant-loop-at l = (k : ℕ) → k < l.at → has_name (get_or l.self k no_file) l.name ≡ false
