use Rattle.std.proofs.Common.{◌≡◌, ◌+◌, ◌<◌, ℕ, false, get_or, length}
use Rattle.spg_forest.specs.Pages.{tuple_on}
use Rattle.spg_forest.specs.Tuples.{is_led_to}
use Rattle.spg_chain.proofs.heads.led_offsets.Given as goal

abbrev pub invariant-loop-index : goal.invariant-loop-index
invariant-loop-index l = (length l.led ≡ 409) × ((o : ℕ) → 0 < o → o < 409 → get_or l.led o false ≡ is_led_to (tuple_on l.page.tuples) (l.index + 1) o)
