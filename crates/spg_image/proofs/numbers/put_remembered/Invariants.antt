use Rattle.std.proofs.Common.{◌≡◌, ℕ, ◌+◌, ◌*◌, ◌<◌, ◌≤◌, get_or}
use Rattle.spg_page.specs.Numbers.{four_at}
use Rattle.spg_image.proofs.numbers.put_remembered.Given as goal

abbrev pub invariant-loop-index : goal.invariant-loop-index
invariant-loop-index l = record {
  value : (i : ℕ) → i < l.index → four_at l.page (40 + 4 * i) ≡ get_or l.remembered i 0;
  below : (k : ℕ) → k < 40 → get_or l.page k 0 ≡ get_or l.initial.page k 0;
  above : (k : ℕ) → 72 ≤ k → get_or l.page k 0 ≡ get_or l.initial.page k 0;
}
