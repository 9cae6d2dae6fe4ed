use Rattle.std.proofs.Common.{◌≡◌, ◌+◌, ◌-◌, ◌*◌, ◌/◌, ◌^◌, ◌<◌, ◌≤◌, ℕ, suc, refl, arith, ap}
use Rattle.std.proofs.lemmas.Bool.{lt-ltb, le-ltb}
use Rattle.std.proofs.lemmas.Nat.{shr_split}
use Rattle.spg_example_trie.specs.Trie.{fork}
use Rattle.spg_example_trie.proofs.trie.fork_by_bits.Goals as goal

-- the bit of a turn
bit_of : (turn : ℕ) → turn < 64 → 64 - turn ≡ suc (63 - turn)
bit_of turn h = omega (arith, h)

fork_ends : (turn low high : ℕ) → turn < 64 → low / 2 ^ (63 - turn) < high / 2 ^ (63 - turn) → fork (64 - turn) low high ≡ high / 2 ^ (63 - turn) * 2 ^ (63 - turn)
unfolding fork
fork_ends turn low high h l = rw (bit_of turn h, lt-ltb (low / 2 ^ (63 - turn)) (high / 2 ^ (63 - turn)) l) refl

fork_goes_on : (turn low high : ℕ) → turn < 64 → high / 2 ^ (63 - turn) ≤ low / 2 ^ (63 - turn) → fork (64 - turn) low high ≡ fork (64 - (turn + 1)) low high
unfolding fork
fork_goes_on turn low high h l =
    let next : 63 - turn ≡ 64 - (turn + 1) = omega arith in
    rw (bit_of turn h, le-ltb (low / 2 ^ (63 - turn)) (high / 2 ^ (63 - turn)) l) (ap (λ (b : ℕ). fork b low high) next)

fork_none : (n low high : ℕ) → n ≡ 0 → fork n low high ≡ high
unfolding fork
fork_none n low high e = rw e refl

pub returns-then-low-bit : goal.returns-then-low-bit
returns-then-low-bit c = grind (arith, fork_ends, shr_split)

pub loop-turn-preserved : goal.loop-turn-preserved
loop-turn-preserved c = grind (arith, fork_goes_on)

pub returns : goal.returns
returns c = grind (arith, fork_none)
