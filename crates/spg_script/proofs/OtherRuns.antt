-- Runs of bytes that are others than the one looked for, counted many at a time.
use Rattle.std.proofs.Common.{◌≡◌, ◌≤◌, ℕ, zero, suc, ◌+◌, ◌==◌, cond, Bool, true, false, List, [], ◌∷◌, length, take, drop, refl, sym, ap, arith, length-drop}
use Rattle.std.specs.List.{list_all}
use Rattle.std.proofs.lemmas.Bool.{and_parts}
use Rattle.std.proofs.lemmas.List.{drop-drop}
use Rattle.spg_script.specs.Reading.{is_other, len_before}

not_stop : (is_stop : Bool) → cond is_stop false true ≡ true → is_stop ≡ false
not_stop true e = sym e
not_stop false e = refl

-- one that is another counts
one_more : (stop b : ℕ) (bytes : List ℕ) → is_other stop b ≡ true → len_before stop (b ∷ bytes) ≡ len_before stop bytes + 1
one_more stop b bytes other = ap (λ (t : Bool). cond t 0 (len_before stop bytes + 1)) (not_stop (b == stop) other)

-- a run of others stands before the first that is looked for
other_run : (stop n : ℕ) (bytes : List ℕ) → n ≤ length bytes → list_all (is_other stop) (take n bytes) ≡ true → n + len_before stop (drop n bytes) ≡ len_before stop bytes
other_run stop zero bytes fits others = omega arith
other_run stop (suc n) [] fits others = absurd (omega (arith, fits))
other_run stop (suc n) (b ∷ bytes) fits others =
    let both = and_parts (is_other stop b) (list_all (is_other stop) (take n bytes)) others in
    let more = other_run stop n bytes (omega (arith, fits)) both.1 in
    let next = one_more stop b bytes both.0 in
    omega (arith, more, next)

-- the next run of others, behind what was counted
pub next_run : (stop : ℕ) (bytes : List ℕ) (at n : ℕ) → at + len_before stop (drop at bytes) ≡ len_before stop bytes → at + n ≤ length bytes → list_all (is_other stop) (take n (drop at bytes)) ≡ true →
    (at + n) + len_before stop (drop (at + n) bytes) ≡ len_before stop bytes
next_run stop bytes at n counted fits others =
    let more = other_run stop n (drop at bytes) (grind (arith, fits, length-drop)) others in
    let same : len_before stop (drop n (drop at bytes)) ≡ len_before stop (drop (at + n) bytes) = ap (len_before stop) (drop-drop n at bytes) in
    omega (arith, counted, more, same)
