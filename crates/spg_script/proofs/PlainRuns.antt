-- Runs of bytes that stand for themselves, counted many at a time.
use Rattle.std.proofs.Common.{◌≡◌, ◌≤◌, ℕ, zero, suc, ◌+◌, true, List, [], ◌∷◌, length, take, drop, ap, arith, length-drop}
use Rattle.std.specs.List.{list_all}
use Rattle.std.proofs.lemmas.Bool.{and_parts}
use Rattle.std.proofs.lemmas.List.{drop-drop}
use Rattle.spg_script.specs.Quoted.{is_plain}
use Rattle.spg_script.specs.Printing.{plain_before}
use Rattle.spg_script.proofs.TextLemmas.{one_more}

-- a run of plain bytes stands before the first that is not plain
plain_run : (n : ℕ) (bytes : List ℕ) → n ≤ length bytes → list_all is_plain (take n bytes) ≡ true → n + plain_before (drop n bytes) ≡ plain_before bytes
plain_run zero bytes fits plain = omega arith
plain_run (suc n) [] fits plain = absurd (omega (arith, fits))
plain_run (suc n) (b ∷ bytes) fits plain =
    let both = and_parts (is_plain b) (list_all is_plain (take n bytes)) plain in
    let more = plain_run n bytes (omega (arith, fits)) both.1 in
    let next = one_more b bytes both.0 in
    omega (arith, more, next)

-- the next run of plain bytes, behind what was counted
pub next_run : (bytes : List ℕ) (at n : ℕ) → at + plain_before (drop at bytes) ≡ plain_before bytes → at + n ≤ length bytes → list_all is_plain (take n (drop at bytes)) ≡ true → (at + n) + plain_before (drop (at + n) bytes) ≡ plain_before bytes
next_run bytes at n counted fits plain =
    let more = plain_run n (drop at bytes) (grind (arith, fits, length-drop)) plain in
    let same : plain_before (drop n (drop at bytes)) ≡ plain_before (drop (at + n) bytes) = ap plain_before (drop-drop n at bytes) in
    omega (arith, counted, more, same)
