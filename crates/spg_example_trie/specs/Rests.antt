-- What rests say of numbers.
use Rattle.std.proofs.Common.{◌≡◌, ℕ, cond, ◌%◌, ◌^◌, ◌<◌, Bool, true, false, List, length, Some, None, refl, sym, ◌∙◌, ap, subst, arith}
use Rattle.std.specs.Prelude.{◌==◌, All, map, slice_get, IsSome}
use Rattle.std.specs.Int.{w64, from_le_bytes, to_le_bytes}
use Rattle.std.specs.Option.{option_map}
use Rattle.std.proofs.lemmas.Option.{same_Some, cond_some, slice_get-map, slice_get_within, get_or_from_slice_get}
use Rattle.std.proofs.lemmas.Bool.{eqb-true}
use Rattle.std.proofs.lemmas.List.{get_or-map, length-map}
use Rattle.std.proofs.lemmas.Nat.{from_le_bytes-to_le_bytes_8}
use Rattle.spg_example_trie.specs.declared.number.Number.{Number}
use Rattle.spg_example_trie.specs.Numbers.{number_of, rebuilt}

abbrev pub number : ℕ → Number
number n = record { value = n }

pub number_below : (bytes : List ℕ) → number_of bytes < 2 ^ 64
unfolding number_of
number_below bytes = by_length (length bytes == 8)
  where
    by_length : (b : Bool) → cond b (from_le_bytes w64 bytes % 2 ^ 64) 0 < 2 ^ 64
    by_length true = omega arith
    by_length false = omega arith

-- the bytes of a number give it back
pub number_back : (n : ℕ) → n < 2 ^ 64 → number_of (to_le_bytes w64 n) ≡ n
unfolding number_of
number_back n h = let e = from_le_bytes-to_le_bytes_8 n h in omega (arith, e)

-- a rest that gives a key is the 8 bytes of its number
pub gives : (rest : List ℕ) (key : Number) → rebuilt rest ≡ Some key → (length rest ≡ 8) × (number_of rest ≡ key.value)
unfolding rebuilt
gives rest key h =
    let u = cond_some (length rest == 8) (record { value = number_of rest }) key h in
    (eqb-true (length rest) 8 u.0, ap (λ (k : Number). k.value) u.1)

pub given : (rest : List ℕ) → length rest ≡ 8 → rebuilt rest ≡ Some (record { value = number_of rest })
unfolding rebuilt
given rest e = rw e refl

-- a rest that gives a key has 8 bytes
pub whole_rest : (rest : List ℕ) → IsSome (rebuilt rest) → (length rest == 8) ≡ true
unfolding rebuilt
whole_rest rest h = by_test (length rest == 8) h
  where
    by_test : (b : Bool) → IsSome (cond b (Some (number (number_of rest))) None) → b ≡ true
    by_test true h = refl
    by_test false h = cc

-- what holds of all rests holds of the i-th
pub at_rest : (P : List ℕ → Type 0) (rests : List (List ℕ)) (i : ℕ) (rest : List ℕ) → All P rests → slice_get rests i ≡ Some rest → P rest
at_rest P rests i rest all e = subst P (get_or_from_slice_get rests i rest rest e) (all i rest (slice_get_within rests i rest e))

-- the i-th of mapped rests
pub at_part : (f : List ℕ → ℕ) (rests : List (List ℕ)) (i : ℕ) (rest : List ℕ) (node : ℕ) → slice_get rests i ≡ Some rest → slice_get (map f rests) i ≡ Some node → f rest ≡ node
at_part f rests i rest node h k = same_Some (f rest) node (sym (ap (option_map f) h) ∙ sym (slice_get-map f rests i) ∙ k)

-- mapped rests that are all one
pub all_mapped : (f : List ℕ → ℕ) (node : ℕ) (rests : List (List ℕ)) → All (λ n. n ≡ node) (map f rests) → All (λ r. f r ≡ node) rests
all_mapped f node rests all k d l = sym (get_or-map f rests k d 0 l) ∙ all k 0 (rw (length-map rests f) l)
