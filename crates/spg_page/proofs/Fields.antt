-- Bytes that have the fields of a leaf tuple spell one.
use Rattle.std.proofs.Common.{◌≡◌, ℕ, eqb, false, zero, suc, ◌+◌, ◌-◌, ◌<◌, List, [], ◌∷◌, ◌++◌, length, get_or, take, drop, replicate, refl, sym, ap, subst, ◌∙◌, arith}
use Rattle.std.specs.Prelude.{IfSome}
use Rattle.std.proofs.lemmas.List.{take-append-drop, length-drop, length-take-le, length-replicate, get_or-replicate, get_or-drop}
use Rattle.std.proofs.lemmas.Grind.{same_number_lists}
use Rattle.spg_page.specs.declared.tuple.Tuple.TheVariants.{Leaf}
use Rattle.spg_page.specs.Numbers.{two, four, two_at, four_at}
use Rattle.spg_page.specs.Spelling.{padded, next_number, next_of, leaf_of, bytes_of, IsLeaf, AreTuple}
use Rattle.spg_page.specs.Fields.{HasLeafFields}
use Rattle.spg_page.proofs.Codec.{padded_from, leaf_written, made, leaf_fits}

drop_step : (xs : List ℕ) (k : ℕ) → k < length xs → drop k xs ≡ get_or xs k 0 ∷ drop (suc k) xs
drop_step [] k h = absurd (omega arith)
drop_step (x ∷ xs) zero h = refl
drop_step (x ∷ xs) (suc k) h = drop_step xs k (omega arith)

cons_same : {x y : ℕ} {xs ys : List ℕ} → x ≡ y → xs ≡ ys → x ∷ xs ≡ y ∷ ys
cons_same e f = rw (e, f) refl

all_zero : (xs : List ℕ) (n : ℕ) → length xs ≡ n → ((k : ℕ) → k < n → get_or xs k 0 ≡ 0) → xs ≡ replicate n 0
all_zero xs n e z = same_number_lists xs (replicate n 0) (e ∙ sym (length-replicate n 0)) (λ k h. z k (omega arith) ∙ sym (get_or-replicate n k 0 0 (omega arith)))

low_byte : (bytes : List ℕ) (k n : ℕ) → ((i : ℕ) → get_or bytes i 0 < 256) → two_at bytes k ≡ n → get_or bytes k 0 ≡ get_or (two n) 0 0
unfolding two_at
low_byte bytes k n range e = let a = range k in let b = range (k + 1) in omega arith

high_byte : (bytes : List ℕ) (k n : ℕ) → ((i : ℕ) → get_or bytes i 0 < 256) → two_at bytes k ≡ n → get_or bytes (k + 1) 0 ≡ get_or (two n) 1 0
unfolding two_at
high_byte bytes k n range e = let a = range k in let b = range (k + 1) in omega arith

four_byte_0 : (bytes : List ℕ) (k : ℕ) → ((i : ℕ) → get_or bytes i 0 < 256) → get_or bytes k 0 ≡ get_or (four (four_at bytes k)) 0 0
unfolding two_at four_at
four_byte_0 bytes k range = let a = range k in let b = range (k + 1) in let c = range (k + 2) in let d = range (k + 2 + 1) in omega arith

four_byte_1 : (bytes : List ℕ) (k : ℕ) → ((i : ℕ) → get_or bytes i 0 < 256) → get_or bytes (k + 1) 0 ≡ get_or (four (four_at bytes k)) 1 0
unfolding two_at four_at
four_byte_1 bytes k range = let a = range k in let b = range (k + 1) in let c = range (k + 2) in let d = range (k + 2 + 1) in omega arith

four_byte_2 : (bytes : List ℕ) (k : ℕ) → ((i : ℕ) → get_or bytes i 0 < 256) → get_or bytes (k + 2) 0 ≡ get_or (four (four_at bytes k)) 2 0
unfolding two_at four_at
four_byte_2 bytes k range = let a = range k in let b = range (k + 1) in let c = range (k + 2) in let d = range (k + 2 + 1) in omega arith

four_byte_3 : (bytes : List ℕ) (k : ℕ) → ((i : ℕ) → get_or bytes i 0 < 256) → get_or bytes (k + 2 + 1) 0 ≡ get_or (four (four_at bytes k)) 3 0
unfolding two_at four_at
four_byte_3 bytes k range = let a = range k in let b = range (k + 1) in let c = range (k + 2) in let d = range (k + 2 + 1) in omega arith

zero_low : (bytes : List ℕ) (k : ℕ) → two_at bytes k ≡ 0 → get_or bytes k 0 ≡ 0
unfolding two_at
zero_low bytes k e = omega arith

zero_high : (bytes : List ℕ) (k : ℕ) → two_at bytes k ≡ 0 → get_or bytes (k + 1) 0 ≡ 0
unfolding two_at
zero_high bytes k e = omega arith

two_below : (bytes : List ℕ) (k : ℕ) → ((i : ℕ) → get_or bytes i 0 < 256) → two_at bytes k < 65536
unfolding two_at
two_below bytes k range = let a = range k in let b = range (k + 1) in omega arith

four_below : (bytes : List ℕ) (k : ℕ) → ((i : ℕ) → get_or bytes i 0 < 256) → four_at bytes k < 4294967296
unfolding two_at four_at
four_below bytes k range = let a = range k in let b = range (k + 1) in let c = range (k + 2) in let d = range (k + 2 + 1) in omega arith

next_told : (n : ℕ) → next_number (next_of n) ≡ n
next_told zero = refl
next_told (suc n) = let ne : eqb (suc n) 0 ≡ false = grind arith in rw ne refl

next_from : (n : ℕ) → IfSome (next_of n) (λ o. 0 < o)
next_from zero = tt
next_from (suc n) = let ne : eqb (suc n) 0 ≡ false = grind arith in rw ne (omega arith)

taken_below : (n : ℕ) (xs : List ℕ) (i : ℕ) → ((k : ℕ) → get_or xs k 0 < 256) → get_or (take n xs) i 0 < 256
taken_below zero xs i h = omega arith
taken_below (suc n) [] i h = omega arith
taken_below (suc n) (x ∷ xs) zero h = h 0
taken_below (suc n) (x ∷ xs) (suc i) h = taken_below n xs i (λ k. h (suc k))

leaf_is : (bytes : List ℕ) → ((i : ℕ) → get_or bytes i 0 < 256) → HasLeafFields bytes → IsLeaf (leaf_of bytes)
unfolding leaf_of
leaf_is bytes range F =
    let n : ℕ = two_at bytes 12 in
    let rest : List ℕ = take n (drop 16 bytes) in
    let pad = padded_from n in
    let long = F.whole in
    let high = F.high in
    let behind = length-drop 16 bytes in
    let len : length rest ≡ n = length-take-le n (drop 16 bytes) (omega arith) in
    leaf_fits (leaf_of bytes) (four_below bytes 8 range) F.row (two_below bytes 6 range) (let e = next_told (two_at bytes 4) in let b = two_below bytes 4 range in omega arith)
    (λ i. taken_below n (drop 16 bytes) i (λ k. subst (λ x. x < 256) (sym (get_or-drop 16 bytes k 0)) (range (16 + k))))
    (next_from (two_at bytes 4), rw len omega arith)

pub leaf_spelled : (bytes : List ℕ) → ((i : ℕ) → get_or bytes i 0 < 256) → HasLeafFields bytes → AreTuple bytes
unfolding leaf_of
leaf_spelled bytes range F =
    let n : ℕ = two_at bytes 12 in
    let rest : List ℕ = take n (drop 16 bytes) in
    let pad = padded_from n in
    let long = F.whole in
    let behind = length-drop 16 bytes in
    let len : length rest ≡ n = length-take-le n (drop 16 bytes) (omega arith) in
    let size : two_at bytes 2 ≡ 16 + padded (length rest) = F.size ∙ F.whole ∙ ap (λ k. 16 + padded k) (sym len) in
    let next : two_at bytes 4 ≡ next_number (next_of (two_at bytes 4)) = sym (next_told (two_at bytes 4)) in
    let rear = length-drop n (drop 16 bytes) in
    let zeros : drop n (drop 16 bytes) ≡ replicate (padded (length rest) - length rest) 0 =
    all_zero (drop n (drop 16 bytes)) (padded (length rest) - length rest) (rear ∙ rw (len) omega arith) (λ k h. get_or-drop n (drop 16 bytes) k 0 ∙ get_or-drop 16 bytes (n + k) 0 ∙ F.zeros (16 + (n + k)) (omega arith) (omega arith)) in
    let tail : drop 16 bytes ≡ rest ++ replicate (padded (length rest) - length rest) 0 = sym (take-append-drop n (drop 16 bytes)) ∙ ap (λ z. rest ++ z) zeros in
    let front : bytes ≡ get_or bytes 0 0 ∷ get_or bytes 1 0 ∷ get_or bytes 2 0 ∷ get_or bytes 3 0 ∷ get_or bytes 4 0 ∷ get_or bytes 5 0 ∷ get_or bytes 6 0 ∷ get_or bytes 7 0 ∷ get_or bytes 8 0 ∷ get_or bytes 9 0 ∷ get_or bytes 10 0 ∷ get_or bytes 11 0 ∷ get_or bytes 12 0 ∷ get_or bytes 13 0 ∷ get_or bytes 14 0 ∷ get_or bytes 15 0 ∷ drop 16 bytes =
    drop_step bytes 0 (omega arith) ∙ ap (λ r. get_or bytes 0 0 ∷ r) (drop_step bytes 1 (omega arith) ∙ ap (λ r. get_or bytes 1 0 ∷ r) (drop_step bytes 2 (omega arith) ∙ ap (λ r. get_or bytes 2 0 ∷ r) (drop_step bytes 3 (omega arith) ∙ ap (λ r. get_or bytes 3 0 ∷ r) (drop_step bytes 4 (omega arith) ∙ ap (λ r. get_or bytes 4 0 ∷ r) (drop_step bytes 5 (omega arith) ∙ ap (λ r. get_or bytes 5 0 ∷ r) (drop_step bytes 6 (omega arith) ∙ ap (λ r. get_or bytes 6 0 ∷ r) (drop_step bytes 7 (omega arith) ∙ ap (λ r. get_or bytes 7 0 ∷ r) (drop_step bytes 8 (omega arith) ∙ ap (λ r. get_or bytes 8 0 ∷ r) (drop_step bytes 9 (omega arith) ∙ ap (λ r. get_or bytes 9 0 ∷ r) (drop_step bytes 10 (omega arith) ∙ ap (λ r. get_or bytes 10 0 ∷ r) (drop_step bytes 11 (omega arith) ∙ ap (λ r. get_or bytes 11 0 ∷ r) (drop_step bytes 12 (omega arith) ∙ ap (λ r. get_or bytes 12 0 ∷ r) (drop_step bytes 13 (omega arith) ∙ ap (λ r. get_or bytes 13 0 ∷ r) (drop_step bytes 14 (omega arith) ∙ ap (λ r. get_or bytes 14 0 ∷ r) (drop_step bytes 15 (omega arith)))))))))))))))) in
    let same : bytes ≡ bytes_of (Leaf (leaf_of bytes)) = front ∙ cons_same (F.tag) (cons_same (F.flag) (cons_same (low_byte bytes 2 (16 + padded (length rest)) range size) (cons_same (high_byte bytes 2 (16 + padded (length rest)) range size) (cons_same (low_byte bytes 4 (next_number (next_of (two_at bytes 4))) range next) (cons_same (high_byte bytes 4 (next_number (next_of (two_at bytes 4))) range next) (cons_same (low_byte bytes 6 (two_at bytes 6) range refl) (cons_same (high_byte bytes 6 (two_at bytes 6) range refl) (cons_same (four_byte_0 bytes 8 range) (cons_same (four_byte_1 bytes 8 range) (cons_same (four_byte_2 bytes 8 range) (cons_same (four_byte_3 bytes 8 range) (cons_same (low_byte bytes 12 (length rest) range (sym len)) (cons_same (high_byte bytes 12 (length rest) range (sym len)) (cons_same (zero_low bytes 14 F.gap) (cons_same (zero_high bytes 14 F.gap) (tail)))))))))))))))) ∙ sym (leaf_written (leaf_of bytes)) in
    (made bytes (Leaf (leaf_of bytes)) (leaf_is bytes range F) same).0
