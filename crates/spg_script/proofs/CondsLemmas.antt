-- Reading conditions one after another.
use Rattle.std.proofs.Common.{◌≡◌, ◌<◌, ◌-◌, ℕ, suc, List, [], ◌∷◌, ◌++◌, length, Option, Some, None, refl, sym, ap, ◌∙◌, arith, length-append}
use Rattle.std.proofs.lemmas.List.{append_assoc}
use Rattle.spg_script.specs.declared.key_form.KeyForm.{KeyForm}
use Rattle.spg_script.specs.declared.any_cond.AnyCond.{AnyCond}
use Rattle.spg_script.specs.Reading.{first_cond_of, more_conds, put_before, conds_of}

more_before : (front : List AnyCond) (c : AnyCond) (read : Option (List AnyCond)) → put_before front (put_before (c ∷ []) read) ≡ put_before (front ++ c ∷ []) read
more_before front c None = refl
more_before front c (Some conds) = ap (λ l. Some l) (sym (append_assoc front (c ∷ []) conds))

one_before : (c : AnyCond) (more : List ℕ) (read : List ℕ → Option (List AnyCond)) (is : Option (List AnyCond)) → read more ≡ is → more_conds read (Some (c, Some more)) ≡ put_before (c ∷ []) is
one_before c more read None e = rw e refl
one_before c more read (Some conds) e = rw e refl

step : (keys : KeyForm) (n : ℕ) (rest more : List ℕ) (c : AnyCond) → first_cond_of keys rest ≡ Some (c, Some more) → conds_of keys (suc n) rest ≡ put_before (c ∷ []) (conds_of keys n more)
unfolding conds_of
step keys n rest more c first = rw first (one_before c more (conds_of keys n) (conds_of keys n more) refl)

last : (keys : KeyForm) (n : ℕ) (rest : List ℕ) (c : AnyCond) → first_cond_of keys rest ≡ Some (c, None) → conds_of keys (suc n) rest ≡ Some (c ∷ [])
unfolding conds_of
last keys n rest c first = rw first refl

none : (keys : KeyForm) (n : ℕ) (rest : List ℕ) → first_cond_of keys rest ≡ None → conds_of keys (suc n) rest ≡ None
unfolding conds_of
none keys n rest first = rw first refl

pub past_most : (keys : KeyForm) (rest : List ℕ) → conds_of keys 0 rest ≡ None
unfolding conds_of
past_most keys rest = refl

module _ (keys : KeyForm) (all : Option (List AnyCond)) (front : List AnyCond) (rest : List ℕ) (is : all ≡ put_before front (conds_of keys (8 - length front) rest)) (few : length front < 8) where
  left : 8 - length front ≡ suc (7 - length front)
  left = omega arith

  pub conds_none : first_cond_of keys rest ≡ None → all ≡ None
  conds_none first = is ∙ rw left (rw (none keys (7 - length front) rest first) refl)

  pub conds_last : (c : AnyCond) → first_cond_of keys rest ≡ Some (c, None) → all ≡ Some (front ++ c ∷ [])
  conds_last c first = is ∙ rw left (rw (last keys (7 - length front) rest c first) refl)

  pub conds_more : (c : AnyCond) (more : List ℕ) → first_cond_of keys rest ≡ Some (c, Some more) → all ≡ put_before (front ++ c ∷ []) (conds_of keys (8 - length (front ++ c ∷ [])) more)
  conds_more c more first =
      let now : 8 - length (front ++ c ∷ []) ≡ 7 - length front = omega (arith, length-append front (c ∷ [])) in
      is ∙ rw (left, now) (rw (step keys (7 - length front) rest more c first) (more_before front c (conds_of keys (7 - length front) more)))
