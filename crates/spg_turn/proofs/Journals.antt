-- Lists that begin with others, and the entries of one seat in them.
use Rattle.std.proofs.Common.{◌≡◌, ℕ, suc, ◌+◌, ◌<◌, ◌≤◌, ◌≢◌, ◌⊎◌, Bool, true, false, cond, eqb, ltb, List, [], ◌∷◌, ◌++◌, length, drop, All, sym, refl, ap, ◌∙◌, subst, inl, inr, ⊎_elim, arith, length-append, append_assoc, eq-eqb, ne_eqb}
use Rattle.std.proofs.lemmas.List.{append-nil, drop-append-le}
use Rattle.std.proofs.lemmas.List.Elements.{filter-append}
use Rattle.std.proofs.lemmas.Bool.Decides.{nat_tests}
use Rattle.spg_turn.specs.Views.{StartsWith, by_seat, longer}

pub either_way : (b : Bool) → (b ≡ false) ⊎ (b ≡ true)
either_way true = inr refl
either_way false = inl refl

module _ {E : Type 0} where
  pub starts_more : (list list' seen more : List E) → list' ≡ list ++ more → StartsWith list seen → StartsWith list' seen
  starts_more list list' seen more e h = (h.0 ++ more, e ∙ (ap (λ l. l ++ more) h.1 ∙ append_assoc seen h.0 more))

  pub starts_self : (list : List E) → StartsWith list list
  starts_self list = ([], sym (append-nil list))

  pub two_fronts : (xs ys m n : List E) → xs ++ m ≡ ys ++ n → length xs ≤ length ys → StartsWith ys xs
  two_fronts [] ys m n e l = (ys, refl)
  two_fronts (x ∷ xs) [] m n e l = absurd (omega arith)
  two_fronts (x ∷ xs) (y ∷ ys) m n e l =
      let head : x ≡ y = cc in
      let rest : xs ++ m ≡ ys ++ n = cc in
      let r = two_fronts xs ys m n rest (omega arith) in
      (r.0, λ i. sym head i ∷ r.1 i)

  -- a front of a list that is as long is the list
  pub whole_front : (xs m : List E) → length (xs ++ m) ≤ length xs → xs ++ m ≡ xs
  whole_front [] [] l = refl
  whole_front [] (y ∷ m) l = absurd (omega arith)
  whole_front (x ∷ xs) m l = λ i. x ∷ whole_front xs m (omega arith) i

  pub fronts : (xs ys list : List E) → StartsWith list xs → StartsWith list ys → length xs ≤ length ys → StartsWith ys xs
  fronts xs ys list h k l = two_fronts xs ys h.0 k.0 (sym h.1 ∙ k.1) l

  pub longer_left : (xs ys : List E) → ltb (length xs) (length ys) ≡ false → longer xs ys ≡ xs
  longer_left xs ys e = ap (λ b. cond b ys xs) e

  pub longer_right : (xs ys : List E) → ltb (length xs) (length ys) ≡ true → longer xs ys ≡ ys
  longer_right xs ys e = ap (λ b. cond b ys xs) e

  pub longer_cases : (P : List E → Type 0) (xs ys : List E) → (length ys ≤ length xs → P xs) → (length xs < length ys → P ys) → P (longer xs ys)
  longer_cases P xs ys left right =
      ⊎_elim
      (λ (e : ltb (length xs) (length ys) ≡ false). subst P (sym (longer_left xs ys e)) (left (grind (arith, nat_tests))))
      (λ (e : ltb (length xs) (length ys) ≡ true). subst P (sym (longer_right xs ys e)) (right (grind (arith, nat_tests))))
      (either_way (ltb (length xs) (length ys)))

  pub longer_starts : (xs ys list : List E) → StartsWith list xs → StartsWith list ys → StartsWith (longer xs ys) xs × StartsWith (longer xs ys) ys
  longer_starts xs ys list h k =
      longer_cases (λ l. StartsWith l xs × StartsWith l ys) xs ys
      (λ l. (starts_self xs, fronts ys xs list k h l))
      (λ l. (fronts xs ys list h k (omega arith), starts_self ys))

  -- where one of two fronts is the whole list, the longer is
  pub longer_whole : (xs ys list : List E) → StartsWith list xs → StartsWith list ys → (xs ≡ list) ⊎ (ys ≡ list) → longer xs ys ≡ list
  longer_whole xs ys list h k either =
      let lx : length list ≡ length xs + length h.0 = ap length h.1 ∙ length-append xs h.0 in
      let ly : length list ≡ length ys + length k.0 = ap length k.1 ∙ length-append ys k.0 in
      let all : (zs m : List E) → list ≡ zs ++ m → length list ≤ length zs → zs ≡ list = λ zs m e l. sym (e ∙ whole_front zs m (subst (λ q. length q ≤ length zs) e l)) in
      ⊎_elim
      (λ (e : xs ≡ list). let s = ap length e in longer_cases (λ l. l ≡ list) xs ys (λ _. e) (λ l. absurd (omega arith)))
      (λ (e : ys ≡ list). let s = ap length e in longer_cases (λ l. l ≡ list) xs ys (λ l. all xs h.0 h.1 (omega arith)) (λ _. e))
      either

module _ {E : Type 0} (seat_of : E → ℕ) where
  -- entries of one seat are none of another's
  pub others_none : (me n : ℕ) (more : List E) → n ≢ me → All (λ e. seat_of e ≡ me) more → by_seat seat_of n more ≡ []
  others_none me n [] ne h = refl
  others_none me n (e ∷ es) ne h =
      let is : eqb (seat_of e) n ≡ false = ne_eqb (seat_of e) n (λ q. ne (sym q ∙ h 0 e (omega arith))) in
      let r = others_none me n es ne (λ k d l. h (suc k) d (omega arith)) in
      rw is r

  pub own_all : (me : ℕ) (more : List E) → All (λ e. seat_of e ≡ me) more → by_seat seat_of me more ≡ more
  own_all me [] h = refl
  own_all me (e ∷ es) h =
      let is : eqb (seat_of e) me ≡ true = eq-eqb (seat_of e) me (h 0 e (omega arith)) in
      let r = own_all me es (λ k d l. h (suc k) d (omega arith)) in
      rw (is, r) refl

  pub tail_more : (n base : ℕ) (list list' more : List E) → list' ≡ list ++ more → base ≤ length list
      → by_seat seat_of n (drop base list') ≡ by_seat seat_of n (drop base list) ++ by_seat seat_of n more
  tail_more n base list list' more e fits =
      ap (λ l. by_seat seat_of n (drop base l)) e ∙ (ap (λ l. by_seat seat_of n l) (drop-append-le base list more fits) ∙ filter-append (λ x. eqb (seat_of x) n) (drop base list) more)
