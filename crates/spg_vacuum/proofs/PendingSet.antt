-- The set beside the list of pending places.
use Rattle.std.proofs.Common.{◌≡◌, ℕ, ◌+◌, ◌≤◌, ◌<◌, List, [], ◌∷◌, ◌++◌, ⊎_elim, Bool, true, false, length, take, get_or, refl, sym, ap, ap₂, ◌∙◌, subst, arith}
use Rattle.std.specs.Prelude.{◌||◌, cond}
use Rattle.std.specs.Ordering.{nat_cmp, ordering_then, is_eq}
use Rattle.std.specs.declared.cmp.Ordering.{Ordering}
use Rattle.std.specs.declared.cmp.Ordering.TheVariants.{Less, Equal, Greater}
use Rattle.std.specs.Cmp.{nat_cmp_is}
use Rattle.std.specs.BTreeSet.{contains, Updates}
use Rattle.std.proofs.lemmas.Bool.{cases_Bool, cases_lt}
use Rattle.std.proofs.lemmas.Map.Lookups.{exact_unsigned}
use Rattle.std.proofs.lemmas.List.{take-append-le}
use Rattle.std.proofs.Math.Seq.{take-append_seam, get_or-append_seam}
use Rattle.std.proofs.Math.ListN.{get_or-append}
use Rattle.spg_forest.specs.View.{Place}
use Rattle.spg_forest.specs.Spot.{same_place}
use Rattle.spg_forest.proofs.Spots.{same_place-true, same_place_self}
use Rattle.spg_cover.specs.Vacuum.{has_place, IsPlaceOf}
use Rattle.spg_cover.proofs.Places.{in_left, in_either}
use Rattle.spg_vacuum.specs.declared.pending.Pending.TheInside.{Inside}
use Rattle.spg_vacuum.specs.Listing.{place_cmp}
use Rattle.spg_vacuum.specs.Inside.{IsPending, nowhere}
use Rattle.spg_vacuum.proofs.Places.{has_more}

both_equal : (p q : Ordering) → is_eq (ordering_then p q) ≡ true → (p ≡ Equal) × (q ≡ Equal)
both_equal Less q h = cc
both_equal Greater q h = cc
both_equal Equal Less h = cc
both_equal Equal Greater h = cc
both_equal Equal Equal h = (refl, refl)

nat_cmp-refl : (n : ℕ) → nat_cmp n n ≡ Equal
nat_cmp-refl n = sym (nat_cmp_is n n Equal refl)

place_self : (x : Place) → is_eq (place_cmp x x) ≡ true
place_self x = rw (nat_cmp-refl x.block, nat_cmp-refl x.offset) refl

place_equal : (x y : Place) → is_eq (place_cmp x y) ≡ true → x ≡ y
place_equal x y h =
    let e = both_equal (nat_cmp x.block y.block) (nat_cmp x.offset y.offset) h in
    let mk : ℕ → ℕ → Place = λ b o. record { block = b; offset = o } in
    ap (λ b. mk b x.offset) (exact_unsigned x.block y.block e.0) ∙ ap (mk y.block) (exact_unsigned x.offset y.offset e.1)

-- the order's equality is that of places
at_same : (k q : Place) → is_eq (place_cmp k q) ≡ same_place q k
at_same k q = ⊎_elim
    (λ t. t ∙ sym (ap (λ z. same_place q z) (place_equal k q t) ∙ same_place_self q))
    (λ f. f ∙ sym (⊎_elim (λ t. let e : is_eq (place_cmp k q) ≡ true = ap (λ z. is_eq (place_cmp k z)) (same_place-true q k t) ∙ place_self k in let g = sym e ∙ f in cc) (λ g. g) (cases_Bool (same_place q k)))) (cases_Bool (is_eq (place_cmp k q)))

cond_or : (s b : Bool) → cond s true b ≡ (b || s)
cond_or true true = refl
cond_or true false = refl
cond_or false true = refl
cond_or false false = refl

cond_out : (s h b : Bool) → b ≡ (h || s) → (s ≡ true → h ≡ false) → cond s false b ≡ h
cond_out true h b e n = sym (n refl)
cond_out false true b e n = e
cond_out false false b e n = e

-- none stands twice
abbrev Once : List Place → Type 0
Once xs = (i : ℕ) → i < length xs → has_place (take i xs) (get_or xs i nowhere) ≡ false

length_more : (xs : List Place) (y : Place) → length (xs ++ y ∷ []) ≡ length xs + 1
length_more [] y = refl
length_more (x ∷ xs) y = let h = length_more xs y in omega arith

once_more : (xs : List Place) (y : Place) → has_place xs y ≡ false → Once xs → Once (xs ++ y ∷ [])
once_more xs y n o i h = ⊎_elim
    (λ l. ap₂ has_place (take-append-le i xs (y ∷ []) (omega arith)) (get_or-append xs (y ∷ []) nowhere i l) ∙ o i l)
    (λ l. let n1 = length_more xs y in let e : i ≡ length xs = omega arith in
    ap (λ k. has_place (take k (xs ++ y ∷ [])) (get_or (xs ++ y ∷ []) k nowhere)) e ∙ ap₂ has_place (take-append_seam xs (y ∷ [])) (get_or-append_seam xs y [] nowhere) ∙ n) (cases_lt i (length xs))

once_less : (xs : List Place) (y : Place) → Once (xs ++ y ∷ []) → (has_place xs y ≡ false) × Once xs
once_less xs y o = let n = length_more xs y in (
  ap₂ has_place (sym (take-append_seam xs (y ∷ []))) (sym (get_or-append_seam xs y [] nowhere)) ∙ o (length xs) (omega arith),
  (λ i h. ap₂ has_place (sym (take-append-le i xs (y ∷ []) (omega arith))) (sym (get_or-append xs (y ∷ []) nowhere i h)) ∙ o i (omega arith)),
)

pub pending_more : (p p2 : Inside) (y : Place) → IsPending p → p2.done ≡ p.done → p2.places.items ≡ p.places.items ++ y ∷ [] → Updates place_cmp p.listed p2.listed y true → has_place p.places.items y ≡ false → 3 ≤ y.block → IsPending p2
pending_more p p2 y I d e u n h = record {
  few = (let a = I.few in let b = ap length e in let c = length_more p.places.items y in omega arith);
  same = λ x. u.0 x ∙ ap (λ s. cond s true (contains place_cmp p.listed x)) (at_same y x) ∙ cond_or (same_place x y) (contains place_cmp p.listed x) ∙ ap (λ b. b || same_place x y) (I.same x) ∙ sym (has_more p.places.items y x) ∙ ap (λ xs. has_place xs x) (sym e);
  once = subst (λ (xs : List Place). (i : ℕ) → i < length xs → has_place (take i xs) (get_or xs i nowhere) ≡ false) (sym e) (once_more p.places.items y n I.once);
  high = λ x a. ⊎_elim (λ b. I.high x b) (λ b. ⊎_elim (λ q. subst (λ (z : Place). 3 ≤ z.block) (sym q) h) (λ z. absurd z) b) (in_either p.places.items (y ∷ []) x (subst (λ (xs : List Place). IsPlaceOf xs x) e a));
}

pub pending_less : (p p2 : Inside) (y : Place) → IsPending p → p2.done ≡ p.done → p.places.items ≡ p2.places.items ++ y ∷ [] → Updates place_cmp p.listed p2.listed y false → p.done < length p.places.items → IsPending p2
pending_less p p2 y I d e u s =
    let (n, o) = once_less p2.places.items y (subst (λ (xs : List Place). (i : ℕ) → i < length xs → has_place (take i xs) (get_or xs i nowhere) ≡ false) e I.once) in
    record {
      few = (let b = ap length e in let c = length_more p2.places.items y in omega arith);
      same = λ x. u.0 x ∙ ap (λ s. cond s false (contains place_cmp p.listed x)) (at_same y x)
          ∙ cond_out (same_place x y) (has_place p2.places.items x) (contains place_cmp p.listed x) (I.same x ∙ ap (λ xs. has_place xs x) e ∙ has_more p2.places.items y x) (λ t. ap (has_place p2.places.items) (same_place-true x y t) ∙ n);
      once = o;
      high = λ x a. I.high x (subst (λ (xs : List Place). IsPlaceOf xs x) (sym e) (in_left p2.places.items (y ∷ []) x a));
    }
