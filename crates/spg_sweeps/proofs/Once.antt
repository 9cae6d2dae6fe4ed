-- Places that are listed once are no more than there are.
use Rattle.std.proofs.Common.{◌≡◌, ℕ, suc, ◌+◌, ◌<◌, ◌≤◌, Bool, true, false, ◌&&◌, ◌||◌, cond, nat_eq, List, [], ◌∷◌, ◌++◌, ◌⊎◌, ⊎_elim, append_assoc, length, refl, sym, ◌∙◌, subst, inl, inr, arith}
use Rattle.std.proofs.lemmas.Bool.{eqb-true, eq-eqb, or_cases, false≢true}
use Rattle.spg_forest.specs.View.{Place}
use Rattle.spg_forest.specs.Spot.{same_place}
use Rattle.spg_cover.specs.Vacuum.{IsPlaceOf, has_place, listed}
use Rattle.spg_vacuum.proofs.Places.{has_behind}
use Rattle.spg_walks.proofs.Marks.{count, count_few, count_none, count_or, count_one}
use Rattle.spg_walks.proofs.Meeting.{number, same_number}
use Rattle.spg_sweeps.specs.Sweeps.{IsOnce}

abbrev marks_of : List Place → ℕ → Bool
marks_of [] i = false
marks_of (p ∷ ps) i = nat_eq (number p) i || marks_of ps i

marked : (ps : List Place) (i : ℕ) → marks_of ps i ≡ true → (p : Place) × IsPlaceOf ps p × (number p ≡ i)
marked [] i e = absurd (false≢true e)
marked (p ∷ ps) i e = ⊎_elim (λ h. (p, inl refl, eqb-true (number p) i h)) (λ h. let (q, a, b) = marked ps i h in (q, inr a, b)) (or_cases (nat_eq (number p) i) (marks_of ps i) e)

-- each is on one of the pages
abbrev pub AreOn : ℕ → List Place → Type 0
AreOn size ps = (p : Place) → IsPlaceOf ps p → (p.offset < 2048) × (number p < size)

count_places : (size : ℕ) (ps : List Place) → IsOnce ps → AreOn size ps → count (marks_of ps) size ≡ length ps
count_places size [] once on = count_none size
count_places size (p ∷ ps) (new, once) on =
    let (o, h) = on p (inl refl) in
    let apart : (i : ℕ) → nat_eq (number p) i ≡ true → marks_of ps i ≡ true → ⊥ =
    λ i a b.
    let (q, c, d) = marked ps i b in
    new (subst (IsPlaceOf ps) (same_number q p (on q (inr c)).0 o (d ∙ sym (eqb-true (number p) i a))) c) in
    let both = count_or (nat_eq (number p)) (marks_of ps) apart size in
    let one : count (nat_eq (number p)) size ≡ 1 = count_one (number p) size h in
    let rest = count_places size ps once (λ q c. on q (inr c)) in
    both ∙ sum (count (nat_eq (number p)) size) (count (marks_of ps) size) (length ps) one rest
  where
    sum : (a b n : ℕ) → a ≡ 1 → b ≡ n → a + b ≡ suc n
    sum a b n e f = omega (arith, e, f)

pub few_once : (size : ℕ) (ps : List Place) → IsOnce ps → AreOn size ps → length ps ≤ size
few_once size ps once on = let a = count_places size ps once on in let b = count_few (marks_of ps) size in omega (arith, a, b)

-- ---- one place more

at_itself : (p : Place) → same_place p p ≡ true
at_itself p = both (nat_eq p.block p.block) (nat_eq p.offset p.offset) (eq-eqb p.block p.block refl) (eq-eqb p.offset p.offset refl)
  where
    both : (a b : Bool) → a ≡ true → b ≡ true → (a && b) ≡ true
    both true true e f = refl
    both true false e f = f
    both false b e f = e

has_it : (ps : List Place) (p : Place) → IsPlaceOf ps p → has_place ps p ≡ true
has_it [] p h = absurd h
has_it (q ∷ qs) p (inl e) = left (same_place p q) (has_place qs p) (subst (λ (z : Place). same_place p z ≡ true) e (at_itself p))
  where
    left : (a b : Bool) → a ≡ true → (a || b) ≡ true
    left true b f = refl
    left false b f = absurd (false≢true f)
has_it (q ∷ qs) p (inr h) = right (same_place p q) (has_place qs p) (has_it qs p h)
  where
    right : (a b : Bool) → b ≡ true → (a || b) ≡ true
    right true b f = refl
    right false b f = f

in_push : (ps : List Place) (y p : Place) → IsPlaceOf (ps ++ y ∷ []) p → IsPlaceOf ps p ⊎ (p ≡ y)
in_push [] y p (inl e) = inr e
in_push [] y p (inr h) = absurd h
in_push (q ∷ qs) y p (inl e) = inl (inl e)
in_push (q ∷ qs) y p (inr h) = ⊎_elim (λ a. inl (inr a)) (λ e. inr e) (in_push qs y p h)

once_push : (ps : List Place) (y : Place) → IsOnce ps → (IsPlaceOf ps y → ⊥) → IsOnce (ps ++ y ∷ [])
once_push [] y once new = (λ h. h, tt)
once_push (q ∷ qs) y (a, once) new = (λ h. ⊎_elim a (λ e. new (inl (sym e))) (in_push qs y q h), once_push qs y once (λ h. new (inr h)))

-- places that are listed unless they are there stay listed once
pub once_listed : (done todo ys : List Place) → IsOnce (done ++ todo) → IsOnce (done ++ listed done todo ys)
once_listed done todo [] once = once
once_listed done todo (y ∷ ys) once = go (has_place done y || has_place todo y) refl (once_listed done todo ys) (once_listed done (todo ++ y ∷ []) ys)
  where
    go : (b : Bool) → has_place done y || has_place todo y ≡ b → (IsOnce (done ++ todo) → IsOnce (done ++ listed done todo ys)) → (IsOnce (done ++ (todo ++ y ∷ [])) → IsOnce (done ++ listed done (todo ++ y ∷ []) ys)) →
        IsOnce (done ++ listed done (cond b todo (todo ++ y ∷ [])) ys)
    go true e there new = there once
    go false e there new = new (subst IsOnce (append_assoc done todo (y ∷ []))
        (once_push (done ++ todo) y once (λ h. false≢true (sym e ∙ sym (has_behind done todo y) ∙ has_it (done ++ todo) y h))))
