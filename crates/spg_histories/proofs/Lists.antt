-- Events at positions.
use Rattle.std.proofs.Common.{◌≡◌, inl, inr, ◌<◌, ◌≤◌, ◌+◌, ◌-◌, ℕ, zero, suc, Bool, cond, List, [], ◌∷◌, ◌++◌, length, take, drop, Some, refl, sym, ap, ◌∙◌, subst, arith}
use Rattle.std.specs.Prelude.{slice_get, map}
use Rattle.std.specs.List.{AllByRecursion}
use Rattle.std.proofs.lemmas.Option.{same_Some}
use Rattle.std.proofs.lemmas.Bool.Decides.{eqb_tells}
use Rattle.spg_rows.specs.declared.event.Event.{Event}
use Rattle.spg_rows.specs.History.{seat_of, own}
use Rattle.spg_histories.specs.Run.{between}

module _ {X : Type 0} where
  pub get-drop : (k : ℕ) (xs : List X) (i : ℕ) → slice_get (drop k xs) i ≡ slice_get xs (k + i)
  get-drop zero xs i = let same : i ≡ 0 + i = omega arith in ap (slice_get xs) same
  get-drop (suc k) [] i = refl
  get-drop (suc k) (x ∷ xs) i = let same : suc (k + i) ≡ suc k + i = omega arith in get-drop k xs i ∙ ap (slice_get (x ∷ xs)) same

  pub get-take : (m : ℕ) (xs : List X) (i : ℕ) → i < m → slice_get (take m xs) i ≡ slice_get xs i
  get-take zero xs i below = absurd (omega arith)
  get-take (suc m) [] i below = refl
  get-take (suc m) (x ∷ xs) zero below = refl
  get-take (suc m) (x ∷ xs) (suc i) below = get-take m xs i (omega arith)

  pub get-between : (low high : ℕ) (xs : List X) (at : ℕ) → low ≤ at → at < high → slice_get (between low high xs) (at - low) ≡ slice_get xs at
  get-between low high xs at from to = get-take (high - low) (drop low xs) (at - low) (omega arith) ∙ (let same : low + (at - low) ≡ at = omega arith in get-drop low xs (at - low) ∙ ap (slice_get xs) same)

  pub get-left : (xs ys : List X) (i : ℕ) → i < length xs → slice_get (xs ++ ys) i ≡ slice_get xs i
  get-left [] ys i below = absurd (omega arith)
  get-left (x ∷ xs) ys zero below = refl
  get-left (x ∷ xs) ys (suc i) below = get-left xs ys i (omega arith)

  pub get-some : (xs : List X) (i : ℕ) → i < length xs → (x : X) × (slice_get xs i ≡ Some x)
  get-some [] i below = absurd (omega arith)
  get-some (x ∷ xs) zero below = (x, refl)
  get-some (x ∷ xs) (suc i) below = get-some xs i (omega arith)

  pub at_each : (P : X → Type 0) (xs : List X) (i : ℕ) (x : X) → AllByRecursion P xs → slice_get xs i ≡ Some x → P x
  at_each P [] i x each is = (cc)
  at_each P (y ∷ xs) zero x each is = subst P (same_Some y x is) each.0
  at_each P (y ∷ xs) (suc i) x each is = at_each P xs i x each.1 is

  pub each_at : (P : X → Type 0) (xs : List X) → ((i : ℕ) (x : X) → slice_get xs i ≡ Some x → P x) → AllByRecursion P xs
  each_at P [] at = tt
  each_at P (x ∷ xs) at = (at 0 x refl, each_at P xs (λ i y is. at (suc i) y is))

  pub same_at : (xs ys : List X) → length xs ≡ length ys → ((i : ℕ) (x y : X) → slice_get xs i ≡ Some x → slice_get ys i ≡ Some y → x ≡ y) → xs ≡ ys
  same_at [] [] long at = refl
  same_at [] (y ∷ ys) long at = absurd (omega arith)
  same_at (x ∷ xs) [] long at = absurd (omega arith)
  same_at (x ∷ xs) (y ∷ ys) long at = ap (λ (z : X). z ∷ xs) (at 0 x y refl refl) ∙ ap (λ l. y ∷ l) (same_at xs ys (omega arith) (λ i a b p q. at (suc i) a b p q))

  pub map_at : {Y : Type 0} (f : X → Y) (xs ys : List X) → map f xs ≡ map f ys → (i : ℕ) (x y : X) → slice_get xs i ≡ Some x → slice_get ys i ≡ Some y → f x ≡ f y
  map_at f [] ys same i x y p q = (cc)
  map_at f (a ∷ xs) [] same i x y p q = (cc)
  map_at f (a ∷ xs) (b ∷ ys) same zero x y p q = let head : f a ≡ f b = (cc) in ap f (sym (same_Some a x p)) ∙ head ∙ ap f (same_Some b y q)
  map_at f (a ∷ xs) (b ∷ ys) same (suc i) x y p q = let tail : map f xs ≡ map f ys = (cc) in map_at f xs ys tail i x y p q

  pub map_long : {Y : Type 0} (f : X → Y) (xs ys : List X) → map f xs ≡ map f ys → length xs ≡ length ys
  map_long f [] [] same = refl
  map_long f [] (b ∷ ys) same = (cc)
  map_long f (a ∷ xs) [] same = (cc)
  map_long f (a ∷ xs) (b ∷ ys) same = let tail : map f xs ≡ map f ys = (cc) in omega (arith, map_long f xs ys tail)

-- what holds of a seat's events holds of each of them
pub own_at : {O Key Recon Cond : Type 0} (P : Event O Key Recon Cond → Type 0) (seat : ℕ) (events : List (Event O Key Recon Cond)) (i : ℕ) (e : Event O Key Recon Cond) → AllByRecursion P (own seat events) → slice_get events i ≡ Some e → seat_of e ≡ seat → P e
own_at P seat [] i e each is by = (cc)
own_at {O} {Key} {Recon} {Cond} P seat (x ∷ events) i e each is by = elim (eqb_tells (seat_of x) seat) [
  | inl same ↦ of_it (own_at P seat events) i is (subst (λ (t : Bool). AllByRecursion P (cond t (x ∷ own seat events) (own seat events))) same.0 each)
  | inr other ↦ of_other (own_at P seat events) i other.1 is (subst (λ (t : Bool). AllByRecursion P (cond t (x ∷ own seat events) (own seat events))) other.0 each)
]
  where
    of_it : ((i : ℕ) (e : Event O Key Recon Cond) → AllByRecursion P (own seat events) → slice_get events i ≡ Some e → seat_of e ≡ seat → P e) → (i : ℕ) → slice_get (x ∷ events) i ≡ Some e → AllByRecursion P (x ∷ own seat events) → P e
    of_it rest zero is each = subst P (same_Some x e is) each.0
    of_it rest (suc i) is each = rest i e each.1 is by

    of_other : ((i : ℕ) (e : Event O Key Recon Cond) → AllByRecursion P (own seat events) → slice_get events i ≡ Some e → seat_of e ≡ seat → P e) → (i : ℕ) → (seat_of x ≡ seat → ⊥) → slice_get (x ∷ events) i ≡ Some e → AllByRecursion P (own seat events) → P e
    of_other rest zero other is each = absurd (other (ap seat_of (same_Some x e is) ∙ by))
    of_other rest (suc i) other is each = rest i e each is by
