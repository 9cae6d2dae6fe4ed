-- What is met from items, with a mark for each place.
use Rattle.std.proofs.Common.{◌≡◌, ℕ, suc, ◌+◌, ◌*◌, ◌<◌, ◌≤◌, Bool, true, false, ◌||◌, nat_eq, List, [], ◌∷◌, ◌++◌, ⊎_elim, Option, refl, sym, ap, ◌∙◌, subst, arith}
use Rattle.std.proofs.lemmas.Bool.{eqb-true, false≢true, or_cases}
use Rattle.spg_forest.specs.View.{Place, Leaf}
use Rattle.spg_forest.specs.Spot.{Frame, Spot, Branch, Bucket}
use Rattle.spg_forest.specs.Walk.{Met, children_at, met_at}
use Rattle.spg_scan.proofs.RestMet.{met_join}
use Rattle.spg_walks.proofs.Marks.{count, count_or}

-- a page has fewer than 2,048 offsets
abbrev pub number : Place → ℕ
number x = 2048 * x.block + x.offset

pub same_number : (x y : Place) → x.offset < 2048 → y.offset < 2048 → number x ≡ number y → x ≡ y
same_number x y a b e =
    let blocks : x.block ≡ y.block = omega arith in
    let offsets : x.offset ≡ y.offset = omega arith in
    λ i. record { block = blocks i; offset = offsets i }

-- the marks are those of some of the places
abbrev pub AreMarks : (Place → Type 0) → (ℕ → Bool) → Type 0
AreMarks from marks = (i : ℕ) → marks i ≡ true → (z : Place) × (z.offset < 2048) × (number z ≡ i) × from z

-- so many tuples at most are met at a place
abbrev pub most : ℕ
most = 67108864

-- a number of tuples is met from the items, no more than `most` for each mark
pub record Meets {R : Type 0} (down : R → Frame → ℕ → R) (kept : R → Frame → List (Option Place) → List ℕ) (V : Place → Spot) (size : ℕ) (from : Place → Type 0) (items : List (Place × R)) : Type 0 where
  pub met : ℕ
  pub walk : Met down kept V items met
  pub marks : ℕ → Bool
  pub each : AreMarks from marks
  pub few : met ≤ most * count marks size

module _ {R : Type 0} (down : R → Frame → ℕ → R) (kept : R → Frame → List (Option Place) → List ℕ) (V : Place → Spot) where
  head_of : {X : Type 0} (x y : X) (xs ys : List X) → x ∷ xs ≡ y ∷ ys → (x ≡ y) × (xs ≡ ys)
  head_of x y xs ys e = (cc, cc)

  same_spot : (x y : Place) (r s : R) (a b : Spot) → ◌≡◌ {A = Place × R} (x, r) (y, s) → V x ≡ a → V y ≡ b → a ≡ b
  same_spot x y r s a b e f g = sym f ∙ ap (λ (p : Place × R). V p.0) e ∙ g

  same_branch : (w v : Frame) (ns us : List (Option Place)) → Branch w ns ≡ Branch v us → (w ≡ v) × (ns ≡ us)
  same_branch w v ns us e = (cc, cc)

  not_both : (w : Frame) (ns : List (Option Place)) (ls : List Leaf) → Branch w ns ≡ Bucket ls → ⊥
  not_both w ns ls e = cc

  same_bucket : (ls ks : List Leaf) → Bucket ls ≡ Bucket ks → ls ≡ ks
  same_bucket ls ks e = cc

  -- ---- what a number that is met says of the first item

  pub met_none : (zs : List (Place × R)) (k : ℕ) → Met down kept V zs k → zs ≡ [] → k ≡ 0
  met_none zs k (Met.done) e = refl
  met_none zs k (Met.inner at m) e = cc
  met_none zs k (Met.leaves at m) e = cc

  pub met_branch : (zs : List (Place × R)) (k : ℕ) → Met down kept V zs k → (x : Place) (r : R) (items : List (Place × R)) (w : Frame) (ns : List (Option Place)) → zs ≡ (x, r) ∷ items → V x ≡ Branch w ns →
      (j : ℕ) × Met down kept V (children_at down r w ns (kept r w ns) ++ items) j × (k ≡ suc j)
  met_branch zs k (Met.done) x r items w ns e f = cc
  met_branch zs k (Met.inner {x = y} {r = s} {items = others} {n = j} {w = v} {ns = us} at m) x r items w ns e f =
      let (p, q) = head_of (y, s) (x, r) others items e in
      let (a, b) = same_branch v w us ns (same_spot y x s r (Branch v us) (Branch w ns) p at f) in
      let z : children_at down s v us (kept s v us) ++ others ≡ children_at down r w ns (kept r w ns) ++ items =
      λ h. children_at down (p h).1 (a h) (b h) (kept (p h).1 (a h) (b h)) ++ q h in
      (j, subst (λ (us : List (Place × R)). Met down kept V us j) z m, refl)
  met_branch zs k (Met.leaves {x = y} {r = s} {items = others} {ls = ls} at m) x r items w ns e f =
      let (p, q) = head_of (y, s) (x, r) others items e in
      absurd (not_both w ns ls (sym (same_spot y x s r (Bucket ls) (Branch w ns) p at f)))

  pub met_bucket : (zs : List (Place × R)) (k : ℕ) → Met down kept V zs k → (x : Place) (r : R) (items : List (Place × R)) (ls : List Leaf) → zs ≡ (x, r) ∷ items → V x ≡ Bucket ls → (j : ℕ) × Met down kept V items j × (k ≡ met_at x ls + j)
  met_bucket zs k (Met.done) x r items ls e f = cc
  met_bucket zs k (Met.inner {x = y} {r = s} {items = others} {w = v} {ns = us} at m) x r items ls e f =
      let (p, q) = head_of (y, s) (x, r) others items e in
      absurd (not_both v us ls (same_spot y x s r (Branch v us) (Bucket ls) p at f))
  met_bucket zs k (Met.leaves {x = y} {r = s} {items = others} {n = j} {ls = ks} at m) x r items ls e f =
      let (p, q) = head_of (y, s) (x, r) others items e in
      let a : ks ≡ ls = same_bucket ks ls (same_spot y x s r (Bucket ks) (Bucket ls) p at f) in
      (j, subst (λ (us : List (Place × R)). Met down kept V us j) q m, λ h. met_at (p h).0 (a h) + j)

  -- only one number is met
  pub met_once : (xs : List (Place × R)) (n : ℕ) → Met down kept V xs n → (k : ℕ) → Met down kept V xs k → n ≡ k
  met_once xs n (Met.done) k m = sym (met_none [] k m refl)
  met_once xs n (Met.inner {x = x} {r = r} {items = items} {n = i} {w = w} {ns = ns} at m) k t =
      let (j, u, e) = met_branch ((x, r) ∷ items) k t x r items w ns refl at in
      ap (λ c. suc c) (met_once (children_at down r w ns (kept r w ns) ++ items) i m j u) ∙ sym e
  met_once xs n (Met.leaves {x = x} {r = r} {items = items} {n = i} {ls = ls} at m) k t =
      let (j, u, e) = met_bucket ((x, r) ∷ items) k t x r items ls refl at in
      ap (λ c. met_at x ls + c) (met_once items i m j u) ∙ sym e

  -- ---- items beside each other

  module _ (size : ℕ) where
    abbrev M : (Place → Type 0) → List (Place × R) → Type 0
    M from items = Meets down kept V size from items

    pub meets_none : (from : Place → Type 0) → M from []
    meets_none from = record { met = 0; walk = Met.done; marks = λ i. false; each = λ i e. absurd (false≢true e); few = omega arith }

    pub meets_more : (A B : Place → Type 0) (xs : List (Place × R)) → ((z : Place) → A z → B z) → M A xs → M B xs
    meets_more A B xs f a = record { met = a.met; walk = a.walk; marks = a.marks; each = λ i e. let (z, o, n, h) = a.each i e in (z, o, n, f z h); few = a.few }

    both_marked : (A B : Place → Type 0) (f g : ℕ → Bool) → AreMarks A f → AreMarks B g → ((z : Place) → A z → B z → ⊥) → (i : ℕ) → f i ≡ true → g i ≡ true → ⊥
    both_marked A B f g a b apart i d e =
        let (y, o, n, h) = a i d in
        let (z, p, q, k) = b i e in
        apart z (subst A (same_number y z o p (n ∙ sym q)) h) k

    -- where no place is among both
    pub meets_both : (A B C : Place → Type 0) (xs ys : List (Place × R)) → ((z : Place) → A z → B z → ⊥) → ((z : Place) → A z → C z) → ((z : Place) → B z → C z) → M A xs → M B ys → M C (xs ++ ys)
    meets_both A B C xs ys apart f g a b =
        let sum = count_or a.marks b.marks (both_marked A B a.marks b.marks a.each b.each apart) size in
        let some : a.met + b.met ≤ most * count (λ i. a.marks i || b.marks i) size = omega (arith, sum, a.few, b.few) in
        record {
          met = a.met + b.met;
          walk = met_join down kept V xs ys a.met b.met a.walk b.walk;
          marks = λ i. a.marks i || b.marks i;
          each = λ i e. ⊎_elim (λ d. let (z, o, n, h) = a.each i d in (z, o, n, f z h)) (λ d. let (z, o, n, h) = b.each i d in (z, o, n, g z h)) (or_cases (a.marks i) (b.marks i) e);
          few = some;
        }

    -- one place is marked
    pub one_mark : (from : Place → Type 0) (x : Place) → x.offset < 2048 → from x → AreMarks from (nat_eq (number x))
    one_mark from x o h i e = (x, o, eqb-true (number x) i e, h)
