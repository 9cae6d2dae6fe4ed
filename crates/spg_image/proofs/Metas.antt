-- The meta page, written part by part.
use Rattle.std.proofs.Common.{◌≡◌, ℕ, zero, suc, ◌+◌, ◌*◌, ◌<◌, ◌≤◌, List, length, get_or, map, replicate, refl, sym, ap, subst, ◌∙◌, arith}
use Rattle.std.specs.List.{range_with_len}
use Rattle.std.proofs.lemmas.List.FromFn.{get_or-map-range_with_len, length-map-range_with_len}
use Rattle.std.proofs.lemmas.Grind.{same_number_lists}
use Rattle.spg_page.specs.Numbers.{four_at}
use Rattle.spg_page.proofs.Numbers.{two_same, four_same}
use Rattle.spg_page.proofs.Heads.{mark_same}
use Rattle.spg_verify.specs.Versions.{version_of}
use Rattle.spg_verify.specs.Meta.{HasHeadOf, eight_at, code_in}
use Rattle.spg_image.specs.Meta.{IsMeta, said_in}

-- only the bytes from one up to another are changed
pub record IsPut (old now : List ℕ) (from to : ℕ) : Type 0 where
  pub below : (k : ℕ) → k < from → get_or now k 0 ≡ get_or old k 0
  pub above : (k : ℕ) → to ≤ k → get_or now k 0 ≡ get_or old k 0

pub all_zero : (n k : ℕ) → get_or (replicate {A = ℕ} n 0) k 0 ≡ 0
all_zero zero k = refl
all_zero (suc n) zero = refl
all_zero (suc n) (suc k) = all_zero n k

-- the header stays where its bytes do
pub head_same : (version : ℕ) (old now : List ℕ) → ((k : ℕ) → k < 24 → get_or now k 0 ≡ get_or old k 0) → ((k : ℕ) → 8184 ≤ k → get_or now k 0 ≡ 0) → HasHeadOf version old → HasHeadOf version now
head_same version old now same tail h = record {
  mark = mark_same version old now (λ k l. same k (omega arith)) h.mark;
  kind = same 6 (omega arith) ∙ h.kind;
  tree = same 7 (omega arith) ∙ h.tree;
  block = four_same now old 8 (λ k a b. same k (omega arith)) ∙ h.block;
  items = two_same now old 12 12 (same 12 (omega arith)) (same 13 (omega arith)) ∙ h.items;
  upper = two_same now old 14 14 (same 14 (omega arith)) (same 15 (omega arith)) ∙ h.upper;
  zeros = λ k a b. same k b ∙ h.zeros k a b;
  tail = λ k a b. tail k a;
}

module _ (p0 p1 p2 p3 p4 p5 remembered : List ℕ) (version : ℕ) (head : HasHeadOf version p0) (zeros : (k : ℕ) → 16 ≤ k → get_or p0 k 0 ≡ 0) (s1 : IsPut p0 p1 24 25) (s2 : IsPut p1 p2 28 32) (s3 : IsPut p2 p3 32 40) (s4 : IsPut p3 p4 40 72) (s5 : IsPut p4 p5 72 73) where
  low : (k : ℕ) → k < 24 → get_or p5 k 0 ≡ get_or p0 k 0
  low k h = s5.below k (omega arith) ∙ s4.below k (omega arith) ∙ s3.below k (omega arith) ∙ s2.below k (omega arith) ∙ s1.below k h

  mid : (k : ℕ) → 24 ≤ k → k < 28 → get_or p5 k 0 ≡ get_or p1 k 0
  mid k a b = s5.below k (omega arith) ∙ s4.below k (omega arith) ∙ s3.below k (omega arith) ∙ s2.below k b

  high : (k : ℕ) → 73 ≤ k → get_or p5 k 0 ≡ get_or p0 k 0
  high k h = s5.above k h ∙ s4.above k (omega arith) ∙ s3.above k (omega arith) ∙ s2.above k (omega arith) ∙ s1.above k (omega arith)

  code : (class : ℕ) → get_or p1 24 0 ≡ class → code_in p5 ≡ class
  code class e = mid 24 (omega arith) (omega arith) ∙ e

  pub meta_is : (class : ℕ) → version ≡ version_of class → get_or p1 24 0 ≡ class → length p5 ≡ 8192 → IsMeta p5
  meta_is class v e len = record {
    len = len;
    head = subst (λ n. HasHeadOf n p5) (v ∙ ap version_of (sym (code class e))) (head_same version p0 p5 low (λ k h. high k (omega arith) ∙ zeros k (omega arith)) head);
    more_zeros = λ k a b. mid k (omega arith) b ∙ s1.above k a ∙ zeros k (omega arith);
    last_zeros = λ k h. high k h ∙ zeros k (omega arith);
  }

  pub meta_says : (class count clock counter : ℕ) → length remembered ≡ 8 → get_or p1 24 0 ≡ class → four_at p2 28 ≡ count → eight_at p3 32 ≡ clock → ((i : ℕ) → i < 8 → four_at p4 (40 + 4 * i) ≡ get_or remembered i 0) → get_or p5 72 0 ≡ counter → said_in p5 ≡ record { class = class; count = count; clock = clock; remembered = remembered; counter = counter }
  meta_says class count clock counter eight e1 e2 e3 e4 e5 =
      let class_is : get_or p5 24 0 ≡ class = mid 24 (omega arith) (omega arith) ∙ e1 in
      let count_is : four_at p5 28 ≡ count = four_same p5 p2 28 (λ i a b. s5.below i (omega arith) ∙ s4.below i (omega arith) ∙ s3.below i (omega arith)) ∙ e2 in
      let same : (k : ℕ) → k < 40 → get_or p5 k 0 ≡ get_or p3 k 0 = λ k h. s5.below k (omega arith) ∙ s4.below k h in
      let low_is : four_at p5 32 ≡ four_at p3 32 = four_same p5 p3 32 (λ i a b. same i (omega arith)) in
      let high_is : four_at p5 36 ≡ four_at p3 36 = four_same p5 p3 36 (λ i a b. same i (omega arith)) in
      let clock_is : eight_at p5 32 ≡ clock = rw (low_is, high_is) e3 in
      let each : (i : ℕ) → i < 8 → four_at p5 (40 + 4 * i) ≡ get_or remembered i 0 = λ i h. four_same p5 p4 (40 + 4 * i) (λ k a b. s5.below k (omega arith)) ∙ e4 i h in
      let f : ℕ → ℕ = λ i. four_at p5 (40 + 4 * i) in
      let remembered_is : map f (range_with_len 0 8) ≡ remembered =
      same_number_lists (map f (range_with_len 0 8)) remembered (length-map-range_with_len f 0 8 ∙ sym eight) (λ i h.
      let l : i < 8 = omega (arith, length-map-range_with_len f 0 8) in
      get_or-map-range_with_len f 0 8 i i 0 l (omega arith) ∙ each i l) in
      rw (class_is, count_is, clock_is, remembered_is, e5) refl
