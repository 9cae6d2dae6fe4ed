-- What is known of the pages that were picked for a division below a root.
use Rattle.std.proofs.Common.{◌≡◌, ℕ, ◌+◌, ◌≤◌, ◌<◌, ◌&&◌, nat_le, Bool, true, false, List, [], ◌⊎◌, Some, length, refl, sym, ap, ◌∙◌, subst, inl, inr, arith}
use Rattle.std.proofs.lemmas.Bool.{leb-true, leb-false}
use Rattle.spg_forest.specs.Tuples.{Tuple}
use Rattle.spg_forest.specs.Sheets.{Sheet}
use Rattle.spg_forest.specs.Edits.{IsPicked as IsPickedIn}
use Rattle.spg_page.specs.Changes.{room_of}
use Rattle.spg_tree.specs.Table.{Table, sheets_of, sheet_at, tuples_at, latch_at}
use Rattle.spg_tree.specs.declared.want.Want.{Want}
use Rattle.spg_tree.specs.Two.{after_first}
use Rattle.spg_descend.proofs.Picked.{picks_leaf}
use Rattle.spg_tree.proofs.PickedPages.{picks_page, held}
use Rattle.spg_split.specs.declared.plan.ListSize.{ListSize}
use Rattle.spg_split.specs.declared.homes.Homes.{Homes}
use Rattle.spg_split.specs.Homes.{AreHomes, PicksHomes, fits_above, inner_want, rest_want}

picked_twice : (t t1 t2 : Table) → IsPickedIn (sheets_of t) (sheets_of t1) → IsPickedIn (sheets_of t1) (sheets_of t2) → IsPickedIn (sheets_of t) (sheets_of t2)
picked_twice t t1 t2 A B = record { clock = B.clock ∙ A.clock; count = let a = A.count in let b = B.count in omega arith; same = λ b. go b (A.same b) (B.same b) }
  where
    go : (b : ℕ) → (sheet_at t1 b ≡ sheet_at t b) ⊎ ((3 ≤ b) × (tuples_at t b ≡ []) × (tuples_at t1 b ≡ [])) → (sheet_at t2 b ≡ sheet_at t1 b) ⊎ ((3 ≤ b) × (tuples_at t1 b ≡ []) × (tuples_at t2 b ≡ [])) →
        (sheet_at t2 b ≡ sheet_at t b) ⊎ ((3 ≤ b) × (tuples_at t b ≡ []) × (tuples_at t2 b ≡ []))
    go b (inl x) (inl y) = inl (y ∙ x)
    go b (inl x) (inr (g, e, f)) = inr (g, sym (ap (λ (s : Sheet). s.tuples) x) ∙ e, f)
    go b (inr (g, e, f)) (inl y) = inr (g, e, ap (λ (s : Sheet). s.tuples) y ∙ f)
    go b (inr (g, e, f)) (inr (g2, e2, f2)) = inr (g, e, f2)

picked_none : (t : Table) → IsPickedIn (sheets_of t) (sheets_of t)
picked_none t = record { clock = refl; count = omega arith; same = λ b. inl refl }

and_both : (a b : Bool) → a && b ≡ true → (a ≡ true) × (b ≡ true)
and_both true b e = (refl, e)
and_both false b e = cc

-- the pages as they are then
pub record IsHoused (t t2 : Table) (b : ℕ) (need : ℕ) (rest : ListSize) (h : Homes) : Type 0 where
  pub pages : IsPickedIn (sheets_of t) (sheets_of t2)
  pub others : (c : ℕ) → (c ≡ h.inner → ⊥) → (c ≡ h.rest → ⊥) → (c < length t.pages) ⊎ (length t2.pages ≤ c) → sheet_at t2 c ≡ sheet_at t c
  pub more : length t2.pages ≤ length t.pages + 4
  pub inner_from : 3 ≤ h.inner
  pub inner_there : h.inner < length t2.pages
  pub inner_kind : (sheet_at t2 h.inner).inner ≡ true
  pub inner_tree : (sheet_at t2 h.inner).nulls ≡ (sheet_at t b).nulls
  pub inner_room : need ≤ room_of (tuples_at t2 h.inner) 1
  pub rest_from : 3 ≤ h.rest
  pub rest_there : h.rest < length t2.pages
  pub rest_kind : (sheet_at t2 h.rest).inner ≡ false
  pub rest_tree : (sheet_at t2 h.rest).nulls ≡ (sheet_at t b).nulls
  pub rest_room : rest.bytes ≤ room_of (tuples_at t2 h.rest) rest.tuples
  pub rest_where : (rest.tuples ≡ 0) ⊎ (h.rest ≡ b → ⊥)
  pub latches : (c : ℕ) → latch_at t2 c ≡ latch_at t c
  pub limit : t2.limit ≡ t.limit
  pub clock : t2.clock ≡ t.clock
  pub counter : t2.counter ≡ t.counter
  pub tuples : (c : ℕ) → tuples_at t2 c ≡ tuples_at t c

module _ (t : Table) (b p need seat : ℕ) (rest : ListSize) (roots : 3 ≤ length t.pages) (b_from : 3 ≤ b) (b_there : b < length t.pages) (b_leaf : (sheet_at t b).inner ≡ false) (b_some : tuples_at t b ≡ [] → ⊥)
    (p_there : p < length t.pages) (p_inner : (sheet_at t p).inner ≡ true) (p_some : tuples_at t p ≡ [] → ⊥) (tree : (sheet_at t p).nulls ≡ (sheet_at t b).nulls) (zero : rest.tuples ≡ 0 → rest.bytes ≡ 0) where
  abbrev w : Want
  w = inner_want (sheet_at t b).nulls p need seat

  abbrev v : Want
  v = rest_want (sheet_at t b).nulls b rest seat

  no_rest : (us : List Tuple) → rest.tuples ≡ 0 → rest.bytes ≤ room_of us rest.tuples
  no_rest us e = let a = zero e in omega arith

  housed_by : (x y : Bool) (t2 : Table) (h : Homes) → fits_above t p need ≡ x → nat_le 1 rest.tuples ≡ y → AreHomes x y t t2 b p w v h → IsHoused t t2 b need rest h
  housed_by true false t2 h ex ey (hi, hr, e) =
      let (f, r) = and_both (nat_le 3 p) (nat_le need (room_of (tuples_at t p) 1)) ex in
      let pf = leb-true 3 p f in let pr = leb-true need (room_of (tuples_at t p) 1) r in
      let n = leb-false 1 rest.tuples ey in
      subst (λ (u : Table). IsHoused t u b need rest h) (sym e) (record {
        pages = picked_none t;
        others = λ c a d k. refl;
        more = omega arith;
        inner_from = omega arith;
        inner_there = omega arith;
        inner_kind = ap (λ i. (sheet_at t i).inner) hi ∙ p_inner;
        inner_tree = ap (λ i. (sheet_at t i).nulls) hi ∙ tree;
        inner_room = subst (λ i. need ≤ room_of (tuples_at t i) 1) (sym hi) pr;
        rest_from = omega arith;
        rest_there = omega arith;
        rest_kind = ap (λ i. (sheet_at t i).inner) hr ∙ b_leaf;
        rest_tree = ap (λ i. (sheet_at t i).nulls) hr;
        rest_room = no_rest (tuples_at t h.rest) (omega arith);
        rest_where = inl (omega arith);
        latches = λ c. refl;
        limit = refl;
        clock = refl;
        counter = refl;
        tuples = λ c. refl;
      })
  housed_by true true t2 h ex ey (hi, Q, P) =
      let (f, r) = and_both (nat_le 3 p) (nat_le need (room_of (tuples_at t p) 1)) ex in
      let pf = leb-true 3 p f in let pr = leb-true need (room_of (tuples_at t p) 1) r in
      let A = picks_page t t2 v h.rest roots P Q in
      let B = picks_leaf t t2 v h.rest roots refl P Q in
      let e : sheet_at t2 h.inner ≡ sheet_at t p = ap (sheet_at t2) hi ∙ held t t2 p A.pages p_some in
      record {
        pages = A.pages;
        others = λ c a d k. A.others c d k;
        more = let m = B.more in omega arith;
        inner_from = omega arith;
        inner_there = let m = P.least in omega arith;
        inner_kind = ap (λ (s : Sheet). s.inner) e ∙ p_inner;
        inner_tree = ap (λ (s : Sheet). s.nulls) e ∙ tree;
        inner_room = subst (λ (s : Sheet). need ≤ room_of s.tuples 1) (sym e) pr;
        rest_from = P.from;
        rest_there = P.there;
        rest_kind = P.kind;
        rest_tree = P.tree;
        rest_room = P.room;
        rest_where = inr (λ q. let a = P.not_avoided (ap Some (sym q)) in absurd (omega arith));
        latches = P.latches;
        limit = P.limit;
        clock = P.clock;
        counter = P.counter;
        tuples = P.tuples;
      }
  housed_by false false t2 h ex ey (hr, Q, P) =
      let n = leb-false 1 rest.tuples ey in
      let A = picks_page t t2 w h.inner roots P Q in
      let e : sheet_at t2 h.rest ≡ sheet_at t b = ap (sheet_at t2) hr ∙ held t t2 b A.pages b_some in
      record {
        pages = A.pages;
        others = λ c a d k. A.others c a k;
        more = let m = P.most in omega arith;
        inner_from = P.from;
        inner_there = P.there;
        inner_kind = P.kind;
        inner_tree = P.tree;
        inner_room = P.room;
        rest_from = omega arith;
        rest_there = let m = P.least in omega arith;
        rest_kind = ap (λ (s : Sheet). s.inner) e ∙ b_leaf;
        rest_tree = ap (λ (s : Sheet). s.nulls) e;
        rest_room = no_rest (tuples_at t2 h.rest) (omega arith);
        rest_where = inl (omega arith);
        latches = P.latches;
        limit = P.limit;
        clock = P.clock;
        counter = P.counter;
        tuples = P.tuples;
      }
  housed_by false true t2 h ex ey (Q, P) =
      let P1 = P.first in let P2 = P.second in
      let n = leb-true 1 rest.tuples ey in
      let more1 = P1.least in
      let roots1 : 3 ≤ length P.between.pages = omega arith in
      let A1 = picks_page t P.between w h.inner roots P1 P.first_picks in
      let A2 = picks_page P.between t2 (after_first v h.inner) h.rest roots1 P2 P.second_picks in
      let B = picks_leaf P.between t2 (after_first v h.inner) h.rest roots1 refl P2 P.second_picks in
      let e : sheet_at t2 h.inner ≡ sheet_at P.between h.inner = A2.others h.inner P.apart (inl P1.there) in
      record {
        pages = picked_twice t P.between t2 A1.pages A2.pages;
        others = λ c a d k. A2.others c d (later P1.least c k) ∙ A1.others c a (sooner P2.least c k);
        more = let m = P1.most in let l = B.more in omega arith;
        inner_from = P1.from;
        inner_there = let a = P1.there in let m = P2.least in omega arith;
        inner_kind = ap (λ (s : Sheet). s.inner) e ∙ P1.kind;
        inner_tree = ap (λ (s : Sheet). s.nulls) e ∙ P1.tree;
        inner_room = subst (λ (s : Sheet). need ≤ room_of s.tuples 1) (sym e) P1.room;
        rest_from = P2.from;
        rest_there = P2.there;
        rest_kind = P2.kind;
        rest_tree = P2.tree;
        rest_room = P2.room;
        rest_where = inr (λ q. let a = P2.not_avoided (ap Some (sym q)) in absurd (omega arith));
        latches = λ c. P2.latches c ∙ P1.latches c;
        limit = P2.limit ∙ P1.limit;
        clock = P2.clock ∙ P1.clock;
        counter = P2.counter ∙ P1.counter;
        tuples = λ c. P2.tuples c ∙ P1.tuples c;
      }
    where
      later : {n n1 m : ℕ} → n ≤ n1 → (c : ℕ) → (c < n) ⊎ (m ≤ c) → (c < n1) ⊎ (m ≤ c)
      later l c (inl h) = inl (omega arith)
      later l c (inr h) = inr h

      sooner : {n n1 m : ℕ} → n1 ≤ m → (c : ℕ) → (c < n) ⊎ (m ≤ c) → (c < n) ⊎ (n1 ≤ c)
      sooner l c (inl h) = inl h
      sooner l c (inr h) = inr (omega arith)

  pub housed : (t2 : Table) (h : Homes) → PicksHomes t t2 b p need rest seat h → IsHoused t t2 b need rest h
  housed t2 h H = housed_by (fits_above t p need) (nat_le 1 rest.tuples) t2 h refl refl H
