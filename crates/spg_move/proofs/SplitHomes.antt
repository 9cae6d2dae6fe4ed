-- The page for the lower tuple of a split, and the blocks that a split touches.
use Rattle.std.proofs.Common.{◌≡◌, ℕ, ◌+◌, ◌-◌, ◌*◌, ◌≤◌, ◌<◌, ◌&&◌, nat_le, min, Bool, true, false, List, [], ◌∷◌, ◌++◌, ◌⊎◌, ⊎_elim, length, length-append, refl, sym, ap, ◌∙◌, subst, inl, inr, arith}
use Rattle.std.specs.Prelude.{◌%◌}
use Rattle.std.specs.List.{range_with_len}
use Rattle.std.proofs.lemmas.Bool.{cases_lt, leb-true}
use Rattle.std.proofs.lemmas.List.FromFn.{length-range_with_len}
use Rattle.spg_forest.specs.View.{Place}
use Rattle.spg_forest.specs.Tuples.{Tuple, Inner, Live, Dead, Redirect, Placeholder, IsAmong}
use Rattle.spg_forest.specs.Pages.{tuple_on, with_tuple}
use Rattle.spg_forest.specs.Sheets.{Sheet, size_of, weight, gap, gaps}
use Rattle.spg_forest.specs.Edits.{IsPicked as IsPickedIn}
use Rattle.spg_forest.proofs.Flat.{none_on}
use Rattle.spg_page.specs.Changes.{room_of}
use Rattle.spg_page.specs.Kinds.{IsOffset, IsInner}
use Rattle.spg_page.proofs.SheetFacts.{weight-replaced, gaps-replaced}
use Rattle.spg_tree.specs.Table.{Table, sheets_of, sheet_at, tuples_at, latch_at}
use Rattle.spg_tree.specs.Another.{another}
use Rattle.spg_tree.proofs.PickedPages.{held, picks_page}
use Rattle.spg_tree.proofs.Pages.{tuples_same, tuples_other}
use Rattle.spg_move.specs.Splitting.{upper_table, fits_beside, lower_want, IsHome, GoesTo, split_touched, MayPart}
use Rattle.spg_tree.proofs.Among.{left_among, right_among, range_among, another_few, another_cases}

inner_gap : (t : Tuple) → IsInner t → gap t ≡ 0
inner_gap (Inner w ns) e = refl
inner_gap (Live l n) e = cc
inner_gap Dead e = cc
inner_gap (Redirect y u) e = cc
inner_gap Placeholder e = cc

-- the room of a page once one inner tuple stands in the place of another
pub room_replaced : (ts : List Tuple) (o : ℕ) (up : Tuple) → IsOffset ts o → weight ts ≤ 8160 → IsInner (tuple_on ts o) → IsInner up → size_of up ≤ size_of (tuple_on ts o) → room_of (with_tuple ts o up) 1 + size_of up ≡ room_of ts 1 + size_of (tuple_on ts o)
room_replaced ts o up w f i j s =
    let a = weight-replaced ts o up w in
    let b = gaps-replaced ts o up w in let g = inner_gap (tuple_on ts o) i in let h = inner_gap up j in
    let e : gaps (with_tuple ts o up) ≡ gaps ts = omega arith in
    let m = ap (λ n. 20 * min 1 n) e in omega arith

pub upper_inner : (t : Table) (x : Place) (up : Tuple) → MayPart t x up → IsInner up
upper_inner t x up M = subst IsInner (sym M.empty) refl

-- what the code counts
pub room_is : (t : Table) (x : Place) (up : Tuple) (page : Sheet) (room old new : ℕ) → MayPart t x up → page ≡ sheet_at t x.block → room ≡ room_of page.tuples 1 → old ≡ size_of (tuple_on page.tuples x.offset) → new ≡ size_of up → room + old - new ≡ room_of (tuples_at (upper_table t x up) x.block) 1
room_is t x up page room old new M e r a b =
    let same = ap (λ (ts : List Tuple). room_of ts 1) (tuples_same t x.block (with_tuple (tuples_at t x.block) x.offset up) M.block.1) in
    let k = room_replaced (tuples_at t x.block) x.offset up M.within M.fits M.inner (upper_inner t x up M) M.shorter in
    let p = ap (λ (s : Sheet). room_of s.tuples 1) e in let q = ap (λ (s : Sheet). size_of (tuple_on s.tuples x.offset)) e in
    omega arith

-- the pages as they are then: h is the home of a tuple of this size
pub record IsHoused (t u : Table) (x : Place) (up : Tuple) (h need : ℕ) : Type 0 where
  pub pages : IsPickedIn (sheets_of t) (sheets_of u)
  pub others : (c : ℕ) → (c ≡ h → ⊥) → (c < length t.pages) ⊎ (length u.pages ≤ c) → sheet_at u c ≡ sheet_at t c
  pub more : length u.pages ≤ length t.pages + 3
  pub from : 3 ≤ h
  pub next : (h ≡ x.block) ⊎ (h % 3 ≡ (x.block % 3 + 1) % 3)
  pub there : h < length u.pages
  pub kind : (sheet_at u h).inner ≡ true
  pub tree : (sheet_at u h).nulls ≡ (sheet_at t x.block).nulls
  pub room : need ≤ room_of (tuples_at (upper_table u x up) h) 1
  pub here : sheet_at u x.block ≡ sheet_at t x.block
  pub latches : (c : ℕ) → latch_at u c ≡ latch_at t c
  pub limit : u.limit ≡ t.limit
  pub clock : u.clock ≡ t.clock
  pub counter : u.counter ≡ t.counter
  pub tuples : (c : ℕ) → tuples_at u c ≡ tuples_at t c

and_both : (a b : Bool) → a && b ≡ true → (a ≡ true) × (b ≡ true)
and_both true b e = (refl, e)
and_both false b e = cc

module _ (t : Table) (x : Place) (up low : Tuple) (roots : 3 ≤ length t.pages) (M : MayPart t x up) (inner : (sheet_at t x.block).inner ≡ true) where
  x_some : tuples_at t x.block ≡ [] → ⊥
  x_some e = let a : IsInner Placeholder = subst IsInner (none_on (tuples_at t x.block) x.offset e) M.inner in cc

  housed_by : (b : Bool) (u : Table) (h seat : ℕ) → fits_beside t x up low ≡ b → IsHome b t u x low h seat → IsHoused t u x up h (size_of low + 4)
  housed_by true u h seat eb (eh, e) =
      let (f, r) = and_both (nat_le 3 x.block) (nat_le (size_of low + 4) (room_of (tuples_at (upper_table t x up) x.block) 1)) eb in
      let from = leb-true 3 x.block f in let room = leb-true (size_of low + 4) (room_of (tuples_at (upper_table t x up) x.block) 1) r in
      let there = M.block.1 in
      subst (λ (z : Table). IsHoused t z x up h (size_of low + 4)) (sym e) (record {
        pages = record { clock = refl; count = omega arith; same = λ c. inl refl };
        others = λ c n k. refl;
        more = omega arith;
        from = omega arith;
        next = inl eh;
        there = omega arith;
        kind = ap (λ i. (sheet_at t i).inner) eh ∙ inner;
        tree = ap (λ i. (sheet_at t i).nulls) eh;
        room = subst (λ i. size_of low + 4 ≤ room_of (tuples_at (upper_table t x up) i) 1) (sym eh) room;
        here = refl;
        latches = λ c. refl;
        limit = refl;
        clock = refl;
        counter = refl;
        tuples = λ c. refl;
      })
  housed_by false u h seat eb (Q, P) =
      let A = picks_page t u (lower_want (sheet_at t x.block).nulls x.block low seat) h roots P Q in
      let apart : h ≡ x.block → ⊥ = λ e. let k = P.parity in let j = ap (λ n. n % 3) e in absurd (omega arith) in
      record {
        pages = A.pages;
        others = A.others;
        more = P.most;
        from = P.from;
        next = inr P.parity;
        there = P.there;
        kind = P.kind;
        tree = P.tree;
        room = subst (λ (ts : List Tuple). size_of low + 4 ≤ room_of ts 1) (sym (tuples_other u x.block (with_tuple (tuples_at u x.block) x.offset up) h apart)) P.room;
        here = held t u x.block A.pages x_some;
        latches = P.latches;
        limit = P.limit;
        clock = P.clock;
        counter = P.counter;
        tuples = P.tuples;
      }

  pub housed : (u : Table) (h seat : ℕ) → GoesTo t u x up low h seat → IsHoused t u x up h (size_of low + 4)
  housed u h seat G = housed_by (fits_beside t x up low) u h seat refl G

-- ---- the blocks touched
pub touched_few : (b h before now : ℕ) → now ≤ before + 3 → length (split_touched b h before now) ≤ 8
touched_few b h before now le =
    let x = another_few h b before in
    let a1 = length-append (b ∷ []) (another h b before) in
    let a2 = length-append ((b ∷ []) ++ another h b before) (range_with_len before (now - before)) in
    let r = length-range_with_len before (now - before) in omega arith

-- what is not touched
pub record IsAway (b h before now e : ℕ) : Type 0 where
  pub upper : e ≡ b → ⊥
  pub home : e ≡ h → ⊥
  pub range : (e < before) ⊎ (now ≤ e)

pub away : (b h before now e : ℕ) → before ≤ now → h < now → (IsAmong e (split_touched b h before now) → ⊥) → IsAway b h before now e
away b h before now e le hn none = record {
  upper = upper;
  home = λ q. ⊎_elim (λ c. upper (q ∙ c)) (λ c. ⊎_elim (λ g. new (omega arith) (omega arith)) (λ a. none (left_among e ((b ∷ []) ++ another h b before) rs (right_among e (b ∷ []) (another h b before) (subst (λ k. IsAmong k (another h b before)) (sym q) a)))) c) (another_cases h b before);
  range = ⊎_elim (λ g. inl g) (λ g. ⊎_elim (λ k. absurd (new g k)) (λ k. inr k) (cases_lt e now)) (cases_lt e before);
}
  where
    rs : List ℕ
    rs = range_with_len before (now - before)

    upper : e ≡ b → ⊥
    upper q = none (left_among e ((b ∷ []) ++ another h b before) (range_with_len before (now - before)) (left_among e (b ∷ []) (another h b before) (inl q)))

    new : before ≤ e → e < now → ⊥
    new g k = none (right_among e ((b ∷ []) ++ another h b before) (range_with_len before (now - before)) (range_among (now - before) before e g (omega arith)))
