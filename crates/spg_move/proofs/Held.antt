-- No section at an inner tuple, and no move of a chain, touches a block that another seat has latched.
use Rattle.std.proofs.Common.{◌≡◌, ℕ, ◌-◌, ◌<◌, ◌≤◌, ◌||◌, nat_eq, nat_le, Bool, true, false, List, [], ◌∷◌, ◌++◌, ◌⊎◌, ⊎_elim, Option, Some, length, refl, sym, ap, subst, inl, inr, arith}
use Rattle.std.specs.List.{range_with_len}
use Rattle.std.proofs.lemmas.Bool.{eq-eqb}
use Rattle.spg_forest.specs.View.{Place}
use Rattle.spg_forest.specs.Tuples.{Tuple, IsAmong}
use Rattle.spg_forest.specs.Sheets.{size_of}
use Rattle.spg_tree.specs.Table.{Table, sheet_at}
use Rattle.spg_tree.specs.Descents.{Descending, in_nulls}
use Rattle.spg_tree.specs.declared.stand.Stand.{Stand}
use Rattle.spg_tree.specs.declared.stand.Stand.TheVariants.{Start, Root, At, Empty}
use Rattle.spg_descend.specs.Follows.{tuple_place}
use Rattle.spg_descend.specs.Held.{IsNoOthers, TouchesFree, IsFreeHome}
use Rattle.spg_descend.specs.Leaves.{stand_block, parent_block, is_held}
use Rattle.spg_descend.proofs.Held.{MayTouch, picked_free, may_at, may_above, may_free, all_none, all_more, all_both, all_either, all_new, touches, touches_one}
use Rattle.spg_tree.specs.Another.{another}
use Rattle.spg_tree.proofs.Among.{left_among, right_among, range_among, another_cases}
use Rattle.spg_move.specs.Answers.{IsInnerOf}
use Rattle.spg_move.specs.Splitting.{lower_want, fits_beside, split_touched, IsHome, IsParted}
use Rattle.spg_move.specs.Widening.{node_want, blocks_shifted, widened_table, IsShifted}

-- the block on which the insert stands
here_held : (t : Table) (nulls : Bool) (st : Stand) (pa : Option (Place × ℕ)) → IsInnerOf t nulls st pa → is_held (stand_block st) (tuple_place st).block ≡ true
here_held t nulls Start pa a = absurd a
here_held t nulls (Root b) pa a = eq-eqb b b refl
here_held t nulls (At x) pa a = eq-eqb x.block x.block refl
here_held t nulls Empty pa a = absurd a

may_here : {Recon : Type 0} (t : Table) (d : Descending Recon) (seat : ℕ) (x : Place) → IsInnerOf t (in_nulls d) d.stand d.parent → x ≡ tuple_place d.stand → MayTouch t d seat x.block
may_here t d seat x a e = subst (λ (z : Place). MayTouch t d seat z.block) (sym e) (inl (here_held t (in_nulls d) d.stand d.parent a))

-- a chain that moves to block b
pub moved_held : {Recon : Type 0} (t t2 : Table) (d : Descending Recon) (seat b : ℕ) (x p : Place) (i : ℕ) → d.stand ≡ At x → d.parent ≡ Some (p, i) → IsNoOthers t seat b → t2.touched ≡ b ∷ x.block ∷ p.block ∷ [] → TouchesFree t t2 d seat
moved_held t t2 d seat b x p i s a free touched =
    let M : ℕ → Type 0 = MayTouch t d seat in
    touches t t2 d seat (b ∷ x.block ∷ p.block ∷ []) touched
    (all_more M b (x.block ∷ p.block ∷ []) (may_free t d seat b free) (all_more M x.block (p.block ∷ []) (may_at t d seat x s) (all_more M p.block [] (may_above t d seat p i a) (all_none M))))

-- a longer tuple that stays in its place
pub widened_held : {Recon : Type 0} (t t2 : Table) (d : Descending Recon) (seat : ℕ) (x : Place) (u : Tuple) → IsInnerOf t (in_nulls d) d.stand d.parent → x ≡ tuple_place d.stand → t2 ≡ widened_table t x u → TouchesFree t t2 d seat
widened_held t t2 d seat x u a e after = touches_one t t2 d seat x.block (ap (λ (z : Table). z.touched) after) (may_here t d seat x a e)

-- one that goes to another page
pub shifted_held : {Recon : Type 0} (t t2 : Table) (d : Descending Recon) (nulls : Bool) (x p : Place) (i : ℕ) (u : Tuple) (seat : ℕ) (to : Place) → d.stand ≡ At x → d.parent ≡ Some (p, i) → length t.latches ≡ length t.pages → IsShifted t t2 nulls x p i u seat to → TouchesFree t t2 d seat
shifted_held t t2 d nulls x p i u seat to s a latched P =
    let M : ℕ → Type 0 = MayTouch t d seat in
    let n : ℕ = length t.pages in
    let now : ℕ = length P.picked.pages in
    let xs : List ℕ = another p.block x.block n in
    let ys : List ℕ = another P.block p.block n in
    let rs : List ℕ = range_with_len n (now - n) in
    let us : List ℕ = (x.block ∷ []) ++ xs in
    let free : M P.block = may_free t d seat P.block (picked_free t P.picked (node_want nulls x.block (size_of u) seat) P.block P.is_picked) in
    touches t t2 d seat (blocks_shifted x.block p.block P.block n now) (ap (λ (z : Table). z.touched) P.after)
    (all_both M (us ++ ys) rs
    (all_both M us ys
    (all_both M (x.block ∷ []) xs (all_more M x.block [] (may_at t d seat x s) (all_none M)) (all_either M (nat_eq p.block x.block || nat_le n p.block) p.block (may_above t d seat p i a)))
    (all_either M (nat_eq P.block p.block || nat_le n P.block) P.block free))
    (all_new t d seat (now - n) latched))

-- the lower tuple's page
home_free : {Recon : Type 0} (beside : Bool) (t t1 : Table) (d : Descending Recon) (x : Place) (low : Tuple) (h seat : ℕ) → MayTouch t d seat x.block → IsHome beside t t1 x low h seat → MayTouch t d seat h
home_free true t t1 d x low h seat m (e, same) = subst (MayTouch t d seat) (sym e) m
home_free false t t1 d x low h seat m (q, P) = may_free t d seat h (picked_free t t1 (lower_want (sheet_at t x.block).nulls x.block low seat) h P)

-- an inner tuple that is split
pub split_held : {Recon : Type 0} (t t2 : Table) (d : Descending Recon) (x : Place) (c seat : ℕ) (up low : Tuple) → IsInnerOf t (in_nulls d) d.stand d.parent → x ≡ tuple_place d.stand → length t.latches ≡ length t.pages → IsParted t t2 x c seat up low → TouchesFree t t2 d seat
split_held t t2 d x c seat up low a e latched P =
    let M : ℕ → Type 0 = MayTouch t d seat in
    let n : ℕ = length t.pages in
    let now : ℕ = length P.housed.pages in
    let xs : List ℕ = another P.home x.block n in
    let rs : List ℕ = range_with_len n (now - n) in
    let here : M x.block = may_here t d seat x a e in
    touches t t2 d seat (split_touched x.block P.home n now) (ap (λ (z : Table). z.touched) P.after)
    (all_both M ((x.block ∷ []) ++ xs) rs
    (all_both M (x.block ∷ []) xs (all_more M x.block [] here (all_none M)) (all_either M (nat_eq P.home x.block || nat_le n P.home) P.home (home_free (fits_beside t x up low) t P.housed d x low P.home seat here P.goes)))
    (all_new t d seat (now - n) latched))

-- the page of a longer tuple that has gone elsewhere is among those touched
shift_touched : (x p b n now : ℕ) → p < n → b < now → IsAmong b (blocks_shifted x p b n now)
shift_touched x p b n now hp hb =
    ⊎_elim (λ e. subst (λ (k : ℕ). IsAmong k (blocks_shifted x p b n now)) (sym e) above) (λ c. ⊎_elim new (λ a. left_among b (((x ∷ []) ++ xs) ++ ys) rs (right_among b ((x ∷ []) ++ xs) ys a)) c) (another_cases b p n)
  where
    xs : List ℕ
    xs = another p x n

    ys : List ℕ
    ys = another b p n

    rs : List ℕ
    rs = range_with_len n (now - n)

    front : (k : ℕ) → IsAmong k ((x ∷ []) ++ xs) → IsAmong k (blocks_shifted x p b n now)
    front k a = left_among k (((x ∷ []) ++ xs) ++ ys) rs (left_among k ((x ∷ []) ++ xs) ys a)

    above : IsAmong p (blocks_shifted x p b n now)
    above = ⊎_elim (λ e. front p (left_among p (x ∷ []) xs (inl e))) (λ c. ⊎_elim (λ le. absurd (omega arith)) (λ a. front p (right_among p (x ∷ []) xs a)) c) (another_cases p x n)

    new : n ≤ b → IsAmong b (blocks_shifted x p b n now)
    new le = right_among b (((x ∷ []) ++ xs) ++ ys) rs (range_among (now - n) n b le (omega arith))

-- and no other seat has latched it
pub shifted_home : {Recon : Type 0} (t t2 : Table) (d : Descending Recon) (nulls : Bool) (x p : Place) (i : ℕ) (u : Tuple) (seat : ℕ) (to : Place) → p.block < length t.pages → IsShifted t t2 nulls x p i u seat to → IsFreeHome t t2 d.parent to.block seat
shifted_home t t2 d nulls x p i u seat to hp P =
    let at : to.block ≡ P.block = ap (λ (z : Place). z.block) P.at in
    let there : P.block < length P.picked.pages = P.is_picked.there in
    let among : IsAmong P.block t2.touched = subst (λ (bs : List ℕ). IsAmong P.block bs) (sym (ap (λ (z : Table). z.touched) P.after)) (shift_touched x.block p.block P.block (length t.pages) (length P.picked.pages) hp there) in
    let Is : ℕ → Type 0 = λ b. IsAmong b t2.touched × ((parent_block d.parent ≡ Some b) ⊎ IsNoOthers t seat b) in
    subst Is (sym at) (among, inr (picked_free t P.picked (node_want nulls x.block (size_of u) seat) P.block P.is_picked))
