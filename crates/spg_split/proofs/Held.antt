-- A division touches no block that another seat has latched.
use Rattle.std.proofs.Common.{◌≡◌, ℕ, ◌+◌, ◌-◌, ◌<◌, ◌≤◌, ◌||◌, nat_eq, nat_le, Bool, true, false, List, [], ◌∷◌, ◌++◌, Some, ◌⊎◌, ⊎_elim, length, ap, ◌∙◌, subst, sym, inl, inr, arith}
use Rattle.std.specs.List.{range_with_len}
use Rattle.spg_forest.specs.View.{Place}
use Rattle.spg_forest.specs.Tuples.{Tuple, IsAmong}
use Rattle.spg_forest.specs.Sheets.{size_of}
use Rattle.spg_tree.specs.Table.{Table, sheet_at}
use Rattle.spg_tree.specs.Descents.{Descending}
use Rattle.spg_tree.specs.declared.stand.Stand.TheVariants.{Root, At}
use Rattle.spg_descend.specs.Held.{TouchesFree, IsNoOthers, IsFreeHome, StandsFree}
use Rattle.spg_descend.specs.Leaves.{parent_block}
use Rattle.spg_descend.proofs.Held.{MayTouch, picked_free, first_free, second_free, may_root, may_at, may_above, may_free, AreAll, all_none, all_more, all_both, all_either, all_new, touches, touches_two}
use Rattle.spg_split.specs.declared.parts.Parts.{Parts}
use Rattle.spg_split.specs.declared.chain.ChainOut.{ChainOut}
use Rattle.spg_split.specs.declared.plan.ListSize.{ListSize}
use Rattle.spg_split.specs.declared.homes.Homes.{Homes}
use Rattle.spg_split.specs.Homes.{AreHomes, fits_above, inner_want, rest_want, blocks_touched}
use Rattle.spg_tree.specs.Another.{another}
use Rattle.spg_split.specs.Parts.{PutsLists, lists_want}
use Rattle.spg_split.specs.Divides.{IsDividedBelow}
use Rattle.spg_split.specs.Ways.{NotesChain}
use Rattle.spg_split.specs.declared.put.Divided.{Divided}
use Rattle.spg_split.specs.declared.put.Divided.TheVariants.{With, Without}
use Rattle.spg_split.specs.declared.split.SplitOut.{SplitOut}
use Rattle.spg_tree.proofs.Among.{left_among, right_among, range_among, another_cases}

-- a division at a root
pub root_held : {Recon : Type 0} (t t2 : Table) (d : Descending Recon) (root seat : ℕ) (p : Parts) (leaves : List Tuple) → d.stand ≡ Root root → PutsLists t t2 root seat p leaves → TouchesFree t t2 d seat
root_held t t2 d root seat p leaves s P =
    touches_two t t2 d seat P.block root (ap (λ (z : Table). z.touched) P.after)
    (may_free t d seat P.block (picked_free t P.picked (lists_want (sheet_at t root).nulls leaves seat) P.block P.is_picked)) (may_root t d seat root s)

-- the pages to which a division below a root goes
homes_are : {Recon : Type 0} (here away : Bool) (t t2 : Table) (d : Descending Recon) (seat b p need : ℕ) (nulls : Bool) (rest : ListSize) (h : Homes) → MayTouch t d seat b → MayTouch t d seat p →
    AreHomes here away t t2 b p (inner_want nulls p need seat) (rest_want nulls b rest seat) h → MayTouch t d seat h.inner × MayTouch t d seat h.rest
homes_are true false t t2 d seat b p need nulls rest h mb mp (i, r, e) = (subst (MayTouch t d seat) (sym i) mp, subst (MayTouch t d seat) (sym r) mb)
homes_are true true t t2 d seat b p need nulls rest h mb mp (i, q, P) = (subst (MayTouch t d seat) (sym i) mp, may_free t d seat h.rest (picked_free t t2 (rest_want nulls b rest seat) h.rest P))
homes_are false false t t2 d seat b p need nulls rest h mb mp (r, q, P) = (may_free t d seat h.inner (picked_free t t2 (inner_want nulls p need seat) h.inner P), subst (MayTouch t d seat) (sym r) mb)
homes_are false true t t2 d seat b p need nulls rest h mb mp (q, P) =
    (may_free t d seat h.inner (first_free t t2 (inner_want nulls p need seat) (rest_want nulls b rest seat) h.inner h.rest P), may_free t d seat h.rest (second_free t t2 (inner_want nulls p need seat) (rest_want nulls b rest seat) h.inner h.rest P))

-- and all blocks that it touches
all_touched : {Recon : Type 0} (t : Table) (d : Descending Recon) (seat b p now : ℕ) (h : Homes) → length t.latches ≡ length t.pages → MayTouch t d seat b → MayTouch t d seat p → MayTouch t d seat h.inner × MayTouch t d seat h.rest →
    AreAll (MayTouch t d seat) (blocks_touched b p h (length t.pages) now)
all_touched t d seat b p now h latched mb mp (mi, mr) =
    let M : ℕ → Type 0 = MayTouch t d seat in
    let n : ℕ = length t.pages in
    let xs : List ℕ = another h.inner p n in
    let ys : List ℕ = another h.rest b n in
    let rs : List ℕ = range_with_len n (now - n) in
    let us : List ℕ = (b ∷ p ∷ []) ++ xs in
    all_both M (us ++ ys) rs
    (all_both M us ys
    (all_both M (b ∷ p ∷ []) xs (all_more M b (p ∷ []) mb (all_more M p [] mp (all_none M))) (all_either M (nat_eq h.inner p || nat_le n h.inner) h.inner mi))
    (all_either M (nat_eq h.rest b || nat_le n h.rest) h.rest mr))
    (all_new t d seat (now - n) latched)

-- a division below a root
pub chain_held : {Recon : Type 0} (t t2 : Table) (d : Descending Recon) (x p : Place) (i seat : ℕ) (parts : Parts) (done : ChainOut) → d.stand ≡ At x → d.parent ≡ Some (p, i) → length t.latches ≡ length t.pages → IsDividedBelow t t2 x p i seat parts done → TouchesFree t t2 d seat
chain_held t t2 d x p i seat parts done s a latched P =
    let mb = may_at t d seat x s in
    let mp = may_above t d seat p i a in
    touches t t2 d seat (blocks_touched x.block p.block P.homes (length t.pages) (length P.housed.pages)) (ap (λ (z : Table). z.touched) P.after)
    (all_touched t d seat x.block p.block (length P.housed.pages) P.homes latched mb mp
    (homes_are (fits_above t p.block (size_of parts.inner + 4)) (nat_le 1 P.plan.rest.tuples) t P.housed d seat x.block p.block (size_of parts.inner + 4) (sheet_at t x.block).nulls P.plan.rest P.homes mb mp P.picks))

-- the page of its inner tuple
inner_home : (here away : Bool) (t t2 : Table) (seat b p need : ℕ) (nulls : Bool) (rest : ListSize) (h : Homes) →
    AreHomes here away t t2 b p (inner_want nulls p need seat) (rest_want nulls b rest seat) h → (h.inner ≡ p) ⊎ (IsNoOthers t seat h.inner × (h.inner < length t2.pages))
inner_home true false t t2 seat b p need nulls rest h (i, r, e) = inl i
inner_home true true t t2 seat b p need nulls rest h (i, q, P) = inl i
inner_home false false t t2 seat b p need nulls rest h (r, q, P) = inr (picked_free t t2 (inner_want nulls p need seat) h.inner P, P.there)
inner_home false true t t2 seat b p need nulls rest h (q, P) =
    let a : h.inner < length P.between.pages = P.first.there in
    let l : length P.between.pages ≤ length t2.pages = P.second.least in
    inr (first_free t t2 (inner_want nulls p need seat) (rest_want nulls b rest seat) h.inner h.rest P, omega arith)

-- is among those touched
inner_touched : (b p n now : ℕ) (h : Homes) → (h.inner ≡ p) ⊎ (h.inner < now) → IsAmong h.inner (blocks_touched b p h n now)
inner_touched b p n now h where_is =
    ⊎_elim above (λ c. ⊎_elim new (λ a. front (right_among h.inner (b ∷ p ∷ []) xs a)) c) (another_cases h.inner p n)
  where
    xs : List ℕ
    xs = another h.inner p n

    ys : List ℕ
    ys = another h.rest b n

    rs : List ℕ
    rs = range_with_len n (now - n)

    front : IsAmong h.inner ((b ∷ p ∷ []) ++ xs) → IsAmong h.inner (blocks_touched b p h n now)
    front a = left_among h.inner (((b ∷ p ∷ []) ++ xs) ++ ys) rs (left_among h.inner ((b ∷ p ∷ []) ++ xs) ys a)

    above : h.inner ≡ p → IsAmong h.inner (blocks_touched b p h n now)
    above e = front (left_among h.inner (b ∷ p ∷ []) xs (inr (inl e)))

    new : n ≤ h.inner → IsAmong h.inner (blocks_touched b p h n now)
    new le = ⊎_elim above (λ k. right_among h.inner (((b ∷ p ∷ []) ++ xs) ++ ys) rs (range_among (now - n) n h.inner le (omega arith))) where_is

-- where the new inner tuple stands
pub chain_home : {Recon : Type 0} (t t2 : Table) (d : Descending Recon) (x p : Place) (i seat : ℕ) (parts : Parts) (done : ChainOut) → d.parent ≡ Some (p, i) → IsDividedBelow t t2 x p i seat parts done → IsFreeHome t t2 d.parent done.at.block seat
chain_home t t2 d x p i seat parts done a P =
    let h : Homes = P.homes in
    let now : ℕ = length P.housed.pages in
    let home = inner_home (fits_above t p.block (size_of parts.inner + 4)) (nat_le 1 P.plan.rest.tuples) t P.housed seat x.block p.block (size_of parts.inner + 4) (sheet_at t x.block).nulls P.plan.rest h P.picks in
    let at : done.at.block ≡ h.inner = ap (λ (z : Place). z.block) P.at in
    let among : IsAmong h.inner t2.touched = subst (λ (bs : List ℕ). IsAmong h.inner bs) (sym (ap (λ (z : Table). z.touched) P.after)) (inner_touched x.block p.block (length t.pages) now h (⊎_elim (λ e. inl e) (λ f. inr f.1) home)) in
    let above : parent_block d.parent ≡ Some p.block = ap parent_block a in
    let free : (parent_block d.parent ≡ Some h.inner) ⊎ IsNoOthers t seat h.inner = ⊎_elim (λ e. inl (above ∙ ap (λ (b : ℕ). Some b) (sym e))) (λ f. inr f.0) home in
    let Is : ℕ → Type 0 = λ b. IsAmong b t2.touched × ((parent_block d.parent ≡ Some b) ⊎ IsNoOthers t seat b) in
    subst Is (sym at) (among, free)

-- where the insert stands then
pub noted_free : {Recon : Type 0} (t t2 : Table) (d d2 : Descending Recon) (z : Place) (seat : ℕ) (way : Divided) (out : SplitOut) → NotesChain d d2 z way out → IsFreeHome t t2 d.parent z.block seat → StandsFree t t2 d d2 seat
noted_free t t2 d d2 z seat With out (o, e) h = inl (ap (λ (x : Descending _). x.stand) e)
noted_free t t2 d d2 z seat (Without false) out (o, e) h = inr (z, ap (λ (x : Descending _). x.stand) e, h)
noted_free t t2 d d2 z seat (Without true) out (o, e) h = inr (z, ap (λ (x : Descending _). x.stand) e, h)
