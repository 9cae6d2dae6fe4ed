-- The room that lists of leaves take on a page.
use Rattle.std.proofs.Common.{◌≡◌, ℕ, zero, suc, ◌+◌, ◌-◌, ◌*◌, ◌≤◌, ◌<◌, List, [], ◌∷◌, ◌++◌, ⊎_elim, Option, Some, None, length, set, get_or, refl, sym, ap, ◌∙◌, subst, arith}
use Rattle.std.proofs.lemmas.Bool.{cases_eq}
use Rattle.spg_forest.specs.View.{Leaf}
use Rattle.spg_forest.specs.Tuples.{Tuple, Live, Placeholder, next_of, put_on}
use Rattle.spg_forest.specs.Pages.{tuple_on, with_tuple, all_live}
use Rattle.spg_forest.specs.Sheets.{weight, gaps, gap, size_of, free_place, relinked}
use Rattle.spg_forest.specs.Edits.{added}
use Rattle.spg_page.specs.Changes.{room_of}
use Rattle.spg_page.specs.Kinds.{IsLive}
use Rattle.spg_page.specs.Told.{number_of}
use Rattle.spg_page.proofs.SheetFacts.{free_place_free, free_place_full, free_place_below, free_place_length, weight-append, gaps-append, weight-set, gaps-set, relinked_size, relinked_gap, weight-replaced, gaps-replaced}
use Rattle.spg_page.proofs.SheetLaws.{with_tuple-set, with_tuple-push}
use Rattle.spg_chain.specs.Added.{IsLeafIn}
use Rattle.spg_chain.proofs.Laid.{head_there, live_tuple, with_tuple_at, added_behind}
use Rattle.spg_forest.proofs.Chain.{put_on_same}
use Rattle.spg_chain.specs.Listed.{HaveRoom}

-- each leaf tuple takes at least 20 bytes with its item pointer
pub least_weight : (ls : List Leaf) → 20 * length ls ≤ weight (all_live ls)
least_weight [] = omega arith
least_weight (l ∷ ls) = let h = least_weight ls in omega arith

-- how bytes and placeholders change where a leaf tuple is put at the free place
pub data Change (ts us : List Tuple) (size : ℕ) : Type 0 where
  behind : gaps ts ≡ 0 → gaps us ≡ 0 → weight us ≡ weight ts + (size + 4) → Change ts us size
  filled : gaps us + 1 ≡ gaps ts → weight us + 16 ≡ weight ts + size → Change ts us size

set_at : (ts : List Tuple) (k : ℕ) (t : Tuple) → k < length ts → with_tuple ts (suc k) t ≡ set ts k t
set_at ts k t h = let e : suc k - 1 ≡ k = omega arith in with_tuple-set ts (suc k) t (omega arith) (omega arith) ∙ ap (λ i. set ts i t) e

pub put_change : (ts : List Tuple) (l : Leaf) (n : ℕ) → Change ts (with_tuple ts (suc (free_place ts)) (Live l n)) (size_of (Live l n))
put_change ts l n = ⊎_elim
    (λ none. let e : with_tuple ts (suc (free_place ts)) (Live l n) ≡ ts ++ Live l n ∷ [] = with_tuple-push ts (suc (free_place ts)) (Live l n) (ap suc (free_place_full ts none)) in
    let a = weight-append ts (Live l n ∷ []) in let b = gaps-append ts (Live l n ∷ []) in
    let ea = ap weight e in let eb = ap gaps e in
    Change.behind none (omega arith) (omega arith))
    (λ some. let below : free_place ts < length ts = free_place_below ts (omega arith) in
    let e : with_tuple ts (suc (free_place ts)) (Live l n) ≡ set ts (free_place ts) (Live l n) = set_at ts (free_place ts) (Live l n) below in
    let a = weight-set ts (free_place ts) (Live l n) below in
    let b = gaps-set ts (free_place ts) (Live l n) below in
    let p : size_of (get_or ts (free_place ts) Placeholder) ≡ 16 = ap size_of (free_place_free ts) in
    let q : gap (get_or ts (free_place ts) Placeholder) ≡ 1 = ap gap (free_place_free ts) in
    let ea = ap weight e in let eb = ap gaps e in
    Change.filled (omega arith) (omega arith)) (cases_eq (gaps ts) 0)

-- a leaf linked behind the one before takes as much
pub added_change : (ts : List Tuple) (last : Option ℕ) (l : Leaf) → IsLeafIn ts last → Change ts (added ts (number_of last) (suc (free_place ts)) l) (size_of (Live l 0))
added_change ts None l a = put_change ts l 0
added_change ts (Some zero) l a = cc
added_change ts (Some (suc j)) l a =
    let (k, n, e) = live_tuple (tuple_on ts (suc j)) a in
    let t : Tuple = Live l (next_of (tuple_on ts (suc j))) in
    let us : List Tuple = with_tuple ts (suc (free_place ts)) t in
    let h = head_there ts (suc j) k n (suc (free_place ts)) t refl e in
    let u : Tuple = relinked (tuple_on us (suc j)) (suc (free_place ts)) in
    let w = weight-replaced us (suc j) u h.0 in
    let g = gaps-replaced us (suc j) u h.0 in
    let s = relinked_size (tuple_on us (suc j)) (suc (free_place ts)) in
    let r = relinked_gap (tuple_on us (suc j)) (suc (free_place ts)) in
    go (put_change ts l (next_of (tuple_on ts (suc j)))) (omega arith) (omega arith)
  where
    go : {vs us : List Tuple} {size : ℕ} → Change ts us size → weight vs ≡ weight us → gaps vs ≡ gaps us → Change ts vs size
    go (Change.behind x y z) w g = Change.behind x (omega arith) (omega arith)
    go (Change.filled y z) w g = Change.filled (omega arith) (omega arith)

-- of several leaves that have room the first has room alone
pub first_room : (ts : List Tuple) (l : Leaf) (ls : List Leaf) → HaveRoom ts (l ∷ ls) → size_of (Live l 0) + 4 ≤ room_of ts 1
first_room ts l ls H = let a = least_weight ls in let f = H.fits in let r = H.room in omega arith

-- and the others still have room behind it
pub rest_room : (ts us : List Tuple) (l : Leaf) (ls : List Leaf) → HaveRoom ts (l ∷ ls) → Change ts us (size_of (Live l 0)) → HaveRoom us ls
rest_room ts us l ls H (Change.behind x y z) = let a = least_weight ls in let f = H.fits in let r = H.room in record { fits = omega arith; room = omega arith }
rest_room ts us l ls H (Change.filled y z) = let a = least_weight ls in let f = H.fits in let r = H.room in record { fits = omega arith; room = omega arith }

-- a live leaf tuple stands where it was put
pub added_live : (ts : List Tuple) (last : Option ℕ) (l : Leaf) → IsLeafIn ts last → IsLive (tuple_on (added ts (number_of last) (suc (free_place ts)) l) (suc (free_place ts)))
added_live ts None l a = rw (with_tuple_at ts (free_place ts) (Live l 0) (free_place_length ts)) refl
added_live ts (Some zero) l a = cc
added_live ts (Some (suc j)) l a =
    let (k, n, e) = live_tuple (tuple_on ts (suc j)) a in
    let o : ℕ = suc (free_place ts) in
    let f : tuple_on (added ts (suc j) o l) o ≡ Live l n = ap (λ (T : ℕ → Tuple). T o) (added_behind ts j k l n e) ∙ put_on_same (put_on (tuple_on ts) (suc j) (Live k o)) o (Live l n) o refl in
    subst IsLive (sym f) refl
