-- What a list of leaves takes on its page, and how it spreads.
use Rattle.std.proofs.Common.{◌≡◌, ℕ, zero, suc, ◌+◌, ◌-◌, ◌*◌, ◌≤◌, ◌<◌, List, [], ◌∷◌, Option, Some, None, length, nat_eq, refl, ap, ◌∙◌, arith}
use Rattle.std.specs.Prelude.{min}
use Rattle.std.proofs.lemmas.Bool.{cond-false, ne_eqb}
use Rattle.spg_forest.specs.View.{Leaf}
use Rattle.spg_forest.specs.Tuples.{Tuple, Live, put_on, next_of}
use Rattle.spg_forest.specs.Pages.{all_live, tuple_on, with_tuple}
use Rattle.spg_forest.specs.Sheets.{weight, gaps, size_of, free_place, relinked}
use Rattle.spg_forest.specs.Edits.{added}
use Rattle.spg_forest.specs.Walk.{spread_on, spread_at}
use Rattle.spg_forest.proofs.Stock.{spread_with}
use Rattle.spg_forest.proofs.Chain.{put_on_same}
use Rattle.spg_page.specs.Changes.{room_of}
use Rattle.spg_page.specs.Told.{number_of}
use Rattle.spg_page.proofs.SheetFacts.{free_place_free, free_place_length}
use Rattle.spg_chain.specs.Added.{IsLeafIn}
use Rattle.spg_chain.specs.Listed.{chained, HaveRoom}
use Rattle.spg_chain.proofs.Laid.{head_there, added_behind, with_tuple_at}
use Rattle.spg_chain.proofs.Room.{Change, added_change, added_live, least_weight}

abbrev pub bytes : List Leaf → ℕ
bytes ls = weight (all_live ls)

abbrev pub count : List Leaf → ℕ
count ls = length ls

-- what a chain takes on a page: it fills placeholders first
pub chain_takes : (ts : List Tuple) (last : Option ℕ) (ls : List Leaf) → IsLeafIn ts last →
    (weight (chained ts (number_of last) ls) + 20 * min (length ls) (gaps ts) ≡ weight ts + weight (all_live ls)) × (gaps (chained ts (number_of last) ls) + min (length ls) (gaps ts) ≡ gaps ts)
chain_takes ts last [] a = (omega arith, omega arith)
chain_takes ts last (l ∷ ls) a =
    let us : List Tuple = added ts (number_of last) (suc (free_place ts)) l in
    let (x, y) = chain_takes us (Some (suc (free_place ts))) ls (added_live ts last l a) in
    go us (chained us (suc (free_place ts)) ls) (added_change ts last l a) x y
  where
    go : (us vs : List Tuple) → Change ts us (size_of (Live l 0)) → weight vs + 20 * min (length ls) (gaps us) ≡ weight us + weight (all_live ls) → gaps vs + min (length ls) (gaps us) ≡ gaps us →
        (weight vs + 20 * min (suc (length ls)) (gaps ts) ≡ weight ts + weight (all_live (l ∷ ls))) × (gaps vs + min (suc (length ls)) (gaps ts) ≡ gaps ts)
    go us vs (Change.behind x y z) p q = (omega arith, omega arith)
    go us vs (Change.filled y z) p q = (omega arith, omega arith)

-- so it changes the page
pub chained_differs : (ts : List Tuple) (ls : List Leaf) → 0 < length ls → chained ts 0 ls ≡ ts → ⊥
chained_differs ts [] h e = absurd (omega arith)
chained_differs ts (l ∷ ls) h e = let (a, b) = chain_takes ts None (l ∷ ls) tt in let w = ap weight e in let g = ap gaps e in absurd (omega arith)

-- a chain leaves the room that others want
pub chain_room : (ts : List Tuple) (last : Option ℕ) (ls : List Leaf) (w c : ℕ) → IsLeafIn ts last → weight ts ≤ 8160 → 20 * c ≤ w → bytes ls + w ≤ room_of ts (count ls + c) → (weight (chained ts (number_of last) ls) ≤ 8160) × (w ≤ room_of (chained ts (number_of last) ls) c)
chain_room ts last [] w c a f m r = (f, omega arith)
chain_room ts last (l ∷ ls) w c a f m r =
    let us : List Tuple = added ts (number_of last) (suc (free_place ts)) l in
    let s = least_weight ls in
    let (x, y) = go us (added_change ts last l a) s in
    chain_room us (Some (suc (free_place ts))) ls w c (added_live ts last l a) x m y
  where
    go : (us : List Tuple) → Change ts us (size_of (Live l 0)) → 20 * count ls ≤ bytes ls → (weight us ≤ 8160) × (bytes ls + w ≤ room_of us (count ls + c))
    go us (Change.behind x y z) s = (omega arith, omega arith)
    go us (Change.filled y z) s = (omega arith, omega arith)

abbrev pub but_first : List Leaf → ℕ
but_first ls = length ls - 1

-- how the lists spread on their page
chain_spread : (ts : List Tuple) (j : ℕ) (k : Leaf) (ls : List Leaf) → tuple_on ts j ≡ Live k 0 → spread_on (chained ts j ls) ≡ spread_on ts + length ls
chain_spread ts j k [] e = omega arith
chain_spread ts zero k (l ∷ ls) e = cc
chain_spread ts (suc i) k (l ∷ ls) e =
    let o : ℕ = suc (free_place ts) in
    let f : free_place ts ≤ length ts = free_place_length ts in
    let t : Tuple = Live l (next_of (tuple_on ts (suc i))) in
    let us : List Tuple = with_tuple ts o t in
    let h = head_there ts (suc i) k 0 o t refl e in
    let a = spread_with ts o t (omega arith) (omega arith) in
    let q = ap spread_at (free_place_free ts) in
    let z : spread_at t ≡ 0 = ap (λ u. spread_at (Live l (next_of u))) e in
    let u : Tuple = relinked (tuple_on us (suc i)) o in
    let b = spread_with us (suc i) u (omega arith) (let w = h.0.1 in omega arith) in
    let x : spread_at u ≡ 1 = ap (λ v. spread_at (relinked v o)) h.1 ∙ cond-false (nat_eq o 0) 0 1 (ne_eqb o 0 (λ e. absurd (omega arith))) in
    let y : spread_at (tuple_on us (suc i)) ≡ 0 = ap spread_at h.1 in
    let at : tuple_on (added ts (suc i) o l) o ≡ Live l 0 = ap (λ (T : ℕ → Tuple). T o) (added_behind ts i k l 0 e) ∙ put_on_same (put_on (tuple_on ts) (suc i) (Live k o)) o (Live l 0) o refl in
    let c = chain_spread (added ts (suc i) o l) o l ls at in
    omega arith

pub list_spread : (ts : List Tuple) (ls : List Leaf) → spread_on (chained ts 0 ls) ≡ spread_on ts + but_first ls
list_spread ts [] = omega arith
list_spread ts (l ∷ ls) =
    let o : ℕ = suc (free_place ts) in
    let f : free_place ts ≤ length ts = free_place_length ts in
    let a = spread_with ts o (Live l 0) (omega arith) (omega arith) in
    let q = ap spread_at (free_place_free ts) in
    let c = chain_spread (added ts 0 o l) o l ls (with_tuple_at ts (free_place ts) (Live l 0) f) in
    omega arith

-- a list that has room fits
pub list_fits : (ts : List Tuple) (ls : List Leaf) → HaveRoom ts ls → weight (chained ts 0 ls) ≤ 8160
list_fits ts ls r =
    let q = r.room in
    let e : count ls + 0 ≡ length ls = omega arith in
    let (x, y) = chain_room ts None ls 0 0 tt r.fits (omega arith) (rw e (omega arith)) in x
