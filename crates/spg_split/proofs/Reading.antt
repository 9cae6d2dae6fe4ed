-- Lists of leaves, read and made one after another.
use Rattle.std.proofs.Common.{◌≡◌, ℕ, suc, ◌+◌, ◌<◌, List, [], ◌∷◌, ◌++◌, length, take, get_or, refl, sym, ap, ap₂, ◌∙◌, arith}
use Rattle.std.proofs.lemmas.List.{take_more, length-take-le, map_more}
use Rattle.std.proofs.Math.Seq.{take-length}
use Rattle.spg_forest.specs.Divisions.{rests_of}
use Rattle.spg_page.specs.Kinds.{IsLive}
use Rattle.spg_base.specs.Row.{RowAt}
use Rattle.spg_forest.specs.View.{Leaf}
use Rattle.spg_forest.specs.Tuples.{Tuple, Live, Placeholder}
use Rattle.spg_forest.specs.Pages.{tuple_on, all_live}
use Rattle.spg_forest.specs.Links.{leaves_on}
use Rattle.spg_page.specs.Reads.{no_leaf, leaf_in}
use Rattle.spg_descend.proofs.Rooms.{all_live-append}
use Rattle.spg_split.specs.Dividing.{AreAllLive, rows_of}
use Rattle.spg_split.specs.Placing.{leaves_with}
use Rattle.spg_chain.proofs.LiveLists.{length-all_live, all_live_at}

-- of a page of leaf tuples alone, the tuple at an offset
pub live_at : (ts : List Tuple) (k : ℕ) → AreAllLive ts → k < length ts → (length ts ≡ length (leaves_on ts)) × (tuple_on ts (suc k) ≡ Live (get_or (leaves_on ts) k no_leaf) 0)
live_at ts k e h =
    let n : length ts ≡ length (leaves_on ts) = ap length e ∙ length-all_live (leaves_on ts) in
    (n, ap (λ us. get_or us k Placeholder) e ∙ all_live_at (leaves_on ts) k no_leaf (omega arith))

pub leaves_of_live : (ls : List Leaf) → leaves_on (all_live ls) ≡ ls
leaves_of_live [] = refl
leaves_of_live (l ∷ ls) = ap (λ zs. l ∷ zs) (leaves_of_live ls)

-- one leaf more
leaves_with_push : (rs : List RowAt) (qs : List (List ℕ)) (r : RowAt) (q : List ℕ) → length rs ≡ length qs → leaves_with (rs ++ r ∷ []) (qs ++ q ∷ []) ≡ leaves_with rs qs ++ record { row = r; rest = q } ∷ []
leaves_with_push [] [] r q e = refl
leaves_with_push [] (p ∷ ps) r q e = absurd (omega arith)
leaves_with_push (a ∷ as1) [] r q e = absurd (omega arith)
leaves_with_push (a ∷ as1) (p ∷ ps) r q e = ap (λ zs. record { row = a; rest = p } ∷ zs) (leaves_with_push as1 ps r q (omega arith))

pub leaves_more : (rs : List RowAt) (qs : List (List ℕ)) (k : ℕ) (d : RowAt) → k < length rs → k < length qs →
    all_live (leaves_with (take (k + 1) rs) (take (k + 1) qs)) ≡ all_live (leaves_with (take k rs) (take k qs)) ++ Live (record { row = get_or rs k d; rest = get_or qs k [] }) 0 ∷ []
leaves_more rs qs k d a b =
    let n = length-take-le k rs (omega arith) in let m = length-take-le k qs (omega arith) in
    ap all_live (ap₂ leaves_with (take_more rs k d a) (take_more qs k [] b) ∙ leaves_with_push (take k rs) (take k qs) (get_or rs k d) (get_or qs k []) (omega arith)) ∙ all_live-append (leaves_with (take k rs) (take k qs)) (record { row = get_or rs k d; rest = get_or qs k [] })

-- one leaf more is read
pub rows_more : (ts : List Tuple) (k : ℕ) → AreAllLive ts → k < length ts → rows_of (take (k + 1) (leaves_on ts)) ≡ rows_of (take k (leaves_on ts)) ++ (leaf_in (tuple_on ts (k + 1))).row ∷ []
rows_more ts k e h =
    let (n, a) = live_at ts k e h in
    let s : k + 1 ≡ suc k = omega arith in
    let b : (leaf_in (tuple_on ts (k + 1))).row ≡ (get_or (leaves_on ts) k no_leaf).row = ap (λ i. (leaf_in (tuple_on ts i)).row) s ∙ ap (λ (t : Tuple). (leaf_in t).row) a in
    map_more (λ (l : Leaf). l.row) (leaves_on ts) k no_leaf (omega arith) ∙ ap (λ r. rows_of (take k (leaves_on ts)) ++ r ∷ []) (sym b)

pub rests_more : (ts : List Tuple) (k : ℕ) → AreAllLive ts → k < length ts → rests_of (take (k + 1) (leaves_on ts)) ≡ rests_of (take k (leaves_on ts)) ++ (leaf_in (tuple_on ts (k + 1))).rest ∷ []
rests_more ts k e h =
    let (n, a) = live_at ts k e h in
    let s : k + 1 ≡ suc k = omega arith in
    let b : (leaf_in (tuple_on ts (k + 1))).rest ≡ (get_or (leaves_on ts) k no_leaf).rest = ap (λ i. (leaf_in (tuple_on ts i)).rest) s ∙ ap (λ (t : Tuple). (leaf_in t).rest) a in
    map_more (λ (l : Leaf). l.rest) (leaves_on ts) k no_leaf (omega arith) ∙ ap (λ r. rests_of (take k (leaves_on ts)) ++ r ∷ []) (sym b)

pub live_there : (ts : List Tuple) (k : ℕ) → AreAllLive ts → k < length ts → IsLive (tuple_on ts (k + 1))
live_there ts k e h = let (n, a) = live_at ts k e h in let s : k + 1 ≡ suc k = omega arith in let b : tuple_on ts (k + 1) ≡ Live (get_or (leaves_on ts) k no_leaf) 0 = ap (tuple_on ts) s ∙ a in rw b refl

-- all are read
pub all_read : (ts : List Tuple) (k : ℕ) → AreAllLive ts → k ≡ length ts → take k (leaves_on ts) ≡ leaves_on ts
all_read ts k e h = let n : length ts ≡ length (leaves_on ts) = ap length e ∙ length-all_live (leaves_on ts) in let q : k ≡ length (leaves_on ts) = omega arith in ap (λ i. take i (leaves_on ts)) q ∙ take-length (leaves_on ts)
