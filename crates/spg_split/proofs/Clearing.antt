-- A root leaf page on its way to an inner page.
use Rattle.std.proofs.Common.{◌≡◌, ℕ, zero, suc, ◌+◌, ◌-◌, ◌≤◌, ◌<◌, List, [], ◌∷◌, ◌++◌, Option, Some, None, IfSome, length, length-append, set, take, get_or, slice_get, nat_le, refl, sym, ap, ap₂, ◌∙◌, subst, arith}
use Rattle.std.proofs.lemmas.Bool.{cond-false, lt-leb}
use Rattle.std.proofs.lemmas.List.{length-replicate, take_more, length-take-le}
use Rattle.std.proofs.lemmas.Option.{slice_get-get_or}
use Rattle.spg_forest.specs.Tuples.{put_on, Tuple, Inner, Live, Placeholder}
use Rattle.spg_forest.specs.Sheets.{links as links_of, Sheet, with_tuples, linked}
use Rattle.spg_forest.proofs.Chain.{put_on_same}
use Rattle.spg_forest.proofs.Edits.{tuple_on-with}
use Rattle.spg_forest.proofs.Writes.{with_tuple_longer}
use Rattle.spg_chain.proofs.Laid.{with_tuple_again}
use Rattle.spg_page.specs.Reads.{frame_in, no_leaf}
use Rattle.std.specs.List.{remove}
use Rattle.std.proofs.Math.Seq.{set-append_seam}
use Rattle.spg_forest.specs.View.{Place}
use Rattle.spg_forest.specs.Pages.{tuple_on, with_tuple}
use Rattle.spg_forest.specs.Spot.{Frame}
use Rattle.spg_page.specs.Kinds.{IsOffset, IsLive}
use Rattle.spg_forest.specs.Links.{leaves_on}
use Rattle.spg_split.specs.Dividing.{AreAllLive}
use Rattle.spg_descend.specs.BareNodes.{bare}
use Rattle.spg_split.proofs.Reading.{live_at}

-- the last of the first k tuples
pub remove_last : (ts : List Tuple) (k : ℕ) → k < length ts → remove (take (suc k) ts) k ≡ take k ts
remove_last [] k h = absurd (omega arith)
remove_last (t ∷ ts) zero h = refl
remove_last (t ∷ ts) (suc k) h = ap (λ us. t ∷ us) (remove_last ts k (omega arith))

take_at : (ts : List Tuple) (k j : ℕ) → j < k → get_or (take k ts) j Placeholder ≡ get_or ts j Placeholder
take_at ts zero j h = absurd (omega arith)
take_at [] (suc k) j h = refl
take_at (t ∷ ts) (suc k) zero h = refl
take_at (t ∷ ts) (suc k) (suc j) h = take_at ts k j (omega arith)

pub last_live : (ts : List Tuple) (k : ℕ) → AreAllLive ts → k ≤ length ts → 0 < k → IsOffset (take k ts) k × IsLive (tuple_on (take k ts) k)
last_live ts zero e h p = absurd (omega arith)
last_live ts (suc k) e h p =
    let n = length-take-le (suc k) ts h in
    let (m, a) = live_at ts k e (omega arith) in
    let b : tuple_on (take (suc k) ts) (suc k) ≡ Live (get_or (leaves_on ts) k no_leaf) 0 = take_at ts (suc k) k (omega arith) ∙ a in
    ((omega arith, omega arith), rw b refl)

-- one downlink more is set
pub link_more : (links : List (Option Place)) (k : ℕ) (d : Option Place) → k < length links → set (take k links ++ bare (length links - k)) k (get_or links k d) ≡ take (k + 1) links ++ bare (length links - (k + 1))
link_more links k d h =
    let e : length links - k ≡ suc (length links - (k + 1)) = omega arith in
    let n : length (take k links) ≡ k = length-take-le k links (omega arith) in
    ap (λ i. set (take k links ++ bare i) k (get_or links k d)) e
    ∙ ap (λ i. set (take k links ++ None ∷ bare (length links - (k + 1))) i (get_or links k d)) (sym n)
    ∙ set-append_seam (take k links) None (bare (length links - (k + 1))) (get_or links k d)
    ∙ go (take k links) (get_or links k d) (bare (length links - (k + 1)))
    ∙ ap (λ zs. zs ++ bare (length links - (k + 1))) (sym (take_more links k d h))
  where
    go : (xs : List (Option Place)) (y : Option Place) (zs : List (Option Place)) → xs ++ y ∷ zs ≡ (xs ++ y ∷ []) ++ zs
    go [] y zs = refl
    go (x ∷ xs) y zs = ap (λ us. x ∷ us) (go xs y zs)

-- an inner tuple at an offset of a page
there : (ts : List Tuple) (o : ℕ) (t : Tuple) → IsOffset ts o → tuple_on (with_tuple ts o t) ≡ put_on (tuple_on ts) o t
there ts o t h = tuple_on-with ts o t h.0 (let k = h.1 in omega arith)

again : (ts : List Tuple) (o : ℕ) (t u : Tuple) → IsOffset ts o → with_tuple (with_tuple ts o t) o u ≡ with_tuple ts o u
again ts zero t u h = refl
again ts (suc k) t u h = with_tuple_again ts k t u (let a = h.1 in omega arith)

same_put : (ts : List Tuple) (o : ℕ) → IsOffset ts o → with_tuple ts o (tuple_on ts o) ≡ ts
same_put ts zero h = refl
same_put ts (suc k) h = cond-false (nat_le (length ts) k) (ts ++ tuple_on ts (suc k) ∷ []) (set ts k (tuple_on ts (suc k))) (lt-leb (length ts) k (let a = h.1 in omega arith)) ∙ go ts k
  where
    go : (ts : List Tuple) (k : ℕ) → set ts k (get_or ts k Placeholder) ≡ ts
    go [] k = refl
    go (t ∷ ts) zero = refl
    go (t ∷ ts) (suc k) = ap (λ us. t ∷ us) (go ts k)

offset_kept : (ts : List Tuple) (o : ℕ) (t : Tuple) → IsOffset ts o → IsOffset (with_tuple ts o t) o
offset_kept ts o t h = let a = with_tuple_longer ts o t in let b = h.0 in let c = h.1 in (b, omega arith)

pub links_begin : (p : Sheet) (o : ℕ) (links : List (Option Place)) → IsOffset p.tuples o → tuple_on p.tuples o ≡ Inner (frame_in (tuple_on p.tuples o)) (bare (length links)) →
    p ≡ with_tuples p (with_tuple p.tuples o (Inner (frame_in (tuple_on p.tuples o)) (take 0 links ++ bare (length links - 0))))
links_begin p o links h e =
    let z : length links ≡ length links - 0 = omega arith in
    ap (λ us. with_tuples p us) (sym (same_put p.tuples o h) ∙ ap (with_tuple p.tuples o) (e ∙ ap (λ n. Inner (frame_in (tuple_on p.tuples o)) (bare n)) z))

links_at : (p q : Sheet) (o : ℕ) (t : Tuple) → IsOffset p.tuples o → q ≡ with_tuples p (with_tuple p.tuples o t) → tuple_on q.tuples o ≡ t
links_at p q o t h e = ap (λ (z : Sheet). tuple_on z.tuples o) e ∙ ap (λ (T : ℕ → Tuple). T o) (there p.tuples o t h) ∙ put_on_same (tuple_on p.tuples) o t o refl

pub links_there : (p q : Sheet) (o : ℕ) (w : Frame) (links : List (Option Place)) (k : ℕ) (to : Option Place) → k < length links → IsOffset p.tuples o → ((i : ℕ) (y : Place) → slice_get links i ≡ Some (Some y) → (0 < y.block) × (0 < y.offset)) →
    q ≡ with_tuples p (with_tuple p.tuples o (Inner w (take k links ++ bare (length links - k)))) → to ≡ get_or links k to →
    IsOffset q.tuples o × (k < length (links_of (tuple_on q.tuples o))) × IfSome to (λ y. (0 < y.block) × (0 < y.offset))
links_there p q o w links k to h off pos e is =
    let t : Tuple = Inner w (take k links ++ bare (length links - k)) in
    let a = ap (λ (z : Tuple). length (links_of z)) (links_at p q o t off e) in
    let b = length-append (take k links) (bare (length links - k)) in
    let c = length-take-le k links (omega arith) in
    let d : length (bare (length links - k)) ≡ length links - k = length-replicate (length links - k) None in
    (subst (λ (z : Sheet). IsOffset z.tuples o) (sym e) (offset_kept p.tuples o t off), omega arith, go to (slice_get-get_or links k to h ∙ ap Some (sym is)))
  where
    go : (y : Option Place) → slice_get links k ≡ Some y → IfSome y (λ y. (0 < y.block) × (0 < y.offset))
    go None e = tt
    go (Some y) e = pos k y e

pub links_step : (p q q2 : Sheet) (o : ℕ) (w : Frame) (links : List (Option Place)) (k : ℕ) (to : Option Place) → k < length links → IsOffset p.tuples o → q ≡ with_tuples p (with_tuple p.tuples o (Inner w (take k links ++ bare (length links - k)))) → to ≡ get_or links k to →
    q2 ≡ with_tuples q (with_tuple q.tuples o (linked (tuple_on q.tuples o) k to)) → q2 ≡ with_tuples p (with_tuple p.tuples o (Inner w (take (k + 1) links ++ bare (length links - (k + 1)))))
links_step p q q2 o w links k to h off a b c =
    let t : Tuple = Inner w (take k links ++ bare (length links - k)) in
    let g : tuple_on q.tuples o ≡ t = links_at p q o t off a in
    let n : linked (tuple_on q.tuples o) k to ≡ Inner w (take (k + 1) links ++ bare (length links - (k + 1))) = ap (λ (z : Tuple). linked z k to) g ∙ ap (λ (y : Option Place). Inner w (set (take k links ++ bare (length links - k)) k y)) b ∙ ap (Inner w) (link_more links k to h) in
    c ∙ ap₂ (λ (z : Sheet) (u : Tuple). with_tuples z (with_tuple z.tuples o u)) a n ∙ ap (λ us. with_tuples p us) (again p.tuples o t (Inner w (take (k + 1) links ++ bare (length links - (k + 1)))) off)
