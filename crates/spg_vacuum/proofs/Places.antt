-- Lists of places.
use Rattle.std.proofs.Common.{◌≡◌, ℕ, zero, suc, ◌+◌, ◌-◌, ◌≤◌, ◌<◌, List, [], ◌∷◌, ◌++◌, Bool, true, false, length, take, drop, get_or, refl, sym, ap, ap₂, ◌∙◌, inl, inr, arith}
use Rattle.std.specs.Prelude.{◌||◌, cond}
use Rattle.std.proofs.lemmas.List.{take-append-drop, take-append-le, drop-append-le, length-take-le, take_more}
use Rattle.std.proofs.Math.Seq.{take-append_seam}
use Rattle.spg_forest.specs.View.{Place}
use Rattle.spg_forest.specs.Spot.{same_place}
use Rattle.spg_cover.specs.Vacuum.{has_place, listed, IsPlaceOf}
use Rattle.spg_vacuum.specs.Listing.{Listing, with_listed}

or_swap : (a b c : Bool) → (a || (b || c)) ≡ ((a || b) || c)
or_swap true b c = refl
or_swap false b c = refl

one : (b : Bool) → (b || false) ≡ b
one true = refl
one false = refl

pub has_behind : (ps qs : List Place) (x : Place) → has_place (ps ++ qs) x ≡ (has_place ps x || has_place qs x)
has_behind [] qs x = refl
has_behind (p ∷ ps) qs x = ap (λ b. same_place x p || b) (has_behind ps qs x) ∙ or_swap (same_place x p) (has_place ps x) (has_place qs x)

pub has_more : (ps : List Place) (y x : Place) → has_place (ps ++ y ∷ []) x ≡ (has_place ps x || same_place x y)
has_more ps y x = has_behind ps (y ∷ []) x ∙ ap (λ b. has_place ps x || b) (one (same_place x y))

-- what is listed behind the first is the same whether it is done or to do
pub listed_first : (done : List Place) (p : Place) (todo ys : List Place) → listed done (p ∷ todo) ys ≡ p ∷ listed (done ++ p ∷ []) todo ys
listed_first done p todo [] = refl
listed_first done p todo (y ∷ ys) =
    let e : (has_place done y || has_place (p ∷ todo) y) ≡ (has_place (done ++ p ∷ []) y || has_place todo y) =
    or_swap (has_place done y) (same_place y p) (has_place todo y) ∙ ap (λ b. b || has_place todo y) (sym (has_more done p y)) in
    ap (λ b. listed done (cond b (p ∷ todo) (p ∷ todo ++ y ∷ [])) ys) e ∙ side done p todo y ys (has_place (done ++ p ∷ []) y || has_place todo y) (λ xs. listed_first done p xs ys)
  where
    side : (done : List Place) (p : Place) (todo : List Place) (y : Place) (ys : List Place) (b : Bool) → ((xs : List Place) → listed done (p ∷ xs) ys ≡ p ∷ listed (done ++ p ∷ []) xs ys) → listed done (cond b (p ∷ todo) (p ∷ todo ++ y ∷ [])) ys ≡ p ∷ listed (done ++ p ∷ []) (cond b todo (todo ++ y ∷ [])) ys
    side done p todo y ys true h = h todo
    side done p todo y ys false h = h (todo ++ y ∷ [])

pub listed_join : (done todo ys zs : List Place) → listed done (listed done todo ys) zs ≡ listed done todo (ys ++ zs)
listed_join done todo [] zs = refl
listed_join done todo (y ∷ ys) zs = listed_join done (cond (has_place done y || has_place todo y) todo (todo ++ y ∷ [])) ys zs

-- what was to do stands in front
record Front (todo us : List Place) : Type 0 where
  rest : List Place
  is : us ≡ todo ++ rest

front_more : (todo us : List Place) (b : Bool) (y : Place) → Front todo us → Front todo (cond b us (us ++ y ∷ []))
front_more todo us true y F = F
front_more todo us false y F = record { rest = F.rest ++ y ∷ []; is = ap (λ xs. xs ++ y ∷ []) F.is ∙ behind todo F.rest (y ∷ []) }
  where
    behind : (xs ys zs : List Place) → (xs ++ ys) ++ zs ≡ xs ++ (ys ++ zs)
    behind [] ys zs = refl
    behind (x ∷ xs) ys zs = ap (λ us. x ∷ us) (behind xs ys zs)

front : (done todo us ys : List Place) → Front todo us → Front todo (listed done us ys)
front done todo us [] F = F
front done todo us (y ∷ ys) F = front done todo (cond (has_place done y || has_place us y) us (us ++ y ∷ [])) ys (front_more todo us (has_place done y || has_place us y) y F)

nil_right : (xs : List Place) → xs ≡ xs ++ []
nil_right [] = refl
nil_right (x ∷ xs) = ap (λ us. x ∷ us) (nil_right xs)

length_both : (xs ys : List Place) → length xs ≤ length (xs ++ ys)
length_both [] ys = omega arith
length_both (x ∷ xs) ys = let h = length_both xs ys in omega arith

-- cut to as many as there were, the list is as it was
pub listed_front : (done todo ys : List Place) → (length todo ≤ length (listed done todo ys)) × (take (length todo) (listed done todo ys) ≡ todo)
listed_front done todo ys =
    let F = front done todo todo ys (record { rest = []; is = nil_right todo }) in
    let e = ap length F.is in let h = length_both todo F.rest in
    (omega arith, ap (take (length todo)) F.is ∙ take-append_seam todo F.rest)

pub in_drop : (n : ℕ) (xs : List Place) (p : Place) → IsPlaceOf (drop n xs) p → IsPlaceOf xs p
in_drop zero xs p a = a
in_drop (suc n) [] p a = a
in_drop (suc n) (x ∷ xs) p a = inr (in_drop n xs p a)

pub place_at : (ps : List Place) (k : ℕ) (d : Place) → k < length ps → IsPlaceOf ps (get_or ps k d)
place_at [] k d h = absurd (omega arith)
place_at (p ∷ ps) zero d h = inl refl
place_at (p ∷ ps) (suc k) d h = inr (place_at ps k d (omega arith))

pub take_take : (xs : List Place) (n m : ℕ) → n ≤ m → take n (take m xs) ≡ take n xs
take_take xs zero m h = refl
take_take xs (suc n) zero h = absurd (omega arith)
take_take [] (suc n) (suc m) h = refl
take_take (x ∷ xs) (suc n) (suc m) h = ap (λ us. x ∷ us) (take_take xs n m (omega arith))

-- ---- the list with its place of division
abbrev pub split : ℕ → List Place → Listing
split n xs = record { done = take n xs; todo = drop n xs }

abbrev listing : List Place → List Place → Listing
listing ds ts = record { done = ds; todo = ts }

split_has : (n : ℕ) (xs : List Place) (y : Place) → (has_place (take n xs) y || has_place (drop n xs) y) ≡ has_place xs y
split_has n xs y = sym (has_behind (take n xs) (drop n xs) y) ∙ ap (λ zs. has_place zs y) (take-append-drop n xs)

pub listed_same : (n : ℕ) (xs : List Place) (y : Place) → has_place xs y ≡ true → split n xs ≡ with_listed (split n xs) (y ∷ [])
listed_same n xs y h = ap (λ b. listing (take n xs) (cond b (drop n xs) (drop n xs ++ y ∷ []))) (sym (split_has n xs y ∙ h))

pub listed_new : (n : ℕ) (xs : List Place) (y : Place) → has_place xs y ≡ false → n ≤ length xs → split n (xs ++ y ∷ []) ≡ with_listed (split n xs) (y ∷ [])
listed_new n xs y h l = ap₂ listing (take-append-le n xs (y ∷ []) l) (drop-append-le n xs (y ∷ []) l) ∙ ap (λ b. listing (take n xs) (cond b (drop n xs) (drop n xs ++ y ∷ []))) (sym (split_has n xs y ∙ h))

pub listed_more : (l l1 : Listing) (ys : List Place) (k j : ℕ) (d : Place) → j ≡ k + 1 → k < length ys → l1 ≡ with_listed l (take k ys) → with_listed l1 (get_or ys k d ∷ []) ≡ with_listed l (take j ys)
listed_more l l1 ys k j d q h e = ap (λ (x : Listing). with_listed x (get_or ys k d ∷ [])) e ∙ ap (listing l.done) (listed_join l.done l.todo (take k ys) (get_or ys k d ∷ []) ∙ ap (listed l.done l.todo) (sym (take_more ys k d h) ∙ ap (λ i. take i ys) (sym q)))

-- the last place is taken away, once more
pub shorter : (xs : List Place) (k i j : ℕ) → k ≤ length xs → i < k → j ≡ i + 1 → take (length (take (length xs - i) xs) - 1) (take (length xs - i) xs) ≡ take (length xs - j) xs
shorter xs k i j h l q =
    let n = length-take-le (length xs - i) xs (omega arith) in
    take_take xs (length (take (length xs - i) xs) - 1) (length xs - i) (omega arith) ∙ ap (λ a. take a xs) (let e : length (take (length xs - i) xs) - 1 ≡ length xs - j = omega arith in e)

-- the places listed last taken away again
pub unlisted : (l l1 : Listing) (ys : List Place) (n m : ℕ) → l1 ≡ with_listed l ys → n ≡ length l.done + length l.todo → m ≡ length l1.done + length l1.todo → (n ≤ m) × (listing l1.done (take (length l1.todo - (m - n)) l1.todo) ≡ l)
unlisted l l1 ys n m e p q =
    let (h, f) = listed_front l.done l.todo ys in
    let a = ap (λ (x : Listing). length x.done) e in
    let b = ap (λ (x : Listing). length x.todo) e in
    let c : length l1.todo - (m - n) ≡ length l.todo = omega arith in
    (omega arith, ap₂ listing (ap (λ (x : Listing). x.done) e) (ap₂ (λ i us. take i us) c (ap (λ (x : Listing). x.todo) e) ∙ f))
