-- Items that move into the place of one.
use Rattle.std.proofs.Common.{◌≡◌, ℕ, zero, suc, ◌+◌, ◌<◌, ◌≤◌, List, [], ◌∷◌, ◌++◌, Option, Some, None, map, get_or, take, drop, length, length-append, length-take-le, refl, sym, ap, ap₂, ◌∙◌, arith}
use Rattle.std.proofs.lemmas.List.{map-append, take-map, drop-map, length-map, take_at, take-append-le, drop_at, drop-append-le, append-nil, take-append-drop}
use Rattle.std.proofs.lemmas.Option.{get_or_from_slice_get}
use Rattle.std.proofs.Math.ListN.{get_or-map}
use Rattle.std.specs.Prelude.{slice_get}
use Rattle.spg_opclass.specs.declared.query.Query.{Query}
use Rattle.spg_base.specs.Row.{RowAt}
use Rattle.spg_forest.specs.View.{Place}
use Rattle.spg_forest.specs.Spot.{Frame}
use Rattle.spg_forest.specs.Walk.{children_at}
use Rattle.spg_scan.specs.declared.pending.Pending.{Pending}
use Rattle.spg_scan.specs.declared.pending.Pending.TheVariants as pending
use Rattle.spg_scan.specs.Held.{item_of}
use Rattle.spg_scan.specs.Items.{Item, held, IsItem, hold_all, recon_in, recon_at}
use Rattle.spg_scan.specs.Parts.{HasPlace}
use Rattle.spg_scan.specs.Scanning.{Scanning, replaced, counted}
use Rattle.spg_scan.proofs.Replacing.{scan_as}

module _ {X : Type 0} where
  -- what stands behind the first n without one of them
  pub behind_one : (xs : List X) (n i : ℕ) → i < n → n ≤ length xs → take i xs ++ drop (i + 1) xs ≡ take i xs ++ (drop (i + 1) (take n xs) ++ drop n xs)
  behind_one xs n i h b = ap (λ (z : List X). take i xs ++ z)
      (ap (drop (i + 1)) (sym (take-append-drop n xs)) ∙ drop-append-le (i + 1) (take n xs) (drop n xs) (omega (arith, length-take-le n xs b)))

  -- more behind the first n, in the place of one of these
  pub more_in_place : (xs ys A : List X) (n i : ℕ) → i < n → n ≡ length xs → A ≡ xs ++ ys → take i A ++ (drop n A ++ drop (i + 1) (take n A)) ≡ take i xs ++ (ys ++ drop (i + 1) xs)
  more_in_place xs ys A n i h e a =
      ap (λ (z : List X). take i z ++ (drop n z ++ drop (i + 1) (take n z))) a
      ∙ ap₂ (λ (v w : List X). v ++ w) (take-append-le i xs ys (omega arith))
      (ap₂ (λ (v w : List X). v ++ w) (drop_at xs ys n (sym e)) (ap (drop (i + 1)) (take_at xs ys n (sym e))))

  pub map_moved : {Y : Type 0} (f : X → Y) (A : List X) (n i : ℕ) → map f (take i A ++ (drop n A ++ drop (i + 1) (take n A))) ≡ take i (map f A) ++ (drop n (map f A) ++ drop (i + 1) (take n (map f A)))
  map_moved {Y} f A n i = map-append f (take i A) (drop n A ++ drop (i + 1) (take n A))
      ∙ ap₂ (λ (v w : List Y). v ++ w) (sym (take-map f i A)) (map-append f (drop n A) (drop (i + 1) (take n A))
      ∙ ap₂ (λ (v w : List Y). v ++ w) (sym (drop-map f n A)) (sym (drop-map f (i + 1) (take n A)) ∙ ap (drop (i + 1)) (sym (take-map f n A))))

-- what a downlink gives
abbrev one_at : {Recon : Type 0} → (Option Recon → Frame → ℕ → Option Recon) → Option Recon → Frame → ℕ → Option Place → List (Place × Option Recon)
one_at down q w n o = elim o [ None ↦ [] | Some y ↦ (y, down q w n) ∷ [] ]

-- the rebuilt value of a place
pub recon_is : {Recon : Type 0} (items : List (Item Recon)) (i : ℕ) (x : Place) (r : Option Recon) → IsItem items i (held x r) → recon_at items i ≡ r
recon_is {Recon} items i x r a = ap (λ (o : Option (Item Recon)). elim o [ None ↦ None | Some item ↦ recon_in item ]) a

module _ {O Key Recon Cond : Type 0} where
  -- the item at an index
  pub pending_at : (items : List (Pending O Key Recon Cond)) (i : ℕ) (p : Pending O Key Recon Cond) → p ≡ get_or items i p → (item : Item Recon) → IsItem (map item_of items) i item → item_of p ≡ item
  pending_at items i p g item a = ap item_of g ∙ sym (get_or-map item_of items i p) ∙ get_or_from_slice_get (map item_of items) i item (item_of p) a

  pub recon_there : (items : List (Pending O Key Recon Cond)) (i : ℕ) (p : Pending O Key Recon Cond) (q : Option Recon) → p ≡ get_or items i p → HasPlace (map item_of items) i → ((x : Place) (r : Option Recon) → item_of p ≡ held x r → q ≡ r) → q ≡ recon_at (map item_of items) i
  recon_there items i p q g (x, (r, a)) h = h x r (pending_at items i p g (held x r) a) ∙ sym (recon_is (map item_of items) i x r a)

  -- a place that was added behind the items, to which a downlink leads
  pub added_is : (items items2 : List (Pending O Key Recon Cond)) (down : Option Recon → Frame → ℕ → Option Recon) (q : Option Recon) (w : Frame) (ns : List (Option Place)) (n : ℕ) (place : Place) (r : Option Recon) →
      items2 ≡ items ++ pending.Held (record { place = place; recon = r }) ∷ [] → get_or ns n None ≡ Some place → r ≡ down q w n → map item_of items2 ≡ map item_of items ++ hold_all (children_at down q w ns (n ∷ []))
  added_is items items2 down q w ns n place r e a b =
      ap (map item_of) e ∙ map-append item_of items (pending.Held (record { place = place; recon = r }) ∷ [])
      ∙ ap (λ (z : List (Item Recon)). map item_of items ++ z) (ap (λ (z : Option Recon). held place z ∷ []) b ∙ sym (ap (λ (o : Option Place). hold_all (one_at down q w n o)) a))

  -- places that were added behind the items of a scan, in the place of one
  pub moved_is : (query : Query O Key Recon Cond) (at stamp : ℕ) (items A items2 : List (Pending O Key Recon Cond)) (rows : List RowAt) (met met2 k n i : ℕ) (new : List (Item Recon)) (s : Scanning O Key Recon Cond) →
      scan_as query at stamp items rows met ≡ s → i < n → n ≡ length items → map item_of A ≡ map item_of items ++ new → items2 ≡ take i A ++ (drop n A ++ drop (i + 1) (take n A)) → met2 ≡ counted (met + k) →
      scan_as query at stamp items2 rows met2 ≡ replaced s i new [] k
  moved_is query at stamp items A items2 rows met met2 k n i new s e h l a b d =
      let it : map item_of items2 ≡ take i (map item_of items) ++ (new ++ drop (i + 1) (map item_of items)) =
      ap (map item_of) b ∙ map_moved item_of A n i ∙ more_in_place (map item_of items) new (map item_of A) n i h (l ∙ sym (length-map items item_of)) a in
      (λ j. record { query = query; at = at; stamp = stamp; items = it j; rows = sym (append-nil rows) j; met = d j })
      ∙ ap (λ (z : Scanning O Key Recon Cond). replaced z i new [] k) e

  -- rows that were taken, and then the end of the item
  pub ended_as : (query : Query O Key Recon Cond) (at stamp : ℕ) (items : List (Pending O Key Recon Cond)) (rows rows2 found : List RowAt) (met k i : ℕ) (s : Scanning O Key Recon Cond) →
      scan_as query at stamp items rows met ≡ s → rows2 ≡ rows ++ found → replaced (scan_as query at stamp items rows2 met) i [] [] k ≡ replaced s i [] found k
  ended_as query at stamp items rows rows2 found met k i s e a =
      ap (λ (z : List RowAt). replaced (scan_as query at stamp items z met) i [] [] k) a
      ∙ ap (λ (z : List RowAt). record (replaced (scan_as query at stamp items rows met) i [] found k) { rows = z }) (append-nil (rows ++ found))
      ∙ ap (λ (z : Scanning O Key Recon Cond). replaced z i [] found k) e

-- an item stays where more are added behind
stays_at : {X : Type 0} (xs ys : List X) (i : ℕ) → i < length xs → slice_get (xs ++ ys) i ≡ slice_get xs i
stays_at [] ys i h = absurd (omega arith)
stays_at (x ∷ xs) ys zero h = refl
stays_at (x ∷ xs) ys (suc i) h = stays_at xs ys i (omega arith)

module _ {Recon : Type 0} (xs ys all : List (Item Recon)) (i : ℕ) (e : all ≡ xs ++ ys) (h : i < length xs) where
  same_at : slice_get all i ≡ slice_get xs i
  same_at = ap (λ (z : List (Item Recon)). slice_get z i) e ∙ stays_at xs ys i h

  pub place_stays : HasPlace xs i → HasPlace all i
  place_stays (x, (r, a)) = (x, (r, same_at ∙ a))

  pub recon_stays : recon_at all i ≡ recon_at xs i
  recon_stays = ap (λ (o : Option (Item Recon)). elim o [ None ↦ None | Some item ↦ recon_in item ]) same_at

  pub within_stays : i < length all
  within_stays = omega (arith, ap length e, length-append xs ys)

  pub cut_back : (n : ℕ) → n ≡ length xs → take n all ≡ xs
  cut_back n k = ap (take n) e ∙ take_at xs ys n (sym k)
