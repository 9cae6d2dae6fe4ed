-- A scan of a standby comes to its end while the pages stay: each read leaves fewer.
use Rattle.std.proofs.Common.{◌≡◌, ℕ, zero, suc, ◌+◌, ◌-◌, ◌<◌, ◌≤◌, ⊎_elim, List, [], ◌∷◌, ◌++◌, Option, Some, None, length, get_or, get_or-set_same, take, drop, refl, sym, ap, ◌∙◌, subst, arith}
use Rattle.std.specs.Prelude.{slice_get}
use Rattle.std.proofs.lemmas.Bool.{cases_lt}
use Rattle.std.proofs.lemmas.List.{get_or_past}
use Rattle.spg_base.specs.Row.{RowAt}
use Rattle.spg_opclass.specs.Meaning.{Meaning}
use Rattle.spg_opclass.specs.declared.query.Query.{Query}
use Rattle.spg_forest.specs.View.{Place, Target}
use Rattle.spg_forest.specs.Spot.{Frame, Spot, Branch, Bucket, Forward, Nothing, IsStanding, child_of}
use Rattle.spg_forest.specs.Classes.{down_of}
use Rattle.spg_forest.specs.Sheets.{Sheets}
use Rattle.spg_forest.specs.Shape.{Shape, spots, tree_of}
use Rattle.spg_forest.specs.Walk.{followed}
use Rattle.spg_forest.specs.Ranks.{IsRankedAt, IsRanked, most_sections}
use Rattle.spg_forest.proofs.Ranks.{each_is_ranked}
use Rattle.spg_forest.proofs.Sections.{shape_tree}
use Rattle.spg_rows.specs.Table as rows
use Rattle.spg_tree.specs.Table.{Table, sheets_of}
use Rattle.spg_scan.specs.Items.{Item, held, inner, leaves, hold_all}
use Rattle.spg_scan.specs.Scanning.{Scanning, replaced}
use Rattle.spg_scan.specs.Reading.{ReadsSpot, Reads, IsHeld, followed_at, met_of}
use Rattle.spg_scan.specs.Reading as read
use Rattle.spg_scan.proofs.CoverLists.{around}
use Rattle.spg_scan.proofs.CoverNodes.{child_from}
use Rattle.spg_whole.specs.Underway.{sum_of}
use Rattle.spg_standby.specs.Slots.{SlotHeld, SlotReads}
use Rattle.spg_standby.specs.Standing.{Standing, ReadsAt, scan_at, with_scan}
use Rattle.spg_standby.specs.Progress.{spot_reads, place_reads, item_reads, longest, slot_reads, reads_left}

-- ---- sums

sum_same : {X : Type 0} (f g : X → ℕ) (xs : List X) → ((i : ℕ) (x : X) → slice_get xs i ≡ Some x → f x ≡ g x) → sum_of f xs ≡ sum_of g xs
sum_same f g [] h = refl
sum_same f g (x ∷ xs) h = let a = h 0 x refl in let b = sum_same f g xs (λ i y e. h (suc i) y e) in omega (arith, a, b)

sum_append : {X : Type 0} (f : X → ℕ) (xs ys : List X) → sum_of f (xs ++ ys) ≡ sum_of f xs + sum_of f ys
sum_append f [] ys = omega arith
sum_append f (x ∷ xs) ys = let a = sum_append f xs ys in omega (arith, a)

-- where fewer take the place of one, the sum falls
sum_falls : {X : Type 0} (f : X → ℕ) (xs ys : List X) (i : ℕ) (x : X) → slice_get xs i ≡ Some x → sum_of f ys < f x → sum_of f (take i xs ++ (ys ++ drop (i + 1) xs)) < sum_of f xs
sum_falls f xs ys i x e h =
    let a : sum_of f xs ≡ sum_of f (take i xs ++ (x ∷ drop (i + 1) xs)) = ap (λ zs. sum_of f zs) (around xs i x e).0 in
    let b : sum_of f (take i xs ++ (x ∷ drop (i + 1) xs)) ≡ sum_of f (take i xs) + (f x + sum_of f (drop (i + 1) xs)) = sum_append f (take i xs) (x ∷ drop (i + 1) xs) in
    let c = sum_append f (take i xs) (ys ++ drop (i + 1) xs) in
    let d = sum_append f ys (drop (i + 1) xs) in
    omega (arith, a, b, c, d, h)

-- ---- how long the ways from a place are

module _ (V : Place → Spot) where
  -- n is enough at each place to which this leads
  abbrev IsEnoughAt : (Place → Type 0) → Spot → Type 0
  IsEnoughAt P (Branch w ns) = (i : ℕ) (y : Place) → get_or ns i None ≡ Some y → P y
  IsEnoughAt P (Bucket ls) = Unit {0}
  IsEnoughAt P (Forward y u) = P y
  IsEnoughAt P Nothing = Unit {0}

  -- no way from x is longer than n
  abbrev IsEnough : ℕ → Place → Type 0
  IsEnough zero x = ⊥
  IsEnough (suc n) x = IsEnoughAt (IsEnough n) (V x)

  more_at : (P Q : Place → Type 0) (s : Spot) → ((y : Place) → P y → Q y) → IsEnoughAt P s → IsEnoughAt Q s
  more_at P Q (Branch w ns) f h = λ i y e. f y (h i y e)
  more_at P Q (Bucket ls) f h = tt
  more_at P Q (Forward y u) f h = f y h
  more_at P Q Nothing f h = tt

  enough_more : (n k : ℕ) (x : Place) → n ≤ k → IsEnough n x → IsEnough k x
  enough_more zero k x l h = absurd h
  enough_more (suc n) zero x l h = absurd (omega arith)
  enough_more (suc n) (suc k) x l h = more_at (IsEnough n) (IsEnough k) (V x) (λ y a. enough_more n k y (omega arith) a) h

  standing_at : (P Q : Place → Type 0) (n : ℕ) (x : Place) (s : Spot) → V x ≡ s → ((i : ℕ) (y : Place) → child_of (V x) i ≡ Some y → IsStanding (V y)) → ((y : Place) → IsStanding (V y) → P y → Q y) → IsStanding s → IsRankedAt n P s → IsEnoughAt Q s
  standing_at P Q n x (Branch w ns) e stand f st (three, below) = λ i y a. f y (stand i y (ap (λ t. child_of t i) e ∙ a)) (below i y a)
  standing_at P Q n x (Bucket ls) e stand f st h = tt
  standing_at P Q n x (Forward y u) e stand f st h = absurd st
  standing_at P Q n x Nothing e stand f st h = absurd st

  -- a rank is enough at a place where something stands
  ranked_enough : ((x : Place) (i : ℕ) (y : Place) → child_of (V x) i ≡ Some y → IsStanding (V y)) → (n : ℕ) (x : Place) → IsStanding (V x) → IsRanked V n x → IsEnough n x
  ranked_enough stand zero x st h = absurd h
  ranked_enough stand (suc n) x st h = standing_at (IsRanked V n) (IsEnough n) n x (V x) refl (stand x) (λ y a b. ranked_enough stand n y a b) st h

  forward_enough : (n : ℕ) (x y : Place) (u : ℕ) → V x ≡ Forward y u → IsEnough n y → IsEnough (suc n) x
  forward_enough n x y u e h = subst (λ (s : Spot). IsEnoughAt (IsEnough n) s) (sym e) h

-- where a place is sheltered, the ways from it are as long as those from its target, and the redirects before
module _ {Key Recon Cond : Type 0} (m : Meaning Key Recon Cond) (S : Sheets) (H : Shape m S) where
  stamps_low : (x y : Place) (u : ℕ) → spots S x ≡ Forward y u → u < S.clock
  stamps_low x y u e = (shape_tree m S H).stamps x y u e

  target_enough : (t x : Place) (s k : ℕ) → S.clock ≤ s + k → Target (tree_of m S) t x s → IsEnough (spots S) (most_sections S + k) x
  target_enough t x s k late (Target.stands st) =
      enough_more (spots S) (most_sections S) (most_sections S + k) t (omega arith)
      (ranked_enough (spots S) (λ z i y e. ((shape_tree m S H).targets z i y e).0) (most_sections S) t st (each_is_ranked m S H t))
  target_enough t x s k late (Target.follows {y = y} {u = u} fw low T) =
      let below = stamps_low x y u fw in
      let rest : IsEnough (spots S) (most_sections S + (k - 1)) y = target_enough t y (suc u) (k - 1) (omega arith) T in
      let n : suc (most_sections S + (k - 1)) ≡ most_sections S + k = omega arith in
      subst (λ (i : ℕ). IsEnough (spots S) i x) n (forward_enough (spots S) (most_sections S + (k - 1)) x y u fw rest)

-- ---- the reads from a place on

module _ {O Key Recon Cond : Type 0} (m : Meaning Key Recon Cond) (V : Place → Spot) (query : Query O Key Recon Cond) where
  abbrev from : ℕ → Place × Option Recon → ℕ
  from = place_reads m V query

  -- two numbers that are the same at the child of each node have the same sum over the children that the query follows
  same_below : (f g : Place × Option Recon → ℕ) (r : Option Recon) (w : Frame) (ns : List (Option Place)) → ((i : ℕ) (y : Place) (q : Option Recon) → get_or ns i None ≡ Some y → f (y, q) ≡ g (y, q)) → sum_of f (followed_at m query r w ns) ≡ sum_of g (followed_at m query r w ns)
  same_below f g r w ns h = sum_same f g (followed_at m query r w ns) (λ j (y, q) e. let (i, c, a, b) = child_from (down_of m) r w ns (followed m query r w ns) j y q e in h i y q a)

  same_at : (n k : ℕ) (r : Option Recon) (s : Spot) → IsEnoughAt V (IsEnough V n) s → ((y : Place) (q : Option Recon) → IsEnough V n y → from k (y, q) ≡ from n (y, q)) → spot_reads m query (from k) r s ≡ spot_reads m query (from n) r s
  same_at n k r (Branch w ns) below h = ap (λ z. suc z) (same_below (from k) (from n) r w ns (λ i y q e. h y q (below i y e)))
  same_at n k r (Bucket ls) a h = refl
  same_at n k r (Forward y u) a h = ap (λ z. suc z) (h y r a)
  same_at n k r Nothing a h = refl

  -- where n is enough, more is no more
  enough : (n k : ℕ) (x : Place) (r : Option Recon) → IsEnough V n x → n ≤ k → from k (x, r) ≡ from n (x, r)
  enough zero k x r h l = absurd h
  enough (suc n) zero x r h l = absurd (omega arith)
  enough (suc n) (suc k) x r h l = same_at n k r (V x) h (λ y q a. enough n k y q a (omega arith))

  -- what stands at a place where n is enough, and what is read from there on with n itself
  reads_at : (n : ℕ) (x : Place) (r : Option Recon) (s : Spot) → V x ≡ s → IsEnough V n x → from n (x, r) ≡ spot_reads m query (from n) r s
  reads_at zero x r s e h = absurd h
  reads_at (suc n) x r s e h =
      ap (λ t. spot_reads m query (from n) r t) e
      ∙ sym (same_at n (suc n) r s (subst (λ t. IsEnoughAt V (IsEnough V n) t) e h) (λ y q a. enough n (suc n) y q a (omega arith)))

  some_at : (f : Place × Option Recon → ℕ) (r : Option Recon) (s : Spot) → 0 < spot_reads m query f r s
  some_at f r (Branch w ns) = omega arith
  some_at f r (Bucket ls) = omega arith
  some_at f r (Forward y u) = omega arith
  some_at f r Nothing = omega arith

  -- ---- what takes an item's place

  abbrev of_items : ℕ → List (Item Recon) → ℕ
  of_items n items = sum_of (item_reads m V query n) items

  of_held : (n : ℕ) (ys : List (Place × Option Recon)) → of_items n (hold_all ys) ≡ sum_of (from n) ys
  of_held n [] = refl
  of_held n (y ∷ ys) = ap (λ z. from n y + z) (of_held n ys)

  none_left : (n k : ℕ) (ys : List (Item Recon)) → ys ≡ [] → 0 < k → of_items n ys < k
  none_left n k ys e h = let a : of_items n ys ≡ 0 = ap (of_items n) e in omega (arith, a, h)

  children_left : (n k : ℕ) (ys : List (Item Recon)) (cs : List (Place × Option Recon)) → ys ≡ hold_all cs → k ≡ suc (sum_of (from n) cs) → of_items n ys < k
  children_left n k ys cs e h = let a : of_items n ys ≡ sum_of (from n) cs = ap (of_items n) e ∙ of_held n cs in omega (arith, a, h)

  module _ (table : rows.Table O Key Recon Cond) (n : ℕ) (ys : List (Item Recon)) (found : List RowAt) where
    spot_falls : (k : ℕ) (r : Option Recon) (s : Spot) → k ≡ spot_reads m query (from n) r s → ReadsSpot m table query r s ys found → of_items n ys < k
    spot_falls k r (Branch w ns) e (asks, is, none) = children_left n k ys (followed_at m query r w ns) is e
    spot_falls k r (Bucket ls) e (is, f) = none_left n k ys is (omega (arith, e))
    spot_falls k r (Forward y u) e (is, f) = children_left n k ys ((y, r) ∷ []) is (let a : from n (y, r) ≡ from n (y, r) + 0 = omega arith in e ∙ ap (λ z. suc z) a)
    spot_falls k r Nothing e is = absurd is

-- ---- a read

module _ {O Key Recon Cond : Type 0} (m : Meaning Key Recon Cond) where
  item_falls : (S : Sheets) (table : rows.Table O Key Recon Cond) (query : Query O Key Recon Cond) (n : ℕ) (it : Item Recon) (ys : List (Item Recon)) (found : List RowAt) →
      ((x : Place) (r : Option Recon) → it ≡ held x r → IsEnough (spots S) n x) → read.ReadsItem m S table query it ys found → sum_of (item_reads m (spots S) query n) ys < item_reads m (spots S) query n it
  item_falls S table query n (held x r) ys found far is = spot_falls m (spots S) query table n ys found (item_reads m (spots S) query n (held x r)) r (spots S x) (reads_at m (spots S) query n x r (spots S x) refl (far x r refl)) is
  item_falls S table query n (inner q w ns) ys found far (asks, known, is, none) = children_left m (spots S) query n (item_reads m (spots S) query n (inner q w ns)) ys (followed_at m query q w ns) is refl
  item_falls S table query n (leaves q ls) ys found far (is, f) = none_left m (spots S) query n 1 ys is (omega arith)

  -- each read of a sheltered item leaves fewer reads
  read_falls : (S : Sheets) (table : rows.Table O Key Recon Cond) (s s2 : Scanning O Key Recon Cond) (i : ℕ) → Shape m S → IsHeld m S s i → Reads m S table s s2 i → slot_reads m S (Some s2) < slot_reads m S (Some s)
  read_falls S table s s2 i H shelter R =
      let far : (x : Place) (r : Option Recon) → R.item ≡ held x r → IsEnough (spots S) (longest S) x =
      λ x r e. let (t, T, at) = shelter x r (R.at ∙ ap Some e) in target_enough m S H t x s.stamp S.clock (omega arith) T in
      let less = item_falls S table s.query (longest S) R.item R.items R.found far R.reads in
      let fell : slot_reads m S (Some (replaced s i R.items R.found (met_of S R.item))) < slot_reads m S (Some s) = sum_falls (item_reads m (spots S) s.query (longest S)) s.items R.items i R.item R.at less in
      subst (λ (z : Scanning O Key Recon Cond). slot_reads m S (Some z) < slot_reads m S (Some s)) (sym R.after) fell

  slot_falls : (t : Table) (table : rows.Table O Key Recon Cond) (item : ℕ) (slot slot2 : Option (Scanning O Key Recon Cond)) → Shape m (sheets_of t) → SlotHeld m (sheets_of t) slot item → SlotReads m t table item slot slot2 → slot_reads m (sheets_of t) slot2 < slot_reads m (sheets_of t) slot
  slot_falls t table item None slot2 H shelter is = absurd is
  slot_falls t table item (Some s) slot2 H shelter (s2, e, R) = subst (λ (x : Option (Scanning O Key Recon Cond)). slot_reads m (sheets_of t) x < slot_reads m (sheets_of t) (Some s)) (sym e) (read_falls (sheets_of t) table s s2 item H shelter R)

  -- where a scan is open there is a seat
  has_seat : (f : Standing O Key Recon Cond) (seat item : ℕ) (slot : Option (Scanning O Key Recon Cond)) → SlotReads m f.table f.rows item (scan_at f seat) slot → seat < length f.scans
  has_seat f seat item slot R = ⊎_elim (λ h. h) (λ h. absurd (subst (λ (x : Option (Scanning O Key Recon Cond)). SlotReads m f.table f.rows item x slot) (get_or_past f.scans seat None h) R)) (cases_lt seat (length f.scans))

  pub fewer_left : (f f2 : Standing O Key Recon Cond) (seat item : ℕ) → Shape m (sheets_of f.table) → SlotHeld m (sheets_of f.table) (scan_at f seat) item → ReadsAt m f f2 seat item → reads_left m f2 seat < reads_left m f seat
  fewer_left f f2 seat item H shelter (slot, R, e) =
      let low = has_seat f seat item slot R in
      let now : scan_at (with_scan f seat slot) seat ≡ slot = get_or-set_same f.scans seat slot None low in
      let fell : slot_reads m (sheets_of f.table) slot < reads_left m f seat = slot_falls f.table f.rows item (scan_at f seat) slot H shelter R in
      let left : reads_left m (with_scan f seat slot) seat < reads_left m f seat = subst (λ (x : Option (Scanning O Key Recon Cond)). slot_reads m (sheets_of f.table) x < reads_left m f seat) (sym now) fell in
      subst (λ (x : Standing O Key Recon Cond). reads_left m x seat < reads_left m f seat) (sym e) left
