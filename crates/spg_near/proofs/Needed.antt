-- Rows that are kept of those found, since they may be given.
use Rattle.std.proofs.Common.{◌≡◌, ◌<◌, ◌≤◌, ◌+◌, ◌++◌, ◌⊎◌, ⊎_elim, inl, inr, ℕ, Bool, true, false, List, [], ◌∷◌, Option, Some, None, Contains, length, refl, sym, ap, ◌∙◌, subst, arith, append_assoc, append-nil}
use Rattle.std.specs.Prelude.{if◌then◌else◌, IsPermutation}
use Rattle.std.proofs.lemmas.Bool.{cases_lt}
use Rattle.std.proofs.lemmas.List.Elements.{Contains-append_cases}
use Rattle.std.proofs.lemmas.List.Sorted.{IsPermutation-refl, IsPermutation-sym, IsPermutation-trans, IsPermutation-append, IsPermutation-append_left, IsPermutation-append_right, IsPermutation-append_comm, Contains-permutation, sum_by-IsPermutation}
use Rattle.std.proofs.lemmas.List.Sums.{sum_by-append}
use Rattle.spg_base.specs.declared.point.Point.{Point}
use Rattle.spg_opclass.specs.Meaning.{Meaning}
use Rattle.spg_forest.specs.View.{Leaf}
use Rattle.spg_forest.specs.Spot.{Spot, Branch, Bucket, Forward, Nothing}
use Rattle.spg_rows.specs.Table as rows
use Rattle.spg_scan.specs.Scanning.{is_live}
use Rattle.spg_scan.proofs.CoverNodes.{contains_here, contains_behind, contains_cases, contains_none}
use Rattle.spg_near.specs.declared.near_row.NearRow.{NearRow}
use Rattle.spg_near.specs.Boxes.{distance, bound_of}
use Rattle.spg_near.specs.Nearing.{NearItem, Nearing, Boxing, NearSpot, LeafSpot, IsDone, nearer_than, near_row, near_rows, near_leaves, live_of}
use Rattle.spg_near.specs.Best.{AreBest, AreHits, AreNeeded, KeepsLive}
use Rattle.spg_near.proofs.NearCounts.{one, few_near, far_last, enough_near}
use Rattle.spg_near.proofs.NearOrder.{not_both, nearer}

-- ---- counts

pub nearer_append : (d : ℕ) (xs ys : List NearRow) → nearer_than d (xs ++ ys) ≡ nearer_than d xs + nearer_than d ys
nearer_append d xs ys = sum_by-append (one d) xs ys

more_near : (limit d : ℕ) (xs ys : List NearRow) → limit ≤ nearer_than d xs → limit ≤ nearer_than d (xs ++ ys)
more_near limit d xs ys h = let a = nearer_append d xs ys in omega arith

-- ---- lists

in_left : (h : NearRow) (xs ys : List NearRow) → Contains xs h → Contains (xs ++ ys) h
in_left h [] ys c = absurd (contains_none h c)
in_left h (x ∷ xs) ys c = ⊎_elim (λ e. subst (λ (z : NearRow). Contains (x ∷ (xs ++ ys)) z) e (contains_here x (xs ++ ys))) (λ d. contains_behind x h (xs ++ ys) (in_left h xs ys d)) (contains_cases x h xs c)

crossed : (a b c d : List NearRow) → IsPermutation ((a ++ b) ++ (c ++ d)) ((a ++ c) ++ (b ++ d))
crossed a b c d =
    let left : (a ++ b) ++ (c ++ d) ≡ a ++ ((b ++ c) ++ d) = append_assoc a b (c ++ d) ∙ ap (λ z. a ++ z) (sym (append_assoc b c d)) in
    let right : (a ++ c) ++ (b ++ d) ≡ a ++ ((c ++ b) ++ d) = append_assoc a c (b ++ d) ∙ ap (λ z. a ++ z) (sym (append_assoc c b d)) in
    let mid : IsPermutation (a ++ ((b ++ c) ++ d)) (a ++ ((c ++ b) ++ d)) = IsPermutation-append_right a ((b ++ c) ++ d) ((c ++ b) ++ d) (IsPermutation-append_left d (b ++ c) (c ++ b) (IsPermutation-append_comm b c)) in
    subst (λ z. IsPermutation z ((a ++ c) ++ (b ++ d))) (sym left) (subst (λ z. IsPermutation (a ++ ((b ++ c) ++ d)) z) (sym right) mid)

-- ---- what is kept

pub needed_none : (limit : ℕ) (before : List NearRow) → AreNeeded limit before [] []
needed_none limit before = record { others = []; all = IsPermutation-refl []; enough = λ h c. absurd (contains_none h c) }

pub needed_whole : (limit : ℕ) (before live : List NearRow) → AreNeeded limit before live live
needed_whole limit before live = record { others = []; all = subst (λ z. IsPermutation live z) (sym (append-nil live)) (IsPermutation-refl live); enough = λ h c. absurd (contains_none h c) }

pub needed_left : (limit : ℕ) (before live : List NearRow) → ((h : NearRow) → Contains live h → limit ≤ nearer_than h.distance before) → AreNeeded limit before live []
needed_left limit before live far = record {
  others = live;
  all = IsPermutation-refl live;
  enough = λ h c. more_near limit h.distance before [] (far h c);
}

-- first of some, then of more
pub needed_then : (limit : ℕ) (before live kept live2 kept2 : List NearRow) → AreNeeded limit before live kept → AreNeeded limit (before ++ kept) live2 kept2 → AreNeeded limit before (live ++ live2) (kept ++ kept2)
needed_then limit before live kept live2 kept2 A B = record {
  others = A.others ++ B.others;
  all = IsPermutation-trans (live ++ live2) ((kept ++ A.others) ++ (kept2 ++ B.others)) ((kept ++ kept2) ++ (A.others ++ B.others))
      (IsPermutation-append live (kept ++ A.others) live2 (kept2 ++ B.others) A.all B.all) (crossed kept A.others kept2 B.others);
  enough = λ h c. subst (λ z. limit ≤ nearer_than h.distance z) (append_assoc before kept kept2)
      (⊎_elim (λ a. more_near limit h.distance (before ++ kept) kept2 (A.enough h a)) (λ b. B.enough h b) (Contains-append_cases A.others B.others h c));
}

pub kept_then : (limit : ℕ) (found found2 found3 live live2 : List NearRow) → KeepsLive limit found found2 live → KeepsLive limit found2 found3 live2 → KeepsLive limit found found3 (live ++ live2)
kept_then limit found found2 found3 live live2 (kept, is, A) (kept2, is2, B) = (
  kept ++ kept2,
  is2 ∙ ap (λ z. z ++ kept2) is ∙ append_assoc found kept kept2,
  needed_then limit found live kept live2 kept2 A (subst (λ z. AreNeeded limit z live2 kept2) is B),
)

pub kept_in : (limit : ℕ) (before live kept : List NearRow) → AreNeeded limit before live kept → (h : NearRow) → Contains kept h → Contains live h
kept_in limit before live kept A h c = Contains-permutation (kept ++ A.others) live h (IsPermutation-sym live (kept ++ A.others) A.all) (in_left h kept A.others c)

-- ---- of all that were found

module _ (limit : ℕ) (all found : List NearRow) (A : AreNeeded limit [] all found) where
  counted_all : (d : ℕ) → nearer_than d found ≤ nearer_than d all
  counted_all d =
      let a : nearer_than d (found ++ A.others) ≡ nearer_than d all = sum_by-IsPermutation (one d) all (found ++ A.others) A.all in
      let b = nearer_append d found A.others in
      omega arith

  -- the best of those kept are the best of all
  best_of_all : (best : List NearRow) → AreBest limit found best → AreBest limit all best
  best_of_all best B = record {
    others = B.others ++ A.others;
    all = subst (λ z. IsPermutation all z) (append_assoc best B.others A.others)
        (IsPermutation-trans all (found ++ A.others) ((best ++ B.others) ++ A.others) A.all (IsPermutation-append_left A.others found (best ++ B.others) B.all));
    few = B.few;
    full = λ some. ⊎_elim (λ less. absurd (not_less some less)) (λ l. let f = B.few in omega arith) (cases_lt (length best) limit);
    after = λ g h b o e. ⊎_elim (λ a. B.after g h b a e) (λ a. not_both g h (nearer g h (beyond g h b a)) e) (Contains-append_cases B.others A.others h o);
  }
    where
      beyond : (g h : NearRow) → Contains best g → Contains A.others h → g.distance < h.distance
      beyond g h b o = ⊎_elim (λ l. l) (λ l. let a = far_last limit found best B h.distance g b l in let c = A.enough h o in absurd (omega arith)) (cases_lt g.distance h.distance)

      of_left : length best < limit → (xs : List NearRow) → A.others ≡ xs → xs ≡ []
      of_left less [] e = refl
      of_left less (x ∷ xs) e =
          let a = few_near limit found best B x.distance less in
          let c = A.enough x (subst (λ z. Contains z x) (sym e) (contains_here x xs)) in
          absurd (omega arith)

      not_less : 0 < length (B.others ++ A.others) → length best < limit → ⊥
      not_less some less =
          let none : A.others ≡ [] = of_left less A.others refl in
          let same : length (B.others ++ A.others) ≡ length B.others = ap (λ z. length (B.others ++ z)) none ∙ ap length (append-nil B.others) in
          ⊎_elim (λ p. let f = B.full p in omega arith) (λ l. omega arith) (cases_lt 0 (length B.others))

  pub hits_of_all : (rows : List NearRow) → AreHits limit found rows → AreHits limit all rows
  hits_of_all rows H = record { best = H.best; are = best_of_all H.best H.are; moved = H.moved; sorted = H.sorted }

pub done_of_all : {Recon : Type 0} (n : Nearing Recon) (all : List NearRow) → AreNeeded n.limit [] all n.found → IsDone n → IsDone (record n { found = all })
done_of_all n all A (inl none) = inl none
done_of_all n all A (inr far) = inr (λ i it e. let a = far i it e in let b : nearer_than (bound_of n.target it.area) n.found ≤ nearer_than (bound_of n.target it.area) all = counted_all n.limit all n.found A (bound_of n.target it.area) in omega (arith, a, b))

-- ---- the live rows of leaves

pub live_append : {O Recon Cond : Type 0} (table : rows.Table O Point Recon Cond) (xs ys : List NearRow) → live_of table (xs ++ ys) ≡ live_of table xs ++ live_of table ys
live_append table [] ys = refl
live_append table (x ∷ xs) ys =
    let a : List NearRow = if is_live (rows.state_in table x.row) then x ∷ [] else [] in
    ap (λ z. a ++ z) (live_append table xs ys) ∙ sym (append_assoc a (live_of table xs) (live_of table ys))

pub live_leaves : {O Recon Cond : Type 0} (m : Meaning Point Recon Cond) (table : rows.Table O Point Recon Cond) (target : Point) (recon : Recon) (ls : List Leaf) → live_of table (near_leaves m target recon ls) ≡ near_rows m table target recon ls
live_leaves m table target recon [] = refl
live_leaves m table target recon (l ∷ ls) =
    live_append table (near_row target l.row (m.rebuild recon l.rest)) (near_leaves m target recon ls) ∙ at_leaf (is_live (rows.state_in table l.row)) refl (m.rebuild recon l.rest) (live_leaves m table target recon ls)
  where
    at_leaf : (live : Bool) → is_live (rows.state_in table l.row) ≡ live → (o : Option Point) → live_of table (near_leaves m target recon ls) ≡ near_rows m table target recon ls →
        live_of table (near_row target l.row o) ++ live_of table (near_leaves m target recon ls) ≡ (if live then near_row target l.row o else []) ++ near_rows m table target recon ls
    at_leaf false e None h = h
    at_leaf true e None h = h
    at_leaf false e (Some key) h = ap (λ b. ((if b then record { row = l.row; distance = distance target key } ∷ [] else []) ++ []) ++ live_of table (near_leaves m target recon ls)) e ∙ h
    at_leaf true e (Some key) h = ap (λ b. ((if b then record { row = l.row; distance = distance target key } ∷ [] else []) ++ []) ++ live_of table (near_leaves m target recon ls)) e ∙ ap (λ z. record { row = l.row; distance = distance target key } ∷ z) h

-- a read with the live ones of its leaves
pub live_spot : {O Recon Cond : Type 0} (m : Meaning Point Recon Cond) (boxing : Boxing Recon) (table : rows.Table O Point Recon Cond) (target : Point) (it : NearItem Recon) (sp : Spot) (ys : List (NearItem Recon)) (leaves : List NearRow) → LeafSpot m boxing target it sp ys leaves → NearSpot m boxing table target it sp ys (live_of table leaves)
live_spot m boxing table target it (Branch w ns) ys leaves (a, b) = (a, ap (live_of table) b)
live_spot m boxing table target it (Bucket ls) ys leaves (a, b) = (a, ap (live_of table) b ∙ live_leaves m table target it.recon ls)
live_spot m boxing table target it (Forward y u) ys leaves (a, b) = (a, ap (live_of table) b)
live_spot m boxing table target it Nothing ys leaves h = absurd h

-- ---- one leaf

module _ {O Recon Cond : Type 0} (limit : ℕ) (before : List NearRow) (table : rows.Table O Point Recon Cond) (leaf : NearRow) where
  pub leaf_kept : live_of table (leaf ∷ []) ≡ leaf ∷ [] → KeepsLive limit before (before ++ leaf ∷ []) (live_of table (leaf ∷ []))
  leaf_kept is = (leaf ∷ [], refl, subst (λ z. AreNeeded limit before z (leaf ∷ [])) (sym is) (needed_whole limit before (leaf ∷ [])))

  only_leaf : (h : NearRow) → Contains (live_of table (leaf ∷ [])) h → leaf ≡ h
  only_leaf h = at_state (is_live (rows.state_in table leaf.row))
    where
      at_state : (live : Bool) → Contains ((if live then leaf ∷ [] else []) ++ []) h → leaf ≡ h
      at_state true c = ⊎_elim (λ e. e) (λ d. absurd (contains_none h d)) (contains_cases leaf h [] c)
      at_state false c = absurd (contains_none h c)

  pub leaf_left : (best : List NearRow) → AreBest limit before best → (live_of table (leaf ∷ []) ≡ []) ⊎ ((length best ≡ limit) × ((h : NearRow) → Contains best h → h.distance < leaf.distance)) → KeepsLive limit before before (live_of table (leaf ∷ []))
  leaf_left best B (inl none) = ([], sym (append-nil before), subst (λ z. AreNeeded limit before z []) (sym none) (needed_none limit before))
  leaf_left best B (inr (full, near)) = (
    [],
    sym (append-nil before),
    needed_left limit before (live_of table (leaf ∷ [])) (λ h c. subst (λ (z : NearRow). limit ≤ nearer_than z.distance before) (only_leaf h c) (enough_near limit before best B leaf.distance full near)),
  )
