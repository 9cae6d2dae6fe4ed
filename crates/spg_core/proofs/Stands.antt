-- Where an open insert stands.
use Rattle.std.proofs.Common.{◌≡◌, ℕ, ◌<◌, ◌≤◌, Bool, true, false, List, [], ◌∷◌, ◌⊎◌, ⊎_elim, Option, Some, None, get_or, length, refl, sym, ap, ◌∙◌, subst, inl, inr, arith, IfSome, cond}
use Rattle.spg_opclass.specs.Meaning.{Meaning}
use Rattle.spg_forest.specs.View.{Place, Leaf}
use Rattle.spg_forest.specs.Spot.{Frame}
use Rattle.spg_forest.specs.Tuples.{Tuple, Inner, Live}
use Rattle.spg_forest.specs.Pages.{tuple_on, place, all_live}
use Rattle.spg_forest.specs.Sheets.{Sheet, Sheets, sheet_at, links}
use Rattle.spg_forest.specs.Shape.{Shape, IsKindOf}
use Rattle.spg_forest.proofs.Keeping.{has_child}
use Rattle.spg_forest.proofs.Edits.{page_is}
use Rattle.spg_page.specs.Kinds.{IsInner}
use Rattle.spg_tree.specs.Table.{Table, sheets_of, tuple_at, latch_at, with_latch}
use Rattle.spg_tree.specs.Descents.{Descending, in_nulls}
use Rattle.spg_tree.specs.declared.stand.Stand.{Stand}
use Rattle.spg_tree.specs.declared.stand.Stand.TheVariants.{Start, Root, At, Empty}
use Rattle.spg_descend.specs.Carried.{root_of}
use Rattle.spg_descend.specs.Leaves.{released, parent_block, stand_block, is_held}
use Rattle.spg_descend.specs.Follows.{IsAtInner, tuple_place, link_of, stand_below, latched}
use Rattle.spg_descend.specs.Puts.{IsAtLeaves, IsAtEmpty, IsPutSpot}
use Rattle.spg_descend.specs.Rules.{IsAtNoInner}
use Rattle.spg_seats.specs.Descending.{HasInnerRoot, StandsAt, Stands}
use Rattle.spg_core.specs.Stepping.{SamePages}

pub root_range : (nulls : Bool) → (0 < root_of nulls) × (root_of nulls < 3)
root_range true = (omega arith, omega arith)
root_range false = (omega arith, omega arith)

pub root_tree : {Key Recon Cond : Type 0} (m : Meaning Key Recon Cond) (S : Sheets) → Shape m S → (nulls : Bool) → (sheet_at S (root_of nulls)).nulls ≡ nulls
root_tree m S H true = H.pages.nulls
root_tree m S H false = H.pages.main

-- an inner tuple with its downlinks
pub inner_of : (t : Tuple) → IsInner t → (w : Frame) × (ns : List (Option Place)) × (t ≡ Inner w ns)
inner_of (Inner w ns) e = (w, ns, refl)
inner_of (Live l n) e = cc
inner_of Tuple.Dead e = cc
inner_of (Tuple.Redirect y u) e = cc
inner_of Tuple.Placeholder e = cc

-- a root page without an inner tuple is a leaf page
pub root_leaf : {Key Recon Cond : Type 0} (m : Meaning Key Recon Cond) (t : Table) (b : ℕ) → Shape m (sheets_of t) → 0 < b → b < 3 → (IsAtInner t (Root b) → ⊥) → (sheet_at (sheets_of t) b).inner ≡ false
root_leaf m t b H pos low off = ⊎_elim
    (λ (w, ns, e). absurd (off (low, (let k = H.pages.count in omega arith), subst (λ (ts : List Tuple). IsInner (tuple_on ts 1)) (sym (sym (page_is S b) ∙ e)) refl)))
    (λ (ls, e). leaves ls (sym (page_is S b) ∙ e))
    (H.links.root b pos low)
  where
    S : Sheets
    S = sheets_of t

    leaves : (ls : List Leaf) → (sheet_at S b).tuples ≡ all_live ls → (sheet_at S b).inner ≡ false
    leaves [] e = H.pages.empty_root b pos low e
    leaves (l ∷ ls) e = (subst (λ (ts : List Tuple). IsKindOf m (sheet_at S b).inner (sheet_at S b).nulls (tuple_on ts 1)) e ((H.pages.each b).kinds 1)).0

-- a root page with an inner tuple is an inner page
pub root_inner : {Key Recon Cond : Type 0} (m : Meaning Key Recon Cond) (t : Table) (b : ℕ) → Shape m (sheets_of t) → IsAtInner t (Root b) → (sheet_at (sheets_of t) b).inner ≡ true
root_inner m t b H (low, there, i) =
    let (w, ns, e) = inner_of (tuple_at t (place b 1)) i in
    (subst (λ (u : Tuple). IsKindOf m (sheet_at (sheets_of t) b).inner (sheet_at (sheets_of t) b).nulls u) e ((H.pages.each b).kinds 1)).0

-- off inner tuples an insert stands where a leaf is put
pub stand_put : {Key Recon Cond : Type 0} (m : Meaning Key Recon Cond) (t : Table) (d : Descending Recon) → Shape m (sheets_of t) → Stands t d → IsAtNoInner t d.stand → IsPutSpot (sheets_of t) d
stand_put m t d H at off = go (in_nulls d) d.stand d.parent at off.0 off.1
  where
    go : (nulls : Bool) (st : Stand) (p : Option (Place × ℕ)) → StandsAt t nulls st p → (st ≡ Start → ⊥) → (IsAtInner t st → ⊥) → IsAtLeaves (sheets_of t) nulls st ⊎ IsAtEmpty (sheets_of t) nulls st p
    go nulls Start p a s i = absurd (s refl)
    go nulls (Root b) p (e, q) s i =
        let (pos, low) = root_range nulls in
        inl (
          subst (λ (c : ℕ). 0 < c) (sym e) pos,
          subst (λ (c : ℕ). c < 3) (sym e) low,
          root_leaf m t b H (subst (λ (c : ℕ). 0 < c) (sym e) pos) (subst (λ (c : ℕ). c < 3) (sym e) low) i,
          subst (λ (c : ℕ). (sheet_at (sheets_of t) c).nulls ≡ nulls) (sym e) (root_tree m (sheets_of t) H nulls),
        )
    go nulls (At x) None a s i = absurd a
    go nulls (At x) (Some (p, j)) (a, b, c, k) s i = ⊎_elim (λ z. absurd (i z)) (λ z. inl z) k
    go nulls Empty p (a, e) s i = inr e

-- the block of the tuple above is there
pub above_there : (t : Table) (nulls : Bool) (st : Stand) (p : Option (Place × ℕ)) → StandsAt t nulls st p → IfSome (parent_block p) (λ b. b < length t.pages)
above_there t nulls Start p e = subst (λ (q : Option (Place × ℕ)). IfSome (parent_block q) (λ b. b < length t.pages)) (sym e) tt
above_there t nulls (Root b) p (q, e) = subst (λ (q : Option (Place × ℕ)). IfSome (parent_block q) (λ b. b < length t.pages)) (sym e) tt
above_there t nulls (At x) None a = absurd a
above_there t nulls (At x) (Some (p, j)) (a, b, c, k) = c.0
above_there t nulls Empty None (a, e) = absurd e
above_there t nulls Empty (Some (x, i)) (a, e) = e.1

-- so is the block on which it stands
pub here_there : {Key Recon Cond : Type 0} (m : Meaning Key Recon Cond) (t : Table) (nulls : Bool) (st : Stand) (p : Option (Place × ℕ)) → Shape m (sheets_of t) → StandsAt t nulls st p → IfSome (stand_block st) (λ b. b < length t.pages)
here_there m t nulls Start p H a = tt
here_there m t nulls (Root b) p H (e, q) = let k = H.pages.count in let l = (root_range nulls).1 in omega arith
here_there m t nulls (At x) None H a = absurd a
here_there m t nulls (At x) (Some (p, j)) H (a, b, c, k) = ⊎_elim (λ z. z.1) (λ z. z.1) k
here_there m t nulls Empty p H a = tt

-- where the pages are the same the insert stands as it did
pub stands_same : (t t2 : Table) (nulls : Bool) (st : Stand) (p : Option (Place × ℕ)) → SamePages t t2 → StandsAt t nulls st p → StandsAt t2 nulls st p
stands_same t t2 nulls st p (e, l) a = go st p a
  where
    ep : t2.pages ≡ t.pages
    ep = ap (λ (S : Sheets). S.sheets) e

    go : (st : Stand) (p : Option (Place × ℕ)) → StandsAt t nulls st p → StandsAt t2 nulls st p
    go Start p a = a
    go (Root b) p a = a
    go (At x) None a = a
    go (At x) (Some (q, j)) a = subst (λ (ps : List Sheet). StandsAt (record t { pages = ps }) nulls (At x) (Some (q, j))) (sym ep) a
    go Empty None a = absurd a.1
    go Empty (Some (q, j)) a = subst (λ (ps : List Sheet). StandsAt (record t { pages = ps }) nulls Empty (Some (q, j))) (sym ep) a

-- the tree of the page on which an insert stands at an inner tuple, and its root
pub inner_stand : {Key Recon Cond : Type 0} (m : Meaning Key Recon Cond) (t : Table) (nulls : Bool) (st : Stand) (p : Option (Place × ℕ)) → Shape m (sheets_of t) → StandsAt t nulls st p → IsAtInner t st →
    HasInnerRoot t nulls × ((sheet_at (sheets_of t) (tuple_place st).block).nulls ≡ nulls) × (0 < (tuple_place st).block)
inner_stand m t nulls Start p H a i = absurd i.0
inner_stand m t nulls (Root b) p H (e, q) i = (
  subst (λ (c : ℕ). (sheet_at (sheets_of t) c).inner ≡ true) e (root_inner m t b H i),
  subst (λ (c : ℕ). (sheet_at (sheets_of t) c).nulls ≡ nulls) (sym e) (root_tree m (sheets_of t) H nulls),
  subst (λ (c : ℕ). 0 < c) (sym e) (root_range nulls).0,
)
inner_stand m t nulls (At x) None H a i = absurd a
inner_stand m t nulls (At x) (Some (p, j)) H (a, b, c, k) i = (a, b, (let h : 3 ≤ x.block = i.0 in omega arith))
inner_stand m t nulls Empty p H a i = absurd i.0

-- below a node of the inner tuple at which it stood, the insert stands again
pub child_stands : {Key Recon Cond : Type 0} (m : Meaning Key Recon Cond) (t : Table) (nulls : Bool) (st : Stand) (p : Option (Place × ℕ)) (node : ℕ) → Shape m (sheets_of t) → StandsAt t nulls st p → IsAtInner t st →
    node < length (links (tuple_at t (tuple_place st))) → StandsAt t nulls (stand_below (link_of t (tuple_place st) node)) (Some (tuple_place st, node))
child_stands m t nulls st p node H a i n =
    let x : Place = tuple_place st in
    let (root, tree, pos) = inner_stand m t nulls st p H a i in
    let (w, ns, e) = inner_of (tuple_at t x) i.2 in
    let there : x.block < length t.pages = i.1 in
    let n2 : node < length ns = subst (λ (u : Tuple). node < length (links u)) e n in
    go x w ns e root tree pos there n2 (link_of t x node) (ap (λ (u : Tuple). get_or (links u) node None) (sym e))
  where
    go : (x : Place) (w : Frame) (ns : List (Option Place)) → tuple_at t x ≡ Inner w ns → HasInnerRoot t nulls → (sheet_at (sheets_of t) x.block).nulls ≡ nulls → 0 < x.block → x.block < length t.pages → node < length ns →
        (l : Option Place) → get_or ns node None ≡ l → StandsAt t nulls (stand_below l) (Some (x, node))
    go x w ns e root tree pos there n None l = (root, (pos, there, tree, (w, ns, e, n, l)))
    go x w ns e root tree pos there n (Some y) l =
        let C = has_child m (sheets_of t) x y w ns node H e l in
        let yt : (sheet_at (sheets_of t) y.block).nulls ≡ nulls = C.tree ∙ tree in (
          root,
          yt,
          (there, (w, ns, e, l)),
          ⊎_elim
              (λ (w2, ns2, e2, s). inl (C.high, C.block, subst (λ (u : Tuple). IsInner u) (sym e2) refl))
              (λ k. inr (C.high, C.block, yt, ⊎_elim (λ (l2, n2, ls, e2, s). (l2 ∷ ls, s)) (λ (e2, s). ([], s)) k)) C.kind,
        )

-- ---- latches leave the pages as they are

pub released_same : (t : Table) (b : Option ℕ) (seat : ℕ) → SamePages t (released t b seat)
released_same t None seat = (refl, refl)
released_same t (Some b) seat = elim (is_held (latch_at t b) seat) as (λ h. SamePages t (cond h (with_latch t b None) t)) [ true ↦ (refl, refl) | false ↦ (refl, refl) ]

pub latched_same : (t : Table) (b : Option ℕ) (seat : ℕ) → SamePages t (latched t b seat)
latched_same t None seat = (refl, refl)
latched_same t (Some b) seat = (refl, refl)

pub same_trans : (t t1 t2 : Table) → SamePages t t1 → SamePages t1 t2 → SamePages t t2
same_trans t t1 t2 (a, b) (c, d) = (c ∙ a, d ∙ b)
