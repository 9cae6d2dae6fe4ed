-- What comes of a section of an insert.
use Rattle.std.proofs.Common.{◌≡◌, ℕ, ◌<◌, Bool, true, false, List, ◌⊎◌, ⊎_elim, Option, Some, None, length, refl, sym, ap, ◌∙◌, subst, inl, inr, arith}
use Rattle.spg_opclass.specs.Meaning.{Meaning}
use Rattle.spg_forest.specs.View.{Place}
use Rattle.spg_forest.specs.Tuples.{Live}
use Rattle.spg_forest.specs.Pages.{place, moved}
use Rattle.spg_forest.specs.Sheets.{Sheet, Sheets, sheet_at, links}
use Rattle.spg_forest.specs.Shape.{Shape, IsRestOf}
use Rattle.spg_forest.specs.Follows.{GoesBelow}
use Rattle.spg_page.specs.Kinds.{IsInner}
use Rattle.spg_page.specs.Reads.{frame_in}
use Rattle.spg_tree.specs.Table.{Table, sheets_of, tuple_at, latch_at}
use Rattle.spg_tree.specs.Descents.{Descending, in_nulls, placed}
use Rattle.spg_tree.specs.declared.stand.Stand.{Stand}
use Rattle.spg_tree.specs.declared.stand.Stand.TheVariants.{Start, Root, At, Empty}
use Rattle.spg_descend.specs.Carried.{carried, root_of, IsCarried}
use Rattle.spg_descend.specs.Enters.{CarriesOn}
use Rattle.spg_descend.specs.Leaves.{released, stand_block, parent_block}
use Rattle.spg_descend.specs.Follows.{IsAtInner, tuple_place, link_of, stand_below, latched, left_behind, table_below, FollowsNode, CarriesBelow}
use Rattle.spg_descend.specs.Below.{IsChainBelow, IsAtChain, IsTicked}
use Rattle.spg_descend.specs.Makes.{MakesNone, MakesOne}
use Rattle.spg_descend.specs.Puts.{IsAtLeaves, IsAtEmpty, Fits}
use Rattle.spg_descend.specs.Rules.{IsThere, IsAtNoInner, MayMove}
use Rattle.spg_descend.specs.declared.enter.Entered.{Entered}
use Rattle.spg_descend.specs.declared.enter.Entered.TheVariants.{In, Busy}
use Rattle.spg_descend.proofs.Starts.{spots_are_there}
use Rattle.spg_split.specs.Splits.{IsAtRoot, IsCalm, IsSplitOut, split_cost}
use Rattle.spg_split.specs.Below.{IsLedTo, MakesBelow, SplitsWithout, IsChainSplit}
use Rattle.spg_split.specs.declared.split.SplitOut.TheVariants.{LeftOut}
use Rattle.spg_core.specs.declared.answer.InsertOut.TheVariants as outs
use Rattle.spg_seats.specs.Descending.{HasInnerRoot, StandsAt, Stands, ChangesHeld}
use Rattle.spg_core.specs.Stepping.{SamePages, MakesAtMostOne, GoesOn, IsRootFull, RootsGrow, IsStepOut}
use Rattle.spg_core.specs.Telling.{turned}
use Rattle.spg_core.proofs.Stands.{root_range, stand_put, stands_same, child_stands, released_same, latched_same, same_trans, root_leaf}
use Rattle.spg_core.proofs.Trees.{place_tree}

-- with the same pages an insert that stays goes on
pub goes_same : {Key Recon Cond : Type 0} (m : Meaning Key Recon Cond) (t t2 : Table) (d d2 : Descending Recon) → SamePages t t2 → d2 ≡ d → Stands t d → GoesOn m t t2 d d2
goes_same {Key} m t t2 d d2 same e at = subst (λ (z : Descending _). GoesOn m t t2 d z) (sym e)
    (refl, refl, stands_same t t2 (in_nulls d) d.stand d.parent same at, λ key C. subst (λ (S : Sheets). IsCarried m S d key) (sym same.0) C)

-- an insert that has entered its root goes on there
pub goes_root : {Key Recon Cond : Type 0} (m : Meaning Key Recon Cond) (t t2 : Table) (d d2 : Descending Recon) → SamePages t t2 → d2 ≡ placed d (Root (root_of (in_nulls d))) None → CarriesOn m d → GoesOn m t t2 d d2
goes_root {Key} m t t2 d d2 same e carries = subst (λ (z : Descending _). GoesOn m t t2 d z) (sym e) (refl, refl, (refl, refl), λ key C. subst (λ (S : Sheets). IsCarried m S (placed d (Root (root_of (in_nulls d))) None) key) (sym same.0) (carries (sheets_of t) key C))

pub below_same : {Recon : Type 0} (t : Table) (d : Descending Recon) (x : Place) (st : Stand) (seat : ℕ) → SamePages t (table_below t d x st seat)
below_same t d x st seat = same_trans t (latched t (stand_block st) seat) (table_below t d x st seat) (latched_same t (stand_block st) seat)
    (released_same (latched t (stand_block st) seat) (left_behind (parent_block d.parent) x.block (stand_block st)) seat)

-- an insert that has followed a node
pub down_out : {Key Recon Cond : Type 0} (m : Meaning Key Recon Cond) (t t1 t2 : Table) (d d2 : Descending Recon) (seat node : ℕ) (rest : List ℕ) → Shape m (sheets_of t) → IsAtInner t d.stand → Stands t d → node < length (links (tuple_at t (tuple_place d.stand))) →
    IsRestOf m (in_nulls d) rest → ((key : Option Key) → IsCarried m (sheets_of t) d key → GoesBelow m d.recon (frame_in (tuple_at t (tuple_place d.stand))) node rest key) →
    FollowsNode m t t1 d d2 seat node rest In → CarriesBelow m t t1 d d2 node rest In → SamePages t1 t2 → IsStepOut m t t2 d d2 seat outs.Descended
down_out {Key} {Recon} m t t1 t2 d d2 seat node rest H i at n R G (free, et, ed) carries same =
    let x : Place = tuple_place d.stand in
    let s1 : SamePages t t1 = subst (λ (z : Table). SamePages t z) (sym et) (below_same t d x (stand_below (link_of t x node)) seat) in
    let s2 : SamePages t t2 = same_trans t t1 t2 s1 same in
    let stands : StandsAt t (in_nulls d) (stand_below (link_of t x node)) (Some (x, node)) = child_stands m t (in_nulls d) d.stand d.parent node H at i n in (
      inr i,
      s2,
      (
        ap (λ (z : Descending Recon). z.row) ed,
        ap (λ (z : Descending Recon). in_nulls z) ed,
        subst (λ (z : Descending Recon). Stands t2 z) (sym ed) (stands_same t t2 (in_nulls d) (stand_below (link_of t x node)) (Some (x, node)) s2 stands),
        λ key C. subst (λ (S : Sheets). IsCarried m S d2 key) (sym same.0) (carries key R (G key C) C),
      ),
    )

-- what the insert stands on is there
pub there_of : {Key Recon Cond : Type 0} (m : Meaning Key Recon Cond) (t : Table) (d : Descending Recon) → Shape m (sheets_of t) → Stands t d → IsThere t d.stand
there_of {Key} {Recon} m t d H at = go d.stand d.parent refl refl at
  where
    go : (st : Stand) (p : Option (Place × ℕ)) → d.stand ≡ st → d.parent ≡ p → StandsAt t (in_nulls d) st p → IsThere t st
    go Start p e q a = tt
    go (Root b) p e q (f, g) = subst (λ (c : ℕ). c < 3) (sym f) (root_range (in_nulls d)).1
    go (At x) None e q a = absurd a
    go (At x) (Some (p, j)) e q (a, b, c, k) = subst (λ (s : Stand). IsThere t s) e (spots_are_there m t d H
        (⊎_elim (λ z. inl (subst (λ (s : Stand). IsAtInner t s) (sym e) z)) (λ z. inr (inl (subst (λ (s : Stand). IsAtLeaves (sheets_of t) (in_nulls d) s) (sym e) z))) k))
    go Empty p e q a = tt

-- latches given free leave the pages as they are
freed_same : (t : Table) (a b : Option ℕ) (seat : ℕ) → SamePages t (released (released t a seat) b seat)
freed_same t a b seat = same_trans t (released t a seat) (released (released t a seat) b seat) (released_same t a seat) (released_same (released t a seat) b seat)

-- an insert that has gone back to its start
pub back_out : {Key Recon Cond : Type 0} (m : Meaning Key Recon Cond) (t t1 t2 : Table) (d d2 : Descending Recon) (seat block by node : ℕ) (rest : List ℕ) →
    FollowsNode m t t1 d d2 seat node rest (Busy block by) → CarriesBelow m t t1 d d2 node rest (Busy block by) → SamePages t1 t2 → IsStepOut m t t2 d d2 seat (outs.Restarted block by)
back_out {Key} {Recon} m t t1 t2 d d2 seat block by node rest (eb, held, other, et, ed) carries same =
    let s1 : SamePages t t1 = subst (λ (z : Table). SamePages t z) (sym et) (freed_same t (stand_block d.stand) (parent_block d.parent) seat) in
    let starts : Stands t2 d2 = subst (λ (z : Descending Recon). Stands t2 z) (sym ed) refl in (
      held,
      other,
      ap (λ (z : Descending Recon). z.stand) ed,
      same_trans t t1 t2 s1 same,
      (ap (λ (z : Descending Recon). z.row) ed, ap (λ (z : Descending Recon). in_nulls z) ed, starts, λ key C. subst (λ (S : Sheets). IsCarried m S d2 key) (sym same.0) (carries key C)),
    )

-- an insert stands at a root, or at none
pub root_or_below : (stand : Stand) → IsAtRoot stand ⊎ (IsAtRoot stand → ⊥)
root_or_below Start = inr (λ h. h)
root_or_below (Root b) = inl tt
root_or_below (At x) = inr (λ h. h)
root_or_below Empty = inr (λ h. h)

-- below the root of its tree the root is an inner tuple
pub below_root : {Recon : Type 0} (t : Table) (d : Descending Recon) → Stands t d → IsAtNoInner t d.stand → (IsAtRoot d.stand → ⊥) → HasInnerRoot t (in_nulls d)
below_root t d at off low = go d.stand d.parent at off.0 low
  where
    go : (st : Stand) (p : Option (Place × ℕ)) → StandsAt t (in_nulls d) st p → (st ≡ Start → ⊥) → (IsAtRoot st → ⊥) → HasInnerRoot t (in_nulls d)
    go Start p a n l = absurd (n refl)
    go (Root b) p a n l = absurd (l tt)
    go (At x) None a n l = absurd a
    go (At x) (Some (p, j)) a n l = a.0
    go Empty p a n l = a.0

-- at a root leaf page on which the leaf has no room
pub root_full : {Key Recon Cond : Type 0} (m : Meaning Key Recon Cond) (t : Table) (d : Descending Recon) → Shape m (sheets_of t) → Stands t d → IsAtNoInner t d.stand → (Fits t d.stand (Live (carried d) 0) → ⊥) → IsAtRoot d.stand → IsRootFull t d
root_full {Key} {Recon} m t d H at off room low = go d.stand refl d.parent at low
  where
    go : (st : Stand) → d.stand ≡ st → (p : Option (Place × ℕ)) → StandsAt t (in_nulls d) st p → IsAtRoot st → IsRootFull t d
    go Start q p a l = absurd l
    go (Root b) q p (e, f) l =
        let q2 : d.stand ≡ Root (root_of (in_nulls d)) = q ∙ ap Root e in
        let no_inner : IsAtInner t (Root (root_of (in_nulls d))) → ⊥ = subst (λ (s : Stand). IsAtInner t s → ⊥) q2 off.1 in
        (q2, root_leaf m t (root_of (in_nulls d)) H (root_range (in_nulls d)).0 (root_range (in_nulls d)).1 no_inner, subst (λ (s : Stand). Fits t s (Live (carried d) 0) → ⊥) q2 room)
    go (At x) q p a l = absurd l
    go Empty q p a l = absurd l

-- an insert at a root leaf page
pub root_leaves : {Key Recon Cond : Type 0} (m : Meaning Key Recon Cond) (t : Table) (d : Descending Recon) → Shape m (sheets_of t) → Stands t d → IsAtNoInner t d.stand → IsAtRoot d.stand → IsAtLeaves (sheets_of t) (in_nulls d) d.stand
root_leaves {Key} {Recon} m t d H at off low = ⊎_elim (λ a. a) (λ a. absurd (go d.stand low a)) (stand_put m t d H at off)
  where
    go : (st : Stand) → IsAtRoot st → IsAtEmpty (sheets_of t) (in_nulls d) st d.parent → ⊥
    go Start l a = l
    go (Root b) l a = a
    go (At x) l a = l
    go Empty l a = l

-- ---- which roots are inner tuples after a section

-- each root page keeps its kind
pub kinds_grow : {Recon : Type 0} (t t1 : Table) (d : Descending Recon) → ((b : ℕ) → b < 3 → (sheet_at (sheets_of t1) b).inner ≡ (sheet_at (sheets_of t) b).inner) → RootsGrow t t1 d
kinds_grow t t1 d kinds nulls h = inl (sym (kinds (root_of nulls) (root_range nulls).1) ∙ h)

root_other : (a b : Bool) → (root_of a ≡ root_of b) → a ≡ b
root_other true true e = refl
root_other true false e = absurd (omega arith)
root_other false true e = absurd (omega arith)
root_other false false e = refl

-- which roots a division at a root makes inner tuples
pub calm_grow : {Recon : Type 0} (t t1 : Table) (d : Descending Recon) → IsCalm t t1 d.stand → IsRootFull t d → RootsGrow t t1 d
calm_grow t t1 d calm full nulls h = pick (same_bool nulls (in_nulls d))
  where
    same_kind : (Root (root_of (in_nulls d)) ≡ Root (root_of nulls) → ⊥) → HasInnerRoot t nulls
    same_kind n = sym (calm.roots (root_of nulls) (root_range nulls).1 (λ e. n (sym full.0 ∙ e))) ∙ h

    root_same : (a b : ℕ) → Root a ≡ Root b → a ≡ b
    root_same a b e = cc

    same_bool : (u v : Bool) → (u ≡ v) ⊎ (u ≡ v → ⊥)
    same_bool true true = inl refl
    same_bool true false = inr (λ q. cc)
    same_bool false true = inr (λ q. cc)
    same_bool false false = inl refl

    pick : (nulls ≡ in_nulls d) ⊎ (nulls ≡ in_nulls d → ⊥) → HasInnerRoot t nulls ⊎ ((nulls ≡ in_nulls d) × IsRootFull t d)
    pick (inl q) = inr (q, full)
    pick (inr n) = inl (same_kind (λ e. n (sym (root_other (in_nulls d) nulls (root_same (root_of (in_nulls d)) (root_of nulls) e)))))

-- ---- what comes of a section

-- a root page was divided without the leaf of the insert
pub root_out : {Key Recon Cond : Type 0} (m : Meaning Key Recon Cond) (t t1 : Table) (d d2 : Descending Recon) (seat : ℕ) → Stands t d → IsAtNoInner t d.stand → IsAtRoot d.stand → IsRootFull t d → IsSplitOut m t t1 d d2 LeftOut → IsStepOut m t t1 d d2 seat outs.Restructured
root_out {Key} {Recon} m t t1 d d2 seat at off low full (calm, makes, ways) = ⊎_elim
    (λ (e, W). (off.0, (split_cost d.stand 0, (λ x. x), W.leaves), calm.limit, calm_grow t t1 d calm full, (ap (λ (x : Descending Recon). x.row) e, ap (λ (x : Descending Recon). in_nulls x) e, subst (λ (x : Descending Recon). Stands t1 x) (sym e) (there d.stand d.parent low at), W.carries)))
    (λ (e, W). (off.0, (split_cost d.stand 1, (λ x. x), W.leaves), calm.limit, calm_grow t t1 d calm full, (ap (λ (x : Descending Recon). x.row) e, ap (λ (x : Descending Recon). in_nulls x) e, subst (λ (x : Descending Recon). Stands t1 x) (sym e) (there d.stand d.parent low at), W.carries)))
    ways
  where
    -- at a root it stands whatever the pages are
    there : (st : Stand) (p : Option (Place × ℕ)) → IsAtRoot st → StandsAt t (in_nulls d) st p → StandsAt t1 (in_nulls d) st p
    there Start p l a = absurd l
    there (Root b) p l a = a
    there (At x) p l a = absurd l
    there Empty p l a = absurd l

-- ---- an insert at a chain below a root

-- it stands at the chain
pub at_chain : {Recon : Type 0} (t : Table) (d : Descending Recon) → Stands t d → IsAtNoInner t d.stand → (IsAtRoot d.stand → ⊥) → (d.stand ≡ Empty → ⊥) → IsAtChain t d
at_chain t d at off low full = go d.stand d.parent at off.0 off.1 low full
  where
    go : (st : Stand) (p : Option (Place × ℕ)) → StandsAt t (in_nulls d) st p → (st ≡ Start → ⊥) → (IsAtInner t st → ⊥) → (IsAtRoot st → ⊥) → (st ≡ Empty → ⊥) → IsChainBelow t (in_nulls d) st p
    go Start p a s i l e = absurd (s refl)
    go (Root b) p a s i l e = absurd (l tt)
    go (At x) None a s i l e = absurd a
    go (At x) (Some (p, j)) (a, b, c, k) s i l e = (⊎_elim (λ z. absurd (i z)) (λ z. z) k, c)
    go Empty p a s i l e = absurd (e refl)

-- at an empty downlink a leaf fits
pub not_empty : {Recon : Type 0} (t : Table) (d : Descending Recon) → (Fits t d.stand (Live (carried d) 0) → ⊥) → d.stand ≡ Empty → ⊥
not_empty t d room e = room (subst (λ (s : Stand). Fits t s (Live (carried d) 0)) (sym e) tt)

-- a chain that may move is below a root
pub moves_below : {Recon : Type 0} (t : Table) (d : Descending Recon) → MayMove t d.stand (Live (carried d) 0) → IsAtRoot d.stand → ⊥
moves_below t d may low = go d.stand may low
  where
    go : (st : Stand) → MayMove t st (Live (carried d) 0) → IsAtRoot st → ⊥
    go Start h l = l
    go (Root b) h l = h
    go (At x) h l = l
    go Empty h l = l

-- the insert stands at the inner tuple that took the chain's place
stands_led : (t : Table) (nulls : Bool) (z : Place) (parent : Option (Place × ℕ)) → HasInnerRoot t nulls → (sheet_at (sheets_of t) z.block).nulls ≡ nulls → IsLedTo t parent z → IsAtInner t (At z) → StandsAt t nulls (At z) parent
stands_led t nulls z None root tree led inner = led
stands_led t nulls z (Some (p, i)) root tree led inner = (root, tree, led, inl inner)

-- it goes on from there
pub led_goes : {Key Recon Cond : Type 0} (m : Meaning Key Recon Cond) (t t1 : Table) (d d2 : Descending Recon) (z : Place) → ((key : Option Key) × IsCarried m (sheets_of t) d key) → HasInnerRoot t (in_nulls d) → IsTicked t t1 →
    (d2.row ≡ d.row) → (in_nulls d2 ≡ in_nulls d) → (d2.stand ≡ At z) → (d2.parent ≡ d.parent) → Shape m (sheets_of t1) → IsAtInner t1 (At z) → IsLedTo t1 d.parent z → ((key : Option Key) → IsCarried m (sheets_of t) d key → IsCarried m (sheets_of t1) d2 key) → GoesOn m t t1 d d2
led_goes {Key} {Recon} m t t1 d d2 z (key, C) root ticked row nulls stand parent H inner led carries =
    let tree : (sheet_at (sheets_of t1) z.block).nulls ≡ in_nulls d2 = place_tree m (sheets_of t1) H d2 key z (carries key C) stand in
    let root1 : HasInnerRoot t1 (in_nulls d) = ticked.roots (root_of (in_nulls d)) (root_range (in_nulls d)).1 ∙ root in
    let at : StandsAt t1 (in_nulls d2) (At z) d.parent = stands_led t1 (in_nulls d2) z d.parent (subst (λ (b : Bool). HasInnerRoot t1 b) (sym nulls) root1) tree led inner in (
      row,
      nulls,
      subst (λ (p : Option (Place × ℕ)). StandsAt t1 (in_nulls d2) d2.stand p) (sym parent) (subst (λ (s : Stand). StandsAt t1 (in_nulls d2) s d.parent) (sym stand) at),
      carries,
    )

-- a chain was divided without the leaf of the insert
pub chain_out : {Key Recon Cond : Type 0} (m : Meaning Key Recon Cond) (t t1 : Table) (d d2 : Descending Recon) (seat : ℕ) → ((key : Option Key) × IsCarried m (sheets_of t) d key) → IsAtNoInner t d.stand → HasInnerRoot t (in_nulls d) → IsTicked t t1 →
    IsChainSplit m t t1 d d2 LeftOut → IsStepOut m t t1 d d2 seat outs.Restructured
chain_out {Key} {Recon} m t t1 d d2 seat of_key off root ticked (z, makes, ways) = ⊎_elim
    (λ (e, W). one 0 (ap (λ (x : Descending Recon). x.row) e) (ap (λ (x : Descending Recon). in_nulls x) e) (ap (λ (x : Descending Recon). x.stand) e) (ap (λ (x : Descending Recon). x.parent) e) W)
    (λ (e, W). one 1 (ap (λ (x : Descending Recon). x.row) e) (ap (λ (x : Descending Recon). in_nulls x) e) (ap (λ (x : Descending Recon). x.stand) e) (ap (λ (x : Descending Recon). x.parent) e) W)
    ways
  where
    one : (spread : ℕ) → d2.row ≡ d.row → in_nulls d2 ≡ in_nulls d → d2.stand ≡ At z → d2.parent ≡ d.parent → SplitsWithout m t t1 d d2 z spread → IsStepOut m t t1 d d2 seat outs.Restructured
    one spread row nulls stand parent W = (off.0, (split_cost d.stand spread, moved (tuple_place d.stand) z, W.leaves), ticked.limit, kinds_grow t t1 d ticked.roots, led_goes m t t1 d d2 z of_key root ticked row nulls stand parent W.leaves.section.shape W.inner W.link W.carries)

-- ---- which inner tuples a section makes

-- then latches alone are changed
pub makes_same : (t t1 t2 : Table) (z : Place) → SamePages t1 t2 → MakesOne t t1 z → MakesAtMostOne t t2
makes_same t t1 t2 z (e, l) makes =
    let ep : t2.pages ≡ t1.pages = ap (λ (S : Sheets). S.sheets) e in
    (z, λ x off inner. makes x off (subst (λ (ps : List Sheet). IsInner (tuple_at (record t1 { pages = ps }) x)) ep inner))

pub makes_none : (t t1 t2 : Table) → SamePages t1 t2 → MakesNone t t1 → MakesAtMostOne t t2
makes_none t t1 t2 same none = makes_same t t1 t2 (place 0 0) same (λ x off inner. none x inner)

-- the node of the tuple above leads to the one that is made
pub makes_below : (t t1 : Table) (parent : Option (Place × ℕ)) (z : Place) → MakesBelow t t1 parent z → MakesOne t t1 z
makes_below t t1 None z makes = absurd makes
makes_below t t1 (Some (p, i)) z makes = makes.0

-- ---- a node is followed

pub follows_same : {Key Recon Cond : Type 0} (m : Meaning Key Recon Cond) (t t1 : Table) (d d2 : Descending Recon) (seat node : ℕ) (rest : List ℕ) (out : Entered) → FollowsNode m t t1 d d2 seat node rest out → SamePages t t1
follows_same {Key} {Recon} m t t1 d d2 seat node rest In (unheld, et, ed) = subst (λ (z : Table). SamePages t z) (sym et) (below_same t d (tuple_place d.stand) (stand_below (link_of t (tuple_place d.stand) node)) seat)
follows_same {Key} {Recon} m t t1 d d2 seat node rest (Busy block by) (eb, held, other, et, ed) = subst (λ (z : Table). SamePages t z) (sym et) (freed_same t (stand_block d.stand) (parent_block d.parent) seat)

-- the counter leaves pages and latches as they are
pub turned_same : (by_turn : Bool) (t : Table) → SamePages t (turned by_turn t)
turned_same true t = (refl, refl)
turned_same false t = (refl, refl)

pub turned_latch : (by_turn : Bool) (t : Table) (b : ℕ) → latch_at (turned by_turn t) b ≡ latch_at t b
turned_latch true t b = refl
turned_latch false t b = refl

-- it makes no inner tuple
pub same_makes : (t t2 : Table) → SamePages t t2 → MakesAtMostOne t t2
same_makes t t2 same = makes_none t t t2 same (λ x i. i)

-- and no page is changed
pub same_within : (t t2 : Table) (seat : ℕ) → SamePages t t2 → ChangesHeld t t2 seat
same_within t t2 seat same = λ b. inl (ap (λ (S : Sheets). sheet_at S b) same.0)
