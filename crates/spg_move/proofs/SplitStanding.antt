-- What is known where an insert stands at an inner tuple that the class splits.
use Rattle.std.proofs.Common.{◌≡◌, ℕ, ◌≤◌, ◌<◌, ℤ, Bool, true, false, List, Option, Some, None, option_map, length, refl, sym, ap, ◌∙◌, subst, arith}
use Rattle.std.proofs.lemmas.List.{length-replicate}
use Rattle.spg_opclass.specs.Meaning.{Meaning, is_tuple, upper, lower}
use Rattle.spg_opclass.specs.Laws.{SplitLaw, CodeLaw, IsSplit, inner_size}
use Rattle.spg_opclass.specs.declared.view.Choice.TheVariants.{Split}
use Rattle.spg_forest.specs.View.{Place}
use Rattle.spg_forest.specs.Spot.{Frame}
use Rattle.spg_forest.specs.Tuples.{Tuple, Inner, Live, Dead, Redirect, Placeholder}
use Rattle.spg_forest.specs.Classes.{class_of, key_of, HasRecon}
use Rattle.spg_forest.specs.Sheets.{sheet_at, size_of, links}
use Rattle.spg_forest.specs.Shape.{Shape, spots, IsKindOf, IsTupleOf}
use Rattle.spg_forest.specs.Edits.{CanPut, spot_of}
use Rattle.spg_forest.proofs.FitWay.{recon_of_fit}
use Rattle.spg_page.specs.Kinds.{IsOffset, IsInner}
use Rattle.spg_page.specs.Reads.{frame_in}
use Rattle.spg_tree.specs.Table.{Table, sheets_of, tuples_at, tuple_at}
use Rattle.spg_tree.specs.Descents.{Descending, in_nulls}
use Rattle.spg_tree.specs.declared.stand.Stand.{Stand}
use Rattle.spg_tree.specs.declared.stand.Stand.TheVariants.{Start, Root, At, Empty}
use Rattle.spg_descend.specs.Carried.{IsCarried, root_of}
use Rattle.spg_descend.specs.Follows.{IsAtInner, tuple_place}
use Rattle.spg_descend.proofs.FollowLaw.{is_within, fit_here}
use Rattle.spg_descend.specs.BareNodes.{bare}
use Rattle.spg_descend.specs.Answers.{IsAnswered}
use Rattle.spg_move.specs.Answers.{IsInnerOf}
use Rattle.spg_move.specs.Splitting.{MayPart}

pub inner_is : (u : Tuple) → IsInner u → u ≡ Inner (frame_in u) (links u)
inner_is (Inner w ns) e = refl
inner_is (Live l n) e = cc
inner_is Dead e = cc
inner_is (Redirect y s) e = cc
inner_is Placeholder e = cc

some_key : {A : Type 0} (o : Option A) (k : Option A) → option_map Some o ≡ Some k → (a : A) × (o ≡ Some a)
some_key None k e = cc
some_key (Some a) k e = (a, refl)

module _ {Key Recon Cond : Type 0} (m : Meaning Key Recon Cond) (t : Table) (H : Shape m (sheets_of t)) where
  -- the tuple is on a page of the insert's tree
  record IsOn (nulls : Bool) (st : Stand) : Type 0 where
    inner : IsAtInner t st
    tree : (sheet_at (sheets_of t) (tuple_place st).block).nulls ≡ nulls
    positive : 0 < (tuple_place st).block

  is_on : (nulls : Bool) (st : Stand) (parent : Option (Place × ℕ)) → IsInnerOf t nulls st parent → IsOn nulls st
  is_on nulls Start parent a = absurd a
  is_on nulls (Root b) parent (e, a) = record { inner = a; tree = ap (λ i. (sheet_at (sheets_of t) i).nulls) e ∙ root nulls; positive = let k = least nulls in omega arith }
    where
      root : (n : Bool) → (sheet_at (sheets_of t) (root_of n)).nulls ≡ n
      root true = H.pages.nulls
      root false = H.pages.main

      least : (n : Bool) → 0 < root_of n
      least true = omega arith
      least false = omega arith
  is_on nulls (At x) None a = absurd a
  is_on nulls (At x) (Some (p, i)) (a, n, l) = record { inner = a; tree = n; positive = let k = a.0 in omega arith }
  is_on nulls Empty parent a = absurd a

  module _ (law : SplitLaw m) (codes : CodeLaw m) (d : Descending Recon) (c : ℕ) (pre low : List ℕ) (labels : List ℤ) (I : IsInnerOf t (in_nulls d) d.stand d.parent) (N : in_nulls d ≡ false) (K : (key : Option Key) × IsCarried m (sheets_of t) d key)
      (A : IsAnswered m t d (Split pre labels c low)) where
    abbrev pub x : Place
    x = tuple_place d.stand

    abbrev pub w : Frame
    w = frame_in (tuple_at t x)

    abbrev pub ns : List (Option Place)
    ns = links (tuple_at t x)

    abbrev pub up : Tuple
    up = Inner (upper pre labels) (bare (length labels))

    abbrev pub lo : Tuple
    lo = Inner (lower w low) ns

    on : IsOn (in_nulls d) d.stand
    on = is_on (in_nulls d) d.stand d.parent I

    pub at_inner : IsAtInner t d.stand
    at_inner = on.inner

    pub at_x : tuple_at t x ≡ Inner w ns
    at_x = inner_is (tuple_at t x) at_inner.2

    pub within : IsOffset (tuples_at t x.block) x.offset
    within = is_within t d.stand at_inner

    pub main : (sheet_at (sheets_of t) x.block).nulls ≡ false
    main = on.tree ∙ N

    pub x_kind : IsKindOf m (sheet_at (sheets_of t) x.block).inner (sheet_at (sheets_of t) x.block).nulls (Inner w ns)
    x_kind = subst (λ (u : Tuple). IsKindOf m (sheet_at (sheets_of t) x.block).inner (sheet_at (sheets_of t) x.block).nulls u) at_x ((H.pages.each x.block).kinds x.offset)

    pub w_tuple : is_tuple m w ≡ true
    w_tuple = subst (λ (b : Bool). IsTupleOf m b w) main x_kind.2

    pub recon : Recon
    recon = A.0

    pub recon_is : d.recon ≡ Some recon
    unfolding recon
    recon_is = A.1

    pub answer : m.answer recon w d.rest ≡ Split pre labels c low
    unfolding recon
    answer = A.2

    pub rebuilt : (key : Key) × (m.rebuild recon d.rest ≡ Some key)
    rebuilt = let (key, C) = K in some_key (m.rebuild recon d.rest) key (subst (λ (r : Option Recon). key_of m r d.rest ≡ Some key) recon_is C.rebuilt)

    pub split : IsSplit m recon w d.rest (upper pre labels) c (lower w low)
    split = let (key, e) = rebuilt in law recon w d.rest key w_tuple e pre labels c low answer

    -- each label has a downlink
    pub each : length ns ≡ length w.labels
    each = x_kind.1.each

    pub upper_some : 0 < length labels
    upper_some = let k = split.child_there in omega arith

    pub upper_small : inner_size (upper pre labels) ≤ 8156
    upper_small = codes.inner_fits (upper pre labels) split.upper_well_formed

    pub lower_small : inner_size (lower w low) ≤ 8156
    lower_small = codes.inner_fits (lower w low) split.lower_well_formed

    pub shorter : size_of up ≤ size_of (Inner w ns)
    shorter = let a = split.not_longer in let b : length (bare (length labels)) ≡ length labels = length-replicate (length labels) None in let e = each in omega arith

    pub may_part : MayPart t x up
    may_part = record {
      block = (on.positive, at_inner.1);
      within = within;
      inner = at_inner.2;
      empty = ap (λ n. Inner (upper pre labels) (bare n)) (sym (length-replicate (length labels) None));
      shorter = let a = shorter in let e = ap size_of at_x in omega arith;
      fits = (H.pages.each x.block).fits;
    }

    pub can : CanPut (sheets_of t) x
    can = record { block = at_inner.1; positive = within.0; within = let k = within.1 in omega arith }

    pub has_recon : HasRecon m (spots (sheets_of t)) (spot_of x) (Some recon)
    has_recon =
        let (key, C) = K in
        let (s, f) = fit_here m t d key H at_inner C w ns at_x in
        subst (λ (r : Option Recon). HasRecon m (spots (sheets_of t)) (spot_of x) r) recon_is (recon_of_fit (class_of m) (spots (sheets_of t)) (Some key) (spot_of x) d.recon f)
