-- The division of a chain, joined to the law: with the leaf of the insert and without it.
use Rattle.std.proofs.Common.{◌≡◌, ℕ, suc, ◌+◌, ◌-◌, ◌≤◌, ◌<◌, ◌^◌, Bool, true, false, List, [], ◌∷◌, ◌++◌, ◌⊎◌, ⊎_elim, Option, Some, None, is_none, is_some, get_or, slice_index, set, length, take, refl, sym, ap, ◌∙◌, subst, inl, inr, arith}
use mathlib.Core.Path.{fun_ext}
use Rattle.std.proofs.Math.Seq.{take-length, get_or-append_right}
use Rattle.std.proofs.lemmas.Bool.{cases_lt}
use Rattle.std.proofs.lemmas.List.{get_or-take, length-take-le, get_or_append_left}
use Rattle.spg_base.specs.Row.{RowAt}
use Rattle.spg_opclass.specs.Meaning.{Meaning}
use Rattle.spg_opclass.specs.Laws.{CodeLaw}
use Rattle.spg_forest.specs.View.{Place, Leaf}
use Rattle.spg_forest.specs.Spot.{Frame, Spot, Bucket, IsIn, leaves_of}
use Rattle.spg_forest.specs.Tuples.{Tuple, Inner, Live, IsAmong}
use Rattle.spg_forest.specs.Pages.{place, all_live, IsFresh, IsShown, moved, tuple_on}
use Rattle.spg_forest.specs.Classes.{class_of, HasEntry}
use Rattle.spg_forest.proofs.Keeping.{entry_of, no_entry}
use Rattle.spg_forest.proofs.Lists.{shown_once}
use Rattle.spg_forest.proofs.Sections.{shape_shown}
use Rattle.spg_forest.proofs.Writes.{high_spot}
use Rattle.spg_page.specs.Reads.{frame_in}
use Rattle.spg_forest.proofs.Relocate.{moved_here}
use Rattle.spg_page.specs.Kinds.{IsInner}
use Rattle.spg_forest.specs.Fit.{FitAt}
use Rattle.spg_forest.specs.Sheets.{Sheet, Sheets, sheet_at, size_of, weight, pages_of, links}
use Rattle.spg_forest.specs.Shape.{Shape, spots, IsTupleOf, IsRestOf}
use Rattle.spg_forest.specs.Section.{Adds, Leaves, Cost}
use Rattle.spg_forest.specs.Divisions.{EachGoes, list_of, rests_of}
use Rattle.spg_forest.specs.Edits.{spot_of, tuple_of}
use Rattle.spg_forest.specs.Changes.{AreDivided, Becomes}
use Rattle.spg_forest.proofs.Changes.{divides, divides_without}
use Rattle.spg_forest.proofs.Divisions.{divided_with, divided_from, in_list}
use Rattle.spg_forest.proofs.Picks.{picked_shape, picked_spots, adds_after_pick, leaves_after_pick}
use Rattle.spg_forest.proofs.FitWay.{recon_of_fit}
use Rattle.spg_tree.specs.Table.{Table, sheets_of, tuples_at, tuple_at, latch_at}
use Rattle.spg_tree.specs.Descents.{Descending, in_nulls, placed, risen}
use Rattle.spg_tree.specs.declared.stand.Stand.{Stand}
use Rattle.spg_tree.specs.declared.stand.Stand.TheVariants.{At}
use Rattle.spg_descend.specs.Carried.{carried, IsCarried}
use Rattle.spg_descend.specs.Follows.{tuple_place, IsAtInner, link_of}
use Rattle.spg_descend.specs.Rules.{MayMove}
use Rattle.spg_descend.specs.Below.{IsAtChain, IsTicked, IsLedTo}
use Rattle.spg_descend.specs.Makes.{MakesOne, IsNextTo}
use Rattle.spg_split.specs.declared.division.Division.{Division}
use Rattle.spg_split.specs.declared.parts.Parts.{Parts}
use Rattle.spg_split.specs.declared.plan.Left.{Left}
use Rattle.spg_split.specs.declared.plan.Plan.{Plan}
use Rattle.spg_split.specs.declared.homes.Homes.{Homes}
use Rattle.spg_split.specs.declared.chain.ChainOut.{ChainOut}
use Rattle.spg_split.specs.Splits.{split_cost}
use Rattle.spg_split.specs.Below.{SplitsWith, SplitsWithout, MakesBelow}
use Rattle.spg_split.specs.Ways.{IsChainWay}
use Rattle.spg_split.specs.Planning.{IsPlanOf, IsWayOf, from_node, bytes_away, left_at}
use Rattle.spg_split.specs.Nodes.{IsOnlyNode}
use Rattle.spg_split.specs.declared.put.Divided.{Divided}
use Rattle.spg_split.specs.declared.put.Divided.TheVariants.{With, Without}
use Rattle.spg_split.specs.Dividing.{IsDivided, division_of, rows_of}
use Rattle.spg_split.specs.Causes.{IsCauseOf, tuples_divided, leaves_below, chain_bytes}
use Rattle.spg_split.specs.Homes.{blocks_touched}
use Rattle.spg_split.specs.Placing.{taken_by, leaves_with, downlinks}
use Rattle.spg_chain.specs.Listed.{leaves_in}
use Rattle.spg_split.specs.Parts.{ArePartsOf, AreReady}
use Rattle.spg_descend.specs.BareNodes.{bare}
use Rattle.spg_split.specs.Divides.{MayDivide, IsDividedBelow, put_by}
use Rattle.spg_split.specs.Writing.{table_below, MayPart}
use Rattle.spg_tree.specs.Writes.{new_place}
use Rattle.spg_split.proofs.Makes.{chain_makes, homes_next}
use Rattle.spg_split.proofs.Housing.{IsHoused}
use Rattle.spg_split.proofs.Deciding.{homes_housed, may_part, x_same, p_same, put_each}
use Rattle.spg_split.proofs.BlocksTouched.{touched_few, away}
use Rattle.spg_descend.specs.Answers.{LeadsNowhere}
use Rattle.spg_split.specs.Shrinks.{leaf_number, Shrinks}
use Rattle.spg_split.proofs.Chaining.{downlink_there, downlink_none, downlinks_length}
use Rattle.spg_split.proofs.Plans.{from_lighter, length-leaves_in}
use Rattle.spg_split.proofs.Shrinking.{LeadsToLists, shrinks}
use Rattle.spg_split.proofs.Standing.{slice_last}
use Rattle.spg_split.proofs.Taken.{taken_list, taken_node, taken_rest, goes_without}
use Rattle.spg_split.proofs.Totals.{total, total_split, total_all, count_sum, but_first_one, but_first_two, taken_some}
use Rattle.spg_chain.proofs.ListTotals.{count, but_first}
use Rattle.spg_chain.proofs.LiveLists.{leaves_in_live}
use Rattle.spg_split.proofs.ChainStanding as standing
use Rattle.spg_split.proofs.ChainLaw as law
use Rattle.spg_split.proofs.Written as written
use Rattle.spg_split.proofs.ChainLaw.{IsChainDivision}

module _ {Key Recon Cond : Type 0} (m : Meaning Key Recon Cond) (codes : CodeLaw m) (t : Table) (d : Descending Recon) (x p : Place) (i : ℕ) (H : Shape m (sheets_of t)) (st : d.stand ≡ At x) (pr : d.parent ≡ Some (p, i)) (A : IsAtChain t d)
    (K : (key : Option Key) × IsCarried m (sheets_of t) d key) (long : MayMove t d.stand (Live (carried d) 0) → ⊥) (tick : t.clock + 1 < 2 ^ 48)
    (dv : Division) (D : IsDivided m d.recon (rests_of (standing.vs m codes t d x p i H st pr A K)) dv) (same : is_none d.recon ≡ in_nulls d) (p2 : Parts) (P : ArePartsOf (rows_of (standing.vs m codes t d x p i H st pr A K)) dv p2)
    (seat : ℕ) (t2 : Table) (done : ChainOut) (W : IsDividedBelow t t2 x p i seat p2 done) where
  abbrev ls : List Leaf
  ls = standing.ls m codes t d x p i H st pr A K

  abbrev vs : List Leaf
  vs = standing.vs m codes t d x p i H st pr A K

  abbrev u : Table
  u = W.housed

  abbrev h : Homes
  h = W.homes

  abbrev plan : Plan
  plan = W.plan

  abbrev ws : List Tuple
  ws = put_by p2 W.plan

  abbrev L : ℕ → List Leaf
  L j = taken_by j (put_by p2 W.plan) p2.node_of

  abbrev n : ℕ
  n = length p2.links

  abbrev w : Frame
  w = dv.frame

  R : AreReady p2
  R = standing.ready m codes t d x p i H st pr A K long dv D p2 P

  some : 0 < length p2.leaves
  some = standing.some_leaves m codes t d x p i H st pr A K long dv D p2 P

  MD : MayDivide t x p i
  MD = standing.may_divide m codes t d x p i H st pr A K long tick

  HH : IsHoused t u x.block (size_of p2.inner + 4) plan.rest h
  HH = homes_housed t u x p i seat p2 W.left plan h MD some W.is_plan H.pages.count W.picks

  links_are : length p2.links ≡ length dv.frame.labels
  links_are = standing.link_count m codes t d x p i H st pr A K long dv D p2 P

  inner_is : p2.inner ≡ Inner w (bare n)
  inner_is = P.inner ∙ ap (λ k. Inner w (bare k)) (sym links_are)

  MP : MayPart u x p i h.inner h.rest (Inner w (bare n)) L plan.cut n
  MP = subst (λ (f : Tuple). MayPart u x p i h.inner h.rest f L plan.cut n) inner_is (may_part t u x p i p2 W.left plan h MD R some W.is_left W.is_plan HH)

  abbrev S : Sheets
  S = sheets_of t

  abbrev S1 : Sheets
  S1 = sheets_of u

  H1 : Shape m S1
  H1 = picked_shape m S S1 HH.pages H

  es : spots S1 ≡ spots S
  es = picked_spots m S S1 HH.pages H

  nulls_are : (sheet_at S1 h.inner).nulls ≡ is_none d.recon
  nulls_are = HH.inner_tree ∙ standing.x_nulls m codes t d x p i H st pr A K ∙ sym same

  xsame : sheet_at S1 x.block ≡ sheet_at S x.block
  xsame = x_same t u x p i p2 W.left plan h MD R some W.is_left W.is_plan HH

  psame : sheet_at S1 p.block ≡ sheet_at S p.block
  psame = p_same t u x p i p2 W.left plan h MD R some W.is_left W.is_plan HH

  bucket : spots S1 x ≡ Bucket ls
  bucket = ap (λ (U : Place → Spot). U x) es ∙ standing.bucket m codes t d x p i H st pr A K

  number : leaf_number t d.stand ≡ length ls
  number = subst (λ (s : Stand). leaf_number t s ≡ length ls) (sym st)
      (ap (λ (y : Place). length (leaves_of (spots S y))) (high_spot x MD.x_from) ∙ ap (λ (s : Spot). length (leaves_of s)) (standing.bucket m codes t d x p i H st pr A K))

  -- of these leaves the tuples are put
  module _ (xs : List Leaf) (are : ws ≡ all_live (leaves_with (rows_of xs) dv.rests)) (xs_rests : length xs ≤ length dv.rests) (wp : Frame) (nsp : List (Option Place)) (ep : tuple_at t p ≡ Inner wp nsp) (ex : get_or nsp i None ≡ Some x) where
    CD : IsChainDivision m u x p i h.inner h.rest w L plan.cut n ls wp nsp
    CD = record {
      may = MP;
      shape = H1;
      x_from = MD.x_from;
      q_from = HH.inner_from;
      c_from = HH.rest_from;
      x_leaf = ap (λ (s : Sheet). s.inner) xsame ∙ MD.x_leaf;
      c_leaf = HH.rest_kind;
      q_inner = HH.inner_kind;
      x_tree = ap (λ (s : Sheet). s.nulls) xsame ∙ sym HH.inner_tree;
      c_tree = HH.rest_tree ∙ sym HH.inner_tree;
      p_tree = ap (λ (s : Sheet). s.nulls) psame ∙ MD.tree ∙ sym HH.inner_tree;
      chain = bucket;
      some_leaf = standing.one_there m codes t d x p i H st pr A K long;
      above = ap (λ ts. tuple_on ts p.offset) (HH.tuples p.block) ∙ ep;
      leads = ex;
      rests = λ j l a. let (k, e) = taken_rest j (rows_of xs) dv.rests p2.node_of l (subst (λ us. IsIn l (taken_by j us p2.node_of)) are a) in subst (λ (z : Bool). IsRestOf m z l.rest) (sym nulls_are) (D.well_formed k l.rest e);
      labels = sym links_are;
      some_node = let a = D.some in let e = links_are in omega arith;
      same = D.same;
      tuple = subst (λ (z : Bool). IsTupleOf m z w) (sym nulls_are) D.tuple;
    }

    abbrev z : Place
    z = law.z m u x p i h.inner h.rest w L plan.cut n ls wp nsp CD

    abbrev ds : List (Option Place)
    ds = law.ds m u x p i h.inner h.rest w L plan.cut n ls wp nsp CD

    abbrev T : List ℕ
    T = blocks_touched x.block p.block h (length t.pages) (length u.pages)

    after_is : sheets_of t2 ≡ sheets_of (table_below u x p i h.inner h.rest (Inner w (bare n)) L plan.cut n)
    after_is = ap sheets_of W.after ∙ ap (λ (f : Tuple). sheets_of (table_below u x p i h.inner h.rest f L plan.cut n)) inner_is

    touched_is : t2.touched ≡ T
    touched_is = ap (λ (v : Table). v.touched) W.after

    abbrev front : List (Option Place)
    front = downlinks x.block (tuples_at (written.t1 u x p i h.inner h.rest (Inner w (bare n)) L plan.cut n MP) x.block) L 0 plan.cut

    abbrev back : List (Option Place)
    back = downlinks h.rest (tuples_at (written.tb u x p i h.inner h.rest (Inner w (bare n)) L plan.cut n MP) h.rest) L plan.cut (n - plan.cut)

    front_length : length front ≡ plan.cut
    front_length = downlinks_length x.block (tuples_at (written.t1 u x p i h.inner h.rest (Inner w (bare n)) L plan.cut n MP) x.block) L 0 plan.cut

    -- the downlink of each leaf
    linked : (j : ℕ) (l : Leaf) → IsIn l (L j) → (y : Place) × (get_or ds j None ≡ Some y)
    linked j l a =
        let (k, b, e) = taken_node j ws p2.node_of l a in
        let small : slice_index p2.node_of k < n = R.there k b in
        let cut = MP.cut in
        let fl = front_length in
        ⊎_elim
        (λ g. let (y, f) = downlink_there x.block (tuples_at (written.t1 u x p i h.inner h.rest (Inner w (bare n)) L plan.cut n MP) x.block) L 0 plan.cut j l g (subst (λ i. IsIn l (L i)) (zero_plus j) a) in (y, get_or_append_left front back None j (omega arith) ∙ f))
        (λ g. let (y, f) = downlink_there h.rest (tuples_at (written.tb u x p i h.inner h.rest (Inner w (bare n)) L plan.cut n MP) h.rest) L plan.cut (n - plan.cut) (j - plan.cut) l (omega arith) (subst (λ i. IsIn l (L i)) (back_plus j g) a) in
        let q : j - length front ≡ j - plan.cut = omega arith in
        (y, get_or-append_right front back j None (omega arith) ∙ ap (λ i. get_or back i None) q ∙ f)) (cases_lt j plan.cut)
      where
        zero_plus : (j : ℕ) → j ≡ 0 + j
        zero_plus j = omega arith

        back_plus : (j : ℕ) → plan.cut ≤ j → j ≡ plan.cut + (j - plan.cut)
        back_plus j g = omega arith

    abbrev M2 : List Leaf → ℕ → List Leaf
    M2 zs j = list_of j zs dv.node_of dv.rests

    lists_are : L ≡ M2 xs
    lists_are = fun_ext (λ j. ap (λ us. taken_by j us p2.node_of) are ∙ ap (λ ns. taken_by j (all_live (leaves_with (rows_of xs) dv.rests)) ns) P.node_of ∙ taken_list j xs dv.node_of dv.rests xs_rests)

    goes : EachGoes (class_of m) d.recon w vs dv.node_of dv.rests
    goes = D.goes vs refl

    fit : (key : Option Key) → IsCarried m S d key → FitAt (class_of m) (spots S1) (Some key) x d.recon
    fit key C = subst (λ (F : Place → Spot). FitAt (class_of m) F (Some key) x d.recon) (sym es) (standing.way m codes t d x p i H st pr A K key C)

    Bounded : ℕ → Type 0
    Bounded more = 1 + total but_first L 0 plan.cut + total but_first L plan.cut (n - plan.cut) ≤ (length ls - 1) + more

    abbrev S2 : Sheets
    S2 = sheets_of (table_below u x p i h.inner h.rest (Inner w (bare n)) L plan.cut n)

    abbrev V6 : Place → Spot
    V6 = law.V6 m u x p i h.inner h.rest w L plan.cut n ls wp nsp CD

    abbrev cost : ℕ → Cost
    cost more = record { pages = 0; ticks = 1; spread = more }

    B : (more : ℕ) → Bounded more → Becomes m S1 S2 V6 (suc S1.clock) T (cost more)
    unfolding Bounded
    B more le = law.becomes m u x p i h.inner h.rest w L plan.cut n ls wp nsp CD T more (touched_few x.block p.block h (length t.pages) (length u.pages) HH.more)
        (λ e k. let Z = away x.block p.block h (length t.pages) (length u.pages) e HH.pages.count HH.inner_there HH.rest_there k in (Z.old, Z.above, Z.inner, Z.rest)) le

    others : (c : ℕ) → (IsAmong c T → ⊥) → sheet_at S1 c ≡ sheet_at S c
    others c k = let Z = away x.block p.block h (length t.pages) (length u.pages) c HH.pages.count HH.inner_there HH.rest_there k in HH.others c Z.inner Z.rest Z.range

    -- with the leaf of the insert
    puts : xs ≡ vs → Bounded 1 → SplitsWith m t t2 d z
    puts eq le key C =
        let G : AreDivided (class_of m) d.recon ls (λ row. row ≡ d.row) w ds (M2 vs) =
        divided_with (class_of m) d.recon w ds ls (carried d) dv.node_of dv.rests goes (standing.all_once m codes t d x p i H st pr A K key C)
        (λ j l a. linked j l (subst (λ (F : ℕ → List Leaf). IsIn l (F j)) (sym lists_are) (subst (λ zs. IsIn l (list_of j zs dv.node_of dv.rests)) (sym eq) a))) in
        let G2 : AreDivided (class_of m) d.recon ls (λ row. row ≡ d.row) w ds L =
        subst (λ (F : ℕ → List Leaf). AreDivided (class_of m) d.recon ls (λ row. row ≡ d.row) w ds F) (sym (lists_are ∙ ap M2 eq)) G in
        let (j, l, a, er, g) = in_list (class_of m) d.recon w vs dv.node_of dv.rests (carried d) goes (last_in ls) in
        let a2 : IsIn l (L j) = subst (λ (F : ℕ → List Leaf). IsIn l (F j)) (sym (lists_are ∙ ap M2 eq)) a in
        let (y, ey) = linked j l a2 in
        let fresh : IsFresh (spots S1) l.row = subst (λ (r : RowAt). IsFresh (spots S1) r) (sym er) (subst (λ (U : Place → Spot). IsFresh U d.row) (sym es) C.fresh) in
        let X = divides m S1 S2 V6 T (cost 1) x z (spot_of p) wp nsp i ls w ds L d.recon l key j y H1 (law.movable m u x p i h.inner h.rest w L plan.cut n ls wp nsp CD) bucket fresh (fit key C)
        (subst (λ (r : RowAt). AreDivided (class_of m) d.recon ls (λ row. row ≡ r) w ds L) (sym er) G2) (ey, a2, g.given_back ∙ C.rebuilt) (law.lists m u x p i h.inner h.rest w L plan.cut n ls wp nsp CD) (B 1 le) in
        let X2 : Adds m S1 S2 T (cost 1) d.row key (moved x z) = subst (λ (r : RowAt). Adds m S1 S2 T (cost 1) r key (moved x z)) er X in
        let X3 = adds_after_pick m S S1 S2 T (cost 1) 4 d.row key (moved x z) H HH.pages others HH.more X2 in
        subst (λ (s : Stand). Adds m S (sheets_of t2) t2.touched (split_cost s 1) d.row key (moved (tuple_place s) z)) (sym st)
        (subst (λ (Z : Sheets). Adds m S Z t2.touched (split_cost (At x) 1) d.row key (moved x z)) (sym after_is)
        (subst (λ (Z : List ℕ). Adds m S S2 Z (split_cost (At x) 1) d.row key (moved x z)) (sym touched_is) X3))
      where
        last_in : (zs : List Leaf) → IsIn (carried d) (zs ++ carried d ∷ [])
        last_in [] = inl refl
        last_in (y ∷ zs) = inr (last_in zs)

    -- and without it
    leaves : xs ≡ ls → (more : ℕ) → Bounded more → Leaves m S (sheets_of t2) t2.touched (split_cost d.stand more) 0 (moved (tuple_place d.stand) z)
    leaves eq more le =
        let (key, C) = K in
        let G : AreDivided (class_of m) d.recon ls (λ row. ⊥) w ds (M2 ls) =
        divided_from (class_of m) d.recon w ds ls dv.node_of dv.rests (goes_without (class_of m) d.recon w ls (carried d) dv.node_of dv.rests goes) (standing.once m codes t d x p i H st pr A K)
        (λ j l a. linked j l (subst (λ (F : ℕ → List Leaf). IsIn l (F j)) (sym lists_are) (subst (λ zs. IsIn l (list_of j zs dv.node_of dv.rests)) (sym eq) a))) in
        let G2 : AreDivided (class_of m) d.recon ls (λ row. ⊥) w ds L =
        subst (λ (F : ℕ → List Leaf). AreDivided (class_of m) d.recon ls (λ row. ⊥) w ds F) (sym (lists_are ∙ ap M2 eq)) G in
        let X = divides_without m S1 S2 V6 T (cost more) x z (spot_of p) wp nsp i ls w ds L d.recon H1 (law.movable m u x p i h.inner h.rest w L plan.cut n ls wp nsp CD) bucket (recon_of_fit (class_of m) (spots S1) (Some key) x d.recon (fit key C)) G2 (law.lists m u x p i h.inner h.rest w L plan.cut n ls wp nsp CD) (B more le) in
        let X3 = leaves_after_pick m S S1 S2 T (cost more) 4 0 (moved x z) H HH.pages others HH.more X in
        subst (λ (s : Stand). Leaves m S (sheets_of t2) t2.touched (split_cost s more) 0 (moved (tuple_place s) z)) (sym st)
        (subst (λ (Z : Sheets). Leaves m S Z t2.touched (split_cost (At x) more) 0 (moved x z)) (sym after_is)
        (subst (λ (Z : List ℕ). Leaves m S S2 Z (split_cost (At x) more) 0 (moved x z)) (sym touched_is) X3))

    -- how many there are
    xs_count : length (leaves_in ws) ≡ length xs
    xs_count = ap (λ us. length (leaves_in us)) are ∙ ap length (leaves_in_live (leaves_with (rows_of xs) dv.rests)) ∙ exact xs dv.rests xs_rests
      where
        exact : (zs : List Leaf) (rests : List (List ℕ)) → length zs ≤ length rests → length (leaves_with (rows_of zs) rests) ≡ length zs
        exact [] rests e = refl
        exact (y ∷ zs) [] e = absurd (omega arith)
        exact (y ∷ zs) (q ∷ rests) e = ap suc (exact zs rests (omega arith))

    -- the insert at the new inner tuple
    pages_after : length t2.pages ≡ length u.pages
    pages_after = ap (λ (Z : Sheets). length Z.sheets) after_is ∙ law.count_after m u x p i h.inner h.rest w L plan.cut n ls wp nsp CD

    tuple_now : tuple_at t2 z ≡ Inner w ds
    tuple_now = ap (λ (Z : Sheets). tuple_of Z z) after_is ∙ law.z_now m u x p i h.inner h.rest w L plan.cut n ls wp nsp CD

    inner_now : IsAtInner t2 (At z)
    inner_now = let a = HH.inner_there in let b = pages_after in (HH.inner_from, omega arith, subst IsInner (sym tuple_now) refl)

    -- where its nodes lead
    unlinked : (j : ℕ) → L j ≡ [] → get_or ds j None ≡ None
    unlinked j q =
        let fl = front_length in ⊎_elim
        (λ g. let e : 0 + j ≡ j = omega arith in
        get_or_append_left front back None j (omega arith) ∙ downlink_none x.block (tuples_at (written.t1 u x p i h.inner h.rest (Inner w (bare n)) L plan.cut n MP) x.block) L 0 plan.cut j (ap L e ∙ q))
        (λ g. let e : plan.cut + (j - plan.cut) ≡ j = omega arith in let f : j - length front ≡ j - plan.cut = omega arith in
        get_or-append_right front back j None (omega arith) ∙ ap (λ k. get_or back k None) f
        ∙ downlink_none h.rest (tuples_at (written.tb u x p i h.inner h.rest (Inner w (bare n)) L plan.cut n MP) h.rest) L plan.cut (n - plan.cut) (j - plan.cut) (ap L e ∙ q)) (cases_lt j plan.cut)

    leads : (more : ℕ) → Leaves m S (sheets_of t2) t2.touched (split_cost d.stand more) 0 (moved (tuple_place d.stand) z) → Bounded more → LeadsToLists t2 z w ws dv.node_of
    leads more X le =
        let shown : spots (sheets_of t2) ≡ V6 = shown_once (pages_of (sheets_of t2)) (spots (sheets_of t2)) V6 (shape_shown m (sheets_of t2) X.section.shape) (subst (λ (Z : Sheets). IsShown (pages_of Z) V6) (sym after_is) (B more le).shown) in
        let link : (j : ℕ) → link_of t2 z j ≡ get_or ds j None = λ j. ap (λ (f : Tuple). get_or (links f) j None) tuple_now in
        subst (λ ns. LeadsToLists t2 z w ws ns) P.node_of (record {
          frame = ap frame_in tuple_now;
          none = λ j q. link j ∙ unlinked j q;
          lists = λ j y q. ap (λ (U : Place → Spot). U y) shown ∙ ((law.lists m u x p i h.inner h.rest w L plan.cut n ls wp nsp CD).lists j y (sym (link j) ∙ q)).0;
        })

    shrinking : xs ≡ ls → (more : ℕ) → Leaves m S (sheets_of t2) t2.touched (split_cost d.stand more) 0 (moved (tuple_place d.stand) z) → Bounded more → (node : Option ℕ) → IsOnlyNode (take (length p2.leaves - 1) p2.node_of) node → 8160 < weight p2.leaves →
        Shrinks m t t2 d (placed d (At z) d.parent) × ((is_some node ≡ false) ⊎ LeadsNowhere m t2 (placed d (At z) d.parent))
    shrinking eq more X le node only big =
        let lc = standing.leaf_count m codes t d x p i H st pr A K long dv D p2 P in let c = standing.count_vs m codes t d x p i H st pr A K in
        let k : length p2.leaves - 1 ≡ length ls = omega arith in
        let only2 : IsOnlyNode (take (length ls) dv.node_of) node = subst (λ ns. IsOnlyNode (take (length ls) ns) node) P.node_of (subst (λ j. IsOnlyNode (take j p2.node_of) node) k only) in
        shrinks m t t2 d (placed d (At z) d.parent) (rests_of vs) dv (length ls) D (standing.rests_count m codes t d x p i H st pr A K) (slice_last ls (carried d)) number ws (sym (length-leaves_in ws) ∙ xs_count ∙ ap length eq) (leads more X le)
        node (standing.many m codes t d x p i H st pr A K long dv D p2 P big) only2

    link_now : IsLedTo t2 d.parent z
    link_now =
        let e : tuple_at t2 p ≡ Inner wp (set nsp i (Some z)) = ap (λ (Z : Sheets). tuple_of Z p) after_is ∙ law.p_now m u x p i h.inner h.rest w L plan.cut n ls wp nsp CD in
        let a = MP.p_there.1 in let b = pages_after in
        subst (λ (o : Option (Place × ℕ)). IsLedTo t2 o z) (sym pr) (omega arith, (wp, set nsp i (Some z), e, law.leads_now m u x p i h.inner h.rest w L plan.cut n ls wp nsp CD))

    carries : (more : ℕ) → Leaves m S (sheets_of t2) t2.touched (split_cost d.stand more) 0 (moved (tuple_place d.stand) z) → (key : Option Key) → IsCarried m S d key → IsCarried m (sheets_of t2) (placed d (At z) d.parent) key
    carries more X0 key C =
        let X : Leaves m S (sheets_of t2) t2.touched (split_cost (At x) more) 0 (moved x z) = subst (λ (s : Stand). Leaves m S (sheets_of t2) t2.touched (split_cost s more) 0 (moved (tuple_place s) z)) st X0 in record {
          of = record { start = C.of.start; whole = C.of.whole; gives = C.of.gives };
          begins = λ e. cc;
          fresh = λ y l a e. let (k, g) = entry_of m (sheets_of t2) y l X.section.shape a in no_entry m S d.row k C.fresh (subst (λ (r : RowAt). HasEntry m (spots S) r k) e ((X.entries l.row k).0 g));
          rest = C.rest;
          rebuilt = C.rebuilt;
          way = subst (λ (y : Place). FitAt (class_of m) (spots (sheets_of t2)) (Some key) y d.recon) (moved_here x z x refl) (X.section.fits x d.recon (Some key) (standing.way m codes t d x p i H st pr A K key C));
        }

    without : xs ≡ ls → (more : ℕ) → Bounded more → (node : Option ℕ) → IsOnlyNode (take (length p2.leaves - 1) p2.node_of) node → 8160 < weight p2.leaves → more ≡ 0 → SplitsWithout m t t2 d (placed d (At z) d.parent) z more
    without eq more le node only big none = let X = leaves eq more le in record { leaves = X; inner = inner_now; link = link_now; shrinks = (shrinking eq more X le node only big).0; settles = inl none; carries = carries more X }

    without_risen : xs ≡ ls → (more : ℕ) → Bounded more → (node : Option ℕ) → IsOnlyNode (take (length p2.leaves - 1) p2.node_of) node → 8160 < weight p2.leaves → is_some node ≡ true → SplitsWithout m t t2 d (risen (placed d (At z) d.parent)) z more
    without_risen eq more le node only big found = let X = leaves eq more le in record {
      leaves = X;
      inner = inner_now;
      link = link_now;
      shrinks = (shrinking eq more X le node only big).0;
      settles = ⊎_elim (λ e. absurd (let a : false ≡ true = sym e ∙ found in cc)) (λ z. inr z) (shrinking eq more X le node only big).1;
      carries = λ key C. let C2 = carries more X key C in record {
        of = record { start = C2.of.start; whole = C2.of.whole; gives = C2.of.gives };
        begins = λ e. cc;
        fresh = C2.fresh;
        rest = C2.rest;
        rebuilt = C2.rebuilt;
        way = C2.way;
      };
    }

    -- what else is as it was
    ticked : IsTicked t t2
    ticked = record {
      latches = λ b. ap (λ (v : Table). latch_at v b) W.after ∙ HH.latches b;
      clock = ap (λ (v : Table). v.clock) W.after ∙ ap (λ k. k + 1) HH.clock;
      counter = ap (λ (v : Table). v.counter) W.after ∙ HH.counter;
      limit = ap (λ (v : Table). v.limit) W.after ∙ HH.limit;
      roots = λ b g. ap (λ (Z : Sheets). (sheet_at Z b).inner) after_is ∙ law.kinds_after m u x p i h.inner h.rest w L plan.cut n ls wp nsp CD b
          ∙ ⊎_elim (λ e. ap (λ (s : Sheet). s.inner) e) (λ (k, e, f). absurd (omega arith)) (HH.pages.same b);
    }

    -- how much more the pages spread
    ws_count : length ws ≤ length p2.node_of
    ws_count = put_each t u x p i p2 W.left plan h MD R some W.is_left W.is_plan HH

    all_count : total count L 0 n ≡ length xs
    all_count = total_all (λ l. 1) count count_sum ws p2.node_of n ws_count R.there ∙ xs_count

    some_list : (k : ℕ) → k < length ws → (slice_index p2.node_of k < n) × (0 < length (L (0 + slice_index p2.node_of k)))
    some_list k g =
        let c = ws_count in
        let e : 0 + slice_index p2.node_of k ≡ slice_index p2.node_of k = omega arith in
        (R.there k (omega arith), subst (λ j. 0 < length (L j)) (sym e) (taken_some (slice_index p2.node_of k) ws p2.node_of k g (omega arith) refl))

    bound_one : 0 < length ws → total but_first L 0 n + 1 ≤ length xs
    bound_one g = let (a, b) = some_list 0 g in let c = but_first_one L 0 n (slice_index p2.node_of 0) a b in let e = all_count in omega arith

    bound_two : (k j : ℕ) → k < length ws → j < length ws → (slice_index p2.node_of k ≡ slice_index p2.node_of j → ⊥) → total but_first L 0 n + 2 ≤ length xs
    bound_two k j g f differ =
        let (a, b) = some_list k g in let (c, o) = some_list j f in let e = all_count in
        ⊎_elim (λ q. let y = but_first_two L 0 n (slice_index p2.node_of k) (slice_index p2.node_of j) q c b o in omega arith)
        (λ q. let y = but_first_two L 0 n (slice_index p2.node_of j) (slice_index p2.node_of k) (⊎_elim (λ v. v) (λ v. absurd (differ (omega arith))) (cases_lt (slice_index p2.node_of j) (slice_index p2.node_of k))) a o b in omega arith)
        (cases_lt (slice_index p2.node_of k) (slice_index p2.node_of j))

    bounded : (k more : ℕ) → total but_first L 0 n + k ≤ length xs → length xs + 2 ≤ length ls + k + more → Bounded more
    unfolding Bounded
    bounded k more a b =
        let o = standing.one_there m codes t d x p i H st pr A K long in
        let s = total_split but_first L 0 plan.cut n MP.cut in
        let e : 0 + plan.cut ≡ plan.cut = omega arith in
        let f = ap (λ j. total but_first L j (n - plan.cut)) e in omega arith

  count_old : length vs ≡ length ls + 1
  count_old = standing.count_vs m codes t d x p i H st pr A K

  rests_old : length dv.rests ≡ length vs
  rests_old = standing.rest_count m codes t d x p i H st pr A K long dv D p2 P

  leaf_old : length p2.leaves ≡ length vs
  leaf_old = standing.leaf_count m codes t d x p i H st pr A K long dv D p2 P

  node_old : length p2.node_of ≡ length vs
  node_old = standing.node_count m codes t d x p i H st pr A K long dv D p2 P

  -- all but the last leaf tuple
  put_old : (plan.count ≡ length p2.leaves → ⊥) → ws ≡ take (length p2.leaves - 1) p2.leaves
  put_old none = ⊎_elim (λ (Q, f). absurd (none Q.count)) (λ (Q, o). ap (λ k. take k p2.leaves) (Q.count ∙ length-take-le (length p2.leaves - 1) p2.leaves (omega arith))) W.is_plan

  big : (plan.count ≡ length p2.leaves → ⊥) → 8160 < weight p2.leaves
  big none = ⊎_elim (λ (Q, f). absurd (none Q.count)) (λ (Q, (all, F, f)). let b = F.bytes in let l = from_lighter all.cut p2.leaves p2.node_of in omega arith) W.is_plan

  -- whichever way it was done
  chain_law : (z : Place) (way : Divided) → z ≡ done.at → IsWayOf p2 plan way → IsChainWay m t t2 d z way × IsTicked t t2
  chain_law z With ez all =
      let (wp, nsp, ep, ex) = standing.above m codes t d x p i H st pr A K in
      let are : ws ≡ all_live (leaves_with (rows_of vs) dv.rests) = ap (λ k. take k p2.leaves) all ∙ take-length p2.leaves ∙ P.leaves in
      let ro = rests_old in let wl : length ws ≡ length p2.leaves = length-take-le plan.count p2.leaves (omega arith) ∙ all in
      let (k, j, a, b, differ) = D.apart in
      let ne = ap length P.node_of in let nc = node_old in let lc = leaf_old in let cv = count_old in
      let differ2 : slice_index p2.node_of k ≡ slice_index p2.node_of j → ⊥ = λ e. differ (sym (ap (λ ns. slice_index ns k) P.node_of) ∙ e ∙ ap (λ ns. slice_index ns j) P.node_of) in
      let two = bound_two vs are (omega arith) wp nsp ep ex k j (omega arith) (omega arith) differ2 in
      (subst (λ (y : Place). SplitsWith m t t2 d y) (sym W.at ∙ sym ez) (puts vs are (omega arith) wp nsp ep ex refl (bounded vs are (omega arith) wp nsp ep ex 2 1 two (omega arith))), ticked vs are (omega arith) wp nsp ep ex)
  chain_law z (Without in_one) ez (none, (node, only, e)) = go in_one node only e
    where
      go : (in_one : Bool) (found : Option ℕ) → IsOnlyNode (take (length p2.leaves - 1) p2.node_of) found → in_one ≡ is_some found → IsChainWay m t t2 d z (Without in_one) × IsTicked t t2
      go true found only e =
          let (wp, nsp, ep, ex) = standing.above m codes t d x p i H st pr A K in
          let are : ws ≡ all_live (leaves_with (rows_of ls) dv.rests) = put_old none ∙ standing.old_leaves m codes t d x p i H st pr A K long dv D p2 P in
          let ro = rests_old in let cv = count_old in let lc = leaf_old in let o = standing.one_there m codes t d x p i H st pr A K long in
          let wl = ap length (put_old none) in let tl = length-take-le (length p2.leaves - 1) p2.leaves (omega arith) in
          let one = bound_one ls are (omega arith) wp nsp ep ex (omega arith) in
          (subst (λ (y : Place). SplitsWithout m t t2 d (risen (placed d (At y) d.parent)) y 1) (sym W.at ∙ sym ez) (without_risen ls are (omega arith) wp nsp ep ex refl 1 (bounded ls are (omega arith) wp nsp ep ex 1 1 one (omega arith)) found only (big none) (sym e)), ticked ls are (omega arith) wp nsp ep ex)
      go false (Some k) only e = cc
      go false None only e =
          let (wp, nsp, ep, ex) = standing.above m codes t d x p i H st pr A K in
          let are : ws ≡ all_live (leaves_with (rows_of ls) dv.rests) = put_old none ∙ standing.old_leaves m codes t d x p i H st pr A K long dv D p2 P in
          let ro = rests_old in let cv = count_old in let lc = leaf_old in let nc = node_old in let o = standing.one_there m codes t d x p i H st pr A K long in
          let wl = ap length (put_old none) in let tl = length-take-le (length p2.leaves - 1) p2.leaves (omega arith) in
          let nl = length-take-le (length p2.leaves - 1) p2.node_of (omega arith) in
          let (j, g, differ) = only (omega arith) in
          let fj : slice_index (take (length p2.leaves - 1) p2.node_of) j ≡ slice_index p2.node_of j = get_or-take (length p2.leaves - 1) p2.node_of j 0 (omega arith) in
          let f0 : slice_index (take (length p2.leaves - 1) p2.node_of) 0 ≡ slice_index p2.node_of 0 = get_or-take (length p2.leaves - 1) p2.node_of 0 0 (omega arith) in
          let two = bound_two ls are (omega arith) wp nsp ep ex j 0 (omega arith) (omega arith) (λ q. differ (fj ∙ q ∙ sym f0)) in
          (subst (λ (y : Place). SplitsWithout m t t2 d (placed d (At y) d.parent) y 0) (sym W.at ∙ sym ez) (without ls are (omega arith) wp nsp ep ex refl 0 (bounded ls are (omega arith) wp nsp ep ex 2 0 two (omega arith)) None only (big none) refl), ticked ls are (omega arith) wp nsp ep ex)

  -- the inner tuple that is made
  makes : MakesBelow t t2 d.parent done.at
  makes = subst (λ (o : Option (Place × ℕ)). MakesBelow t t2 o done.at) (sym pr) (subst (λ (y : Place). MakesOne t t2 y × IsNextTo p.block y) (sym W.at) (one, next))
    where
      may : MayPart u x p i h.inner h.rest p2.inner L plan.cut n
      may = may_part t u x p i p2 W.left plan h MD R some W.is_left W.is_plan HH

      one : MakesOne t t2 (new_place u h.inner)
      one y none a =
          let b : IsInner (tuple_at (table_below u x p i h.inner h.rest p2.inner L plan.cut n) y) = subst (λ (v : Table). IsInner (tuple_at v y)) W.after a in
          let c : IsInner (tuple_at u y) = chain_makes u x p i h.inner h.rest p2.inner L plan.cut n may y none b in
          subst (λ ts. IsInner (tuple_on ts y.offset)) (HH.tuples y.block) c

      next : IsNextTo p.block (new_place u h.inner)
      next = homes_next t u x.block p.block (size_of p2.inner + 4) seat plan.rest h W.picks

  pub chain_done : IsChainWay m t t2 d done.at done.way × IsTicked t t2 × MakesBelow t t2 d.parent done.at
  chain_done = let (way, ticks) = chain_law done.at done.way refl W.way in (way, ticks, makes)

  -- the bytes that must go away
  away_is : (us : List Tuple) (q : Plan) → IsPlanOf us p2.node_of n W.left q → q.rest.bytes ≡ bytes_away us p2.node_of n W.left
  away_is us q Q = Q.bytes ∙ ap (λ k. weight (from_node k us p2.node_of)) Q.cut

  left_is : W.left ≡ left_at (tuples_at t x.block) x.offset
  left_is = let (e, f, g) = W.is_left (place 0 0) 0 in λ k. record { free = e k; gaps = f k }

  bytes_are : bytes_away p2.leaves p2.node_of n W.left ≡ chain_bytes m t d
  bytes_are =
      ap (λ us. bytes_away us p2.node_of n W.left) P.leaves ∙ ap (λ ns. bytes_away (all_live (leaves_with (rows_of vs) dv.rests)) ns n W.left) P.node_of
      ∙ ap (λ k. bytes_away (all_live (leaves_with (rows_of vs) dv.rests)) dv.node_of k W.left) links_are
      ∙ ap (λ (l : Left). bytes_away (all_live (leaves_with (rows_of vs) dv.rests)) dv.node_of (length dv.frame.labels) l) left_is
      ∙ ap (λ (v : Division). bytes_away (all_live (leaves_with (rows_of vs) v.rests)) v.node_of (length v.frame.labels) (left_at (tuples_at t x.block) x.offset)) D.exact
      ∙ ap (λ (s : Stand). let y : Place = tuple_place s in let v : Division = division_of m d.recon (rests_of (leaves_below t d y)) in bytes_away (tuples_divided m d.recon (leaves_below t d y)) v.node_of (length v.frame.labels) (left_at (tuples_at t y.block) y.offset)) (sym st)

  pub chain_cause : IsCauseOf (chain_bytes m t d) done.way
  chain_cause = go done.way W.way
    where
      go : (way : Divided) → IsWayOf p2 plan way → IsCauseOf (chain_bytes m t d) way
      go With all = ⊎_elim
          (λ (Q, f). subst (λ k. k ≤ 8160) (away_is p2.leaves plan Q ∙ bytes_are) f)
          (λ (Q, o). let a = Q.count in let b = length-take-le (length p2.leaves - 1) p2.leaves (omega arith) in let c = some in absurd (omega arith)) W.is_plan
      go (Without in_one) (none, o) = ⊎_elim
          (λ (Q, f). absurd (none Q.count))
          (λ (Q, (q, A, f)). subst (λ k. 8160 < k) (away_is p2.leaves q A ∙ bytes_are) f) W.is_plan
