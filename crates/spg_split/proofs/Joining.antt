-- The division at a root, joined to the law: with the leaf of the insert and without it.
use Rattle.std.proofs.Common.{◌≡◌, ℕ, suc, ◌+◌, ◌-◌, ◌≤◌, ◌<◌, Bool, true, false, List, [], ◌∷◌, ◌++◌, ◌⊎◌, ⊎_elim, Option, Some, None, is_none, is_some, get_or, slice_index, set, length, length-set, take, refl, sym, ap, ◌∙◌, subst, inl, inr, arith}
use mathlib.Core.Path.{fun_ext}
use Rattle.std.specs.Prelude.{Result, Ok, Err, IfOk, nat_le}
use Rattle.std.proofs.lemmas.Bool.{cases_lt, cond-true, cond-false, le-leb, lt-leb}
use Rattle.std.proofs.lemmas.List.{get_or-take, length-take-le}
use Rattle.spg_base.specs.Row.{RowAt}
use Rattle.spg_opclass.specs.Meaning.{Meaning}
use Rattle.spg_opclass.specs.Laws.{CodeLaw}
use Rattle.spg_forest.specs.View.{Place, Leaf}
use Rattle.spg_forest.specs.Spot.{Frame, Spot, Bucket, IsIn, IsStanding, leaves_of}
use Rattle.spg_forest.specs.Tuples.{Tuple, Inner, Live, IsAmong}
use Rattle.spg_forest.specs.Pages.{place, tuple_on, all_live, IsFresh, IsShown}
use Rattle.spg_forest.specs.Links.{leaves_on}
use Rattle.spg_forest.specs.Classes.{class_of, HasEntry}
use Rattle.spg_forest.specs.Fit.{FitAt}
use Rattle.spg_forest.specs.Sheets.{Sheet, Sheets, sheet_at, weight, size_of, pages_of, links, with_tuples}
use Rattle.spg_forest.specs.Shape.{Shape, spots, IsTupleOf, IsRestOf}
use Rattle.spg_forest.specs.Section.{Adds, Leaves}
use Rattle.spg_forest.specs.Walk.{page_spread, lives_on}
use Rattle.spg_forest.specs.Divisions.{EachGoes, list_of, rests_of}
use Rattle.spg_forest.specs.Edits.{with_sheet}
use Rattle.spg_forest.specs.Changes.{AreDivided, HasLists, Becomes}
use Rattle.spg_forest.proofs.Changes.{divides_here, divides_here_without}
use Rattle.spg_forest.proofs.Divisions.{divided_with, divided_from, in_list}
use Rattle.spg_forest.proofs.Picks.{picked_shape, picked_spots, adds_after_pick, leaves_after_pick}
use Rattle.spg_forest.proofs.Edits.{sheet_same, sheet_other}
use Rattle.spg_forest.proofs.Keeping.{entry_of, no_entry}
use Rattle.spg_forest.proofs.Lists.{shown_once}
use Rattle.spg_forest.proofs.Sections.{shape_shown}
use Rattle.spg_forest.proofs.Writes.{low_spot}
use Rattle.spg_page.specs.Kinds.{IsInner}
use Rattle.spg_forest.proofs.FitWay.{recon_of_fit}
use Rattle.spg_page.specs.Reads.{frame_in}
use Rattle.spg_tree.specs.Table.{Table, sheets_of, tuples_at, latch_at}
use Rattle.spg_tree.specs.Table as table
use Rattle.spg_tree.specs.Descents.{Descending, in_nulls, risen}
use Rattle.spg_tree.specs.declared.stand.Stand.{Stand}
use Rattle.spg_tree.specs.declared.stand.Stand.TheVariants.{Root}
use Rattle.spg_descend.specs.Carried.{carried, IsCarried, WayFits}
use Rattle.spg_descend.specs.Follows.{IsAtInner, tuple_place, link_of}
use Rattle.spg_descend.specs.Makes.{MakesOne}
use Rattle.spg_descend.specs.Puts.{IsAtLeaves, Fits}
use Rattle.spg_descend.proofs.Picked.{PicksLeaf, picks_leaf}
use Rattle.spg_split.specs.declared.division.Division.{Division}
use Rattle.spg_split.specs.declared.parts.Parts.{Parts}
use Rattle.spg_split.specs.declared.put.Divided.{Divided}
use Rattle.spg_split.specs.declared.put.Divided.TheVariants.{With, Without}
use Rattle.spg_split.specs.Splits.{split_cost, IsCalm, PartsWith, PartsWithout}
use Rattle.spg_split.specs.Ways.{IsSplitWay}
use Rattle.spg_split.specs.Nodes.{IsOnlyNode}
use Rattle.spg_split.specs.Dividing.{IsDivided, rows_of}
use Rattle.spg_split.specs.Placing.{taken_by, placed, downlinks, leaves_with, HaveRooms}
use Rattle.spg_chain.specs.Listed.{leaves_in}
use Rattle.spg_split.specs.Parts.{ArePartsOf, AreReady, PutsLists, lists_want, IsWay, going}
use Rattle.spg_chain.proofs.LiveLists.{leaves_in_live, length-all_live}
use Rattle.spg_split.proofs.Taken.{taken_list, taken_node, taken_rest, goes_without}
use Rattle.spg_split.proofs.Totals.{total, count_sum, total_all, lists_room, placed_spread, root_spread, but_first_one, but_first_two, taken_some}
use Rattle.spg_chain.proofs.ListTotals.{but_first, count}
use Rattle.spg_descend.specs.Answers.{LeadsNowhere}
use Rattle.spg_split.specs.Shrinks.{leaf_number, Shrinks}
use Rattle.spg_split.proofs.Chaining.{downlink_there, downlink_none, downlinks_length}
use Rattle.spg_split.proofs.Makes.{root_makes}
use Rattle.spg_split.proofs.Plans.{length-leaves_in}
use Rattle.spg_split.proofs.RootLaw.{V2, becomes, lists}
use Rattle.spg_split.proofs.Shrinking.{LeadsToLists, shrinks}
use Rattle.spg_split.proofs.Standing.{at_root, live_there, recon_is, one_there, count_vs, rests_count, once, all_once, rest_count, leaf_count, node_count, link_count, ready, old_leaves, others_fit, many, tuple_fits, slice_last}

-- two facts of an outcome give a third
pub if_ok_both : {A E : Type 0} (r : Result A E) (P Q R : A → Type 0) → ((a : A) → P a → Q a → R a) → IfOk r P → IfOk r Q → IfOk r R
if_ok_both (Ok a) P Q R h p q = h a p q
if_ok_both (Err b) P Q R h p q = tt

module _ {Key Recon Cond : Type 0} (m : Meaning Key Recon Cond) (codes : CodeLaw m) (t : Table) (d : Descending Recon) (root : ℕ) (H : Shape m (sheets_of t)) (st : d.stand ≡ Root root) (A : IsAtLeaves (sheets_of t) (in_nulls d) d.stand)
    (K : (key : Option Key) × IsCarried m (sheets_of t) d key) (no_room : Fits t d.stand (Live (carried d) 0) → ⊥)
    (dv : Division) (D : IsDivided m d.recon (rests_of (leaves_on (tuples_at t root) ++ carried d ∷ [])) dv) (same : is_none d.recon ≡ in_nulls d) (p : Parts) (P : ArePartsOf (rows_of (leaves_on (tuples_at t root) ++ carried d ∷ [])) dv p) where
  abbrev ls : List Leaf
  ls = leaves_on (tuples_at t root)

  abbrev vs : List Leaf
  vs = ls ++ carried d ∷ []

  -- of these leaves the tuples go, and the page is picked
  module _ (seat : ℕ) (t2 : Table) (ws : List Tuple) (xs : List Leaf) (few : weight ws ≤ 8160) (are : ws ≡ all_live (leaves_with (rows_of xs) dv.rests)) (within : length xs ≤ length vs) (W : PutsLists t t2 root seat p ws) where
    abbrev t1 : Table
    t1 = W.picked

    abbrev b : ℕ
    b = W.block

    abbrev S : Sheets
    S = sheets_of t

    abbrev S1 : Sheets
    S1 = sheets_of t1

    abbrev n : ℕ
    n = length p.links

    abbrev L : ℕ → List Leaf
    L j = taken_by j ws p.node_of

    abbrev w : Frame
    w = dv.frame

    abbrev ds : List (Option Place)
    ds = downlinks b (sheet_at S1 b).tuples L 0 n

    T : PicksLeaf t b t1
    T = picks_leaf t t1 (lists_want (table.sheet_at t root).nulls ws seat) b H.pages.count refl W.is_picked W.picks

    H1 : Shape m S1
    H1 = picked_shape m S S1 T.pages H

    es : spots S1 ≡ spots S
    es = picked_spots m S S1 T.pages H

    low : root < 3
    low = (at_root m codes t d root H st A K).1

    root_same : sheet_at S1 root ≡ sheet_at S root
    root_same = T.others root (λ e. let k = W.is_picked.from in let l = low in absurd (omega arith))

    nulls_are : (sheet_at S1 root).nulls ≡ is_none d.recon
    nulls_are = ap (λ (s : Sheet). s.nulls) root_same ∙ (at_root m codes t d root H st A K).3 ∙ sym same

    R : AreReady p
    R = ready m codes t d root H st A K no_room dv D same p P

    ws_live : ws ≡ all_live (leaves_in ws)
    ws_live = are ∙ ap all_live (sym (leaves_in_live (leaves_with (rows_of xs) dv.rests)) ∙ ap leaves_in (sym are))

    xs_rests : length xs ≤ length dv.rests
    xs_rests = let a = rest_count m codes t d root H st A K no_room dv D same p P in let b = within in omega arith

    ws_count : length ws ≤ length p.node_of
    ws_count = let a = node_count m codes t d root H st A K no_room dv D same p P in let e = ap length are in let f = length-all_live (leaves_with (rows_of xs) dv.rests) in let g = with_few xs dv.rests in let b = within in omega arith
      where
        with_few : (zs : List Leaf) (rests : List (List ℕ)) → length (leaves_with (rows_of zs) rests) ≤ length zs
        with_few [] rests = omega arith
        with_few (z ∷ zs) [] = omega arith
        with_few (z ∷ zs) (q ∷ rests) = let h = with_few zs rests in omega arith

    rooms : HaveRooms (sheet_at S1 b).tuples L 0 n
    rooms = lists_room (sheet_at S1 b).tuples ws p.node_of n (H1.pages.each b).fits ws_live ws_count R.there W.is_picked.room

    tree : (sheet_at S1 b).nulls ≡ (sheet_at S1 root).nulls
    tree = W.is_picked.tree ∙ ap (λ (s : Sheet). s.nulls) (sym root_same)

    rests : (j : ℕ) (l : Leaf) → IsIn l (L j) → IsRestOf m (sheet_at S1 root).nulls l.rest
    rests j l a =
        let (i, e) = taken_rest j (rows_of xs) dv.rests p.node_of l (subst (λ us. IsIn l (taken_by j us p.node_of)) are a) in
        subst (λ (z : Bool). IsRestOf m z l.rest) (sym nulls_are) (D.well_formed i l.rest e)

    labels : length w.labels ≡ n
    labels = sym (link_count m codes t d root H st A K no_room dv D same p P)

    small : size_of (Inner w ds) ≤ 8156
    small = let e = downlinks_length b (sheet_at S1 b).tuples L 0 n in let l = labels in let f = tuple_fits m codes (is_none d.recon) w D.tuple in omega arith

    tuple : IsTupleOf m (sheet_at S1 root).nulls w
    tuple = subst (λ (z : Bool). IsTupleOf m z w) (sym nulls_are) D.tuple

    -- the pages after the division
    abbrev S2 : Sheets
    S2 = with_sheet (with_sheet S1 b (with_tuples (sheet_at S1 b) (placed (sheet_at S1 b).tuples L 0 n))) root (record { inner = true; nulls = (sheet_at S1 root).nulls; tuples = Inner w ds ∷ [] })

    after_is : sheets_of t2 ≡ S2
    after_is = ap sheets_of W.after
        ∙ ap (λ (z : Frame). with_sheet (with_sheet S1 b (with_tuples (sheet_at S1 b) (placed (sheet_at S1 b).tuples L 0 n))) root (record { inner = true; nulls = (sheet_at S1 root).nulls; tuples = Inner z ds ∷ [] })) (ap frame_in P.inner)

    touched_is : t2.touched ≡ b ∷ root ∷ []
    touched_is = ap (λ (z : Table). z.touched) W.after

    positive : 0 < root
    positive = (at_root m codes t d root H st A K).0

    some : 0 < n
    some = let a = D.some in let e = labels in omega arith

    V : Place → Spot
    V = V2 m S1 b root L n w H1 W.is_picked.from W.is_picked.there positive low W.is_picked.kind tree rooms rests labels some D.same tuple small

    E : HasLists (spots S1) V (place root 0) w ds L
    unfolding V
    E = lists m S1 b root L n w H1 W.is_picked.from W.is_picked.there positive low W.is_picked.kind tree rooms rests labels some D.same tuple small

    Bounded : ℕ → Type 0
    Bounded more = page_spread root (Inner w ds ∷ []) + page_spread b (placed (sheet_at S1 b).tuples L 0 n) ≤ page_spread root (sheet_at S1 root).tuples + page_spread b (sheet_at S1 b).tuples + more

    B : (more : ℕ) → Bounded more → Becomes m S1 S2 V S1.clock (b ∷ root ∷ []) (record { pages = 0; ticks = 0; spread = more })
    unfolding V Bounded
    B more le = becomes m S1 b root L n w H1 W.is_picked.from W.is_picked.there positive low W.is_picked.kind tree rooms rests labels some D.same tuple small more le

    -- the downlink of each leaf
    linked : (j : ℕ) (l : Leaf) → IsIn l (L j) → (y : Place) × (get_or ds j None ≡ Some y)
    linked j l a =
        let (i, h, e) = taken_node j ws p.node_of l a in
        let k : slice_index p.node_of i < n = R.there i h in
        let z : 0 + j ≡ j = omega arith in
        downlink_there b (sheet_at S1 b).tuples L 0 n j l (omega arith) (subst (λ i. IsIn l (L i)) (sym z) a)

    abbrev M : List Leaf → ℕ → List Leaf
    M zs j = list_of j zs dv.node_of dv.rests

    lists_are : L ≡ M xs
    lists_are = fun_ext (λ j. ap (λ us. taken_by j us p.node_of) are ∙ ap (λ ns. taken_by j (all_live (leaves_with (rows_of xs) dv.rests)) ns) P.node_of ∙ taken_list j xs dv.node_of dv.rests xs_rests)

    bucket_is : spots S1 (place root 0) ≡ Bucket ls
    bucket_is = ap (λ (U : Place → Spot). U (place root 0)) es ∙ (live_there m codes t d root H st A K).1

    root_fit : (key : Option Key) → IsCarried m S d key → FitAt (class_of m) (spots S1) (Some key) (place root 0) d.recon
    root_fit key C = (place root 0, [], (refl, subst IsStanding (sym bucket_is) tt), (refl, sym (recon_is m codes t d root H st A K key C)))

    goes : EachGoes (class_of m) d.recon w vs dv.node_of dv.rests
    goes = D.goes vs refl

    others : (c : ℕ) → (IsAmong c (b ∷ root ∷ []) → ⊥) → sheet_at S1 c ≡ sheet_at S c
    others c k = T.others c (λ e. k (inl e))

    -- with the leaf of the insert
    puts : xs ≡ vs → Bounded 1 → PartsWith m t t2 d
    puts ex le key C =
        let G : AreDivided (class_of m) d.recon ls (λ row. row ≡ d.row) w ds (M vs) =
        divided_with (class_of m) d.recon w ds ls (carried d) dv.node_of dv.rests goes (all_once m codes t d root H st A K key C)
        (λ j l a. linked j l (subst (λ (F : ℕ → List Leaf). IsIn l (F j)) (sym lists_are) (subst (λ zs. IsIn l (list_of j zs dv.node_of dv.rests)) (sym ex) a))) in
        let G2 : AreDivided (class_of m) d.recon ls (λ row. row ≡ d.row) w ds L =
        subst (λ (F : ℕ → List Leaf). AreDivided (class_of m) d.recon ls (λ row. row ≡ d.row) w ds F) (sym (lists_are ∙ ap M ex)) G in
        let (j, l, a, er, g) = in_list (class_of m) d.recon w vs dv.node_of dv.rests (carried d) goes (last_in ls) in
        let a2 : IsIn l (L j) = subst (λ (F : ℕ → List Leaf). IsIn l (F j)) (sym (lists_are ∙ ap M ex)) a in
        let (y, ey) = linked j l a2 in
        let fresh : IsFresh (spots S1) l.row = subst (λ (r : RowAt). IsFresh (spots S1) r) (sym er) (subst (λ (U : Place → Spot). IsFresh U d.row) (sym es) C.fresh) in
        let X = divides_here m S1 S2 V (b ∷ root ∷ []) (record { pages = 0; ticks = 0; spread = 1 }) (place root 0) ls w ds L d.recon l key j y H1 bucket_is fresh (root_fit key C)
        (subst (λ (r : RowAt). AreDivided (class_of m) d.recon ls (λ row. row ≡ r) w ds L) (sym er) G2) (ey, a2, g.given_back ∙ C.rebuilt) E (B 1 le) in
        let X2 : Adds m S1 S2 (b ∷ root ∷ []) (record { pages = 0; ticks = 0; spread = 1 }) d.row key (λ x. x) = subst (λ (r : RowAt). Adds m S1 S2 (b ∷ root ∷ []) (record { pages = 0; ticks = 0; spread = 1 }) r key (λ x. x)) er X in
        let X3 = adds_after_pick m S S1 S2 (b ∷ root ∷ []) (record { pages = 0; ticks = 0; spread = 1 }) 1 d.row key (λ x. x) H T.pages others T.more X2 in
        subst (λ (s : Stand). Adds m S (sheets_of t2) t2.touched (split_cost s 1) d.row key (λ x. x)) (sym st)
        (subst (λ (z : Sheets). Adds m S z t2.touched (split_cost (Root root) 1) d.row key (λ x. x)) (sym after_is)
        (subst (λ (z : List ℕ). Adds m S S2 z (split_cost (Root root) 1) d.row key (λ x. x)) (sym touched_is) X3))
      where
        last_in : (zs : List Leaf) → IsIn (carried d) (zs ++ carried d ∷ [])
        last_in [] = inl refl
        last_in (z ∷ zs) = inr (last_in zs)

    -- and without it
    leaves : xs ≡ ls → (more : ℕ) → Bounded more → Leaves m S (sheets_of t2) t2.touched (split_cost d.stand more) 0 (λ x. x)
    leaves ex more le =
        let (key, C) = K in
        let G : AreDivided (class_of m) d.recon ls (λ row. ⊥) w ds (M ls) =
        divided_from (class_of m) d.recon w ds ls dv.node_of dv.rests (goes_without (class_of m) d.recon w ls (carried d) dv.node_of dv.rests goes) (once m codes t d root H st A K)
        (λ j l a. linked j l (subst (λ (F : ℕ → List Leaf). IsIn l (F j)) (sym lists_are) (subst (λ zs. IsIn l (list_of j zs dv.node_of dv.rests)) (sym ex) a))) in
        let G2 : AreDivided (class_of m) d.recon ls (λ row. ⊥) w ds L =
        subst (λ (F : ℕ → List Leaf). AreDivided (class_of m) d.recon ls (λ row. ⊥) w ds F) (sym (lists_are ∙ ap M ex)) G in
        let X = divides_here_without m S1 S2 V (b ∷ root ∷ []) (record { pages = 0; ticks = 0; spread = more }) (place root 0) ls w ds L d.recon H1 bucket_is (recon_of_fit (class_of m) (spots S1) (Some key) (place root 0) d.recon (root_fit key C)) G2 E (B more le) in
        let X3 = leaves_after_pick m S S1 S2 (b ∷ root ∷ []) (record { pages = 0; ticks = 0; spread = more }) 1 0 (λ x. x) H T.pages others T.more X in
        subst (λ (s : Stand). Leaves m S (sheets_of t2) t2.touched (split_cost s more) 0 (λ x. x)) (sym st)
        (subst (λ (z : Sheets). Leaves m S z t2.touched (split_cost (Root root) more) 0 (λ x. x)) (sym after_is)
        (subst (λ (z : List ℕ). Leaves m S S2 z (split_cost (Root root) more) 0 (λ x. x)) (sym touched_is) X3))

    -- what else is as it was
    calm : IsCalm t t2 d.stand
    calm = record {
      latches = λ c. ap (λ (z : Table). latch_at z c) W.after ∙ W.is_picked.latches c;
      counter = ap (λ (z : Table). z.counter) W.after ∙ W.is_picked.counter;
      limit = ap (λ (z : Table). z.limit) W.after ∙ W.is_picked.limit;
      roots = λ c h k.
          let f = W.is_picked.from in
          let nb : c ≡ b → ⊥ = λ e. absurd (omega arith) in
          let nr : c ≡ root → ⊥ = λ e. k (st ∙ ap Root (sym e)) in
          ap (λ (z : Sheets). (sheet_at z c).inner) after_is
          ∙ ap (λ (s : Sheet). s.inner) (sheet_other (with_sheet S1 b (with_tuples (sheet_at S1 b) (placed (sheet_at S1 b).tuples L 0 n))) root (record { inner = true; nulls = (sheet_at S1 root).nulls; tuples = Inner w ds ∷ [] }) c nr)
          ∙ ap (λ (s : Sheet). s.inner) (sheet_other S1 b (with_tuples (sheet_at S1 b) (placed (sheet_at S1 b).tuples L 0 n)) c nb)
          ∙ ap (λ (s : Sheet). s.inner) (T.others c nb);
    }

    -- how much more the pages spread
    xs_count : length (leaves_in ws) ≡ length xs
    xs_count = ap (λ us. length (leaves_in us)) are ∙ ap length (leaves_in_live (leaves_with (rows_of xs) dv.rests)) ∙ exact xs dv.rests xs_rests
      where
        exact : (zs : List Leaf) (rests : List (List ℕ)) → length zs ≤ length rests → length (leaves_with (rows_of zs) rests) ≡ length zs
        exact [] rests e = refl
        exact (z ∷ zs) [] e = absurd (omega arith)
        exact (z ∷ zs) (q ∷ rests) e = ap suc (exact zs rests (omega arith))

    all_count : total count L 0 n ≡ length xs
    all_count = total_all (λ l. 1) count count_sum ws p.node_of n ws_count R.there ∙ xs_count

    some_list : (i : ℕ) → i < length ws → (slice_index p.node_of i < n) × (0 < length (L (0 + slice_index p.node_of i)))
    some_list i h =
        let c = ws_count in
        let z : 0 + slice_index p.node_of i ≡ slice_index p.node_of i = omega arith in
        (R.there i (omega arith), subst (λ j. 0 < length (L j)) (sym z) (taken_some (slice_index p.node_of i) ws p.node_of i h (omega arith) refl))

    bound_one : 0 < length ws → total but_first L 0 n + 1 ≤ length xs
    bound_one h = let (a, b) = some_list 0 h in let c = but_first_one L 0 n (slice_index p.node_of 0) a b in let e = all_count in omega arith

    bound_two : (i j : ℕ) → i < length ws → j < length ws → (slice_index p.node_of i ≡ slice_index p.node_of j → ⊥) → total but_first L 0 n + 2 ≤ length xs
    bound_two i j h k differ =
        let (a, b) = some_list i h in let (c, f) = some_list j k in let e = all_count in
        ⊎_elim (λ q. let z = but_first_two L 0 n (slice_index p.node_of i) (slice_index p.node_of j) q c b f in omega arith)
        (λ q. let z = but_first_two L 0 n (slice_index p.node_of j) (slice_index p.node_of i) (⊎_elim (λ x. x) (λ x. absurd (differ (omega arith))) (cases_lt (slice_index p.node_of j) (slice_index p.node_of i))) a f b in omega arith)
        (cases_lt (slice_index p.node_of i) (slice_index p.node_of j))

    bounded : (k more : ℕ) → total but_first L 0 n + k ≤ length xs → length xs + 2 ≤ length ls + k + more → Bounded more
    unfolding Bounded
    bounded k more x y =
        let o = one_there m codes t d root H st A K no_room in
        let g = cond-false (nat_le 3 root) 0 (0 - 1) (lt-leb 3 root low) in
        let f = cond-true (nat_le 3 b) 0 (lives_on (placed (sheet_at S1 b).tuples L 0 n) - 1) (le-leb 3 b W.is_picked.from) in
        let f2 = cond-true (nat_le 3 b) 0 (lives_on (sheet_at S1 b).tuples - 1) (le-leb 3 b W.is_picked.from) in
        let e : page_spread root (sheet_at S1 root).tuples ≡ page_spread root (all_live ls) = ap (λ (s : Sheet). page_spread root s.tuples) root_same ∙ ap (page_spread root) (live_there m codes t d root H st A K).0 in
        let (u, v) = root_spread ls in
        let g2 = cond-false (nat_le 3 root) 0 (lives_on (all_live ls) - 1) (lt-leb 3 root low) in
        let z = placed_spread (sheet_at S1 b).tuples L 0 n in
        omega arith

    -- the insert at the new inner tuple
    root_after : (root < length t2.pages) × (table.tuple_at t2 (place root 1) ≡ Inner w ds)
    root_after =
        let c = H1.pages.count in
        let l1 = length-set S1.sheets b (with_tuples (sheet_at S1 b) (placed (sheet_at S1 b).tuples L 0 n)) in
        let l2 = length-set (set S1.sheets b (with_tuples (sheet_at S1 b) (placed (sheet_at S1 b).tuples L 0 n))) root (record { inner = true; nulls = (sheet_at S1 root).nulls; tuples = Inner w ds ∷ [] }) in
        let l3 = ap (λ (z : Sheets). length z.sheets) after_is in
        let r = low in (
          omega arith,
          ap (λ (z : Sheets). tuple_on (sheet_at z root).tuples 1) after_is
              ∙ ap (λ (s : Sheet). tuple_on s.tuples 1) (sheet_same (with_sheet S1 b (with_tuples (sheet_at S1 b) (placed (sheet_at S1 b).tuples L 0 n))) root (record { inner = true; nulls = (sheet_at S1 root).nulls; tuples = Inner w ds ∷ [] }) (omega arith)),
        )

    at_inner : IsAtInner t2 d.stand
    at_inner = let r = root_after in subst (λ (s : Stand). IsAtInner t2 s) (sym st) (low, r.0, subst IsInner (sym r.1) refl)

    -- where its nodes lead
    leads : (more : ℕ) → Leaves m S (sheets_of t2) t2.touched (split_cost d.stand more) 0 (λ x. x) → Bounded more → LeadsToLists t2 (tuple_place d.stand) w ws dv.node_of
    leads more X le =
        let e = root_after.1 in
        let shown : spots (sheets_of t2) ≡ V = shown_once (pages_of (sheets_of t2)) (spots (sheets_of t2)) V (shape_shown m (sheets_of t2) X.section.shape) (subst (λ (z : Sheets). IsShown (pages_of z) V) (sym after_is) (B more le).shown) in
        let link : (j : ℕ) → link_of t2 (place root 1) j ≡ get_or ds j None = λ j. ap (λ (u : Tuple). get_or (links u) j None) e in
        subst (λ (s : Stand). LeadsToLists t2 (tuple_place s) w ws dv.node_of) (sym st)
        (subst (λ ns. LeadsToLists t2 (place root 1) w ws ns) P.node_of (record {
          frame = ap frame_in e;
          none = λ j q. link j ∙ downlink_none b (sheet_at S1 b).tuples L 0 n j (let z : 0 + j ≡ j = omega arith in ap L z ∙ q);
          lists = λ j y q. ap (λ (U : Place → Spot). U y) shown ∙ (E.lists j y (sym (link j) ∙ q)).0;
        }))

    number : leaf_number t d.stand ≡ length ls
    number = subst (λ (s : Stand). leaf_number t s ≡ length ls) (sym st) (ap (λ (y : Place). length (leaves_of (spots S y))) (low_spot (place root 1) low) ∙ ap (λ (s : Spot). length (leaves_of s)) (live_there m codes t d root H st A K).1)

    shrinking : xs ≡ ls → (more : ℕ) → Leaves m S (sheets_of t2) t2.touched (split_cost d.stand more) 0 (λ x. x) → Bounded more → (node : Option ℕ) → IsOnlyNode (take (length p.leaves - 1) p.node_of) node → 8160 < weight p.leaves → Shrinks m t t2 d d × ((is_some node ≡ false) ⊎ LeadsNowhere m t2 d)
    shrinking ex more X le node only big =
        let lc = leaf_count m codes t d root H st A K no_room dv D same p P in let c = count_vs m codes t d root H st A K in
        let k : length p.leaves - 1 ≡ length ls = omega arith in
        let only2 : IsOnlyNode (take (length ls) dv.node_of) node = subst (λ ns. IsOnlyNode (take (length ls) ns) node) P.node_of (subst (λ i. IsOnlyNode (take i p.node_of) node) k only) in
        shrinks m t t2 d d (rests_of vs) dv (length ls) D (rests_count m codes t d root H st A K) (slice_last ls (carried d)) number ws (sym (length-leaves_in ws) ∙ xs_count ∙ ap length ex)
        (leads more X le) node (many m codes t d root H st A K no_room dv D same p P big) only2

    carries : (more : ℕ) → Leaves m S (sheets_of t2) t2.touched (split_cost d.stand more) 0 (λ x. x) → (key : Option Key) → IsCarried m S d key → IsCarried m (sheets_of t2) d key
    carries more X key C = record {
      of = C.of;
      begins = C.begins;
      fresh = λ x l a e. let (k, h) = entry_of m (sheets_of t2) x l X.section.shape a in no_entry m S d.row k C.fresh (subst (λ (r : RowAt). HasEntry m (spots S) r k) e ((X.entries l.row k).0 h));
      rest = C.rest;
      rebuilt = C.rebuilt;
      way = subst (λ (s : Stand). WayFits m (sheets_of t2) s d.parent d.recon key) (sym st) (recon_is m codes t d root H st A K key C);
    }

    parts_without : xs ≡ ls → (more : ℕ) → Bounded more → (node : Option ℕ) → IsOnlyNode (take (length p.leaves - 1) p.node_of) node → 8160 < weight p.leaves → more ≡ 0 → PartsWithout m t t2 d d more
    parts_without ex more le node only big none = let X = leaves ex more le in record { leaves = X; inner = at_inner; shrinks = (shrinking ex more X le node only big).0; settles = inl none; carries = carries more X }

    parts_risen : xs ≡ ls → (more : ℕ) → Bounded more → (node : Option ℕ) → IsOnlyNode (take (length p.leaves - 1) p.node_of) node → 8160 < weight p.leaves → is_some node ≡ true → PartsWithout m t t2 d (risen d) more
    parts_risen ex more le node only big some = let X = leaves ex more le in record {
      leaves = X;
      inner = at_inner;
      shrinks = (shrinking ex more X le node only big).0;
      settles = ⊎_elim (λ e. absurd (let a : false ≡ true = sym e ∙ some in cc)) (λ z. inr z) (shrinking ex more X le node only big).1;
      carries = λ key C. let C2 = carries more X key C in record {
        of = record { start = C2.of.start; whole = C2.of.whole; gives = C2.of.gives };
        begins = C2.begins;
        fresh = C2.fresh;
        rest = C2.rest;
        rebuilt = C2.rebuilt;
        way = C2.way;
      };
    }

  -- the inner tuple that is made
  makes : (seat : ℕ) (t2 : Table) (ws : List Tuple) → PutsLists t t2 root seat p ws → MakesOne t t2 (tuple_place d.stand)
  makes seat t2 ws W = subst (λ (s : Stand). MakesOne t t2 (tuple_place s)) (sym st) (root_makes t t2 root seat p ws W)

  first_nodes : (k : ℕ) (ns : List ℕ) (i : ℕ) → i < k → slice_index (take k ns) i ≡ slice_index ns i
  first_nodes k ns i h = get_or-take k ns i 0 h

  abbrev all_but_last : List Tuple
  all_but_last = take (length p.leaves - 1) p.leaves

  few_old : weight all_but_last ≤ 8160
  few_old = others_fit m codes t d root H st A K no_room dv D same p P

  are_old : all_but_last ≡ all_live (leaves_with (rows_of ls) dv.rests)
  are_old = old_leaves m codes t d root H st A K no_room dv D same p P

  count_old : length vs ≡ length ls + 1
  count_old = count_vs m codes t d root H st A K

  length_old : length all_but_last ≡ length ls
  length_old = let a = leaf_count m codes t d root H st A K no_room dv D same p P in let c = count_old in let l = length-take-le (length p.leaves - 1) p.leaves (omega arith) in omega arith

  without_law : (seat : ℕ) (t2 : Table) → PutsLists t t2 root seat p all_but_last → 8160 < weight p.leaves → (in_one : Bool) (node : Option ℕ) → IsOnlyNode (take (length p.leaves - 1) p.node_of) node → in_one ≡ is_some node → IsSplitWay m t t2 d (Without in_one)
  without_law seat t2 W big true k only e =
      let c = count_old in let o = one_there m codes t d root H st A K no_room in let l = length_old in
      let one = bound_one seat t2 all_but_last ls few_old are_old (omega arith) W (omega arith) in
      (calm seat t2 all_but_last ls few_old are_old (omega arith) W, makes seat t2 all_but_last W, parts_risen seat t2 all_but_last ls few_old are_old (omega arith) W refl 1 (bounded seat t2 all_but_last ls few_old are_old (omega arith) W 1 1 one (omega arith)) k only big (sym e))
  without_law seat t2 W big false (Some k) only e = cc
  without_law seat t2 W big false None only e =
      let c = count_old in let o = one_there m codes t d root H st A K no_room in let l = length_old in
      let nc = node_count m codes t d root H st A K no_room dv D same p P in
      let lc = leaf_count m codes t d root H st A K no_room dv D same p P in
      let tl = length-take-le (length p.leaves - 1) p.node_of (omega arith) in
      let (j, h, differ) = only (omega arith) in
      let fj = first_nodes (length p.leaves - 1) p.node_of j (omega arith) in
      let f0 = first_nodes (length p.leaves - 1) p.node_of 0 (omega arith) in
      let two = bound_two seat t2 all_but_last ls few_old are_old (omega arith) W j 0 (omega arith) (omega arith) (λ q. differ (fj ∙ q ∙ sym f0)) in
      (calm seat t2 all_but_last ls few_old are_old (omega arith) W, makes seat t2 all_but_last W, parts_without seat t2 all_but_last ls few_old are_old (omega arith) W refl 0 (bounded seat t2 all_but_last ls few_old are_old (omega arith) W 2 0 two (omega arith)) None only big refl)

  -- whichever way it was done
  pub split_law : (seat : ℕ) (t2 : Table) (way : Divided) → IsWay p way → PutsLists t t2 root seat p (going p way) → IsSplitWay m t t2 d way
  split_law seat t2 With few W =
      let (i, j, a, b, differ) = D.apart in
      let nc = node_count m codes t d root H st A K no_room dv D same p P in
      let lc = leaf_count m codes t d root H st A K no_room dv D same p P in
      let ne = ap length P.node_of in
      let cv = count_vs m codes t d root H st A K in
      let differ2 : slice_index p.node_of i ≡ slice_index p.node_of j → ⊥ = λ e. differ (sym (ap (λ ns. slice_index ns i) P.node_of) ∙ e ∙ ap (λ ns. slice_index ns j) P.node_of) in
      let two = bound_two seat t2 p.leaves vs few P.leaves (omega arith) W i j (omega arith) (omega arith) differ2 in
      (puts seat t2 p.leaves vs few P.leaves (omega arith) W refl (bounded seat t2 p.leaves vs few P.leaves (omega arith) W 2 1 two (omega arith)), calm seat t2 p.leaves vs few P.leaves (omega arith) W, makes seat t2 p.leaves W)
  split_law seat t2 (Without in_one) (big, (node, only, e)) W = without_law seat t2 W big in_one node only e
