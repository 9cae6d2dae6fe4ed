-- An open search under the sections of other seats, and with each read.
use Rattle.std.proofs.Common.{◌≡◌, ◌≤◌, ⊎_elim, inl, inr, ℕ, zero, suc, ◌+◌, Bool, true, false, List, [], ◌∷◌, ◌++◌, length, Option, Some, None, Contains, get_or, take, drop, map, option_map, refl, sym, ap, ◌∙◌, subst, arith}
use Rattle.std.specs.Prelude.{if◌then◌else◌, slice_get}
use Rattle.std.proofs.lemmas.List.Elements.{Contains-append_cases}
use Rattle.std.proofs.lemmas.Option.{same_Some}
use Rattle.spg_base.specs.Row.{RowAt}
use Rattle.spg_base.specs.declared.point.Point.{Point}
use Rattle.spg_opclass.specs.Meaning.{Meaning}
use Rattle.spg_opclass.specs.Laws.{CodeLaw}
use Rattle.spg_opclass.specs.declared.query.Query.{Query}
use Rattle.spg_points.specs.Codec.{is_point}
use Rattle.spg_points.proofs.PointLemmas.{true_and}
use Rattle.spg_forest.specs.View.{Place, Leaf, Target}
use Rattle.spg_forest.specs.Spot.{Frame, Spot, Branch, Bucket, Forward, Nothing, IsStanding, IsIn, leaves_of}
use Rattle.spg_forest.specs.Classes.{class_of, key_of, HasRecon, HasEntry}
use Rattle.spg_forest.specs.Sheets.{Sheets}
use Rattle.spg_forest.specs.Shape.{Shape, spots, tree_of}
use Rattle.spg_forest.specs.Walk.{below}
use Rattle.spg_forest.specs.Opens.{BelowAt}
use Rattle.spg_forest.proofs.FitWay.{recon_of_fit}
use Rattle.spg_forest.proofs.Keeping.{entry_of}
use Rattle.spg_forest.proofs.Relocate.{within_from_some}
use Rattle.spg_forest.proofs.Scan.{target_once}
use Rattle.spg_forest.proofs.Sections.{shape_tree}
use Rattle.spg_forest.proofs.Trees.{recon_once}
use Rattle.spg_rows.specs.History.{History, scanning, open_of}
use Rattle.spg_rows.specs.Lives.{Life}
use Rattle.spg_rows.specs.Legal.{IsLegal}
use Rattle.spg_rows.specs.Scans.{WasPut, HasLivedWith}
use Rattle.spg_rows.specs.Table as rows
use Rattle.spg_rows.proofs.Histories.{sane_from_legal}
use Rattle.spg_rows.proofs.Opened.{scan_before}
use Rattle.spg_rows.proofs.Scans.{needed_before, found_stays, live_found, last_key}
use Rattle.spg_rows.specs.declared.event.Event.{Event}
use Rattle.spg_scan.specs.Items.{held}
use Rattle.spg_scan.specs.Scanning.{Scanning, is_live}
use Rattle.spg_scan.specs.Cover.{IsScanOf}
use Rattle.spg_scan.specs.Others.{ChangesPages}
use Rattle.spg_scan.proofs.Covers.{scan_stays_under, earlier_legal}
use Rattle.spg_scan.proofs.CoverKeys.{admitted}
use Rattle.spg_scan.proofs.CoverLists.{around, comes_from}
use Rattle.spg_scan.proofs.CoverNodes.{contains_cases, contains_none}
use Rattle.spg_scan.proofs.CoverTaken.{live_is}
use Rattle.spg_scan.proofs.CoverWays.{main_tuple, node_count}
use Rattle.spg_scan.proofs.Gathering.{does}
use Rattle.spg_scan.proofs.Since.{scan_reuses}
use Rattle.spg_scan.proofs.Grounds.{Grounds}
use Rattle.spg_near.specs.declared.near_row.NearRow.{NearRow}
use Rattle.spg_near.specs.Boxes.{in_box, distance}
use Rattle.spg_near.specs.Nearing.{NearItem, Nearing, Boxing, held_at, scan_of, near_children, near_row, near_rows, NearSpot, near_replaced}
use Rattle.spg_near.specs.Laws.{CutLaw, KeyLaw}
use Rattle.spg_near.specs.Cover.{IsWholeOf, NearStays, NearReads}
use Rattle.spg_near.proofs.Reading.{row_of, scan_replaced, item_at, reads_spot}
use Rattle.spg_near.proofs.Needed.{needed_then}
use Rattle.spg_near.proofs.Below.{changes_below, below_child, below_forward}

module _ {O Recon Cond : Type 0} (m : Meaning Point Recon Cond) where
  -- the keys of the rows below held places are in their boxes
  abbrev pub AreBoxed : Sheets → History O Point Recon Cond → History O Point Recon Cond → Nearing Recon → Type 0
  AreBoxed S before past n = (i : ℕ) (it : NearItem Recon) (row : RowAt) (life : Life Point) (key : Point) → slice_get n.items i ≡ Some it → BelowAt (tree_of m S) n.stamp it.place row → WasPut before past row life → life.key ≡ Some key → in_box it.area key ≡ true

  -- the rows found have distances of their keys
  abbrev pub AreMeasured : History O Point Recon Cond → History O Point Recon Cond → Nearing Recon → Type 0
  AreMeasured before past n = (h : NearRow) → Contains n.found h → (key : Point) × HasLivedWith before past h.row (Some key) × (h.distance ≡ distance n.target key)

  -- ---- events

  boxed_event : (S : Sheets) (e : Event O Point Recon Cond) (before past : History O Point Recon Cond) (n : Nearing Recon) → length before ≤ length past → AreBoxed S before past n → AreBoxed S before (e ∷ past) n
  boxed_event S e before past n later B i it row life key at b put is = let (old, was, same, kill) = needed_before e before past row life later put in B i it row old key at b was (same ∙ is)

  measured_event : (e : Event O Point Recon Cond) (before past : History O Point Recon Cond) (n : Nearing Recon) → length before ≤ length past → AreMeasured before past n → AreMeasured before (e ∷ past) n
  measured_event e before past n later D h c = let (key, lived, is) = D h c in (key, found_stays e before past h.row (Some key) later lived, is)

  longer : (es before past : History O Point Recon Cond) → length before ≤ length past → length before ≤ length (es ++ past)
  longer [] before past h = h
  longer (e ∷ es) before past h = let a = longer es before past h in omega arith

  boxed_events : (S : Sheets) (es before past : History O Point Recon Cond) (n : Nearing Recon) → length before ≤ length past → AreBoxed S before past n → AreBoxed S before (es ++ past) n
  boxed_events S [] before past n later B = B
  boxed_events S (e ∷ es) before past n later B = boxed_event S e before (es ++ past) n (longer es before past later) (boxed_events S es before past n later B)

  measured_events : (es before past : History O Point Recon Cond) (n : Nearing Recon) → length before ≤ length past → AreMeasured before past n → AreMeasured before (es ++ past) n
  measured_events [] before past n later D = D
  measured_events (e ∷ es) before past n later D = measured_event e before (es ++ past) n (longer es before past later) (measured_events es before past n later D)

  -- ---- a section of another seat

  boxed_pages : (S S2 : Sheets) (before past : History O Point Recon Cond) (n : Nearing Recon) (by : ℕ) (touched : List ℕ) (since : ℕ) → IsLegal past → since ≤ n.stamp → ChangesPages m past by S S2 touched since → IsWholeOf m S before past n → AreBoxed S2 before past n
  boxed_pages S S2 before past n by touched since legal later P D i it row life key at b put is =
      let (t, target, recon) = D.scan.spots.sheltered (i, 0) it.place (Some it.recon) (held it.place (Some it.recon), item_at n.items i it at, (refl, refl, refl)) in
      D.boxes i it row life key at (changes_below m S S2 n.stamp it.place t target row before past by touched since life legal later D.scan.stamp P put b) put is

  whole_stays : (S S2 : Sheets) (past es before : History O Point Recon Cond) (n : Nearing Recon) (guard : Query O Point Recon Cond) (seat by : ℕ) (touched : List ℕ) (since : ℕ) →
      IsLegal (es ++ past) → open_of seat past ≡ scanning before guard → since ≤ n.stamp → ChangesPages m past by S S2 touched since → IsWholeOf m S before past n → IsWholeOf m S2 before (es ++ past) n
  whole_stays S S2 past es before n guard seat by touched since legal scans later P D =
      let a = scan_before past before guard seat scans in
      let earlier : length before ≤ length past = omega arith in
      record {
        scan = scan_stays_under m S S2 past es before (scan_of n) guard seat by touched since legal scans later P D.scan;
        boxes = boxed_events S2 es before past n earlier (boxed_pages S S2 before past n by touched since (earlier_legal m es past legal) later P D);
        distances = measured_events es before past n earlier D.distances;
      }

  pub near_stays : NearStays O Recon Cond m
  near_stays S S2 past es before n guard seat by touched since legal scans later P D = record {
    all = D.all;
    whole = whole_stays S S2 past es before (record n { found = D.all }) guard seat by touched since legal scans later P D.whole;
    kept = D.kept;
  }

  -- ---- a read

  module _ (boxing : Boxing Recon) (S : Sheets) (before past : History O Point Recon Cond) (n : Nearing Recon) (table : rows.Table O Point Recon Cond) (A : Grounds m S before past table (scan_of n)) (D : IsWholeOf m S before past n)
      (cuts : CutLaw m boxing) (points : KeyLaw m) (i : ℕ) (it : NearItem Recon) (at : slice_get n.items i ≡ Some it) where
    H : Shape m S
    H = A.holds.shape

    its : (t : Place) × Target (tree_of m S) t it.place n.stamp × HasRecon m (spots S) t (Some it.recon)
    its = D.scan.spots.sheltered (i, 0) it.place (Some it.recon) (held it.place (Some it.recon), item_at n.items i it at, (refl, refl, refl))

    -- what stands there has the rebuilt value of the item
    stands_at : IsStanding (spots S it.place) → HasRecon m (spots S) it.place (Some it.recon)
    stands_at h =
        let (t, target, recon) = its in
        subst (λ (p : Place). HasRecon m (spots S) p (Some it.recon)) (target_once (class_of m) (spots S) t it.place it.place n.stamp target (Target.stands h)) recon

    -- below a child the keys are in its box
    child_boxed : (w : Frame) (ns : List (Option Place)) → spots S it.place ≡ Branch w ns → (is : List ℕ) (k : ℕ) (kid : NearItem Recon) → slice_get (near_children m boxing it w ns is) k ≡ Some kid →
        (j : ℕ) × (get_or ns j None ≡ Some kid.place) × (kid.area ≡ boxing it.recon w j it.area)
    child_boxed w ns e [] k kid g = cc
    child_boxed w ns e (j ∷ is) k kid g = at_link (λ l f. child_boxed w ns e is l kid f) (get_or ns j None) refl g
      where
        at_link : ((l : ℕ) → slice_get (near_children m boxing it w ns is) l ≡ Some kid → (i : ℕ) × (get_or ns i None ≡ Some kid.place) × (kid.area ≡ boxing it.recon w i it.area)) → (o : Option Place) → get_or ns j None ≡ o → slice_get (elim o [ None ↦ near_children m boxing it w ns is | Some y ↦ record { place = y; recon = m.down it.recon w j; area = boxing it.recon w j it.area } ∷ near_children m boxing it w ns is ]) k ≡ Some kid →
            (l : ℕ) × (get_or ns l None ≡ Some kid.place) × (kid.area ≡ boxing it.recon w l it.area)
        at_link more None f g = more k g
        at_link more (Some y) f g = first k g
          where
            first : (k : ℕ) → slice_get (record { place = y; recon = m.down it.recon w j; area = boxing it.recon w j it.area } ∷ near_children m boxing it w ns is) k ≡ Some kid → (l : ℕ) × (get_or ns l None ≡ Some kid.place) × (kid.area ≡ boxing it.recon w l it.area)
            first zero g = let same = same_Some _ kid g in (j, f ∙ ap (λ (z : NearItem Recon). Some z.place) same, sym (ap (λ (z : NearItem Recon). z.area) same))
            first (suc k) g = more k g

    key_point : CodeLaw m → (q : Option Recon) (rest : List ℕ) (key : Point) → key_of m q rest ≡ Some (Some key) → is_point key ≡ true
    key_point L None rest key e = cc
    key_point L (Some q) rest key e = points key (L.rebuilt q rest key (some_some (m.rebuild q rest) key e))
      where
        some_some : (o : Option Point) (x : Point) → option_map Some o ≡ Some (Some x) → o ≡ Some x
        some_some None x e = cc
        some_some (Some y) x e = cc

    in_child : (w : Frame) (ns : List (Option Place)) → spots S it.place ≡ Branch w ns → (j : ℕ) (y : Place) → get_or ns j None ≡ Some y → (row : RowAt) (life : Life Point) (key : Point) → BelowAt (tree_of m S) n.stamp y row → WasPut before past row life → life.key ≡ Some key → in_box (boxing it.recon w j it.area) key ≡ true
    in_child w ns e j y link row life key b put is =
        let (under, above) = below_child m S H n.stamp it.place row w ns j y e link b in
        let outer : in_box it.area key ≡ true = D.boxes i it row life key at above put is in
        let (z, reach, (l, leaf, d)) = under in
        let (k, entry) = entry_of m S z l H leaf in
        let entry2 : HasEntry m (spots S) row k = subst (λ (r : RowAt). HasEntry m (spots S) r k) d entry in
        let one : k ≡ Some key = cc (sym ((A.holds.entries row k).0 entry2).1 ∙ last_key past row life put.last ∙ ap Some is) in
        let entry3 : HasEntry m (spots S) row (Some key) = subst (λ (o : Option Point). HasEntry m (spots S) row o) one entry2 in
        let hr = stands_at (subst IsStanding (sym e) tt) in
        let (ok, (q, rest, g)) = admitted m S H it.place y w ns (Some it.recon) j row (Some key) e hr link under entry3 in
        let point : is_point key ≡ true = key_point A.codes q rest key g in
        let within = within_from_some ns j y link in
        let count = node_count m S H it.place w ns e in
        cuts it.recon w j it.area key (main_tuple m S H it.place it.recon w ns hr e) (omega arith) point ∙ true_and (in_box it.area key) (m.admits it.recon w j key) outer ok

    kids_boxed : (sp : Spot) → spots S it.place ≡ sp → (ys : List (NearItem Recon)) (found : List NearRow) → NearSpot m boxing table n.target it sp ys found →
        (k : ℕ) (kid : NearItem Recon) (row : RowAt) (life : Life Point) (key : Point) → slice_get ys k ≡ Some kid → BelowAt (tree_of m S) n.stamp kid.place row → WasPut before past row life → life.key ≡ Some key → in_box kid.area key ≡ true
    kids_boxed (Branch w ns) e ys found (is, none) k kid row life key g b put keyed =
        let (j, link, area) = child_boxed w ns e (below (length ns)) k kid (subst (λ (zs : List (NearItem Recon)). slice_get zs k ≡ Some kid) is g) in
        subst (λ a. in_box a key ≡ true) (sym area) (in_child w ns e j kid.place link row life key b put keyed)
    kids_boxed (Bucket ls) e ys found (is, f) k kid row life key g b put keyed = absurd (let h = subst (λ (zs : List (NearItem Recon)). slice_get zs k ≡ Some kid) is g in cc h)
    kids_boxed (Forward y u) e ys found (is, none) k kid row life key g b put keyed =
        let (t, target, recon) = its in
        let same : record it { place = y } ≡ kid = only_one k (subst (λ (zs : List (NearItem Recon)). slice_get zs k ≡ Some kid) is g) in
        let from : BelowAt (tree_of m S) n.stamp y row = subst (λ (z : NearItem Recon). BelowAt (tree_of m S) n.stamp z.place row) (sym same) b in
        subst (λ (z : NearItem Recon). in_box z.area key ≡ true) same (D.boxes i it row life key at (below_forward m S H n.stamp it.place row t y u e target from) put keyed)
      where
        only_one : (k : ℕ) → slice_get (record it { place = y } ∷ []) k ≡ Some kid → record it { place = y } ≡ kid
        only_one zero g = same_Some _ kid g
        only_one (suc k) g = cc
    kids_boxed Nothing e ys found h k kid row life key g b put keyed = absurd h

    -- a row that is found is that of a live leaf
    row_from : (ls : List Leaf) (h : NearRow) → Contains (near_rows m table n.target it.recon ls) h → (l : Leaf) × (key : Point) × IsIn l ls × (is_live (rows.state_in table l.row) ≡ true) × (m.rebuild it.recon l.rest ≡ Some key) × (record { row = l.row; distance = distance n.target key } ≡ h)
    row_from [] h c = absurd (contains_none h c)
    row_from (l ∷ ls) h c = at_leaf (λ d. row_from ls h d) (is_live (rows.state_in table l.row)) refl (m.rebuild it.recon l.rest) refl c
      where
        more : ((l : Leaf) × (key : Point) × IsIn l ls × (is_live (rows.state_in table l.row) ≡ true) × (m.rebuild it.recon l.rest ≡ Some key) × (record { row = l.row; distance = distance n.target key } ≡ h)) →
            (l2 : Leaf) × (key : Point) × IsIn l2 (l ∷ ls) × (is_live (rows.state_in table l2.row) ≡ true) × (m.rebuild it.recon l2.rest ≡ Some key) × (record { row = l2.row; distance = distance n.target key } ≡ h)
        more (l2, key, a, live, e, f) = (l2, key, inr a, live, e, f)

        at_leaf : (Contains (near_rows m table n.target it.recon ls) h → (l : Leaf) × (key : Point) × IsIn l ls × (is_live (rows.state_in table l.row) ≡ true) × (m.rebuild it.recon l.rest ≡ Some key) × (record { row = l.row; distance = distance n.target key } ≡ h)) → (live : Bool) → is_live (rows.state_in table l.row) ≡ live → (o : Option Point) → m.rebuild it.recon l.rest ≡ o → Contains ((if live then near_row n.target l.row o else []) ++ near_rows m table n.target it.recon ls) h →
            (l2 : Leaf) × (key : Point) × IsIn l2 (l ∷ ls) × (is_live (rows.state_in table l2.row) ≡ true) × (m.rebuild it.recon l2.rest ≡ Some key) × (record { row = l2.row; distance = distance n.target key } ≡ h)
        at_leaf deep false f o e c = more (deep c)
        at_leaf deep true f None e c = more (deep c)
        at_leaf deep true f (Some key) e c = ⊎_elim (λ g. (l, key, inl refl, f, e, g)) (λ d. more (deep d)) (contains_cases (record { row = l.row; distance = distance n.target key }) h (near_rows m table n.target it.recon ls) c)

    leaf_measured : (ls : List Leaf) → spots S it.place ≡ Bucket ls → (h : NearRow) → Contains (near_rows m table n.target it.recon ls) h → (key : Point) × HasLivedWith before past h.row (Some key) × (h.distance ≡ distance n.target key)
    leaf_measured ls e h c =
        let (l, key, a, live, rebuilt, same) = row_from ls h c in
        let there : IsIn l (leaves_of (spots S it.place)) = subst (λ (z : Spot). IsIn l (leaves_of z)) (sym e) a in
        let (p, k, fit, is_key) = H.keys it.place l there in
        let recon = recon_of_fit (class_of m) (spots S) (Some k) it.place p fit in
        let hr = stands_at (subst IsStanding (sym e) tt) in
        let one : p ≡ Some it.recon = recon_once (class_of m) (spots S) S.clock (shape_tree m S H) it.place p (Some it.recon) recon hr in
        let entry : HasEntry m (spots S) l.row k = (it.place, p, l, recon, there, refl, is_key) in
        let keyed : Some k ≡ Some (Some key) = sym is_key ∙ ap (λ (z : Option Recon). key_of m z l.rest) one ∙ ap (option_map Some) rebuilt in
        let same_key : k ≡ Some key = cc keyed in
        let lived : HasLivedWith before past l.row k = live_found past (sane_from_legal past A.legal) before l.row k (sym (A.states l.row) ∙ live_is (rows.state_in table l.row) live) ((A.holds.entries l.row k).0 entry).1 in (
          key,
          subst (λ (g : NearRow). HasLivedWith before past g.row (Some key)) same (subst (λ (o : Option Point). HasLivedWith before past l.row o) same_key lived),
          sym (ap (λ (g : NearRow). g.distance) same),
        )

    found_measured : (sp : Spot) → spots S it.place ≡ sp → (ys : List (NearItem Recon)) (found : List NearRow) → NearSpot m boxing table n.target it sp ys found → (h : NearRow) → Contains found h → (key : Point) × HasLivedWith before past h.row (Some key) × (h.distance ≡ distance n.target key)
    found_measured (Branch w ns) e ys found (is, none) h c = absurd (contains_none h (subst (λ (xs : List NearRow). Contains xs h) none c))
    found_measured (Bucket ls) e ys found (is, f) h c = leaf_measured ls e h (subst (λ (xs : List NearRow). Contains xs h) f c)
    found_measured (Forward y u) e ys found (is, none) h c = absurd (contains_none h (subst (λ (xs : List NearRow). Contains xs h) none c))
    found_measured Nothing e ys found never h c = absurd never

    near_read : (ys : List (NearItem Recon)) (found : List NearRow) (met : ℕ) → NearSpot m boxing table n.target it (spots S it.place) ys found → IsWholeOf m S before past (near_replaced n i ys found met)
    near_read ys found met h = record {
      scan = subst (λ (s : Scanning O Point Recon Cond). IsScanOf m S before past s) (sym (scan_replaced n i ys found met))
          (does m S before past table (scan_of n) A i (held_at it) (map held_at ys) (map row_of found) met (item_at n.items i it at)
          (inl (reads_spot m boxing S H table n.target it ys found A.kept A.codes (spots S it.place) refl (λ w ns e. stands_at (subst IsStanding (sym e) tt)) h)));
      boxes = λ j kid row life key g b put is. ⊎_elim
          (λ (o, a, was). D.boxes o kid row life key (subst (λ (zs : List (NearItem Recon)). slice_get zs o ≡ Some kid) (sym (around n.items i it at).0) a) b put is)
          (λ (k, a, e). kids_boxed (spots S it.place) refl ys found h k kid row life key a b put is)
          (comes_from (take i n.items) ys (drop (i + 1) n.items) it j kid g);
      distances = λ r c. ⊎_elim (λ a. D.distances r a) (λ a. found_measured (spots S it.place) refl ys found h r a) (Contains-append_cases n.found found r c);
    }

  pub near_reads : (boxing : Boxing Recon) → NearReads O Recon Cond m boxing
  near_reads boxing S before past n guard seat table i it ys live found met K L C P legal scans R states at h A D = record {
    all = D.all ++ live;
    whole = near_read boxing S before past (record n { found = D.all }) table (record { kept = K; codes = L; legal = legal; holds = R; states = states; none = scan_reuses past before guard seat legal scans; is = D.whole.scan }) D.whole C P i it at ys live met h;
    kept = needed_then n.limit [] D.all n.found live found D.kept A;
  }
