-- The laws of a class of points, from what it says of areas and of divisions.
use Rattle.std.proofs.Common.{◌≡◌, ◌≢◌, ℕ, cond, ◌+◌, ◌-◌, ◌*◌, ◌<◌, ◌≤◌, ◌⊎◌, ℤ, pos, Bool, true, false, ◌&&◌, List, length, get_or, take, Option, Some, None, refl, sym, ◌∙◌, ap, subst, inl, inr, arith, rules, lit<, eqb}
use Rattle.std.specs.Prelude.{◌==◌, All, slice_get, IsSome, Contains, ◌↔◌, replicate}
use Rattle.std.specs.List.{list_all}
use Rattle.std.proofs.lemmas.Option.{same_Some}
use Rattle.std.proofs.lemmas.Bool.{eqb-true}
use Rattle.std.proofs.lemmas.Bool.Decides.{nat_tests}
use Rattle.std.proofs.lemmas.List.{length-replicate}
use Rattle.std.proofs.lemmas.List.Elements.{All-weaker, All-nil, Contains-get_or}
use Rattle.std.proofs.lemmas.List.Sums.{AllPass-from_list_all, list_all-from_AllPass}
use Rattle.spg_base.specs.declared.point.Point.{Point}
use Rattle.spg_base.specs.declared.point.PointCond.{PointCond}
use Rattle.spg_base.specs.Points.{cond_holds}
use Rattle.spg_opclass.specs.declared.view.InnerView.{InnerView}
use Rattle.spg_opclass.specs.declared.view.Choice.{Choice}
use Rattle.spg_opclass.specs.declared.view.Choice.TheVariants.{Match, Add, Split}
use Rattle.spg_opclass.specs.Meaning.{is_tuple, divided, eightfold}
use Rattle.spg_opclass.specs.Laws.{MatchLaw, AddLaw, SplitLaw, PickLaw, ApartLaw, KeptLaw, PlainLaw, CodeLaw, IsDivision, inner_size}
use Rattle.spg_opclass.specs.Included.{BareLaw}
use Rattle.spg_opclass.specs.Exact.{MeetsSome, KeepsExactly}
use Rattle.spg_opclass.specs.Indices.{kept_below}
use Rattle.spg_opclass.proofs.IndicesLemmas.{kept_below-there, kept_below-found, kept_below-rises, kept_below-all, kept_below-none}
use Rattle.spg_points.specs.declared.area.Area.{Area}
use Rattle.spg_points.specs.Codec.{is_point, point_of, bytes_of_point}
use Rattle.spg_points.specs.Areas.{in_area, whole, area_of, areas_meet, is_wanted, kept_by}
use Rattle.spg_points.specs.PointClass.{PointClass, is_point_bytes, rebuilt, count_ok, plain_nodes, node_area, node_for, divided_by, meaning_of}
use Rattle.spg_points.proofs.PointLemmas.{and_true, true_and, is_point-point_of, point_of-bytes_of_point, holds-in_area, areas_meet_at, areas_meet_from}
use Rattle.spg_points.proofs.RestLemmas.{rebuilt_some, rebuilt_from, rebuilt_needs, point_length, at_part, nodes_of_tuple, label_zero, all_zero}

-- what a class of points says of its areas: a point stands in the area of the node to which it
-- goes, and no area is wider than the range of coordinates
pub record IsPointClass {Recon : Type 0} (kind : PointClass Recon) : Type 0 where
  pub short_prefix : kind.prefix_length ≤ 8
  pub few_nodes : kind.node_count ≤ 8
  pub some_nodes : 0 < kind.node_count
  pub side_there : (recon : Recon) (prefix : List ℕ) (p : Point) → kind.side recon prefix p < kind.node_count
  pub side_has : (recon : Recon) (prefix : List ℕ) (p : Point) → is_point p ≡ true → in_area (kind.area recon prefix (kind.side recon prefix p)) p ≡ true
  pub in_range : (recon : Recon) (prefix : List ℕ) (node : ℕ) (p : Point) → in_area (kind.area recon prefix node) p ≡ true → is_point p ≡ true

-- what it says of a division
pub record IsSound {Recon : Type 0} (kind : PointClass Recon) (recon : Recon) (rests : List (List ℕ)) (prefix node_of : List ℕ) : Type 0 where
  pub prefix_fits : length prefix ≡ kind.prefix_length
  pub node_each : length node_of ≡ length rests
  pub node_there : All (λ n. n < kind.node_count) node_of
  pub admitted : (i : ℕ) (bytes : List ℕ) (node : ℕ) → slice_get rests i ≡ Some bytes → slice_get node_of i ≡ Some node → in_area (kind.area recon prefix node) (point_of bytes) ≡ true
  pub one_point : (node : ℕ) → All (λ n. n ≡ node) node_of → (i j : ℕ) (a b : List ℕ) → slice_get rests i ≡ Some a → slice_get rests j ≡ Some b → point_of a ≡ point_of b
  pub alone : (others last : ℕ) (bytes : List ℕ) → slice_get rests (length rests - 1) ≡ Some bytes → slice_get node_of (length rests - 1) ≡ Some last
      → All (λ n. n ≡ others) (take (length rests - 1) node_of) → others ≢ last → kind.side recon prefix (point_of bytes) ≡ last

-- every node of an all-the-same tuple admits every point
admitted_same : {Recon : Type 0} (kind : PointClass Recon) (recon : Recon) (tuple : InnerView) (i : ℕ) (p : Point) → is_point p ≡ true → tuple.all_same ≡ true → in_area (node_area kind recon tuple i) p ≡ true
unfolding node_area
admitted_same kind recon tuple i p h s = rw s h

-- the node that is answered is there and admits the point
answered : {Recon : Type 0} (kind : PointClass Recon) → IsPointClass kind → (recon : Recon) (tuple : InnerView) (bytes : List ℕ) (key : Point)
    → plain_nodes kind.node_count tuple ≡ true → point_of bytes ≡ key → is_point key ≡ true
    → (node_for kind recon tuple bytes < length tuple.labels) × (in_area (node_area kind recon tuple (node_for kind recon tuple bytes)) key ≡ true)
unfolding node_for node_area
answered kind fine recon tuple bytes key n e h = by_same tuple.all_same refl
  where
    by_same : (b : Bool) → tuple.all_same ≡ b
        → (cond b 0 (kind.side recon tuple.prefix (point_of bytes)) < length tuple.labels)
        × (in_area (cond b whole (kind.area recon tuple.prefix (cond b 0 (kind.side recon tuple.prefix (point_of bytes))))) key ≡ true)
    by_same true s = (rw (nodes_of_tuple kind.node_count tuple n, s) (lit< tt), h)
    by_same false s = (
      rw (nodes_of_tuple kind.node_count tuple n, s) (fine.side_there recon tuple.prefix (point_of bytes)),
      subst (λ (k : Point). in_area (kind.area recon tuple.prefix (kind.side recon tuple.prefix (point_of bytes))) k ≡ true) e
          (fine.side_has recon tuple.prefix (point_of bytes) (is_point-point_of bytes)),
    )

pub matches_of : {Recon : Type 0} (kind : PointClass Recon) → IsPointClass kind → MatchLaw (meaning_of kind)
matches_of kind fine recon tuple bytes key t k node rest a =
    let e0 : node_for kind recon tuple bytes ≡ node = cc in
    let e1 : bytes ≡ rest = cc in
    let q = rebuilt_some bytes key k in
    let nodes = (and_true (length tuple.prefix == kind.prefix_length) (plain_nodes kind.node_count tuple) t).1 in
    let w = answered kind fine recon tuple bytes key nodes q.1.0 q.1.1 in
    let again : rebuilt rest ≡ Some key = subst (λ (r : List ℕ). rebuilt r ≡ Some key) e1 k in
    record {
      there = subst (λ (n : ℕ). n < length tuple.labels) e0 w.0;
      taken = record { admitted = subst (λ (n : ℕ). in_area (node_area kind recon tuple n) key ≡ true) e0 w.1; given_back = again };
      everywhere = λ same i l. record { admitted = admitted_same kind recon tuple i key q.1.1 same; given_back = again };
      not_longer = subst (λ (r : List ℕ). length r ≤ length bytes) e1 (omega arith);
      well_formed = subst (λ (r : List ℕ). is_point_bytes r ≡ true) e1 q.0;
    }

pub adds_of : {Recon : Type 0} (kind : PointClass Recon) → AddLaw (meaning_of kind)
adds_of kind recon tuple bytes key t k at label a = absurd (cc)

pub splits_of : {Recon : Type 0} (kind : PointClass Recon) → SplitLaw (meaning_of kind)
splits_of kind recon tuple bytes key t k up labels child low a = absurd (cc)

pub plain_of : {Recon : Type 0} (kind : PointClass Recon) → PlainLaw (meaning_of kind)
plain_of kind unlabelled recon tuple bytes key t k = (node_for kind recon tuple bytes, bytes, refl)

eqb-same : (n : ℕ) → eqb n n ≡ true
eqb-same n = grind (arith, nat_tests)

-- the tuple of a division, and the one where all values are put in one node
division_ok : {Recon : Type 0} (kind : PointClass Recon) (prefix : List ℕ) → length prefix ≡ kind.prefix_length
    → is_tuple (meaning_of kind) (record { all_same = false; prefix = prefix; labels = replicate kind.node_count (pos 0) }) ≡ true
unfolding plain_nodes count_ok
division_ok kind prefix e =
    true_and _ _ (rw e (eqb-same kind.prefix_length)) (true_and _ _ (all_zero kind.node_count) (rw (length-replicate kind.node_count (pos 0)) (eqb-same kind.node_count)))

same_ok : {Recon : Type 0} (kind : PointClass Recon) (prefix : List ℕ) → length prefix ≡ kind.prefix_length → is_tuple (meaning_of kind) (eightfold prefix (pos 0)) ≡ true
unfolding plain_nodes count_ok
same_ok kind prefix e = true_and _ _ (rw e (eqb-same kind.prefix_length)) refl

pub picks_of : {Recon : Type 0} (kind : PointClass Recon) → IsPointClass kind
    → ((recon : Recon) (rests : List (List ℕ)) → 0 < length rests → IsSound kind recon rests (kind.prefix_for recon rests) (kind.nodes_for recon rests)) → PickLaw (meaning_of kind)
unfolding divided_by node_area node_for
picks_of {Recon} kind fine sound recon rests n h = division (kind.prefix_for recon rests) (kind.nodes_for recon rests) (sound recon rests n)
  where
    division : (prefix node_of : List ℕ) → IsSound kind recon rests prefix node_of
        → IsDivision (meaning_of kind) recon rests (record { prefix = prefix; labels = replicate kind.node_count (pos 0); node_of = node_of; rests = rests })
    division prefix node_of s =
        let count : length (replicate kind.node_count (pos 0)) ≡ kind.node_count = length-replicate kind.node_count (pos 0) in
        record {
          some_node = rw count fine.some_nodes;
          node_each = s.node_each;
          rest_each = refl;
          well_formed = division_ok kind prefix s.prefix_fits;
          node_there = rw count s.node_there;
          taken = λ i bytes node rest key part k.
              let same : bytes ≡ rest = same_Some bytes rest (sym part.whole_at ∙ part.rest_at) in
              record {
                admitted = subst (λ (p : Point). in_area (kind.area recon prefix node) p ≡ true) (rebuilt_some bytes key k).1.0 (s.admitted i bytes node part.whole_at part.node_at);
                given_back = subst (λ (r : List ℕ). rebuilt r ≡ Some key) same k;
              };
          not_longer = λ i bytes node rest part.
              let same : bytes ≡ rest = same_Some bytes rest (sym part.whole_at ∙ part.rest_at) in (
                subst (λ (r : List ℕ). length r ≤ length bytes) same (omega arith),
                subst (λ (r : List ℕ). is_point_bytes r ≡ true) same (rebuilt_needs bytes (at_part (λ r. IsSome (rebuilt r)) rests i bytes h part.whole_at)),
              );
          one_well_formed = λ node label two all at. subst (λ (l : ℤ). is_tuple (meaning_of kind) (eightfold prefix l) ≡ true) (label_zero kind.node_count node label at) (same_ok kind prefix s.prefix_fits);
          one_taken = λ node label two all at j i bytes rest key l part k.
              let same : bytes ≡ rest = same_Some bytes rest (sym part.whole_at ∙ part.rest_at) in
              record { admitted = (rebuilt_some bytes key k).1.1; given_back = subst (λ (r : List ℕ). rebuilt r ≡ Some key) same k };
          alone = λ others last bytes rest part all apart.
              let same : bytes ≡ rest = same_Some bytes rest (sym part.whole_at ∙ part.rest_at) in
              ap (λ (k : ℕ). Match k bytes) (s.alone others last bytes part.whole_at part.node_at all apart) ∙ ap (λ (r : List ℕ). Match last r) same;
        }

pub apart_of : {Recon : Type 0} (kind : PointClass Recon)
    → ((recon : Recon) (rests : List (List ℕ)) → 0 < length rests → IsSound kind recon rests (kind.prefix_for recon rests) (kind.nodes_for recon rests)) → ApartLaw (meaning_of kind)
unfolding divided_by
apart_of kind sound recon rests n h node all i j a b x y p q u v =
    ap bytes_of_point (sym (rebuilt_some a x u).1.0 ∙ (sound recon rests n).one_point node all i j a b p q ∙ (rebuilt_some b y v).1.0)

-- the nodes that are kept
within : {Recon : Type 0} (kind : PointClass Recon) → IsPointClass kind → (recon : Recon) (tuple : InnerView) (i : ℕ) (p : Point) → in_area (node_area kind recon tuple i) p ≡ true → is_point p ≡ true
unfolding node_area
within kind fine recon tuple i p = by_same tuple.all_same
  where
    by_same : (b : Bool) → in_area (cond b whole (kind.area recon tuple.prefix i)) p ≡ true → is_point p ≡ true
    by_same true h = h
    by_same false h = fine.in_range recon tuple.prefix i p h

meets_some : {Recon : Type 0} (kind : PointClass Recon) → IsPointClass kind → (recon : Recon) (tuple : InnerView) (i : ℕ) (c : PointCond)
    → areas_meet (node_area kind recon tuple i) (area_of c) ≡ true → MeetsSome (meaning_of kind) is_point recon tuple i c
meets_some kind fine recon tuple i c h =
    let m = areas_meet_at (node_area kind recon tuple i) (area_of c) h in
    let there = within kind fine recon tuple i m.0 m.1.0 in
    record { value = m.0; is_one = there; admitted = m.1.0; met = holds-in_area c m.0 there ∙ m.1.1 }

meets_from : {Recon : Type 0} (kind : PointClass Recon) (recon : Recon) (tuple : InnerView) (i : ℕ) (c : PointCond)
    → MeetsSome (meaning_of kind) is_point recon tuple i c → areas_meet (node_area kind recon tuple i) (area_of c) ≡ true
meets_from kind recon tuple i c m = areas_meet_from (node_area kind recon tuple i) (area_of c) m.value m.admitted (sym (holds-in_area c m.value m.is_one) ∙ m.met)

wanted_is : {Recon : Type 0} (kind : PointClass Recon) → IsPointClass kind → (recon : Recon) (tuple : InnerView) (conds : List PointCond) (i : ℕ)
    → (is_wanted (node_area kind recon tuple i) conds ≡ true) ↔ All (MeetsSome (meaning_of kind) is_point recon tuple i) conds
unfolding is_wanted
wanted_is kind fine recon tuple conds i =
    let p = λ (c : PointCond). areas_meet (node_area kind recon tuple i) (area_of c) in (
      λ h. All-weaker (λ c. p c ≡ true) (MeetsSome (meaning_of kind) is_point recon tuple i) (meets_some kind fine recon tuple i) conds (AllPass-from_list_all p conds h),
      λ all. list_all-from_AllPass p conds (All-weaker (MeetsSome (meaning_of kind) is_point recon tuple i) (λ c. p c ≡ true) (meets_from kind recon tuple i) conds all),
    )

-- at an all-the-same tuple all nodes are wanted, or none
wanted_same : {Recon : Type 0} (kind : PointClass Recon) (recon : Recon) (tuple : InnerView) (conds : List PointCond) (i : ℕ) → tuple.all_same ≡ true → is_wanted (node_area kind recon tuple i) conds ≡ is_wanted whole conds
unfolding node_area
wanted_same kind recon tuple conds i s = rw s refl

all_or_none_of : {Recon : Type 0} (kind : PointClass Recon) (recon : Recon) (tuple : InnerView) (conds : List PointCond) (n : ℕ) (b : Bool) → is_wanted whole conds ≡ b → tuple.all_same ≡ true
    → (length (kept_by (node_area kind recon tuple) conds n) ≡ 0) ⊎ (length (kept_by (node_area kind recon tuple) conds n) ≡ n)
all_or_none_of kind recon tuple conds n true e s = inr (kept_below-all (λ i. is_wanted (node_area kind recon tuple i) conds) n (λ i. wanted_same kind recon tuple conds i s ∙ e))
all_or_none_of kind recon tuple conds n false e s = inl (kept_below-none (λ i. is_wanted (node_area kind recon tuple i) conds) n (λ i. wanted_same kind recon tuple conds i s ∙ e))

pub exact_of : {Recon : Type 0} (kind : PointClass Recon) → IsPointClass kind → (recon : Recon) (tuple : InnerView) (conds : List PointCond)
    → KeepsExactly (meaning_of kind) is_point recon tuple conds (kept_by (node_area kind recon tuple) conds (length tuple.labels))
exact_of kind fine recon tuple conds i =
    let p = λ (i : ℕ). is_wanted (node_area kind recon tuple i) conds in
    let n = length tuple.labels in (
      λ h. let u = kept_below-there p n i h in (u.0, (wanted_is kind fine recon tuple conds i).0 u.1),
      λ h. kept_below-found p n i h.0 ((wanted_is kind fine recon tuple conds i).1 h.1),
    )

pub keeps_of : {Recon : Type 0} (kind : PointClass Recon) → IsPointClass kind → KeptLaw (meaning_of kind)
keeps_of kind fine recon tuple conds r t c =
    let p = λ (i : ℕ). is_wanted (node_area kind recon tuple i) conds in
    let n = length tuple.labels in
    let exact = exact_of kind fine recon tuple conds in
    record {
      ordered = kept_below-rises p n;
      there = λ k d h. ((exact (get_or (kept_below p n) k d)).0 (Contains-get_or (kept_below p n) k d h)).0;
      found = λ i key l known admitted met. (exact i).1 (l, λ k d h. record { value = key; is_one = known; admitted = admitted; met = AllPass-from_list_all (λ c. cond_holds c key) conds met k d h });
      unasked = λ e i l. (exact i).1 (l, rw e (All-nil (MeetsSome (meaning_of kind) is_point recon tuple i)));
      all_or_none = λ s. all_or_none_of kind recon tuple conds n (is_wanted whole conds) refl s;
    }

inner_size_ok : {Recon : Type 0} (kind : PointClass Recon) → IsPointClass kind → (tuple : InnerView) (b : Bool) → tuple.all_same ≡ b → is_tuple (meaning_of kind) tuple ≡ true → inner_size tuple ≤ 8156
inner_size_ok kind fine tuple b s t =
    let u = and_true (length tuple.prefix == kind.prefix_length) (plain_nodes kind.node_count tuple) t in
    let e = eqb-true (length tuple.prefix) kind.prefix_length u.0 in
    let n = count_at b s (nodes_of_tuple kind.node_count tuple u.1) in
    omega (arith, e, n, fine.short_prefix)
  where
    count_at : (b : Bool) → tuple.all_same ≡ b → length tuple.labels ≡ cond tuple.all_same 8 kind.node_count → length tuple.labels ≤ 8
    count_at true s h = let v : length tuple.labels ≡ 8 = rw s at h in omega arith
    count_at false s h = let v : length tuple.labels ≡ kind.node_count = rw s at h in omega (arith, fine.few_nodes)

pub codes_of : {Recon : Type 0} (kind : PointClass Recon) → IsPointClass kind → CodeLaw (meaning_of kind)
codes_of kind fine = record {
  start_gives = λ key h. rebuilt_from (bytes_of_point key) (point_length key) ∙ ap Some (point_of-bytes_of_point key h);
  start_length = λ rest key h. let a = eqb-true (length rest) 8 (rebuilt_some rest key h).0 in let b = eqb-true (length (bytes_of_point key)) 8 (point_length key) in a ∙ sym b;
  start_recon = refl;
  down_recon = λ recon tuple node h t l. refl;
  start_rest = λ key h. point_length key;
  rebuilt = λ recon rest key h. (rebuilt_some rest key h).1.1;
  inner_fits = λ tuple t. inner_size_ok kind fine tuple tuple.all_same refl t;
  not_longer = λ rest h. let e = eqb-true (length rest) 8 h in omega arith;
  leaf_fits = λ rest h. let e = eqb-true (length rest) 8 h in omega arith;
}

pub bare_of : {Recon : Type 0} (kind : PointClass Recon) → BareLaw (meaning_of kind)
bare_of kind x y p q e = sym (point_of-bytes_of_point x p) ∙ ap point_of e ∙ point_of-bytes_of_point y q
