-- The laws of the class, each of its meaning.
use Rattle.std.proofs.Common.{◌≡◌, ℕ, cond, ◌-◌, ◌^◌, ◌<◌, ◌≤◌, Bool, true, false, List, [], length, get_or, Some, refl, sym, ◌∙◌, ap, subst, inr, arith, lit<}
use Rattle.std.specs.Prelude.{◌==◌, ◌||◌, nat_le, IsSome}
use Rattle.std.specs.List.{list_all}
use Rattle.std.specs.Int.{w64, to_le_bytes}
use Rattle.std.proofs.lemmas.Option.{same_Some}
use Rattle.std.proofs.lemmas.Bool.{and_parts, eqb-true, eq-eqb, ltb-true, lt-ltb, leb-true, le-leb}
use Rattle.std.proofs.Math.Bool.{or-true}
use Rattle.std.proofs.lemmas.List.{length-map}
use Rattle.std.proofs.lemmas.List.Elements.{All-map, All-weaker, Contains-get_or}
use Rattle.std.proofs.lemmas.List.Sums.{AllPass-from_list_all, list_all-from_AllPass}
use Rattle.spg_opclass.specs.declared.view.InnerView.{InnerView}
use Rattle.spg_opclass.specs.declared.view.Choice.TheVariants.{Match}
use Rattle.spg_opclass.specs.Meaning.{is_tuple}
use Rattle.spg_opclass.specs.Laws.{MatchLaw, IsMatch, AddLaw, SplitLaw, PickLaw, ApartLaw, KeptLaw, PlainLaw, CodeLaw, inner_size}
use Rattle.spg_opclass.specs.Indices.{kept_below}
use Rattle.spg_opclass.proofs.IndicesLemmas.{kept_below-there, kept_below-found, kept_below-rises, kept_below-all}
use Rattle.spg_example_trie.specs.declared.number.Number.{Number}
use Rattle.spg_example_trie.specs.declared.number.NumberCond.{NumberCond}
use Rattle.spg_example_trie.specs.Numbers.{bytes_of, number_of, rebuilt, low_end, high_end, cond_holds}
use Rattle.spg_example_trie.specs.Trie.{side, fork_of, parted, has_nodes, node_for, admitted, meets, is_wanted, numbers_meaning}
use Rattle.spg_example_trie.specs.Rests.{number, number_below, number_back, gives, given, whole_rest, at_rest, at_part, all_mapped}
use Rattle.spg_example_trie.specs.Forks.{by_side, side_below, fork_back, one_number}

-- ---- matches

nodes_of : (tuple : InnerView) → has_nodes tuple ≡ true → length tuple.labels ≡ cond tuple.all_same 8 2
nodes_of tuple h = eqb-true (length tuple.labels) (cond tuple.all_same 8 2) h

same_admits : (tuple : InnerView) (node : ℕ) (key : Number) → tuple.all_same ≡ true → admitted tuple node key ≡ true
unfolding admitted
same_admits tuple node key s = rw s refl

-- the node that is answered is there, and admits the key
answered : (tuple : InnerView) (rest : List ℕ) (key : Number) → has_nodes tuple ≡ true → number_of rest ≡ key.value → (node_for tuple rest < length tuple.labels) × (admitted tuple (node_for tuple rest) key ≡ true)
unfolding node_for admitted
answered tuple rest key h e = by_same tuple.all_same refl
  where
    f : ℕ
    f = number_of tuple.prefix

    by_same : (b : Bool) → tuple.all_same ≡ b → (cond b 0 (side f (number_of rest)) < length tuple.labels) × ((b || side f key.value == cond b 0 (side f (number_of rest))) ≡ true)
    by_same true s = (rw (nodes_of tuple h, s) (lit< tt), refl)
    by_same false s = (rw (nodes_of tuple h, s) (side_below f (number_of rest)), rw e (eq-eqb (side f key.value) (side f key.value) refl))

pub numbers_matches : MatchLaw numbers_meaning
numbers_matches recon tuple whole key t k node rest a =
    let n : node_for tuple whole ≡ node = cc in
    let r : whole ≡ rest = cc in
    let g = gives whole key k in
    let w = answered tuple whole key (and_parts (length tuple.prefix == 8) (has_nodes tuple) t).1 g.1 in
    let here : IsMatch numbers_meaning recon tuple whole (node_for tuple whole) whole key = record {
      there = w.0;
      taken = record { admitted = w.1; given_back = k };
      everywhere = λ same i l. record { admitted = same_admits tuple i key same; given_back = k };
      not_longer = omega arith;
      well_formed = rw g.0 refl;
    } in
    subst (λ (z : ℕ). IsMatch numbers_meaning recon tuple whole z rest key) n (subst (λ (z : List ℕ). IsMatch numbers_meaning recon tuple whole (node_for tuple whole) z key) r here)

-- the answer is always a match, so nothing is added and nothing split
pub numbers_adds : AddLaw numbers_meaning
numbers_adds recon tuple whole key t k at label a = absurd (cc)

pub numbers_splits : SplitLaw numbers_meaning
numbers_splits recon tuple whole key t k up labels child low a = absurd (cc)

pub numbers_plain : PlainLaw numbers_meaning
numbers_plain unlabelled recon tuple whole key t k = (node_for tuple whole, whole, refl)

-- ---- divisions

pub numbers_picks : PickLaw numbers_meaning
unfolding parted admitted node_for
numbers_picks recon rests n h =
    let f = fork_of rests in
    let node_of = λ (r : List ℕ). side f (number_of r) in
    record {
      some_node = lit< tt;
      node_each = length-map rests node_of;
      rest_each = refl;
      well_formed = refl;
      node_there = All-map (λ k. k < 2) node_of rests (λ k d l. side_below f (number_of (get_or rests k d)));
      taken = λ i whole node rest key part k.
          let same : whole ≡ rest = same_Some whole rest (sym part.whole_at ∙ part.rest_at) in
          let at : side f (number_of whole) ≡ node = at_part node_of rests i whole node part.whole_at part.node_at in
          record {
            admitted = rw (fork_back rests, sym (gives whole key k).1, at) (eq-eqb node node refl);
            given_back = subst (λ (r : List ℕ). rebuilt r ≡ Some key) same k;
          };
      not_longer = λ i whole node rest part.
          let same : whole ≡ rest = same_Some whole rest (sym part.whole_at ∙ part.rest_at) in (
            subst (λ (r : List ℕ). length r ≤ length whole) same (omega arith),
            subst (λ (r : List ℕ). (length r == 8) ≡ true) same (whole_rest whole (at_rest (λ r. IsSome (rebuilt r)) rests i whole h part.whole_at)),
          );
      one_well_formed = λ node label two all at. refl;
      one_taken = λ node label two all at j i whole rest key l part k.
          let same : whole ≡ rest = same_Some whole rest (sym part.whole_at ∙ part.rest_at) in
          record { admitted = refl; given_back = subst (λ (r : List ℕ). rebuilt r ≡ Some key) same k };
      alone = λ others last whole rest part all apart.
          let same : whole ≡ rest = same_Some whole rest (sym part.whole_at ∙ part.rest_at) in
          let at : side f (number_of whole) ≡ last = at_part node_of rests (length rests - 1) whole last part.whole_at part.node_at in
          ap (λ (k : ℕ). Match (side k (number_of whole)) whole) (fork_back rests) ∙ ap (λ (k : ℕ). Match k whole) at ∙ ap (λ (r : List ℕ). Match last r) same;
    }

pub numbers_apart : ApartLaw numbers_meaning
unfolding parted
numbers_apart recon rests n h node all i j a b x y p q u v =
    let same = one_number rests node (all_mapped (λ r. side (fork_of rests) (number_of r)) node rests all) i j a b p q in
    ap (to_le_bytes w64) (sym (gives a x u).1 ∙ same ∙ (gives b y v).1)

-- ---- the nodes that are kept

-- a node that admits a number of which the condition holds is not passed by
meets_holds : (f n node : ℕ) (c : NumberCond) → side f n ≡ node → cond_holds c n ≡ true → meets f node c ≡ true
unfolding meets
meets_holds f n node c e h =
    let u = and_parts (nat_le (low_end c) n) (nat_le n (high_end c)) h in
    let low = leb-true (low_end c) n u.0 in
    let high = leb-true n (high_end c) u.1 in
    subst (λ (z : ℕ). meets f z c ≡ true) e (by_side f n (λ k. meets f k c ≡ true)
    (λ l. lt-ltb (low_end c) f (omega (arith, l, low)))
    (λ l. le-leb f (high_end c) (omega (arith, l, high))))

wanted_found : (tuple : InnerView) (conds : List NumberCond) (i : ℕ) (key : Number) → admitted tuple i key ≡ true → list_all (λ c. cond_holds c key.value) conds ≡ true → is_wanted tuple conds i ≡ true
unfolding admitted is_wanted
wanted_found tuple conds i key a h = by_same tuple.all_same a
  where
    f : ℕ
    f = number_of tuple.prefix

    by_same : (b : Bool) → (b || side f key.value == i) ≡ true → (b || list_all (meets f i) conds) ≡ true
    by_same true a = refl
    by_same false a =
        let e = eqb-true (side f key.value) i a in
        list_all-from_AllPass (meets f i) conds (All-weaker (λ c. cond_holds c key.value ≡ true) (λ c. meets f i c ≡ true) (λ c. meets_holds f key.value i c e) conds (AllPass-from_list_all (λ c. cond_holds c key.value) conds h))

wanted_unasked : (tuple : InnerView) (conds : List NumberCond) (i : ℕ) → conds ≡ [] → is_wanted tuple conds i ≡ true
unfolding is_wanted
wanted_unasked tuple conds i e = rw e (or-true tuple.all_same)

wanted_same : (tuple : InnerView) (conds : List NumberCond) (i : ℕ) → tuple.all_same ≡ true → is_wanted tuple conds i ≡ true
unfolding is_wanted
wanted_same tuple conds i s = rw s refl

pub numbers_keeps : KeptLaw numbers_meaning
numbers_keeps recon tuple conds r t c =
    let p = is_wanted tuple conds in
    let n = length tuple.labels in
    record {
      ordered = kept_below-rises p n;
      there = λ k d h. (kept_below-there p n (get_or (kept_below p n) k d) (Contains-get_or (kept_below p n) k d h)).0;
      found = λ i key l known admitted met. kept_below-found p n i l (wanted_found tuple conds i key admitted met);
      unasked = λ e i l. kept_below-found p n i l (wanted_unasked tuple conds i e);
      all_or_none = λ s. inr (kept_below-all p n (λ i. wanted_same tuple conds i s));
    }

-- ---- keys, rests and sizes

inner_small : (tuple : InnerView) → is_tuple numbers_meaning tuple ≡ true → inner_size tuple ≤ 8156
inner_small tuple t =
    let u = and_parts (length tuple.prefix == 8) (has_nodes tuple) t in
    omega (arith, eqb-true (length tuple.prefix) 8 u.0, few tuple.all_same (nodes_of tuple u.1))
  where
    few : (b : Bool) → length tuple.labels ≡ cond b 8 2 → length tuple.labels ≤ 8
    few true e = omega (arith, e)
    few false e = omega (arith, e)

pub numbers_codes : CodeLaw numbers_meaning
numbers_codes = record {
  start_gives = λ key h. given (bytes_of key) refl ∙ ap (λ (n : ℕ). Some (number n)) (number_back key.value (ltb-true key.value (2 ^ 64) h));
  start_length = λ rest key h. (gives rest key h).0;
  start_recon = refl;
  down_recon = λ recon tuple node h t l. refl;
  start_rest = λ key h. refl;
  rebuilt = λ recon rest key h. lt-ltb key.value (2 ^ 64) (subst (λ (n : ℕ). n < 2 ^ 64) (gives rest key h).1 (number_below rest));
  inner_fits = inner_small;
  not_longer = λ rest h. let e = eqb-true (length rest) 8 h in omega (arith, e);
  leaf_fits = λ rest h. let e = eqb-true (length rest) 8 h in omega (arith, e);
}
