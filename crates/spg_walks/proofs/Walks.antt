-- Each query has just one walk.
use Rattle.std.proofs.Common.{◌≡◌, ℕ, zero, suc, ◌+◌, ◌-◌, ◌*◌, ◌^◌, ◌<◌, ◌≤◌, Bool, true, false, ◌||◌, cond, nat_eq, List, [], ◌∷◌, ⊎_elim, Option, Some, None, get_or, length, append-nil, refl, sym, ap, ◌∙◌, subst, arith}
use Rattle.std.specs.Prelude.{Contains}
use Rattle.std.proofs.lemmas.Bool.{or_cases, eqb-true}
use Rattle.spg_opclass.specs.Meaning.{Meaning}
use Rattle.spg_opclass.specs.Laws.{KeptLaw, CodeLaw}
use Rattle.spg_opclass.specs.declared.query.Query.{Query}
use Rattle.spg_opclass.specs.declared.query.Query.TheVariants.{All, Null, Where}
use Rattle.spg_forest.specs.View.{Place, Leaf, View, Steps, Reach, AreApart}
use Rattle.spg_forest.specs.Spot.{Frame, Spot, Branch, Bucket, Forward, Nothing, IsStanding, IsTree, child_of, step_of}
use Rattle.spg_forest.specs.Tuples.{Tuple}
use Rattle.spg_forest.specs.Pages.{place}
use Rattle.spg_forest.specs.Classes.{class_of, down_of, HasRecon}
use Rattle.spg_forest.specs.Sheets.{Sheets, sheet_at, weight}
use Rattle.spg_forest.specs.Shape.{Shape, spots, tree_of}
use Rattle.spg_forest.specs.Walk.{Met, children_at, followed, roots_of, met_at}
use Rattle.spg_forest.specs.Ranks.{IsRanked, leaf_rank, most_sections}
use Rattle.spg_forest.proofs.Ranks.{each_is_ranked, ranked_branch, ranked_leaves}
use Rattle.spg_forest.proofs.Forest.{no_circle, linear, children_apart}
use Rattle.spg_forest.proofs.Joins.{stands_within}
use Rattle.spg_forest.proofs.Sections.{shape_tree}
use Rattle.spg_forest.proofs.Ways.{reach_join}
use Rattle.spg_scan.specs.Scanning.{IsAskedAt}
use Rattle.spg_scan.proofs.CoverNodes.{NoTwice, no_twice, below_twice, contains_here, contains_behind}
use Rattle.spg_scan.proofs.CoverRoots.{main_stands, nulls_stand}
use Rattle.spg_scan.proofs.CoverWays.{main_tuple, recon_holds}
use Rattle.spg_scan.proofs.Stands.{place_cases, high_offset, block_there}
use Rattle.spg_walks.proofs.Marks.{count, count_few, count_or, count_one}
use Rattle.spg_walks.proofs.Meeting.{number, same_number, most, Meets, met_once, meets_none, meets_more, meets_both, one_mark}
use Rattle.spg_walks.specs.Walks.{HasAWalk, EachHasAWalk}

-- a page has at most 2,040 tuples
four_each : (ts : List Tuple) → 4 * length ts ≤ weight ts
four_each [] = omega arith
four_each (t ∷ ts) = let a = four_each ts in omega arith

short : (n : ℕ) (x : Place) (V : Place → Spot) (ls : List Leaf) → IsRanked V n x → V x ≡ Bucket ls → leaf_rank (length ls) ≤ n
short zero x V ls r e = absurd r
short (suc n) x V ls r e = ranked_leaves V n x ls e r

-- a place where something stands has a number of its own, below that of the pages
module _ {Key Recon Cond : Type 0} (m : Meaning Key Recon Cond) (S : Sheets) (H : Shape m S) where
  pub offset_at : (x : Place) → (spots S x ≡ Nothing → ⊥) → x.offset < 2048
  offset_at x full = ⊎_elim (λ (a, b, z). omega arith) (λ g.
      let (b, o, there) = high_offset m S H x full g in
      let within = stands_within (sheet_at S x.block).tuples x.offset there in
      let fits = (H.pages.each x.block).fits in
      let each = four_each (sheet_at S x.block).tuples in
      omega (arith, within, fits, each)) (place_cases m S H x full)

  pub number_at : (x : Place) → (spots S x ≡ Nothing → ⊥) → number x < 2048 * length S.sheets
  number_at x full = let a = block_there m S H x full in let b = offset_at x full in omega (arith, a, b)

module _ {Key Recon Cond : Type 0} (m : Meaning Key Recon Cond) (S : Sheets) (H : Shape m S) (pages : length S.sheets ≤ 131072) where
  abbrev V : Place → Spot
  V = spots S

  abbrev W : View (Option Recon)
  W = tree_of m S

  abbrev size : ℕ
  size = 2048 * length S.sheets

  T : IsTree (class_of m) V S.clock
  T = shape_tree m S H

  there : (x : Place) → IsStanding (V x) → V x ≡ Nothing → ⊥
  there x h e = subst IsStanding e h

  offset_below : (x : Place) → IsStanding (V x) → x.offset < 2048
  offset_below x h = offset_at m S H x (there x h)

  number_below : (x : Place) → IsStanding (V x) → number x < size
  number_below x h = number_at m S H x (there x h)

  few_leaves : (x : Place) (ls : List Leaf) → V x ≡ Bucket ls → met_at x ls ≤ most
  few_leaves x [] e = at_none (nat_eq x.offset 0)
    where
      at_none : (b : Bool) → cond b 0 1 ≤ most
      at_none true = omega arith
      at_none false = omega arith
  few_leaves x (l ∷ ls) e = let a = short (most_sections S) x V (l ∷ ls) (each_is_ranked m S H x) e in omega (arith, a, pages)

  -- a root is not below another place
  no_reach : (o x : Place) → o.offset ≡ 0 → Reach W x o → x ≡ o
  no_reach o x z ([], e) = e
  no_reach o x z (k ∷ ks, (y, a, c)) = absurd ((T.targets y k o c).1 z)

  roots_apart : AreApart W (place 1 0) (place 2 0)
  roots_apart z (ks, a) (js, b) = ⊎_elim
      (λ h. let e : 1 ≡ 2 = ap (λ (p : Place). p.block) (no_reach (place 2 0) (place 1 0) refl h) in absurd (omega arith))
      (λ h. let e : 2 ≡ 1 = ap (λ (p : Place). p.block) (no_reach (place 1 0) (place 2 0) refl h) in absurd (omega arith))
      (linear (class_of m) V S.clock T ks js (place 1 0) (place 2 0) z a b)

  module _ {O : Type 0} (K : KeptLaw m) (L : CodeLaw m) (query : Query O Key Recon Cond) where
    abbrev D : Option Recon → Frame → ℕ → Option Recon
    D = down_of m

    abbrev F : Option Recon → Frame → List (Option Place) → List ℕ
    F = followed m query

    abbrev M : (Place → Type 0) → List (Place × Option Recon) → Type 0
    M from items = Meets D F V size from items

    at_leaves : (x : Place) (r : Option Recon) (ls : List Leaf) → V x ≡ Bucket ls → IsStanding (V x) → M (Reach W x) ((x, r) ∷ [])
    at_leaves x r ls e h =
        let one : count (nat_eq (number x)) size ≡ 1 = count_one (number x) size (number_below x h) in
        let a = few_leaves x ls e in
        record {
          met = met_at x ls + 0;
          walk = Met.leaves e Met.done;
          marks = nat_eq (number x);
          each = one_mark D F V size (Reach W x) x (offset_below x h) ([], refl);
          few = omega (arith, one, a);
        }

    -- what the nodes of an inner tuple lead to
    module _ (x : Place) (r : Option Recon) (w : Frame) (ns : List (Option Place)) (e : V x ≡ Branch w ns) where
      abbrev Below : List ℕ → Place → Type 0
      Below is z = (i : ℕ) × (y : Place) × Contains is i × (get_or ns i None ≡ Some y) × Reach W y z

      child : (i : ℕ) (y : Place) → get_or ns i None ≡ Some y → child_of (V x) i ≡ Some y
      child i y h = ap (λ (s : Spot). child_of s i) e ∙ h

      behind : (i : ℕ) (is : List ℕ) (z : Place) → Below is z → Below (i ∷ is) z
      behind i is z (k, y, a, b, c) = (k, y, contains_behind i k is a, b, c)

      abbrev with_child : ℕ → Option Place → List (Place × Option Recon) → List (Place × Option Recon)
      with_child i o items = elim o [ None ↦ items | Some y ↦ (y, D r w i) ∷ items ]

      with_node : (i : ℕ) (is : List ℕ) (o : Option Place) → get_or ns i None ≡ o → (Contains is i → ⊥) → ((y : Place) → get_or ns i None ≡ Some y → M (Reach W y) ((y, D r w i) ∷ [])) →
          M (Below is) (children_at D r w ns is) → M (Below (i ∷ is)) (with_child i o (children_at D r w ns is))
      with_node i is None h new one rest = meets_more D F V size (Below is) (Below (i ∷ is)) (children_at D r w ns is) (behind i is) rest
      with_node i is (Some y) h new one rest =
          meets_both D F V size (Reach W y) (Below is) (Below (i ∷ is)) ((y, D r w i) ∷ []) (children_at D r w ns is)
          (λ z a (k, u, c, f, b). children_apart (class_of m) V S.clock T x y u i k (child i y h) (child k u f) (λ q. new (subst (λ (j : ℕ). Contains is j) (sym q) c)) z a b)
          (λ z a. (i, y, contains_here i is, h, a)) (behind i is) (one y h) rest

      at_nodes : (is : List ℕ) → NoTwice is → ((i : ℕ) (y : Place) → get_or ns i None ≡ Some y → M (Reach W y) ((y, D r w i) ∷ [])) → M (Below is) (children_at D r w ns is)
      at_nodes [] once each = meets_none D F V size (Below [])
      at_nodes (i ∷ is) once each = with_node i is (get_or ns i None) refl once.0 (each i) (at_nodes is once.1 each)

      -- and the tuple itself
      at_branch : NoTwice (F r w ns) → IsStanding (V x) → ((i : ℕ) (y : Place) → get_or ns i None ≡ Some y → M (Reach W y) ((y, D r w i) ∷ [])) → M (Reach W x) ((x, r) ∷ [])
      at_branch once h each =
          let is = F r w ns in
          let b : M (Below is) (children_at D r w ns is) = at_nodes is once each in
          let apart : (j : ℕ) → nat_eq (number x) j ≡ true → b.marks j ≡ true → ⊥ =
          λ j f g.
          let (z, o, n, (i, y, c, d, (ks, a))) = b.each j g in
          let q : z ≡ x = same_number z x o (offset_below x h) (n ∙ sym (eqb-true (number x) j f)) in
          no_circle (class_of m) V S.clock T x y i ks (child i y d) (subst (λ (u : Place). Steps W y ks u) q a) in
          let sum = count_or (nat_eq (number x)) b.marks apart size in
          let one : count (nat_eq (number x)) size ≡ 1 = count_one (number x) size (number_below x h) in
          let some : suc b.met ≤ most * count (λ j. nat_eq (number x) j || b.marks j) size = let f = b.few in omega (arith, sum, one, f) in
          record {
            met = suc b.met;
            walk = Met.inner e (subst (λ (items : List (Place × Option Recon)). Met D F V items b.met) (sym (append-nil (children_at D r w ns is))) b.walk);
            marks = λ j. nat_eq (number x) j || b.marks j;
            each = λ j f. ⊎_elim
                (λ g. one_mark D F V size (Reach W x) x (offset_below x h) ([], refl) j g)
                (λ g. let (z, o, n, (i, y, c, d, a)) = b.each j g in (z, o, n, reach_join W x y z (i ∷ [], (x, refl, child i y d)) a))
                (or_cases (nat_eq (number x) j) (b.marks j) f);
            few = some;
          }

    -- below a node stands the child, with what is rebuilt there
    child_recon : (x y : Place) (r : Option Recon) (w : Frame) (ns : List (Option Place)) (i : ℕ) → V x ≡ Branch w ns → get_or ns i None ≡ Some y → HasRecon m V x r → HasRecon m V y (D r w i)
    child_recon x y r w ns i e h (o, ks, root, way) = (o, i ∷ ks, root, (x, r, way, ap (λ (s : Spot). child_of s i) e ∙ h, ap (λ (s : Spot). step_of D s i r) e))

    -- no node is followed twice
    followed_once : (x : Place) (r : Option Recon) (w : Frame) (ns : List (Option Place)) (q : Query O Key Recon Cond) → IsAskedAt m (Branch w ns) q r → V x ≡ Branch w ns → HasRecon m V x r → NoTwice (followed m q r w ns)
    followed_once x r w ns All h e a = below_twice (length ns)
    followed_once x r w ns Null h e a = below_twice (length ns)
    followed_once x None w ns (Where conds) h e a = below_twice (length ns)
    followed_once x (Some p) w ns (Where conds) h e a = no_twice (m.kept p w conds) ((K p w conds (recon_holds m S H L x p a) (main_tuple m S H x p w ns a e) h).ordered)

    module _ (asked : (w : Frame) (ns : List (Option Place)) (r : Option Recon) → IsAskedAt m (Branch w ns) query r) where
      at_spot : (n : ℕ) (x : Place) (r : Option Recon) (s : Spot) → V x ≡ s → IsStanding s → IsRanked V (suc n) x → HasRecon m V x r →
          ((y : Place) (q : Option Recon) → IsRanked V n y → IsStanding (V y) → HasRecon m V y q → M (Reach W y) ((y, q) ∷ [])) → M (Reach W x) ((x, r) ∷ [])
      at_spot n x r (Branch w ns) e h rank recon below = at_branch x r w ns e (followed_once x r w ns query (asked w ns r) e recon) (subst IsStanding (sym e) tt)
          (λ i y g. below y (D r w i) ((ranked_branch V n x w ns e rank).1 i y g) (T.targets x i y (ap (λ (s : Spot). child_of s i) e ∙ g)).0 (child_recon x y r w ns i e g recon))
      at_spot n x r (Bucket ls) e h rank recon below = at_leaves x r ls e (subst IsStanding (sym e) tt)
      at_spot n x r (Forward y u) e h rank recon below = absurd h
      at_spot n x r Nothing e h rank recon below = absurd h

      at_place : (n : ℕ) (x : Place) (r : Option Recon) → IsRanked V n x → IsStanding (V x) → HasRecon m V x r → M (Reach W x) ((x, r) ∷ [])
      at_place zero x r rank h recon = absurd rank
      at_place (suc n) x r rank h recon = at_spot n x r (V x) refl h rank recon (at_place n)

      main_meets : M (Reach W (place 1 0)) ((place 1 0, Some m.start) ∷ [])
      main_meets = at_place (most_sections S) (place 1 0) (Some m.start) (each_is_ranked m S H (place 1 0)) (main_stands m S H) (place 1 0, [], (refl, main_stands m S H), (refl, refl))

      nulls_meets : M (Reach W (place 2 0)) ((place 2 0, None) ∷ [])
      nulls_meets = at_place (most_sections S) (place 2 0) None (each_is_ranked m S H (place 2 0)) (nulls_stand m S H) (place 2 0, [], (refl, nulls_stand m S H), (refl, refl))

    abbrev Anywhere : Place → Type 0
    Anywhere z = Unit {0}

    -- what is met is told in 64 bits
    told : M Anywhere (roots_of m query) → HasAWalk m S query
    told a =
        let few = count_few a.marks size in
        let some = a.few in
        record { met = a.met; walk = a.walk; only = λ k w. met_once D F V (roots_of m query) k w a.met a.walk; few = omega (arith, few, some, pages) }

pub each_has_a_walk : {O Key Recon Cond : Type 0} (m : Meaning Key Recon Cond) → KeptLaw m → CodeLaw m → EachHasAWalk O Key Recon Cond m
each_has_a_walk {O} {Key} {Recon} {Cond} m K L S All H pages asked =
    told m S H pages K L All (meets_both (down_of m) (followed {O = O} m All) (spots S) (size m S H pages) (Reach (tree_of m S) (place 1 0)) (Reach (tree_of m S) (place 2 0)) (λ z. Unit {0})
    ((place 1 0, Some m.start) ∷ []) ((place 2 0, None) ∷ []) (roots_apart m S H pages) (λ z a. tt) (λ z a. tt) (main_meets m S H pages {O = O} K L All (λ w ns r. tt)) (nulls_meets m S H pages {O = O} K L All (λ w ns r. tt)))
each_has_a_walk {O} m K L S Null H pages asked = told m S H pages K L Null (meets_more _ _ _ _ _ _ _ (λ z a. tt) (nulls_meets m S H pages {O = O} K L Null (λ w ns r. tt)))
each_has_a_walk {O} {Key} {Recon} {Cond} m K L S (Where conds) H pages asked = told m S H pages K L (Where conds) (meets_more _ _ _ _ _ _ _ (λ z a. tt) (from (spots S (place 1 0)) refl asked))
  where
    from : (s : Spot) → spots S (place 1 0) ≡ s → IsAskedAt {O = O} m s (Where conds) (Some m.start) → Meets (down_of m) (followed {O = O} m (Where conds)) (spots S) (size m S H pages) (Reach (tree_of m S) (place 1 0)) ((place 1 0, Some m.start) ∷ [])
    from (Branch w ns) e a = let q : Query O Key Recon Cond = Where conds in main_meets m S H pages K L q (λ v us r. each r)
      where
        each : (r : Option Recon) → IsAskedAt {O = O} m (Branch w ns) (Where conds) r
        each None = tt
        each (Some q) = a
    from (Bucket ls) e a = let q : Query O Key Recon Cond = Where conds in at_leaves m S H pages K L q (place 1 0) (Some m.start) ls e (subst IsStanding (sym e) tt)
    from (Forward y u) e a = absurd (subst IsStanding e (main_stands m S H))
    from Nothing e a = absurd (subst IsStanding e (main_stands m S H))

-- all below the main root: one number of tuples alone, less than 2^64 - 1
pub main_has_a_walk : (O : Type 0) {Key Recon Cond : Type 0} (m : Meaning Key Recon Cond) → KeptLaw m → CodeLaw m → (S : Sheets) → Shape m S → length S.sheets ≤ 131072 → (k : ℕ) × Met (down_of m) (followed {O = O} m All) (spots S) ((place 1 0, Some m.start) ∷ []) k × (k < 2 ^ 64 - 1)
main_has_a_walk O {Key} {Recon} {Cond} m K L S H pages =
    let all : Query O Key Recon Cond = All in
    let a = main_meets m S H pages K L all (λ w ns r. tt) in
    let few = count_few a.marks (size m S H pages) in
    let some = a.few in
    (a.met, a.walk, omega (arith, few, some, pages))
