-- A scan goes on by a copied inner tuple.
use Rattle.std.proofs.Common.{◌≡◌, ◌<◌, ⊎_elim, inl, inr, ℕ, true, List, [], length, Option, Some, None, get_or, Contains, refl, sym, ap, ◌∙◌, subst, arith}
use Rattle.std.proofs.lemmas.Bool.{false≢true}
use Rattle.spg_base.specs.Row.{RowAt}
use Rattle.spg_opclass.specs.Meaning.{Meaning}
use Rattle.std.specs.List.{All as Each}
use Rattle.spg_opclass.specs.Queries.{query_matches}
use Rattle.spg_opclass.specs.declared.query.Query.{Query}
use Rattle.spg_opclass.specs.declared.query.Query.TheVariants.{All, Null, Where}
use Rattle.spg_forest.specs.View.{Place, View, Under, ReconAt, Target}
use Rattle.spg_forest.specs.Spot.{Frame, Branch}
use Rattle.spg_forest.specs.Classes.{down_of, start_of, admits_of}
use Rattle.spg_forest.specs.Sheets.{Sheets}
use Rattle.spg_forest.specs.Shape.{Shape, tree_of}
use Rattle.spg_forest.specs.Walk.{children_at, followed}
use Rattle.spg_forest.proofs.Relocate.{within_from_some}
use Rattle.spg_rows.specs.History.{History}
use Rattle.spg_rows.specs.Scans.{IsNeeded}
use Rattle.spg_rows.specs.Table as rows
use Rattle.spg_rows.proofs.Histories.{sane_from_legal}
use Rattle.spg_rows.proofs.Scans.{needed_live}
use Rattle.spg_scan.specs.Scanning.{Scanning, replaced, IsAskedAt, CanFollow}
use Rattle.spg_scan.proofs.CoverKeys.{key_is}
use Rattle.spg_scan.proofs.CoverNodes.{no_twice, below_twice, below_all, child_from, child_to, children_differ, NoTwice}
use Rattle.spg_scan.specs.Items.{IsItem, inner, hold_all, Spots, copied_rows}
use Rattle.spg_scan.specs.Cover.{given_of, IsScanOf}
use Rattle.spg_scan.proofs.Lists.{pair_is, held_spot, spot_held, copied_held, held_no_leaves, held_no_inner, no_row, no_rows}
use Rattle.spg_scan.proofs.Swapping.{Gives}
use Rattle.spg_scan.proofs.Going.{step, given_cases, given_stays}
use Rattle.spg_scan.proofs.Grounds.{Grounds, live_entry}

module _ {O Key Recon Cond : Type 0} (m : Meaning Key Recon Cond) (S : Sheets) (before past : History O Key Recon Cond) (table : rows.Table O Key Recon Cond) (s : Scanning O Key Recon Cond) (A : Grounds m S before past table s) where
  abbrev needed : RowAt → Type 0
  needed = IsNeeded m before past s.query

  abbrev H : Shape m S
  H = A.holds.shape

  abbrev W : View (Option Recon)
  W = tree_of m S

  module _ (i : ℕ) (q : Option Recon) (w : Frame) (ns : List (Option Place)) (at : IsItem s.items i (inner q w ns)) (met : ℕ) (asks : IsAskedAt m (Branch w ns) s.query q) (known : CanFollow m q w ns) where
    abbrev nodes : List ℕ
    nodes = followed m s.query q w ns

    abbrev olds : List (Place × Option Recon)
    olds = children_at (down_of m) q w ns nodes

    abbrev next : Scanning O Key Recon Cond
    next = replaced s i (hold_all olds) [] met

    abbrev DOWN : Option Recon → Frame → ℕ → Option Recon
    DOWN = down_of m

    spot : (j : ℕ) (y : Place) → get_or ns j None ≡ Some y → Spots m s.items (i, j) y (DOWN q w j)
    spot j y link = (inner q w ns, at, (link, refl))

    -- no node is followed twice
    nodes_once : NoTwice nodes
    nodes_once = go s.query q asks known
      where
        go : (query : Query O Key Recon Cond) (p : Option Recon) → IsAskedAt m (Branch w ns) query p → CanFollow m p w ns → NoTwice (followed m query p w ns)
        go All p a k = below_twice (length ns)
        go Null p a k = below_twice (length ns)
        go (Where conds) None a k = below_twice (length ns)
        go (Where conds) (Some recon) a k = no_twice (m.kept recon w conds) (A.kept recon w conds k.known.0 k.known.1 a).ordered

    -- a node below which a needed row stands is followed
    is_followed : (j : ℕ) (y t : Place) (row : RowAt) → get_or ns j None ≡ Some y → Target W t y s.stamp → Under W t row → needed row → Contains nodes j
    is_followed j y t row link target under n = go s.query q asks known n.2 (A.is.admitted i q w j y row n.0 (ns, at, link) (t, target, under) n.1)
      where
        within : j < length ns
        within = within_from_some ns j y link

        value : (k : Key) → n.0.key ≡ Some k → m.is_key k ≡ true
        value k e =
            let (live, keyed) = needed_live m past (sane_from_legal past A.legal) before s.query row n in
            let (z2, p2, l2, recon2, a2, b2, is2) = live_entry m S before past table s A row n.0.key live keyed in
            key_is m S H A.codes p2 l2.rest k (is2 ∙ ap (λ v. Some v) e)

        go : (query : Query O Key Recon Cond) (p : Option Recon) → IsAskedAt m (Branch w ns) query p → CanFollow m p w ns → query_matches m query n.0.key ≡ true → admits_of m p w j (Some n.0.key) ≡ true → Contains (followed m query p w ns) j
        go All p a k match admits = below_all (length ns) j within
        go Null p a k match admits = below_all (length ns) j within
        go (Where conds) None a k match admits = below_all (length ns) j within
        go (Where conds) (Some recon) a k match admits = held_key n.0.key refl match admits
          where
            held_key : (key : Option Key) → n.0.key ≡ key → query_matches {O = O} m (Where conds) key ≡ true → admits_of m (Some recon) w j (Some key) ≡ true → Contains (m.kept recon w conds) j
            held_key None e match admits = absurd (false≢true match)
            held_key (Some key) e match admits =
                let count : length ns ≡ length w.labels = k.nodes.each in
                let low : j < length ns = within in
                (A.kept recon w conds k.known.0 k.known.1 a).found j key (omega arith) (value key e) admits match

    sift_gives : Gives m S s.stamp (inner q w ns) (hold_all olds) (Contains (given_of s)) (Contains (given_of next)) needed
    sift_gives = record {
      shelters = λ k y p h.
          let (k1, e) = held_spot m olds k.0 k.1 y p h in
          let (a, among, link, down) = child_from DOWN q w ns nodes k.0 y p e in
          let (t, target, recon) = A.is.spots.sheltered (i, a) y (DOWN q w a) (spot a y link) in
          (t, target, subst (λ (z : Option Recon). ReconAt W (start_of m) t z) (sym down) recon, (a, y, t, DOWN q w a, (link, refl), target, ([], refl)));
      apart = λ k l y z u v p o h g n c d.
          let (k1, e) = held_spot m olds k.0 k.1 y p h in
          let (l1, f) = held_spot m olds l.0 l.1 z o g in
          let (a, b, differ, link, link2) = children_differ DOWN q w ns nodes nodes_once k.0 l.0 y z p o e f (λ x. n (pair_is k l x (k1 ∙ sym l1))) in
          A.is.spots.apart (i, a) (i, b) y z u v (DOWN q w a) (DOWN q w b) (spot a y link) (spot b z link2) (λ x. differ (ap (λ (c : ℕ × ℕ). c.1) x)) c d;
      keeps = λ row n h. ⊎_elim (λ a. a) (λ a. absurd a) (given_stays m S before past s i (inner q w ns) (hold_all olds) [] met at row h);
      reads = λ row h. inl (⊎_elim (λ a. a) (λ a. ⊎_elim (λ b. absurd b) (λ b. absurd (no_row (copied_rows (hold_all olds)) row (copied_held olds) b)) a) (given_cases m S before past s i (inner q w ns) (hold_all olds) [] met at row h));
      covers = λ row n j x t r (link, down) target under.
          let (k, e) = child_to DOWN q w ns nodes j x (is_followed j x t row link target under n) link in
          inr ((k, 0), x, DOWN q w j, spot_held m olds k x (DOWN q w j) e, (t, target, under));
    }

    pub sift_inner : IsScanOf m S before past next
    sift_inner = step m S before past s i (inner q w ns) (hold_all olds) [] met at H A.is sift_gives tt (no_rows (copied_rows (hold_all olds)) (copied_held olds)) (λ row a b. a)
        (λ row h. absurd (⊎_elim (λ a. a) (λ a. no_row (copied_rows (hold_all olds)) row (copied_held olds) a) h)) (λ row h. absurd h)
        (λ k p ls l e a. absurd (held_no_leaves olds k p ls e)) (λ k p v ms j y row life e a b c. absurd (held_no_inner olds k p v ms e))
