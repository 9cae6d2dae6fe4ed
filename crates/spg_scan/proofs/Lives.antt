-- The live leaves that a scan copies, one leaf after another.
use Rattle.std.proofs.Common.{◌≡◌, ℕ, Bool, true, false, cond, List, [], ◌∷◌, ◌++◌, length, get_or, IsSome, Option, Some, None, option_map, refl, sym, ap, ap₂, ◌∙◌, subst, suc, arith}
use Rattle.std.proofs.lemmas.List.{map-append, length-map}
use Rattle.std.proofs.lemmas.List.Elements.{All-nil, All-cons}
use Rattle.spg_base.specs.Row.{RowAt}
use Rattle.spg_opclass.specs.Meaning.{Meaning}
use Rattle.spg_opclass.specs.Copies.{AreKeys}
use Rattle.spg_forest.specs.View.{Place, Leaf}
use Rattle.spg_rows.specs.Table as rows
use Rattle.spg_scan.specs.Items.{hold_all, leaves, rows_of}
use Rattle.spg_scan.specs.Held.{leaves_with}
use Rattle.spg_scan.specs.Scanning.{is_live}
use Rattle.spg_scan.specs.Reading.{live_leaves}
use Rattle.spg_scan.specs.Copying.{rests_of}
use Rattle.spg_scan.specs.Parts.{HaveKeys, linked}
use Rattle.spg_scan.proofs.Gathers.{hold_append}
use Rattle.spg_scan.proofs.Siftings.{leaves_back}

one_leaf-append : (b : Bool) (l : Leaf) (x y z : List Leaf) → z ≡ x ++ y → cond b (l ∷ z) z ≡ cond b (l ∷ x) x ++ y
one_leaf-append true l x y z e = ap (λ (k : List Leaf). l ∷ k) e
one_leaf-append false l x y z e = e

module _ {O Key Recon Cond : Type 0} (table : rows.Table O Key Recon Cond) where
  live-append : (ls ks : List Leaf) → live_leaves table (ls ++ ks) ≡ live_leaves table ls ++ live_leaves table ks
  live-append [] ks = refl
  live-append (l ∷ ls) ks = one_leaf-append (is_live (rows.state_in table l.row)) l (live_leaves table ls) (live_leaves table ks) (live_leaves table (ls ++ ks)) (live-append ls ks)

  pub rows-more : (ls ks : List Leaf) → rows_of (live_leaves table ls) ++ rows_of (live_leaves table ks) ≡ rows_of (live_leaves table (ls ++ ks))
  rows-more ls ks = sym (ap rows_of (live-append ls ks) ∙ map-append (λ (l : Leaf). l.row) (live_leaves table ls) (live_leaves table ks))

  pub rests-more : (ls ks : List Leaf) → rests_of (live_leaves table ls) ++ rests_of (live_leaves table ks) ≡ rests_of (live_leaves table (ls ++ ks))
  rests-more ls ks = sym (ap rests_of (live-append ls ks) ∙ map-append (λ (l : Leaf). l.rest) (live_leaves table ls) (live_leaves table ks))

  module _ (m : Meaning Key Recon Cond) (recon : Recon) where
    abbrev IsKeyed : List ℕ → Type 0
    IsKeyed r = IsSome (m.rebuild recon r)

    live_keys : (ls : List Leaf) → HaveKeys m (Some recon) ls → AreKeys m recon (rests_of (live_leaves table ls))
    live_keys [] h = All-nil IsKeyed
    live_keys (l ∷ ls) h = go (is_live (rows.state_in table l.row)) (live_keys ls (λ k d b. h (suc k) d (omega arith)))
      where
        keyed : (o : Option Key) → IsSome (option_map (λ x. Some x) o) → IsSome o
        keyed None a = a
        keyed (Some key) a = refl

        go : (b : Bool) → AreKeys m recon (rests_of (live_leaves table ls)) → AreKeys m recon (rests_of (cond b (l ∷ live_leaves table ls) (live_leaves table ls)))
        go true rest = All-cons IsKeyed l.rest (rests_of (live_leaves table ls)) (keyed (m.rebuild recon l.rest) (h 0 l (omega arith))) rest
        go false rest = rest

    -- what was gathered may be kept
    pub gathered_keys : (ls : List Leaf) (ts : List (List ℕ)) → ts ≡ rests_of (live_leaves table ls) → HaveKeys m (Some recon) ls → AreKeys m recon ts
    gathered_keys ls ts e h = subst (λ (z : List (List ℕ)). AreKeys m recon z) (sym e) (live_keys ls h)

  pub gathered_each : (ls : List Leaf) (rs : List RowAt) (ts : List (List ℕ)) → rs ≡ rows_of (live_leaves table ls) → ts ≡ rests_of (live_leaves table ls) → length ts ≡ length rs
  gathered_each ls rs ts e f = ap length f ∙ length-map (live_leaves table ls) (λ (l : Leaf). l.rest) ∙ sym (ap length e ∙ length-map (live_leaves table ls) (λ (l : Leaf). l.row))

  pub gathered_are : (recon : Recon) (ls : List Leaf) (rs : List RowAt) (ts : List (List ℕ)) → rs ≡ rows_of (live_leaves table ls) → ts ≡ rests_of (live_leaves table ls) → leaves (Some recon) (leaves_with rs ts) ≡ leaves (Some recon) (live_leaves table ls)
  gathered_are recon ls rs ts e f = ap (leaves (Some recon)) (ap₂ leaves_with e f ∙ leaves_back (live_leaves table ls))

-- ---- nodes of a sifted copy, one after another

abbrev one_link : {Recon : Type 0} → Option Place → Recon → List (Place × Option Recon) → List (Place × Option Recon)
one_link o q rest = elim o [ None ↦ rest | Some y ↦ (y, Some q) ∷ rest ]

one_link-append : {Recon : Type 0} (o : Option Place) (q : Recon) (a b c : List (Place × Option Recon)) → c ≡ a ++ b → one_link o q c ≡ one_link o q a ++ b
one_link-append None q a b c e = e
one_link-append {Recon} (Some y) q a b c e = ap (λ (l : List (Place × Option Recon)). (y, Some q) ∷ l) e

linked-append : {Recon : Type 0} (ns : List (Option Place)) (is js : List (ℕ × Recon)) → linked ns (is ++ js) ≡ linked ns is ++ linked ns js
linked-append ns [] js = refl
linked-append ns (i ∷ is) js = one_link-append (get_or ns i.0 None) i.1 (linked ns is) (linked ns js) (linked ns (is ++ js)) (linked-append ns is js)

pub linked-more : {Recon : Type 0} (ns : List (Option Place)) (is js : List (ℕ × Recon)) → hold_all (linked ns is) ++ hold_all (linked ns js) ≡ hold_all (linked ns (is ++ js))
linked-more ns is js = sym (ap hold_all (linked-append ns is js) ∙ hold_append (linked ns is) (linked ns js))
