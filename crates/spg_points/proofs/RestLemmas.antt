-- What the definitions on rests and labels say.
use Rattle.std.proofs.Common.{◌≡◌, ℕ, cond, ℤ, pos, Bool, true, false, List, length, Option, Some, None, refl, sym, ◌∙◌, subst, rules, eqb}
use Rattle.std.specs.Prelude.{All, slice_get, IsSome, replicate}
use Rattle.std.specs.List.{list_all}
use Rattle.std.specs.Ordering.{int_eq}
use Rattle.std.proofs.lemmas.Bool.{eqb-true}
use Rattle.std.proofs.lemmas.Option.{cond_some, slice_get_within, get_or_from_slice_get}
use Rattle.std.proofs.lemmas.List.Elements.{All-replicate}
use Rattle.std.proofs.lemmas.List.Sums.{list_all-from_AllPass}
use Rattle.spg_base.specs.declared.point.Point.{Point}
use Rattle.spg_opclass.specs.declared.view.InnerView.{InnerView}
use Rattle.spg_points.specs.Codec.{is_point, point_of, bytes_of_point}
use Rattle.spg_points.specs.PointClass.{is_point_bytes, rebuilt, count_ok, plain_nodes}
use Rattle.spg_points.proofs.PointLemmas.{and_true, is_point-point_of, length-bytes_of_point}

-- a rest that gives a key
pub rebuilt_some : (bytes : List ℕ) (key : Point) → rebuilt bytes ≡ Some key → (is_point_bytes bytes ≡ true) × ((point_of bytes ≡ key) × (is_point key ≡ true))
unfolding rebuilt
rebuilt_some bytes key h =
    let u = cond_some (is_point_bytes bytes) (point_of bytes) key h in
    (u.0, (u.1, subst (λ (k : Point). is_point k ≡ true) u.1 (is_point-point_of bytes)))

pub rebuilt_from : (bytes : List ℕ) → is_point_bytes bytes ≡ true → rebuilt bytes ≡ Some (point_of bytes)
unfolding rebuilt
rebuilt_from bytes h = rw h refl

pub rebuilt_needs : (bytes : List ℕ) → IsSome (rebuilt bytes) → is_point_bytes bytes ≡ true
unfolding rebuilt
rebuilt_needs bytes h = needs (is_point_bytes bytes) h
  where
    needs : (b : Bool) → IsSome (cond b (Some (point_of bytes)) None) → b ≡ true
    needs true h = refl
    needs false h = absurd (search rules)

pub point_length : (p : Point) → is_point_bytes (bytes_of_point p) ≡ true
point_length p = rw (length-bytes_of_point p) refl

-- what holds of all holds of the i-th
pub at_part : (P : List ℕ → Type 0) (xs : List (List ℕ)) (i : ℕ) (x : List ℕ) → All P xs → slice_get xs i ≡ Some x → P x
at_part P xs i x all e = subst P (get_or_from_slice_get xs i x x e) (all i x (slice_get_within xs i x e))

-- how many nodes a tuple has
pub nodes_of_tuple : (count : ℕ) (tuple : InnerView) → plain_nodes count tuple ≡ true → length tuple.labels ≡ cond tuple.all_same 8 count
unfolding plain_nodes count_ok
nodes_of_tuple count tuple h =
    count_is tuple.all_same (length tuple.labels) (and_true (list_all (λ l. int_eq l (pos 0)) tuple.labels) (count_ok count tuple.all_same (length tuple.labels)) h).1
  where
    count_is : (b : Bool) (n : ℕ) → cond b (eqb n 8) (eqb n count) ≡ true → n ≡ cond b 8 count
    count_is true n h = eqb-true n 8 h
    count_is false n h = eqb-true n count h

-- the labels of a division
pub label_zero : (n node : ℕ) (label : ℤ) → slice_get (replicate n (pos 0)) node ≡ Some label → pos 0 ≡ label
label_zero n node label h = at_label (replicate n (pos 0)) node label (All-replicate (λ l. pos 0 ≡ l) n (pos 0) refl) h
  where
    at_label : (xs : List ℤ) (i : ℕ) (x : ℤ) → All (λ l. pos 0 ≡ l) xs → slice_get xs i ≡ Some x → pos 0 ≡ x
    at_label xs i x all e = all i x (slice_get_within xs i x e) ∙ get_or_from_slice_get xs i x x e

pub all_zero : (n : ℕ) → list_all (λ l. int_eq l (pos 0)) (replicate n (pos 0)) ≡ true
all_zero n = list_all-from_AllPass (λ l. int_eq l (pos 0)) (replicate n (pos 0)) (All-replicate (λ l. int_eq l (pos 0) ≡ true) n (pos 0) refl)
