-- The leaf tuples that go to a node are the leaves of its list.
use Rattle.std.proofs.Common.{◌≡◌, ℕ, suc, ◌≤◌, ◌<◌, List, [], ◌∷◌, ◌++◌, ⊎_elim, Option, Some, length, take, cond, get_or, slice_get, nat_eq, refl, ap, subst, arith}
use Rattle.std.proofs.lemmas.Bool.{cases_eq, cond-true, cond-false, eq-eqb, ne_eqb}
use Rattle.spg_base.specs.Row.{RowAt}
use Rattle.spg_forest.specs.View.{Leaf, Class}
use Rattle.spg_forest.specs.Spot.{Frame, IsIn}
use Rattle.spg_forest.specs.Tuples.{Tuple, Live}
use Rattle.spg_forest.specs.Pages.{all_live}
use Rattle.spg_forest.specs.Sheets.{weight}
use Rattle.spg_opclass.specs.Laws.{padded_length}
use Rattle.spg_forest.specs.Divisions.{list_of, EachGoes}
use Rattle.spg_page.specs.Reads.{leaf_in}
use Rattle.spg_split.specs.Dividing.{rows_of}
use Rattle.spg_split.specs.Placing.{taken_by, leaves_with}

pub taken_list : (j : ℕ) (vs : List Leaf) (nodes : List ℕ) (rests : List (List ℕ)) → length vs ≤ length rests → taken_by j (all_live (leaves_with (rows_of vs) rests)) nodes ≡ list_of j vs nodes rests
taken_list j [] nodes rests e = refl
taken_list j (v ∷ vs) nodes [] e = absurd (omega arith)
taken_list j (v ∷ vs) [] (q ∷ rests) e = refl
taken_list j (v ∷ vs) (n ∷ nodes) (q ∷ rests) e = ap (λ (zs : List Leaf). cond (nat_eq n j) (record { row = v.row; rest = q } ∷ zs) zs) (taken_list j vs nodes rests (omega arith))

-- a leaf of a list has its node
pub taken_node : (j : ℕ) (ts : List Tuple) (nodes : List ℕ) (l : Leaf) → IsIn l (taken_by j ts nodes) → (i : ℕ) × (i < length nodes) × (get_or nodes i 0 ≡ j)
taken_node j [] nodes l a = absurd a
taken_node j (t ∷ ts) [] l a = absurd a
taken_node j (t ∷ ts) (n ∷ nodes) l a = ⊎_elim (λ e. (0, omega arith, e))
    (λ e. let (i, h, q) = taken_node j ts nodes l (subst (λ (zs : List Leaf). IsIn l zs) (cond-false (nat_eq n j) (leaf_in t ∷ taken_by j ts nodes) (taken_by j ts nodes) (ne_eqb n j e)) a) in (suc i, omega arith, q)) (cases_eq n j)

pub with_length : (rows : List RowAt) (rests : List (List ℕ)) → length rests ≡ length rows → length (leaves_with rows rests) ≡ length rows
with_length [] rests e = refl
with_length (r ∷ rows) [] e = absurd (omega arith)
with_length (r ∷ rows) (q ∷ rests) e = ap suc (with_length rows rests (omega arith))

-- a leaf of a list has one of the rests
pub taken_rest : (j : ℕ) (rows : List RowAt) (rests : List (List ℕ)) (nodes : List ℕ) (l : Leaf) → IsIn l (taken_by j (all_live (leaves_with rows rests)) nodes) → (i : ℕ) × (slice_get rests i ≡ Some l.rest)
taken_rest j [] rests nodes l a = absurd a
taken_rest j (r ∷ rows) [] nodes l a = absurd a
taken_rest j (r ∷ rows) (q ∷ rests) [] l a = absurd a
taken_rest j (r ∷ rows) (q ∷ rests) (n ∷ nodes) l a = ⊎_elim
    (λ e. ⊎_elim (λ c. (0, ap (λ (u : Leaf). Some u.rest) c)) (λ c. more (taken_rest j rows rests nodes l c)) (subst (λ (zs : List Leaf). IsIn l zs) (cond-true (nat_eq n j) (record { row = r; rest = q } ∷ tail) tail (eq-eqb n j e)) a))
    (λ e. more (taken_rest j rows rests nodes l (subst (λ (zs : List Leaf). IsIn l zs) (cond-false (nat_eq n j) (record { row = r; rest = q } ∷ tail) tail (ne_eqb n j e)) a))) (cases_eq n j)
  where
    tail : List Leaf
    tail = taken_by j (all_live (leaves_with rows rests)) nodes

    more : ((i : ℕ) × (slice_get rests i ≡ Some l.rest)) → (i : ℕ) × (slice_get (q ∷ rests) i ≡ Some l.rest)
    more (i, e) = (suc i, e)

pub with_rest : (rows : List RowAt) (rests : List (List ℕ)) (l : Leaf) → IsIn l (leaves_with rows rests) → (i : ℕ) × (slice_get rests i ≡ Some l.rest)
with_rest [] rests l a = absurd a
with_rest (r ∷ rows) [] l a = absurd a
with_rest (r ∷ rows) (q ∷ rests) l a = ⊎_elim (λ e. (0, ap (λ (u : Leaf). Some u.rest) e)) (λ b. let (i, e) = with_rest rows rests l b in (suc i, e)) a

-- all but the last
pub without_last : (ls : List Leaf) (new : Leaf) (rests : List (List ℕ)) → length rests ≡ length (ls ++ new ∷ []) → take (length ls) (all_live (leaves_with (rows_of (ls ++ new ∷ [])) rests)) ≡ all_live (leaves_with (rows_of ls) rests)
without_last [] new rests e = refl
without_last (l ∷ ls) new [] e = absurd (omega arith)
without_last (l ∷ ls) new (q ∷ rests) e = ap (λ us. Live (record { row = l.row; rest = q }) 0 ∷ us) (without_last ls new rests (omega arith))

pub goes_without : {R K : Type 0} (C : Class Frame R (Option K)) (r : R) (w : Frame) (ls : List Leaf) (new : Leaf) (nodes : List ℕ) (rests : List (List ℕ)) → EachGoes C r w (ls ++ new ∷ []) nodes rests → EachGoes C r w ls nodes rests
goes_without C r w [] new nodes rests g = tt
goes_without C r w (l ∷ ls) new [] rests g = g
goes_without C r w (l ∷ ls) new (n ∷ nodes) [] g = g
goes_without C r w (l ∷ ls) new (n ∷ nodes) (q ∷ rests) (g, gs) = (g, goes_without C r w ls new nodes rests gs)

-- rests that have not grown take no more room
pub lighter : (ls : List Leaf) (rests : List (List ℕ)) → ((i : ℕ) (l : Leaf) (q : List ℕ) → slice_get ls i ≡ Some l → slice_get rests i ≡ Some q → length q ≤ length l.rest) → weight (all_live (leaves_with (rows_of ls) rests)) ≤ weight (all_live ls)
lighter [] rests h = omega arith
lighter (l ∷ ls) [] h = omega arith
lighter (l ∷ ls) (q ∷ rests) h =
    let a = lighter ls rests (λ i. h (suc i)) in
    let b : length q ≤ length l.rest = h 0 l q refl refl in
    let c : padded_length (length q) ≤ padded_length (length l.rest) = omega arith in
    omega arith
