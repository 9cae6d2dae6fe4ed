-- The passes of tasks: what each knows when it is dealt, when its task has run, and when it is joined.
use Rattle.std.proofs.Common.{◌≡◌, ◌<◌, ◌+◌, ◌==◌, inl, inr, cond, ℕ, zero, suc, Bool, List, [], ◌∷◌, ◌++◌, length, get_or, set, Option, Some, None, refl, sym, ap, ◌∙◌, subst, arith, length-set}
use Rattle.std.proofs.lemmas.Bool.{ne_eqb, eq-eqb}
use Rattle.std.proofs.lemmas.Bool.Decides.{eqb_tells}
use Rattle.std.proofs.lemmas.List.{append-nil, append_assoc, get_or_default, get_or-set_other}
use Rattle.std.proofs.lemmas.Grind.{get_or-set_at}
use Rattle.std.proofs.Math.Seq.{take-length}
use Rattle.atomic_table.specs.Seated.{TableId}
use Rattle.spg_base.specs.declared.recorded.Origin.{Origin}
use Rattle.spg_opclass.specs.declared.class.OpClass.{Ghosts}
use Rattle.spg_rows.specs.declared.event.Event.{Event}
use Rattle.spg_turn.specs.declared.rule.View.{View}
use Rattle.spg_turn.specs.Views.{StartsWith, kept_of, first_view, dealt, after_join}
use Rattle.spg_desk.specs.declared.pass.Pass.{Pass}
use Rattle.spg_desk.specs.Passes.{desk_of, view_of}
use Rattle.spg_share.specs.Seats.{begun, IsOut, pass_name, pass_knows}
use Rattle.spg_share.specs.Shares.{start_view, added_by, Gathered, HasPass, HasNumber, IsKept}

-- ---- one lane of several is changed

pub set_length : {A : Type 0} (xs : List A) (k : ℕ) (y : A) → length (set xs k y) ≡ length xs
set_length {A} xs k y = length-set xs k y

pub same_set : {A T : Type 0} (lanes before : List A) (f : A → T) (k : ℕ) (p x : A) → k < length lanes → length lanes ≡ length before → f p ≡ f (get_or lanes k x) → ((i : ℕ) (d : A) → i < length before → f (get_or lanes i d) ≡ f (get_or before i d))
    → (i : ℕ) (d : A) → i < length before → f (get_or (set lanes k p) i d) ≡ f (get_or before i d)
same_set {A} {T} lanes before f k p x within long kept same i d below = elim (eqb_tells i k) [
  | inl is ↦ ap f (get_or-set_at lanes k i p d is.1 within) ∙ kept ∙ ap f (get_or_default lanes k x d within) ∙ ap (λ (n : ℕ). f (get_or lanes n d)) (sym is.1) ∙ same i d below
  | inr other ↦ ap f (get_or-set_other lanes k i p d other.1) ∙ same i d below
]

-- one of them
pub some_of : {A : Type 0} (xs : List A) → 0 < length xs → A
some_of {A} [] some = absurd (omega (arith, some))
some_of {A} (x ∷ xs) some = x

pub starts_then : {E : Type 0} (a b c : List E) → StartsWith a b → StartsWith b c → StartsWith a c
starts_then {E} a b c (m, e) (n, d) = (n ++ m, e ∙ ap (λ (l : List E). l ++ m) d ∙ append_assoc c n m)

some_pair : {A B : Type 0} (a b : A) (n k : B) → ◌≡◌ {A = Option (A × B)} (Some (a, n)) (Some (b, k)) → (a ≡ b) × (n ≡ k)
some_pair {A} {B} a b n k is = (ap (left_in a) is, ap (right_in n) is)
  where
    left_in : A → Option (A × B) → A
    left_in x None = x
    left_in x (Some p) = p.0

    right_in : B → Option (A × B) → B
    right_in x None = x
    right_in x (Some p) = p.1

-- ---- what a seat knows at its start

module _ {E : Type 0} where
  pub start_other : (v : View E) (count i : ℕ) → start_view v count (suc i) ≡ dealt (record v { given = suc i })
  start_other v count i =
      let first : View E = record v { given = count } in
      let other : View E = dealt (record v { given = suc i }) in
      ap (λ (b : Bool). cond b first other) (ne_eqb (suc i) 0 (λ e. omega (arith, e)))

  -- whatever it is of
  pub start_same : {X : Type 0} (f : View E → X) (v : View E) (count i : ℕ) (x : X) → f (record v { given = count }) ≡ x → ((n : ℕ) → f (dealt (record v { given = n })) ≡ x) → f (start_view v count i) ≡ x
  start_same {X} f v count zero x first other = first
  start_same {X} f v count (suc i) x first other = ap f (start_other v count i) ∙ other (suc i)

  pub start_number : (v : View E) (count i : ℕ) → v.number ≡ 0 → (start_view v count i).number ≡ i
  start_number v count zero is = is
  start_number v count (suc i) is = ap (λ (z : View E). z.number) (start_other v count i)

  begun_start : (old : List E) (origin : Origin) (count i : ℕ) → begun (start_view (first_view old origin) count i) ≡ start_view (first_view old origin) count i
  begun_start old origin count zero =
      let first : View E = record (first_view old origin) { given = count } in
      ap (λ (l : List E). record first { seen = l }) (take-length old)
  begun_start old origin count (suc i) =
      let other : View E = dealt (record (first_view old origin) { given = suc i }) in
      ap begun (start_other (first_view old origin) count i) ∙ ap (λ (l : List E). record other { seen = l }) (take-length old) ∙ sym (start_other (first_view old origin) count i)

  -- ---- one more is joined

  added_other : (v w x : View E) (n : ℕ) → x ≡ after_join v w → (w.number ≡ n → ⊥) → added_by n x ≡ added_by n v
  added_other v w x n is other = ap (added_by n) is ∙ ap (λ (b : Bool). cond (n == 0) v.mine (cond b w.mine (kept_of v.kept n))) (ne_eqb w.number n other)

  pub added_suc : (v : View E) (n : ℕ) → 0 < n → added_by n v ≡ kept_of v.kept n
  added_suc v n pos = ap (λ (b : Bool). cond b v.mine (kept_of v.kept n)) (ne_eqb n 0 (λ e. omega (arith, e, pos)))

  pub gathers : (v w o x : View E) (count k : ℕ) → Gathered v count k w → o.number ≡ k → x ≡ after_join w o → Gathered v count (k + 1) x
  gathers v w o x count k g number is =
      let back : x.back ≡ w.back + 1 = ap (λ (z : View E). z.back) is in
      record {
        number = ap (λ (z : View E). z.number) is ∙ g.number;
        given_is = ap (λ (z : View E). z.given) is ∙ g.given_is;
        back_is = omega (arith, back, g.back_is);
        origin_is = ap (λ (z : View E). z.origin) is ∙ g.origin_is;
        base_is = ap (λ (z : View E). z.base) is ∙ g.base_is;
        rest = λ n above. ap (λ (z : View E). kept_of z.kept n) is ∙ ap (λ (b : Bool). cond b o.mine (kept_of w.kept n)) (ne_eqb o.number n (λ e. omega (arith, e, number, above))) ∙ g.rest n (omega (arith, above));
      }

  pub leads : (w : View E) (old : List E) (origin : Origin) (count : ℕ) → begun w ≡ record (first_view old origin) { given = count } → Gathered w count 1 w
  leads w old origin count is =
      let back : w.back ≡ 0 = ap (λ (z : View E). z.back) is in
      record {
        number = ap (λ (z : View E). z.number) is;
        given_is = ap (λ (z : View E). z.given) is;
        back_is = omega (arith, back);
        origin_is = refl;
        base_is = refl;
        rest = λ n above. ap (λ (z : View E). kept_of z.kept n) is;
      }

module _ {O Key Recon Cond : Type 0} {laws : Ghosts O Key Recon Cond} where
  -- ---- a pass that was dealt

  pub dealt_out : (t : TableId) (v : View (Event O Key Recon Cond)) (p : Option (Pass O Key Recon Cond laws)) → HasPass t v p → IsOut t p
  dealt_out t v None has = absurd has
  dealt_out t v (Some p) has = has.0

  pub dealt_knows : (t : TableId) (v : View (Event O Key Recon Cond)) (p : Option (Pass O Key Recon Cond laws)) → HasPass t v p → pass_knows p ≡ v
  dealt_knows t v None has = absurd has
  dealt_knows t v (Some p) has = has.1

  dealt_name : (t : TableId) (v : View (Event O Key Recon Cond)) (p : Option (Pass O Key Recon Cond laws)) → HasPass t v p → pass_name p ≡ Some (t, begun v)
  dealt_name t v None has = absurd has
  dealt_name t v (Some p) has = (λ i. Some (has.0 i, begun (has.1 i)))

  -- once its task has run it is the pass of the same seat
  pub ran_name : (t : TableId) (old : List (Event O Key Recon Cond)) (origin : Origin) (count i : ℕ) (p q : Option (Pass O Key Recon Cond laws)) → HasPass t (start_view (first_view old origin) count i) p → pass_name q ≡ pass_name p
      → pass_name q ≡ Some (t, start_view (first_view old origin) count i)
  ran_name t old origin count i p q has same = same ∙ dealt_name t (start_view (first_view old origin) count i) p has ∙ ap (λ (v : View (Event O Key Recon Cond)). Some (t, v)) (begun_start old origin count i)

  pub name_number : (t : TableId) (s : View (Event O Key Recon Cond)) (i : ℕ) (q : Option (Pass O Key Recon Cond laws)) → pass_name q ≡ Some (t, s) → s.number ≡ i → HasNumber t i q
  name_number t s i None name number = absurd (cc)
  name_number t s i (Some q) name number =
      let (desk, first) = some_pair (desk_of q) t (begun (view_of q)) s name in
      (desk, ap (λ (z : View (Event O Key Recon Cond)). z.number) first ∙ number)

  pub name_begun : (t : TableId) (s : View (Event O Key Recon Cond)) (q : Option (Pass O Key Recon Cond laws)) → pass_name q ≡ Some (t, s) → begun (pass_knows q) ≡ s
  name_begun t s None name = absurd (cc)
  name_begun t s (Some q) name = (some_pair (desk_of q) t (begun (view_of q)) s name).1

  -- ---- one more is joined

  pub keeps_first : (p : Pass O Key Recon Cond laws) (pass : Option (Pass O Key Recon Cond laws)) → pass ≡ Some p → IsKept (view_of p) 0 pass
  keeps_first p pass was = subst (IsKept (view_of p) 0) (sym was) (([], sym (append-nil (view_of p).seen)), refl)

  pub keeps : (v w x : View (Event O Key Recon Cond)) (k i : ℕ) (pass : Option (Pass O Key Recon Cond laws)) → i < k → w.number ≡ k → x ≡ after_join v w → StartsWith x.seen v.seen → IsKept v i pass → IsKept x i pass
  keeps v w x k i None below number is on kept = absurd kept
  keeps v w x k i (Some p) below number is on kept = (starts_then x.seen v.seen (view_of p).seen on kept.0, added_other v w x i is (λ e. omega (arith, e, number, below)) ∙ kept.1)

  pub keeps_last : (v x : View (Event O Key Recon Cond)) (k : ℕ) (pass : Option (Pass O Key Recon Cond laws)) (q : Pass O Key Recon Cond laws) → 0 < k → pass ≡ Some q → (view_of q).number ≡ k → x ≡ after_join v (view_of q) → StartsWith x.seen (view_of q).seen → IsKept x k pass
  keeps_last v x k pass q pos was number is on = subst (IsKept x k) (sym was)
      (on, added_suc x k pos ∙ ap (λ (z : View (Event O Key Recon Cond)). kept_of z.kept k) is ∙ ap (λ (b : Bool). cond b (view_of q).mine (kept_of v.kept k)) (eq-eqb (view_of q).number k number))
