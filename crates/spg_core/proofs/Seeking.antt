-- The lowest seat of a test, and the least stamp, as a loop finds them.
use Rattle.std.proofs.Common.{◌≡◌, ◌↔◌, ◌≤◌, ◌<◌, ◌+◌, ⊎_elim, ℕ, zero, suc, min, Bool, true, false, List, [], ◌∷◌, Option, Some, None, IsNone, IfSome, length, map, get_or, drop, refl, sym, ap, ap₂, ◌∙◌, subst, arith}
use Rattle.std.proofs.Math.Nat.{min-le_left, min-le_right, le-min, min-eq_left, min-eq_right}
use Rattle.std.specs.Ordering.{nat_cmp, is_lt}
use Rattle.std.specs.Cmp.{nat_cmp_is}
use Rattle.std.specs.declared.cmp.Ordering.TheVariants.{Less, Equal, Greater}
use Rattle.std.proofs.lemmas.Bool.{cases_eq, cases_lt, false≢true}
use Rattle.std.proofs.lemmas.List.{get_or-map, get_or_read, drop_more}
use Rattle.spg_rows.specs.Held.{or_then}
use Rattle.spg_seats.specs.Slots.{Stage, free, stage_in, stamp_of, least, horizon_of}
use Rattle.spg_seats.specs.Waiting.{lowest_seat}
use Rattle.spg_core.specs.declared.slot.Slot.{Slot}
use Rattle.spg_core.specs.declared.slot.Slot.TheVariants.{Free}
use Rattle.spg_core.specs.Slot.{stage_of}

pub seat_from : (x : Option ℕ) (n : ℕ) → (IsNone x ↔ (64 ≤ n)) → IfSome x (λ s. s ≡ n) → n < 64 → x ≡ Some n
seat_from None n none some low = absurd (let h = none.0 refl in omega arith)
seat_from (Some s) n none some low = ap (λ k. Some k) some

swapped : (w u n : ℕ) → min w (min u n) ≤ min u (min w n)
swapped w u n =
    let a = min-le_left w (min u n) in let b = min-le_right w (min u n) in
    let c = min-le_left u n in let d = min-le_right u n in
    le-min (omega arith) (le-min (omega arith) (omega arith))

least_both : (x : Option ℕ) (u n : ℕ) → least x (min u n) ≡ min u (least x n)
least_both None u n = refl
least_both (Some w) u n = let a = swapped w u n in let b = swapped u w n in omega arith

less_tells : (a b : ℕ) → a < b → is_lt (nat_cmp a b) ≡ true
less_tells a b h = ap is_lt (sym (nat_cmp_is a b Less h))

more_tells : (a b : ℕ) → b ≤ a → is_lt (nat_cmp a b) ≡ false
more_tells a b h = ⊎_elim (λ e. ap is_lt (sym (nat_cmp_is a b Equal e))) (λ n. ap is_lt (sym (nat_cmp_is a b Greater (omega (arith, n))))) (cases_eq a b)

-- the stamp of a slot is taken where it is less
pub taken_less : (x : Option ℕ) (u n next : ℕ) → x ≡ Some u → is_lt (nat_cmp u n) ≡ true → next ≡ u → next ≡ least x n
taken_less x u n next is h e = ⊎_elim
    (λ low. e ∙ sym (ap (λ y. least y n) is ∙ min-eq_left (omega arith)))
    (λ high. absurd (false≢true (sym (more_tells u n high) ∙ h)))
    (cases_lt u n)

pub kept_less : (x : Option ℕ) (u n next : ℕ) → x ≡ Some u → is_lt (nat_cmp u n) ≡ false → next ≡ n → next ≡ least x n
kept_less x u n next is h e = ⊎_elim
    (λ low. absurd (false≢true (sym h ∙ less_tells u n low)))
    (λ high. e ∙ sym (ap (λ y. least y n) is ∙ min-eq_right high))
    (cases_lt u n)

module _ {O Key Recon Cond : Type 0} where
  module _ (test : Stage O Key Recon Cond → Bool) (slots : List (Slot O Key Recon Cond)) where
    abbrev stages : List (Stage O Key Recon Cond)
    stages = map stage_of slots

    slot_stage : (n : ℕ) (slot : Slot O Key Recon Cond) → n < length slots → slot ≡ get_or slots n slot → stage_in stages n ≡ stage_of slot
    slot_stage n slot there is = get_or-map stage_of slots n Free free there ∙ ap stage_of (sym (get_or_read slots n slot there is Free))

    -- the first one that meets it is the lowest
    pub first_found : (n : ℕ) (slot : Slot O Key Recon Cond) → n < length slots → slot ≡ get_or slots n slot → lowest_seat test n stages ≡ None → test (stage_of slot) ≡ true → (count : ℕ) → n < count → lowest_seat test count stages ≡ Some n
    first_found n slot there is none here zero low = absurd (omega arith)
    first_found n slot there is none here (suc c) low = ⊎_elim
        (λ e. ap₂ (λ x b. or_then x b c) (subst (λ k. lowest_seat test k stages ≡ None) e none) (subst (λ k. test (stage_in stages k) ≡ true) e (ap test (slot_stage n slot there is) ∙ here)) ∙ ap (λ k. Some k) (sym e))
        (λ apart. ap (λ x. or_then x (test (stage_in stages c)) c) (first_found n slot there is none here c (omega (arith, apart))))
        (cases_eq n c)

    -- one that does not is passed over
    pub none_more : (n : ℕ) (slot : Slot O Key Recon Cond) → n < length slots → slot ≡ get_or slots n slot → lowest_seat test n stages ≡ None → test (stage_of slot) ≡ false → lowest_seat test (n + 1) stages ≡ None
    none_more n slot there is none here =
        let e : n + 1 ≡ suc n = omega arith in
        ap (λ k. lowest_seat test k stages) e ∙ ap₂ (λ x b. or_then x b n) none (ap test (slot_stage n slot there is) ∙ here)

    pub none_of_all : (n : ℕ) → lowest_seat test n stages ≡ None → n ≡ 64 → None ≡ lowest_seat test 64 stages
    none_of_all n none e = sym (subst (λ k. lowest_seat test k stages ≡ None) e none)

  -- ---- the least stamp

  later_least : (rest : List (Stage O Key Recon Cond)) (u n : ℕ) → horizon_of rest (min u n) ≡ min u (horizon_of rest n)
  later_least [] u n = refl
  later_least (s ∷ rest) u n = ap (least (stamp_of s)) (later_least rest u n) ∙ least_both (stamp_of s) u (horizon_of rest n)

  -- one more stamp is taken at the front
  pub least_next : (x : Option ℕ) (rest : List (Stage O Key Recon Cond)) (n : ℕ) → horizon_of rest (least x n) ≡ least x (horizon_of rest n)
  least_next None rest n = refl
  least_next (Some u) rest n = later_least rest u n

  pub horizon_next : (slots : List (Slot O Key Recon Cond)) (i n next stamp : ℕ) (slot : Slot O Key Recon Cond) → i < length slots → slot ≡ get_or slots i slot → next ≡ least (stamp_of (stage_of slot)) n → horizon_of (map stage_of (drop i slots)) n ≡ stamp → horizon_of (map stage_of (drop (i + 1) slots)) next ≡ stamp
  horizon_next slots i n next stamp slot there is taken h =
      let rest : List (Stage O Key Recon Cond) = map stage_of (drop (i + 1) slots) in
      ap (horizon_of rest) taken ∙ least_next (stamp_of (stage_of slot)) rest n
      ∙ sym (ap (λ (xs : List (Slot O Key Recon Cond)). horizon_of (map stage_of xs) n) (drop_more slots i slot there ∙ ap (λ (x : Slot O Key Recon Cond). x ∷ drop (i + 1) slots) (sym is)))
      ∙ h
