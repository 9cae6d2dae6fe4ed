-- What is said of refusals where a section was done, or was refused by what it called.
use Rattle.std.proofs.Common.{◌≡◌, ◌+◌, ◌^◌, ◌⊎◌, inl, inr, ℕ, Ok, Err, Result, refl, ap, ◌∙◌}
use Rattle.std.specs.Prelude.{IsErrOf, IfOk, OnOk}
use Rattle.spg_opclass.specs.Meaning.{Meaning}
use Rattle.spg_tree.specs.Table.{Table}
use Rattle.spg_tree.specs.Descents.{Descending}
use Rattle.spg_tree.specs.declared.stand.StepRefused.{StepRefused}
use Rattle.spg_tree.specs.declared.stand.StepRefused.TheVariants.{IndexFull, ClockFull, Memory}
use Rattle.spg_core.specs.declared.answer.InsertOut.{InsertOut}
use Rattle.spg_core.specs.Refusing.{Refuses, FindsNoPage, Ticks}

pub not_err : {T E : Type 0} (x : T) (e : E) → IsErrOf {T = T} {E = E} (Ok x) e → ⊥
not_err x e h = cc

-- one that was done did not raise the last clock, and its picks found their pages
pub done_so : {Key Recon Cond : Type 0} (m : Meaning Key Recon Cond) (t t2 : Table) (d d2 : Descending Recon) (seat : ℕ) (out : InsertOut) → (Ticks m t d → t.clock + 1 ≡ 2 ^ 48 → ⊥) → (FindsNoPage m t d seat → ⊥) → Refuses m t t2 d d2 seat (Ok out)
done_so m t t2 d d2 seat out apart found = record {
  full = λ h. absurd (not_err out IndexFull h);
  clock = λ h. absurd (not_err out ClockFull h);
  full_where = λ h. absurd (not_err out IndexFull h);
  clock_where = λ h. absurd (not_err out ClockFull h);
  clock_first = λ ticks last. absurd (apart ticks last);
  not_full = found;
  err = tt;
  err_descent = tt;
}

-- what holds beside what comes of a section
pub ok_with : {T E : Type 0} (P : Type 0) (Q : T → Type 0) (r : Result T E) → P → IfOk r Q → IfOk r (λ x. P × Q x)
ok_with P Q (Ok x) p q = (p, q)
ok_with P Q (Err e) p q = tt

-- a refusal that is handed on
pub same_err : {T U E : Type 0} (r : Result T E) (e f x : E) → r ≡ Err e → e ≡ f → IsErrOf {T = U} {E = E} (Err f) x → IsErrOf r x
same_err r e f x is same h =
    let q : f ≡ x = cc in
    is ∙ ap (λ y. Err y) (same ∙ q)

-- where a section that is done finds its pages, one that finds none is refused, and not for the clock: so for that or for want of memory
pub full_or_short : {T : Type 0} (r : Result T StepRefused) (A : Type 0) → OnOk r (A → ⊥) → A → (IsErrOf r ClockFull → ⊥) → IsErrOf r IndexFull ⊎ IsErrOf r Memory
full_or_short (Ok x) A found none off = absurd (found none)
full_or_short (Err IndexFull) A found none off = inl refl
full_or_short (Err ClockFull) A found none off = absurd (off refl)
full_or_short (Err Memory) A found none off = inr refl
