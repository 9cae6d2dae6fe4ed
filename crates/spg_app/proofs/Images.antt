-- What the answer on an image decides, where the images tell what they hold.
use Rattle.std.proofs.Common.{◌≡◌, ◌⊎◌, inl, inr, ℕ, List, Option, Some, None, IsSomeAnd, refl, sym, ap, ◌∙◌, subst}
use Rattle.spg_io.specs.Causes.{Rose}
use Rattle.spg_io.specs.Held.{Holding, Holds}
use Rattle.spg_clauses.specs.declared.reason.Fault.{Fault}
use Rattle.spg_verify.proofs.Apart.{one_fault, good_fails_none}
use Rattle.spg_script.specs.declared.class_line.ClassLine.{ClassLine}
use Rattle.spg_histories.specs.declared.status.Status.{Status}
use Rattle.spg_histories.specs.declared.status.Status.TheVariants.{Done, Usage, BadScript, ReadFault, WriteFault, ImageFault, BadImage, Memory, Full}
use Rattle.spg_perform.specs.Session.{Outside}
use Rattle.spg_app.specs.Classes.{class_at}
use Rattle.spg_app.specs.Beginning.{IsImageRefusal}
use Rattle.spg_app.specs.Headline.{FailsFor, IsGoodFor}

-- ---- images of a class

pub good_fails : (c : ClassLine) (limit : ℕ) (bytes : Option (List ℕ)) (f : Fault) → FailsFor c limit bytes f → IsGoodFor c limit bytes → ⊥
good_fails c limit bytes f F G = good_fails_none (class_at c).meaning (class_at c).code limit bytes limit f G.0 F G.1

pub one_for : (c : ClassLine) (limit : ℕ) (bytes : Option (List ℕ)) (f g : Fault) → FailsFor c limit bytes f → FailsFor c limit bytes g → f ≡ g
one_for c limit bytes f g F G = one_fault (class_at c).meaning (class_at c).code limit bytes f g F G

-- ---- refusals

-- what is told and what is held of one name
pub clash : (P Q : Option (List ℕ) → Type 0) (held : Option Holding) (name : List ℕ) → ((bytes : Option (List ℕ)) → P bytes → Q bytes → ⊥) → Holds held name P → IsSomeAnd held (λ (h : Holding). Q (h name)) → ⊥
clash P Q None name not_both p q = q
clash P Q (Some h) name not_both p q = not_both (h name) p q

told : (P Q : Option (List ℕ) → Type 0) (R : Type 0) (held : Option Holding) (name : List ℕ) → ((bytes : Option (List ℕ)) → P bytes → Q bytes → R) → Holds held name P → IsSomeAnd held (λ (h : Holding). Q (h name)) → R
told P Q R None name both p q = absurd q
told P Q R (Some h) name both p q = both (h name) p q

-- what is good is refused only for want of memory, where no call fails
pub refusal_complete : (fails : Option (List ℕ) → Fault → Type 0) (good : Option (List ℕ) → Type 0) → ((bytes : Option (List ℕ)) (f : Fault) → fails bytes f → good bytes → ⊥) → (name : List ℕ) (old now : Outside) (status : Status)
    → IsImageRefusal fails name old now status → IsSomeAnd old.held (λ (h : Holding). good (h name)) → (Rose old.faults now.faults → ⊥) → (status ≡ Done) ⊎ (status ≡ Memory)
refusal_complete fails good not_both name old now (BadImage block reason) r is no_fault =
    absurd (clash (λ bytes. fails bytes (record { block = block; reason = reason })) good old.held name (λ bytes F G. not_both bytes (record { block = block; reason = reason }) F G) r is)
refusal_complete fails good not_both name old now ImageFault r is no_fault = absurd (no_fault r)
refusal_complete fails good not_both name old now Memory r is no_fault = inr refl
refusal_complete fails good not_both name old now Done r is no_fault = absurd r
refusal_complete fails good not_both name old now Usage r is no_fault = absurd r
refusal_complete fails good not_both name old now (BadScript n) r is no_fault = absurd r
refusal_complete fails good not_both name old now ReadFault r is no_fault = absurd r
refusal_complete fails good not_both name old now WriteFault r is no_fault = absurd r
refusal_complete fails good not_both name old now Full r is no_fault = absurd r

-- what fails is refused with the first clause that fails, where no call fails
pub refusal_first : (fails : Option (List ℕ) → Fault → Type 0) → ((bytes : Option (List ℕ)) (f g : Fault) → fails bytes f → fails bytes g → f ≡ g) → (name : List ℕ) (old now : Outside) (status : Status) (fault : Fault)
    → IsImageRefusal fails name old now status → IsSomeAnd old.held (λ (h : Holding). fails (h name) fault) → (Rose old.faults now.faults → ⊥) → (status ≡ BadImage fault.block fault.reason) ⊎ (status ≡ Memory)
refusal_first fails one name old now (BadImage block reason) fault r is no_fault =
    let same : record { block = block; reason = reason } ≡ fault = told (λ bytes. fails bytes (record { block = block; reason = reason })) (λ bytes. fails bytes fault) (record { block = block; reason = reason } ≡ fault) old.held name
    (λ bytes F G. one bytes (record { block = block; reason = reason }) fault F G) r is in
    inl (ap (λ (f : Fault). BadImage f.block f.reason) same)
refusal_first fails one name old now ImageFault fault r is no_fault = absurd (no_fault r)
refusal_first fails one name old now Memory fault r is no_fault = inr refl
refusal_first fails one name old now Done fault r is no_fault = absurd r
refusal_first fails one name old now Usage fault r is no_fault = absurd r
refusal_first fails one name old now (BadScript n) fault r is no_fault = absurd r
refusal_first fails one name old now ReadFault fault r is no_fault = absurd r
refusal_first fails one name old now WriteFault fault r is no_fault = absurd r
refusal_first fails one name old now Full fault r is no_fault = absurd r
