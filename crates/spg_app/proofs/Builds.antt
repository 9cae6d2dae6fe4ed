-- What the answers of a build decide.
use Rattle.std.proofs.Common.{◌≡◌, ◌⊎◌, ◌<◌, ◌≤◌, ◌+◌, ◌-◌, inl, inr, ℕ, List, [], ◌++◌, length, take, drop, Option, Some, None, Result, Ok, Err, refl, sym, ap, ◌∙◌, subst, arith}
use Rattle.std.proofs.lemmas.List.{append_assoc}
use Rattle.std.proofs.Math.Seq.{take-add}
use Rattle.std.proofs.lemmas.Bool.{cases_lt}
use Rattle.spg_io.specs.Causes.{Rose}
use Rattle.spg_script.specs.declared.inserts.Inserts.{Inserts}
use Rattle.spg_script.specs.Script.{lines_of}
use Rattle.spg_script.specs.Inserts.{IsInserts, CanInsertOn, IsFirstOther}
use Rattle.spg_script.proofs.InsertLines.{no_inserts}
use Rattle.spg_create.specs.declared.refused.CreateRefused.{CreateRefused}
use Rattle.spg_create.specs.declared.refused.CreateRefused.TheVariants as refused
use Rattle.spg_histories.specs.declared.status.Status.{Status}
use Rattle.spg_histories.specs.declared.status.Status.TheVariants.{Done, Usage, BadScript, ReadFault, WriteFault, ImageFault, BadImage, Memory, Full}
use Rattle.spg_app.specs.Ending.{Outlets}
use Rattle.spg_app.specs.Builds.{GaveInserts, IsOtherScript, IsInsertRefusal, Creation, unbuilt_status, IsBuilt, IsUnbuilt, IsBuilding, IsBuildOf, HoldsInserts, HoldsNoInserts}
use Rattle.spg_app.proofs.Complete.{whole, no_shorter, done_or_memory}

-- ---- inserts are built

gave_inserts : (left left_after : Option (List ℕ)) (n : ℕ) → HoldsInserts left → IsOtherScript left left_after n → ⊥
gave_inserts None left_after n holds gave = holds
gave_inserts (Some all) left_after n holds (inl other) = other.none holds.0.0 (subst (λ l. IsInserts l holds.0.0) (whole all left_after other.bytes other.read.0 other.read.1) holds.0.1)
gave_inserts (Some all) left_after n holds (inr more) = omega (arith, no_shorter all left_after more.1.0 more.1.1, more.1.2, holds.1)

inserts_refused : (left left_after : Option (List ℕ)) (f g : ℕ) (status : Status) → IsInsertRefusal left left_after f g status → HoldsInserts left → (Rose f g → ⊥) → status ≡ Memory
inserts_refused left left_after f g Memory r holds no_fault = refl
inserts_refused left left_after f g (BadScript n) r holds no_fault = absurd (gave_inserts left left_after n holds r)
inserts_refused left left_after f g ReadFault r holds no_fault = absurd (no_fault r)
inserts_refused left left_after f g Done r holds no_fault = absurd r
inserts_refused left left_after f g Usage r holds no_fault = absurd r
inserts_refused left left_after f g WriteFault r holds no_fault = absurd r
inserts_refused left left_after f g ImageFault r holds no_fault = absurd r
inserts_refused left left_after f g (BadImage block reason) r holds no_fault = absurd r
inserts_refused left left_after f g Full r holds no_fault = absurd r

unbuilt : (name : List ℕ) (i : Inserts) (out : Outlets) (why : CreateRefused) → Creation name i out (Err why) → (Rose out.images.faults out.images_after.faults → ⊥) → (unbuilt_status why ≡ Full) ⊎ (unbuilt_status why ≡ Memory)
unbuilt name i out refused.IndexFull creates no_fault = inl refl
unbuilt name i out refused.ImageFault creates no_fault = absurd (no_fault creates.1)
unbuilt name i out refused.Memory creates no_fault = inr refl

abbrev Decided : Status → Type 0
Decided status = (status ≡ Done) ⊎ ((status ≡ Full) ⊎ (status ≡ Memory))

built_decided : (status : Status) → (status ≡ Done) ⊎ (status ≡ Memory) → Decided status
built_decided status (inl done) = inl done
built_decided status (inr memory) = inr (inr memory)

module _ (name : List ℕ) (left left_after : Option (List ℕ)) (f g : ℕ) (out : Outlets) (status : Status) (run : IsBuildOf name left left_after f g out status) where
  pub build_complete : HoldsInserts left → (Rose f g → ⊥) → (Rose out.write_faults out.write_faults_after → ⊥) → (Rose out.images.faults out.images_after.faults → ⊥) → (status ≡ Done) ⊎ ((status ≡ Full) ⊎ (status ≡ Memory))
  build_complete holds no_read no_write no_image = by run
    where
      ends : (building : IsBuilding name left left_after f g out status) → IsBuilt name building.inserts out status ⊎ IsUnbuilt name building.inserts out status → Decided status
      ends building (inl built) =
          let later : out.images.faults ≤ out.images_after.faults = omega (arith, built.creation.same) in
          built_decided status
          (subst (λ (s : Status). (s ≡ Done) ⊎ (s ≡ Memory)) (sym built.status_is)
          (done_or_memory built.writing [] out.write_faults out.write_faults_after out.images.faults out.images_after.faults built.cause (later, omega (arith, later)) no_write no_image))
      ends building (inr not_built) =
          subst (λ (s : Status). Decided s) (sym not_built.status_is)
          (inr (unbuilt name building.inserts out not_built.why not_built.creation no_image))

      by : IsBuildOf name left left_after f g out status → Decided status
      by (inl (refusal, alone)) = inr (inr (inserts_refused left left_after f g status refusal holds no_read))
      by (inr building) = ends building building.ends

-- ---- the first other line is one line

CanInsertOn-front : (front back : List (List ℕ)) → CanInsertOn (front ++ back) → CanInsertOn front
CanInsertOn-front front back (more, i, are) = (back ++ more, i, rw (append_assoc front back more) at are)

not_earlier : (bytes : List ℕ) (m n : ℕ) → IsFirstOther bytes m → IsFirstOther bytes n → m < n → ⊥
not_earlier bytes m n bad later less =
    let there : m ≤ length (lines_of bytes) = omega (arith, later.within) in
    let split : n - 1 ≡ m + (n - 1 - m) = omega arith in
    bad.bad there (CanInsertOn-front (take m (lines_of bytes)) (take (n - 1 - m) (drop m (lines_of bytes))) (subst CanInsertOn (ap (λ k. take k (lines_of bytes)) split ∙ take-add m (n - 1 - m) (lines_of bytes)) later.before))

one_line : (bytes : List ℕ) (m n : ℕ) → IsFirstOther bytes m → IsFirstOther bytes n → m ≡ n
one_line bytes m n bad other = elim (cases_lt m n) [
  | inl less ↦ absurd (not_earlier bytes m n bad other less)
  | inr not_less ↦ elim (cases_lt n m) [ inl more ↦ absurd (not_earlier bytes n m other bad more) | inr not_more ↦ omega arith ]
]

-- ---- what is no script of inserts is refused

same_line : (left left_after : Option (List ℕ)) (m n : ℕ) → HoldsNoInserts left n → IsOtherScript left left_after m → m ≡ n
same_line None left_after m n holds gave = absurd holds
same_line (Some all) left_after m n (inl bad) (inl gave) = one_line all m n (subst (λ l. IsFirstOther l m) (sym (whole all left_after gave.bytes gave.read.0 gave.read.1)) gave.first_other) bad.1
same_line (Some all) left_after m n (inl bad) (inr more) = absurd (omega (arith, no_shorter all left_after more.1.0 more.1.1, more.1.2, bad.0))
same_line (Some all) left_after m n (inr long) (inl gave) = absurd (omega (arith, gave.short, long.0, ap length (whole all left_after gave.bytes gave.read.0 gave.read.1)))
same_line (Some all) left_after m n (inr long) (inr more) = more.0 ∙ sym long.1

line_refused : (left left_after : Option (List ℕ)) (f g : ℕ) (status : Status) (n : ℕ) → IsInsertRefusal left left_after f g status → HoldsNoInserts left n → (Rose f g → ⊥) → (status ≡ BadScript n) ⊎ (status ≡ Memory)
line_refused left left_after f g Memory n r holds no_fault = inr refl
line_refused left left_after f g (BadScript m) n r holds no_fault = inl (ap (λ k. BadScript k) (same_line left left_after m n holds r))
line_refused left left_after f g ReadFault n r holds no_fault = absurd (no_fault r)
line_refused left left_after f g Done n r holds no_fault = absurd r
line_refused left left_after f g Usage n r holds no_fault = absurd r
line_refused left left_after f g WriteFault n r holds no_fault = absurd r
line_refused left left_after f g ImageFault n r holds no_fault = absurd r
line_refused left left_after f g (BadImage block reason) n r holds no_fault = absurd r
line_refused left left_after f g Full n r holds no_fault = absurd r

none_given : (left left_after : Option (List ℕ)) (f g n : ℕ) (name : List ℕ) (out : Outlets) (status : Status) → HoldsNoInserts left n → IsBuilding name left left_after f g out status → ⊥
none_given None left_after f g n name out status holds building = holds
none_given (Some all) left_after f g n name out status (inl bad) building =
    no_inserts all n bad.1 building.inserts (subst (λ l. IsInserts l building.inserts) (sym (whole all left_after building.gave.bytes building.gave.read.0 building.gave.read.1)) building.gave.is_script)
none_given (Some all) left_after f g n name out status (inr long) building = omega (arith, building.gave.short, long.0, ap length (whole all left_after building.gave.bytes building.gave.read.0 building.gave.read.1))

pub build_refused : (name : List ℕ) (left left_after : Option (List ℕ)) (f g : ℕ) (out : Outlets) (status : Status) → IsBuildOf name left left_after f g out status → (n : ℕ) → HoldsNoInserts left n → (Rose f g → ⊥) → (status ≡ BadScript n) ⊎ (status ≡ Memory)
build_refused name left left_after f g out status (inl (refusal, alone)) n holds no_fault = line_refused left left_after f g status n refusal holds no_fault
build_refused name left left_after f g out status (inr building) n holds no_fault = absurd (none_given left left_after f g n name out status holds building)
