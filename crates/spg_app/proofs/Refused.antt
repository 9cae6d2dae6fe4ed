-- What is no image is refused.
use Rattle.std.proofs.Common.{◌≡◌, ◌⊎◌, inl, inr, ℕ, List, [], Option, Some, None, IsSomeAnd, refl, sym, ap, ◌∙◌, subst, arith}
use Rattle.spg_opclass.specs.Meaning.{Meaning}
use Rattle.spg_io.specs.Held.{Holding}
use Rattle.spg_clauses.specs.declared.reason.Fault.{Fault}
use Rattle.spg_base.specs.declared.recorded.Origin.{Origin}
use Rattle.spg_rows.specs.declared.entry.Entry.{Entry}
use Rattle.spg_verify.specs.Verdict.{Spells}
use Rattle.spg_verify.specs.declared.reading.Verified.{Verified}
use Rattle.spg_verify.proofs.Apart.{good_fails_none}
use Rattle.spg_image.specs.Verifying.{IsImageOf, IsBadImage}
use Rattle.spg_image.proofs.Apart.{image_is_not_bad, one_bad_image}
use Rattle.spg_script.specs.Blocks.{Script}
use Rattle.spg_script.specs.declared.class_line.ClassLine.{ClassLine}
use Rattle.spg_histories.specs.declared.status.Status.{Status}
use Rattle.spg_histories.specs.declared.status.Status.TheVariants.{Done, BadImage, Memory}
use Rattle.spg_perform.specs.Session.{Outside}
use Rattle.spg_app.specs.declared.end_state.EndState.{EndState}
use Rattle.spg_app.specs.Classes.{class_at, state_of}
use Rattle.spg_app.specs.Beginning.{FailsAs, BeginsLoaded}
use Rattle.spg_app.specs.Checks.{IsChecked, IsSoundImage, IsRefusedImage}
use Rattle.spg_app.specs.Ending.{Outlets}
use Rattle.spg_app.specs.Headline.{Streams, EndsRun, FailsFor, IsRun, HoldsScript, HoldsNoImageFor, HoldsImage, HoldsNoImage, NoFault}
use Rattle.spg_app.proofs.Images.{one_for, clash, refusal_complete, refusal_first}
use Rattle.spg_app.proofs.Complete.{done_or_memory, same_script, script_refused}

-- ---- of a run

-- no state begins with an image that fails
not_begun : {Key Recon Cond : Type 0} (m : Meaning Key Recon Cond) (code limit : ℕ) (held : Option Holding) (name : List ℕ) (loaded : List (Entry Key)) (origin : Origin) (f : Fault) → BeginsLoaded m code limit held name loaded origin
    → IsSomeAnd held (λ (h : Holding). FailsAs m code limit (h name) f) → ⊥
not_begun m code limit held name loaded origin f begun fails =
    clash (λ bytes. Spells m code limit bytes begun.table) (λ bytes. FailsAs m code limit bytes f) held name (λ bytes s F. good_fails_none m code limit bytes limit f begun.table F (s, begun.shape)) begun.spelled fails

no_end : (limit : ℕ) (name : List ℕ) (io : Streams) (out : Outlets) (status : Status) (end : EndState) (f : Fault) → EndsRun limit (Some name) io out status end → HoldsScript io.left (HoldsNoImageFor limit name out.images.held f) → ⊥
no_end limit name io out status end f ran holds =
    let fails = subst (λ (c : ClassLine). IsSomeAnd out.images.held (λ (h : Holding). FailsFor c limit (h name) f)) ran.of_class (same_script io.left io.left_after (HoldsNoImageFor limit name out.images.held f) ran.script holds ran.gave) in
    not_begun (class_at (state_of end).line).meaning (class_at (state_of end).line).code limit out.images.held name ran.run.loaded ran.run.origin f ran.run.begun fails

pub no_image : (limit : ℕ) (name : List ℕ) (io : Streams) (out : Outlets) (status : Status) (end : Option EndState) → IsRun limit (Some name) io out status end → (f : Fault) → HoldsScript io.left (HoldsNoImageFor limit name out.images.held f) → NoFault io out
    → (status ≡ BadImage f.block f.reason) ⊎ (status ≡ Memory)
no_image limit name io out status (Some end) run f holds no_fault = absurd (no_end limit name io out status end f run holds)
no_image limit name io out status None (inl (refusal, left)) f holds no_fault = inr (script_refused io status (HoldsNoImageFor limit name out.images.held f) refusal holds no_fault.reading)
no_image limit name io out status None (inr stopped) f holds no_fault =
    refusal_first (FailsFor stopped.script.class limit) (one_for stopped.script.class limit) name out.images out.images_after status f stopped.refusal
    (same_script io.left io.left_after (HoldsNoImageFor limit name out.images.held f) stopped.script holds stopped.gave) no_fault.saving

-- ---- of a check

-- the image is one, and its line was written or not
sound_complete : (name : List ℕ) (io : Streams) (out : Outlets) (status : Status) → IsChecked name out status → IsSoundImage name out status → NoFault io out → (status ≡ Done) ⊎ (status ≡ Memory)
sound_complete name io out status checked sound no_fault =
    subst (λ (s : Status). (s ≡ Done) ⊎ (s ≡ Memory)) (sym sound.status_is)
    (done_or_memory sound.writing [] _ _ out.images.faults out.images_after.faults sound.cause (checked.read.later, omega (arith, checked.read.later)) no_fault.writing no_fault.saving)

pub check_complete : (name : List ℕ) (io : Streams) (out : Outlets) (status : Status) → IsChecked name out status → HoldsImage name out.images.held → NoFault io out → (status ≡ Done) ⊎ (status ≡ Memory)
check_complete name io out status checked holds no_fault = by checked.tells
  where
    by : IsSoundImage name out status ⊎ IsRefusedImage name out status → (status ≡ Done) ⊎ (status ≡ Memory)
    by (inl sound) = sound_complete name io out status checked sound no_fault
    by (inr refused) = refusal_complete IsBadImage (λ bytes. (v : Verified) × IsImageOf bytes v) (λ bytes f B V. image_is_not_bad bytes f V.0 V.1 B) name out.images out.images_after status refused.refusal holds no_fault.saving

pub check_refused : (name : List ℕ) (io : Streams) (out : Outlets) (status : Status) → IsChecked name out status → (f : Fault) → HoldsNoImage name out.images.held f → NoFault io out → (status ≡ BadImage f.block f.reason) ⊎ (status ≡ Memory)
check_refused name io out status checked f holds no_fault = by checked.tells
  where
    by : IsSoundImage name out status ⊎ IsRefusedImage name out status → (status ≡ BadImage f.block f.reason) ⊎ (status ≡ Memory)
    by (inl sound) = absurd (clash (λ bytes. IsImageOf bytes sound.verified) (λ bytes. IsBadImage bytes f) out.images.held name (λ bytes V B. image_is_not_bad bytes f sound.verified V B) sound.image holds)
    by (inr refused) = refusal_first IsBadImage one_bad_image name out.images out.images_after status f refused.refusal holds no_fault.saving
