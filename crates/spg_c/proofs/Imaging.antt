-- Images in memory.
use Rattle.std.proofs.Common.{◌≡◌, ℕ, List, Option, Some, refl, sym, subst}
use Rattle.spg_opclass.specs.Meaning.{Meaning}
use Rattle.spg_clauses.specs.declared.reason.Reason.{Reason}
use Rattle.spg_verify.specs.Refusals.{IfBad}
use Rattle.spg_verify.specs.Verdict.{FailsFirst}
use Rattle.spg_verify.specs.declared.refused.ImageRefused.{ImageRefused}
use Rattle.spg_verify.specs.declared.refused.ImageRefused.TheVariants.{BadImage}
use Rattle.spg_image.specs.Image.{Image}
use Rattle.spg_image.specs.Saving.{HoldsImage}
use Rattle.spg_c.specs.Images.{HoldsOne, given}

-- the bytes that stand under a name which holds an image
pub told_image : (i : Image) (held : Option (List ℕ)) → HoldsImage i held → HoldsOne i (given held)
told_image i held (bytes, is, reads) = subst (λ (h : Option (List ℕ)). HoldsOne i (given h)) (sym is) (bytes, refl, reads)

-- the first clause that fails of the bytes, where that is told of the name
pub bad_image : {Key Recon Cond : Type 0} (m : Meaning Key Recon Cond) (code limit : ℕ) (held : Option (List ℕ)) (bytes : List ℕ) (e : ImageRefused) (b : ℕ) (r : Reason) →
    held ≡ Some bytes → e ≡ BadImage b r → IfBad e (λ f. FailsFirst m code limit held f) → FailsFirst m code limit (Some bytes) (record { block = b; reason = r })
bad_image m code limit held bytes e b r is same bad =
    subst (λ (h : Option (List ℕ)). FailsFirst m code limit h (record { block = b; reason = r })) is (subst (λ (x : ImageRefused). IfBad x (λ f. FailsFirst m code limit held f)) same bad)
