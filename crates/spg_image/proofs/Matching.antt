-- What verifying an image as one class tells of any.
use Rattle.std.proofs.Common.{ℕ, List, Option, Result, Ok, Err, MatchResult, inr, subst}
use Rattle.spg_io.specs.Held.{Holding, Holds}
use Rattle.spg_verify.specs.declared.refused.ImageRefused.{ImageRefused}
use Rattle.spg_verify.specs.declared.refused.ImageRefused.TheVariants.{BadImage, ImageFault, Memory}
use Rattle.spg_verify.specs.declared.reading.Verified.{Verified}
use Rattle.spg_verify.specs.Refusals.{IfBad}
use Rattle.spg_verify.specs.Meta.{IsOfClass}
use Rattle.spg_verify.specs.Verdict.{IsTopOf, FailsFirst, IsVerified}
use Rattle.spg_image.specs.declared.class.ImageClass.{ImageClass}
use Rattle.spg_image.specs.Classes.{code_of, OfClass}
use Rattle.spg_image.specs.Verifying.{IsImageOf, FailsAny, IsBadImage}

abbrev pub Answers : Option (List ℕ) → Result Verified ImageRefused → ImageClass → Type 0
Answers held r c = OfClass (λ Key Recon Cond m code. MatchResult r (λ v. IsVerified m code held v) (λ e. IfBad e (λ f. FailsFirst m code 4 held f))) c

abbrev pub AnswersAs : Option Holding → List ℕ → ℕ → List ℕ → Result Verified ImageRefused → ImageClass → Type 0
AnswersAs a name len page r c = Holds a name (λ held. (bytes : List ℕ) → IsTopOf held len page bytes → Answers held r c)

module _ (held : Option (List ℕ)) (len : ℕ) (page bytes : List ℕ) (T : IsTopOf held len page bytes) (c : ImageClass) (named : IsOfClass (code_of c) page) where
  pub answers_any : (r : Result Verified ImageRefused) → Answers held r c → MatchResult r (λ v. IsImageOf held v) (λ e. IfBad e (λ f. IsBadImage held f))
  answers_any (Ok v) h = (c, h)
  answers_any (Err (BadImage b r)) h = inr (bytes, T.is, T.top, FailsAny.of_class c (subst (λ (p : List ℕ). IsOfClass (code_of c) p) T.first named) h)
  answers_any (Err ImageFault) h = tt
  answers_any (Err Memory) h = tt
