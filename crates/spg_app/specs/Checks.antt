-- What `check` says of the image under a name.
use Rattle.std.specs.Prelude.{◌≡◌, ◌⊎◌, ◌++◌, ℕ, List, [], ◌∷◌, codes}
use Rattle.std.specs.Fmt.{decimal}
use Rattle.spg_io.specs.Causes.{Rose}
use Rattle.spg_io.specs.Held.{Holds}
use Rattle.spg_verify.specs.declared.reading.Verified.{Verified}
use Rattle.spg_image.specs.Verifying.{IsImageOf, IsBadImage}
use Rattle.spg_histories.specs.Ending.{Writing, write_failed, status_after}
use Rattle.spg_histories.specs.Answer.{Wrote}
use Rattle.spg_histories.specs.declared.status.Status.{Status}
use Rattle.spg_app.specs.Beginning.{IsImageRefusal, OnlyRead}
use Rattle.spg_app.specs.Ending.{Outlets}

-- the line that tells how many pages and entries an image has
abbrev pub counts_text : Verified → List ℕ
counts_text v = ((codes "ok pages " ++ decimal v.pages) ++ (codes " entries " ++ decimal v.entries)) ++ 10 ∷ []

-- These are the numbers of the image, which fails no clause where the images tell it, and no call on the images failed. The sink took their line, or a front of it where it failed or memory was wanting
pub record IsSoundImage (name : List ℕ) (out : Outlets) (status : Status) : Type 0 where
  pub verified : Verified
  pub image : Holds out.images.held name (λ bytes. IsImageOf bytes verified)
  pub unfailed : out.images_after.faults ≡ out.images.faults
  pub writing : Writing
  pub wrote : Wrote writing out.taken out.taken_after (counts_text verified)
  pub cause : writing ≡ write_failed → Rose out.write_faults out.write_faults_after
  pub status_is : status ≡ status_after writing []

-- the image was refused, and nothing was written
pub record IsRefusedImage (name : List ℕ) (out : Outlets) (status : Status) : Type 0 where
  pub refusal : IsImageRefusal IsBadImage name out.images out.images_after status
  pub sink : out.taken_after ≡ out.taken

-- the images were only read
pub record IsChecked (name : List ℕ) (out : Outlets) (status : Status) : Type 0 where
  pub read : OnlyRead out.images out.images_after
  pub tells : IsSoundImage name out status ⊎ IsRefusedImage name out status
