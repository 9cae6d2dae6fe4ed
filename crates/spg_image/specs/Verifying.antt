-- Whether the bytes under a name are an image of an index of some class, and the state that is made of one.
use Rattle.std.specs.Prelude.{◌≡◌, ℕ, ◌⊎◌, List, Option, Some}
use Rattle.spg_opclass.specs.Meaning.{Meaning}
use Rattle.spg_io.specs.Held.{Holding, Holds}
use Rattle.spg_tree.specs.Table.{Table}
use Rattle.spg_clauses.specs.declared.reason.Reason.TheVariants as reasons
use Rattle.spg_clauses.specs.declared.reason.Fault.{Fault}
use Rattle.spg_core.specs.Seen.{Seen}
use Rattle.spg_core.specs.Loading.{IsAdopted}
use Rattle.spg_verify.specs.Meta.{IsOfClass}
use Rattle.spg_verify.specs.Verdict.{page_at, HasTop, TopFails, Spells, FailsFirst, IsVerified}
use Rattle.spg_verify.specs.declared.reading.Verified.{Verified}
use Rattle.spg_image.specs.declared.class.ImageClass.{ImageClass}
use Rattle.spg_image.specs.Classes.{code_of, OfClass}

-- all clauses hold, by this class, and this is what the image has
abbrev pub IsVerifiedAs : Option (List ℕ) → Verified → ImageClass → Type 0
IsVerifiedAs held v c = OfClass (λ Key Recon Cond m code. IsVerified m code held v) c

abbrev pub IsImageOf : Option (List ℕ) → Verified → Type 0
IsImageOf held v = (c : ImageClass) × IsVerifiedAs held v c

-- the first clause that fails, by this class
abbrev pub FailsAs : Option (List ℕ) → Fault → ImageClass → Type 0
FailsAs held f c = OfClass (λ Key Recon Cond m code. FailsFirst m code 4 held f) c

-- the meta page names this class, and has the version of its images
abbrev pub Names : List ℕ → ImageClass → Type 0
Names bytes c = IsOfClass (code_of c) (page_at bytes 0)

-- the first clause that fails, by the class that the meta page names; where it names none, that is `class`
pub data FailsAny (held : Option (List ℕ)) (bytes : List ℕ) (f : Fault) : Type 0 where
  of_class : (c : ImageClass) → Names bytes c → FailsAs held f c → FailsAny held bytes f
  of_none : ((c : ImageClass) → Names bytes c → ⊥) → f.block ≡ 0 → f.reason ≡ reasons.Class → FailsAny held bytes f

abbrev pub IsBadImage : Option (List ℕ) → Fault → Type 0
IsBadImage held f = ((f.block ≡ 0) × TopFails held f.reason) ⊎ ((bytes : List ℕ) × (held ≡ Some bytes) × HasTop bytes × FailsAny held bytes f)

-- the state of the image: its pages, and a journal that opens and puts each entry
abbrev pub IsLoadOf : {O Key Recon Cond : Type 0} → Meaning Key Recon Cond → ℕ → ℕ → Option (List ℕ) → Seen O Key Recon Cond → Type 0
IsLoadOf m code limit held seen = (t : Table) × Spells m code limit held t × IsAdopted m t seen

-- a state that was made of well formed pages and their entries, which the bytes under the name spell where the images tell them
abbrev pub IsMade : {O Key Recon Cond : Type 0} → Meaning Key Recon Cond → ℕ → ℕ → Option Holding → List ℕ → Seen O Key Recon Cond → Type 0
IsMade m code limit held name seen = (t : Table) × IsAdopted m t seen × Holds held name (λ bytes. Spells m code limit bytes t)
