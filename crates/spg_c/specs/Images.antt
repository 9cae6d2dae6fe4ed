-- Images in the caller's memory.
use Rattle.std.specs.Prelude.{◌≡◌, ◌⊎◌, ℕ, List, Option, Some, None, Result, Ok, Err}
use Rattle.spg_opclass.specs.Meaning.{Meaning}
use Rattle.spg_io.specs.Files.{bytes_under}
use Rattle.spg_io.specs.declared.store.File.{File}
use Rattle.spg_quad.specs.Quad.{quad_meaning}
use Rattle.spg_kd.specs.Kd.{kd_meaning}
use Rattle.spg_radix.specs.Radix.{radix_meaning}
use Rattle.spg_verify.specs.Verdict.{FailsFirst}
use Rattle.spg_image.specs.Image.{Image, image_of}
use Rattle.spg_image.specs.Saving.{HoldsImage}
use Rattle.spg_image.specs.Verifying.{IsLoadOf}
use Rattle.spg_c.specs.declared.any.AnyIndex.{AnyIndex}
use Rattle.spg_c.specs.declared.any.AnyIndex.TheVariants.{Nothing, Quad, Kd, Radix}
use Rattle.spg_c.specs.declared.class.Class.{Class}
use Rattle.spg_c.specs.declared.class.Class.TheVariants as class
use Rattle.spg_c.specs.declared.refused.LoadRefused.{LoadRefused}
use Rattle.spg_c.specs.declared.refused.LoadRefused.TheVariants as load
use Rattle.spg_c.specs.declared.refused.Refused.{Refused}
use Rattle.spg_c.specs.declared.refused.Refused.TheVariants as refused
use Rattle.spg_c.specs.declared.values.SpgFault.{SpgFault}
use Rattle.spg_c.specs.Calls.{class_of, IsLimit, IsNoLimit}
use Rattle.spg_c.specs.Told.{reason_number}

-- ---- saving

-- the bytes that came under a name
abbrev pub given : Option (List ℕ) → Result (List ℕ) Refused
given None = Err refused.Memory
given (Some bytes) = Ok bytes

abbrev pub bytes_in : List ℕ → Result (List File) Refused → Result (List ℕ) Refused
bytes_in name (Err e) = Err e
bytes_in name (Ok files) = given (bytes_under files name)

-- they are this image, or there was want of memory
abbrev pub HoldsOne : Image → Result (List ℕ) Refused → Type 0
HoldsOne i (Ok bytes) = HoldsImage i (Some bytes)
HoldsOne i (Err e) = e ≡ refused.Memory

-- they are the image of the index
abbrev pub ImageTold : AnyIndex → Result (List ℕ) Refused → Type 0
ImageTold (Quad i) answer = HoldsOne (image_of 1 i.table) answer
ImageTold (Kd i) answer = HoldsOne (image_of 2 i.table) answer
ImageTold (Radix i) answer = HoldsOne (image_of 3 i.table) answer
ImageTold Nothing answer = answer ≡ Err refused.Closed

-- the index stays
abbrev pub SavesAny : AnyIndex → AnyIndex → Result (List ℕ) Refused → Type 0
SavesAny old new answer = (new ≡ old) × ImageTold old answer

-- ---- loading

-- the index of the image that the bytes are
abbrev pub IsLoadedAs : Class → ℕ → List ℕ → AnyIndex → Type 0
IsLoadedAs class.Quad limit bytes (Quad i) = IsLoadOf quad_meaning 1 limit (Some bytes) i
IsLoadedAs class.Kd limit bytes (Kd i) = IsLoadOf kd_meaning 2 limit (Some bytes) i
IsLoadedAs class.Radix limit bytes (Radix i) = IsLoadOf radix_meaning 3 limit (Some bytes) i
IsLoadedAs c limit bytes i = ⊥

-- why no index of the class was made of the bytes: the first clause that fails of them as an image of one
abbrev pub BadFrom : {Key Recon Cond : Type 0} → Meaning Key Recon Cond → ℕ → ℕ → List ℕ → LoadRefused → Type 0
BadFrom m code limit bytes (load.Image b r) = FailsFirst m code limit (Some bytes) (record { block = b; reason = r })
BadFrom m code limit bytes load.Memory = Unit {0}
BadFrom m code limit bytes load.Range = IsNoLimit limit

abbrev pub BadAs : Class → ℕ → List ℕ → LoadRefused → Type 0
BadAs class.Quad limit bytes e = BadFrom quad_meaning 1 limit bytes e
BadAs class.Kd limit bytes e = BadFrom kd_meaning 2 limit bytes e
BadAs class.Radix limit bytes e = BadFrom radix_meaning 3 limit bytes e

abbrev pub MakesFrom : Class → ℕ → List ℕ → Result AnyIndex LoadRefused → Type 0
MakesFrom c limit bytes (Ok i) = IsLimit limit × IsLoadedAs c limit bytes i
MakesFrom c limit bytes (Err e) = BadAs c limit bytes e

abbrev pub Loads : ℕ → ℕ → List ℕ → AnyIndex → AnyIndex → Result (Unit {0}) LoadRefused → Type 0
Loads number limit bytes old new (Ok x) = (c : Class) × (class_of number ≡ Some c) × IsLimit limit × IsLoadedAs c limit bytes new
Loads number limit bytes old new (Err e) = (new ≡ old) × ((e ≡ load.Memory) ⊎ ((class_of number ≡ None) × (e ≡ load.Range)) ⊎ ((c : Class) × (class_of number ≡ Some c) × BadAs c limit bytes e))

-- the fault is told where the bytes are no image
abbrev pub HandsFault : SpgFault → SpgFault → ℕ → Result (Unit {0}) LoadRefused → Type 0
HandsFault old new number (Ok x) = (new ≡ old) × (number ≡ 0)
HandsFault old new number (Err load.Memory) = (new ≡ old) × (number ≡ 1)
HandsFault old new number (Err load.Range) = (new ≡ old) × (number ≡ 2)
HandsFault old new number (Err (load.Image b r)) = (new ≡ record { block = b; reason = reason_number r }) × (number ≡ 10)
