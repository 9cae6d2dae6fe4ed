-- The classes whose images are known.
use Rattle.std.specs.Prelude.{ℕ}
use Rattle.spg_opclass.specs.Meaning.{Meaning}
use Rattle.spg_opclass.specs.Included.{with_meaning}
use Rattle.spg_quad.specs.Quad.{quad_meaning}
use Rattle.spg_kd.specs.Kd.{kd_meaning}
use Rattle.spg_radix.specs.Radix.{radix_meaning}
use Rattle.spg_range.specs.Class.{range_meaning}
use Rattle.spg_image.specs.declared.class.ImageClass.{ImageClass}
use Rattle.spg_image.specs.declared.class.ImageClass.TheVariants as class

-- the code by which the meta page names a class
abbrev pub code_of : ImageClass → ℕ
code_of class.Quad = 1
code_of class.Kd = 2
code_of class.Radix = 3
code_of class.Range = 4
code_of class.QuadValue = 17
code_of class.KdValue = 18
code_of class.RadixValue = 19

-- what is said of a class by its meaning and its code
abbrev pub ClassWord : Type 1
ClassWord = (Key Recon Cond : Type 0) → Meaning Key Recon Cond → ℕ → Type 0

-- it holds of this class
abbrev pub OfClass : ClassWord → ImageClass → Type 0
OfClass P class.Quad = P _ _ _ quad_meaning 1
OfClass P class.Kd = P _ _ _ kd_meaning 2
OfClass P class.Radix = P _ _ _ radix_meaning 3
OfClass P class.Range = P _ _ _ range_meaning 4
OfClass P class.QuadValue = P _ _ _ (with_meaning quad_meaning) 17
OfClass P class.KdValue = P _ _ _ (with_meaning kd_meaning) 18
OfClass P class.RadixValue = P _ _ _ (with_meaning radix_meaning) 19
