-- What is said of each of the classes whose images are known.
use Rattle.std.proofs.Common.{◌≡◌, ℕ, ◌==◌, if◌then◌else◌, Option, Some, refl, sym, ap, ◌∙◌}
use Rattle.spg_opclass.specs.Meaning.{Meaning}
use Rattle.spg_opclass.specs.Included.{with_meaning}
use Rattle.spg_quad.specs.Quad.{quad_meaning}
use Rattle.spg_kd.specs.Kd.{kd_meaning}
use Rattle.spg_radix.specs.Radix.{radix_meaning}
use Rattle.spg_range.specs.Class.{range_meaning}
use Rattle.spg_image.specs.declared.class.ImageClass.{ImageClass}
use Rattle.spg_image.specs.declared.class.ImageClass.TheVariants as class
use Rattle.spg_image.specs.Classes.{code_of, ClassWord, OfClass}

-- what follows for each class follows for one
pub of_both : (P Q R : ClassWord) → ((Key Recon Cond : Type 0) (m : Meaning Key Recon Cond) (code : ℕ) → P Key Recon Cond m code → Q Key Recon Cond m code → R Key Recon Cond m code) → (c : ImageClass) → OfClass P c → OfClass Q c → OfClass R c
of_both P Q R f class.Quad p q = f _ _ _ quad_meaning 1 p q
of_both P Q R f class.Kd p q = f _ _ _ kd_meaning 2 p q
of_both P Q R f class.Radix p q = f _ _ _ radix_meaning 3 p q
of_both P Q R f class.Range p q = f _ _ _ range_meaning 4 p q
of_both P Q R f class.QuadValue p q = f _ _ _ (with_meaning quad_meaning) 17 p q
of_both P Q R f class.KdValue p q = f _ _ _ (with_meaning kd_meaning) 18 p q
of_both P Q R f class.RadixValue p q = f _ _ _ (with_meaning radix_meaning) 19 p q

-- what is said of no class in particular
pub of_any : (R : Type 0) (c : ImageClass) → OfClass (λ Key Recon Cond m code. R) c → R
of_any R class.Quad r = r
of_any R class.Kd r = r
of_any R class.Radix r = r
of_any R class.Range r = r
of_any R class.QuadValue r = r
of_any R class.KdValue r = r
of_any R class.RadixValue r = r

-- the code is the one that the class has
pub of_code : (P : ClassWord) (c : ImageClass) → OfClass P c → OfClass (λ Key Recon Cond m code. P Key Recon Cond m code × (code ≡ code_of c)) c
of_code P class.Quad p = (p, refl)
of_code P class.Kd p = (p, refl)
of_code P class.Radix p = (p, refl)
of_code P class.Range p = (p, refl)
of_code P class.QuadValue p = (p, refl)
of_code P class.KdValue p = (p, refl)
of_code P class.RadixValue p = (p, refl)

-- no two classes have one code
pub one_class : (c d : ImageClass) → code_of c ≡ code_of d → c ≡ d
one_class c d e =
    let q : Some c ≡ Some d = sym (back c) ∙ ap named e ∙ back d in
    let s : c ≡ d = cc in s
  where
    named : ℕ → Option ImageClass
    named n = Some (if n == 1 then class.Quad else (if n == 2 then class.Kd else (if n == 3 then class.Radix else (if n == 4 then class.Range else (if n == 17 then class.QuadValue else (if n == 18 then class.KdValue else class.RadixValue))))))

    back : (c : ImageClass) → named (code_of c) ≡ Some c
    back class.Quad = refl
    back class.Kd = refl
    back class.Radix = refl
    back class.Range = refl
    back class.QuadValue = refl
    back class.KdValue = refl
    back class.RadixValue = refl
