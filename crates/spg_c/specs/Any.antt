-- What is said of an index of whichever class.
use Rattle.std.specs.Prelude.{◌≡◌, ◌⊎◌, ◌<◌, ℕ, List, Result, Err}
use Rattle.spg_base.specs.declared.point.Point.{Point}
use Rattle.spg_base.specs.declared.point.PointCond.{PointCond}
use Rattle.spg_opclass.specs.Meaning.{Meaning}
use Rattle.spg_quad.specs.Quad.{quad_meaning}
use Rattle.spg_kd.specs.Kd.{kd_meaning}
use Rattle.spg_radix.specs.Radix.{radix_meaning}
use Rattle.spg_radix.specs.declared.condition.TextCond.{TextCond}
use Rattle.spg_core.specs.Seen.{Seen}
use Rattle.spg_c.specs.declared.any.AnyIndex.{AnyIndex}
use Rattle.spg_c.specs.declared.any.AnyIndex.TheVariants.{Nothing, Quad, Kd, Radix}
use Rattle.spg_c.specs.declared.refused.Refused.{Refused}
use Rattle.spg_c.specs.declared.refused.Refused.TheVariants as refused

-- what may be said of two states of one index
abbrev pub OfKeys : Type 0 → Type 0 → Type 1
OfKeys Key Cond = (O Recon : Type 0) → Meaning Key Recon Cond → Seen O Key Recon Cond → Seen O Key Recon Cond → Type 0

abbrev pub OfAny : Type 1
OfAny = (Key Cond : Type 0) → OfKeys Key Cond

-- it holds of the index, which stays one of its class; where there is none, the call is refused
abbrev pub OnAny : {T : Type 0} → OfAny → Result T Refused → AnyIndex → AnyIndex → Type 0
OnAny P answer (Quad old) (Quad new) = P _ _ _ _ quad_meaning old new
OnAny P answer (Kd old) (Kd new) = P _ _ _ _ kd_meaning old new
OnAny P answer (Radix old) (Radix new) = P _ _ _ _ radix_meaning old new
OnAny P answer Nothing new = (answer ≡ Err refused.Closed) × (new ≡ Nothing)
OnAny P answer old new = ⊥

-- it holds of an index of points; one of texts, or none, is refused
abbrev pub OnPoints : {T : Type 0} → OfKeys Point PointCond → Result T Refused → AnyIndex → AnyIndex → Type 0
OnPoints P answer (Quad old) (Quad new) = P _ _ quad_meaning old new
OnPoints P answer (Kd old) (Kd new) = P _ _ kd_meaning old new
OnPoints P answer (Radix old) new = (answer ≡ Err refused.Class) × (new ≡ Radix old)
OnPoints P answer Nothing new = (answer ≡ Err refused.Closed) × (new ≡ Nothing)
OnPoints P answer old new = ⊥

-- it holds of an index of texts; one of points, or none, is refused
abbrev pub OnTexts : {T : Type 0} → OfKeys (List ℕ) TextCond → Result T Refused → AnyIndex → AnyIndex → Type 0
OnTexts P answer (Radix old) (Radix new) = P _ _ radix_meaning old new
OnTexts P answer (Quad old) new = (answer ≡ Err refused.Class) × (new ≡ Quad old)
OnTexts P answer (Kd old) new = (answer ≡ Err refused.Class) × (new ≡ Kd old)
OnTexts P answer Nothing new = (answer ≡ Err refused.Closed) × (new ≡ Nothing)
OnTexts P answer old new = ⊥
