-- The conditions of a search, as C gives them.
use Rattle.std.specs.Prelude.{◌≡◌, ◌<◌, ◌≤◌, ◌+◌, ◌⊎◌, ℕ, List, length, map, Contains, if◌then◌else◌, nat_eq, nat_lt, slice_range, Option, Some, None, Result, Ok, Err}
use Rattle.spg_base.specs.declared.point.PointCond.{PointCond}
use Rattle.spg_base.specs.declared.point.PointCond.TheVariants.{Eq, Left, Right, Below, Above, Inside}
use Rattle.spg_radix.specs.declared.condition.TextCond.{TextCond}
use Rattle.spg_radix.specs.declared.condition.TextCond.TheVariants as texts
use Rattle.spg_c.specs.declared.conds.SpgPointCond.{SpgPointCond}
use Rattle.spg_c.specs.declared.conds.SpgTextCond.{SpgTextCond}
use Rattle.spg_c.specs.declared.refused.Refused.{Refused}
use Rattle.spg_c.specs.declared.refused.Refused.TheVariants as refused

-- the condition on points of a number
abbrev pub point_cond_at : ℕ → SpgPointCond → Option PointCond
point_cond_at n c =
    if nat_eq n 1 then Some (Eq (record { x = c.x1; y = c.y1 }))
    else if nat_eq n 2 then Some (Left c.x1)
    else if nat_eq n 3 then Some (Right c.x1)
    else if nat_eq n 4 then Some (Below c.y1)
    else if nat_eq n 5 then Some (Above c.y1)
    else if nat_eq n 6 then Some (Inside c.x1 c.y1 c.x2 c.y2)
    else None

abbrev pub point_cond_of : SpgPointCond → Option PointCond
point_cond_of c = point_cond_at c.number c

-- the condition on texts of a number
abbrev pub text_cond_at : ℕ → List ℕ → Option TextCond
text_cond_at n text =
    if nat_eq n 1 then Some (texts.Eq text)
    else if nat_eq n 2 then Some (texts.Lt text)
    else if nat_eq n 3 then Some (texts.Le text)
    else if nat_eq n 4 then Some (texts.Gt text)
    else if nat_eq n 5 then Some (texts.Ge text)
    else if nat_eq n 6 then Some (texts.Starts text)
    else None

abbrev pub text_cond_on : ℕ → List ℕ → Option TextCond
text_cond_on n text = if nat_lt 3900 (length text) then None else text_cond_at n text

-- with the part that it names of the bytes beside, at most 3,900 of them
abbrev pub text_cond_of : List ℕ → SpgTextCond → Option TextCond
text_cond_of bytes c = if nat_lt (length bytes) (c.from + c.len) then None else text_cond_on c.number (slice_range bytes c.from (c.from + c.len))

module _ {C D : Type 0} (known : C → Option D) where
  -- 1 to 8 conditions, each of a number that is known, and these are they
  pub record AreConds (conds : List C) (list : List D) : Type 0 where
    pub some : 0 < length conds
    pub few : length conds ≤ 8
    pub each : map Some list ≡ map known conds

  -- none, more than 8, or one that is not known
  abbrev pub AreNoConds : List C → Type 0
  AreNoConds conds = (length conds ≡ 0) ⊎ (8 < length conds) ⊎ ((c : C) × Contains conds c × (known c ≡ None))

  abbrev pub ReadsConds : List C → Result (List D) Refused → Type 0
  ReadsConds conds (Ok list) = AreConds conds list
  ReadsConds conds (Err refused.Range) = AreNoConds conds
  ReadsConds conds (Err e) = e ≡ refused.Memory

  -- one of them
  abbrev pub ReadsCond : C → Result D Refused → Type 0
  ReadsCond c (Ok cond) = known c ≡ Some cond
  ReadsCond c (Err refused.Range) = known c ≡ None
  ReadsCond c (Err e) = e ≡ refused.Memory
