-- How classes, points, ranges and conditions on them are spelled in a script.
use Rattle.std.specs.Prelude.{ℕ, ◌<◌, ◌^◌, ◌≤ℤ◌, ℤ, Bool, true, false, List, [], ◌∷◌, ◌++◌, Option, Some, None, codes, FitsSigned, ⊤}
use Rattle.std.specs.Int.{w32}
use Rattle.std.specs.Fmt.{decimal, signed_decimal}
use Rattle.spg_base.specs.Row.{RowAt}
use Rattle.spg_base.specs.Text.{point_text}
use Rattle.spg_base.specs.declared.point.Point.{Point}
use Rattle.spg_base.specs.declared.point.PointCond.{PointCond}
use Rattle.spg_base.specs.declared.point.PointCond.TheVariants.{Eq, Left, Right, Below, Above, Inside}
use Rattle.spg_range.specs.declared.range.RangeCond.{RangeCond}
use Rattle.spg_range.specs.declared.range.RangeCond.TheVariants as range_cond
use Rattle.spg_script.specs.declared.class_name.ClassName.{ClassName}
use Rattle.spg_script.specs.declared.class_name.ClassName.TheVariants as name
use Rattle.spg_script.specs.declared.class_line.ClassLine.{ClassLine}
use Rattle.spg_script.specs.declared.class_line.ClassLine.TheVariants.{Quad, Kd, Radix, QuadValue, KdValue, RadixValue, Range}

-- the line of a class
abbrev pub class_text : ClassLine → List ℕ
class_text Quad = codes "class quad"
class_text Kd = codes "class kd"
class_text Radix = codes "class radix"
class_text QuadValue = codes "class quad value"
class_text KdValue = codes "class kd value"
class_text RadixValue = codes "class radix value"
class_text Range = codes "class range"

-- the class that a line names, apart from numbers; and whether a number stands beside each key
abbrev pub class_of : ClassLine → ClassName
class_of Quad = name.Quad
class_of Kd = name.Kd
class_of Radix = name.Radix
class_of QuadValue = name.Quad
class_of KdValue = name.Kd
class_of RadixValue = name.Radix
class_of Range = name.Range

abbrev pub has_values : ClassLine → Bool
has_values Quad = false
has_values Kd = false
has_values Radix = false
has_values QuadValue = true
has_values KdValue = true
has_values RadixValue = true
has_values Range = false

-- the number beside a key, behind it
abbrev pub value_text : ℕ → List ℕ
value_text value = codes " value " ++ decimal value

-- a range: empty, which is None, or from its low end to its high one, the point of the two
abbrev pub range_text : Option Point → List ℕ
range_text None = codes "empty"
range_text (Some ends) = 91 ∷ (point_text ends ++ 93 ∷ [])

-- the word of a condition on ranges, and the range that it names
abbrev pub range_word : RangeCond → List ℕ
range_word (range_cond.Eq r) = codes "eq"
range_word (range_cond.Overlap r) = codes "overlap"
range_word (range_cond.Contains r) = codes "contains"
range_word (range_cond.Within r) = codes "within"
range_word (range_cond.Left r) = codes "left"
range_word (range_cond.Right r) = codes "right"

abbrev pub range_named : RangeCond → Option Point
range_named (range_cond.Eq r) = r
range_named (range_cond.Overlap r) = r
range_named (range_cond.Contains r) = r
range_named (range_cond.Within r) = r
range_named (range_cond.Left r) = r
range_named (range_cond.Right r) = r

-- a condition on ranges
abbrev pub range_cond_text : RangeCond → List ℕ
range_cond_text cond = range_word cond ++ 32 ∷ range_text (range_named cond)

-- two corners of a rectangle, the lower first
abbrev pub corners_text : ℤ → ℤ → ℤ → ℤ → List ℕ
corners_text x1 y1 x2 y2 = signed_decimal x1 ++ 44 ∷ (signed_decimal y1 ++ 44 ∷ (signed_decimal x2 ++ 44 ∷ signed_decimal y2))

-- a condition on points
abbrev pub cond_text : PointCond → List ℕ
cond_text (Eq point) = codes "eq " ++ point_text point
cond_text (Left x) = codes "left " ++ signed_decimal x
cond_text (Right x) = codes "right " ++ signed_decimal x
cond_text (Below y) = codes "below " ++ signed_decimal y
cond_text (Above y) = codes "above " ++ signed_decimal y
cond_text (Inside x1 y1 x2 y2) = codes "in " ++ corners_text x1 y1 x2 y2

-- a search for so many of the rows nearest to a point
abbrev pub near_text : Point → ℕ → List ℕ
near_text target limit = codes "near " ++ (point_text target ++ 32 ∷ decimal limit)

-- conditions in order: the first behind this word, each further one behind `and`
abbrev pub conds_text : {Cond : Type 0} → (Cond → List ℕ) → List ℕ → List Cond → List ℕ
conds_text spell word [] = []
conds_text spell word (c ∷ conds) = word ++ spell c ++ conds_text spell (codes " and ") conds

-- a row's numbers are in range
pub record IsRow (row : RowAt) : Type 0 where
  pub block : row.block < 2 ^ 32
  pub positive : 0 < row.offset
  pub offset : row.offset < 2 ^ 16

-- a point's coordinates are in range
pub record IsPoint (point : Point) : Type 0 where
  pub x : FitsSigned w32 point.x
  pub y : FitsSigned w32 point.y

-- a range's ends are in range and in order
abbrev pub IsRange : Option Point → Type 0
IsRange None = ⊤
IsRange (Some ends) = IsPoint ends × (ends.x ≤ℤ ends.y)

-- a condition's numbers are in range, and a rectangle's corners in order
abbrev pub IsCond : PointCond → Type 0
IsCond (Eq point) = IsPoint point
IsCond (Left x) = FitsSigned w32 x
IsCond (Right x) = FitsSigned w32 x
IsCond (Below y) = FitsSigned w32 y
IsCond (Above y) = FitsSigned w32 y
IsCond (Inside x1 y1 x2 y2) = IsPoint (record { x = x1; y = y1 }) × IsPoint (record { x = x2; y = y2 }) × (x1 ≤ℤ x2) × (y1 ≤ℤ y2)
