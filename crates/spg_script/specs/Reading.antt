-- What each part of the reader makes of bytes. The lemmas show that it is what the bytes spell, and that nothing that
-- is spelled is missed.
use Rattle.std.specs.Prelude.{◌≡◌, ◌≤◌, ℕ, Bool, true, false, zero, suc, ◌+◌, ◌-◌, ◌*◌, ◌^◌, List, [], ◌∷◌, ◌++◌, length, take, drop, Option, Some, None, option_and_then, if◌then◌else◌, ◌==◌, nat_lt, nat_eq, ◌||◌, ◌&&◌, ℤ, pos, neg_ℤ, int_le, codes, bytes_eq}
use Rattle.std.specs.List.{starts_with}
use Rattle.std.specs.Borrow.{Bor}
use Rattle.spg_base.specs.Row.{RowAt}
use Rattle.spg_base.specs.declared.point.Point.{Point}
use Rattle.spg_base.specs.declared.point.PointCond.{PointCond}
use Rattle.spg_base.specs.declared.point.PointCond.TheVariants.{Eq, Left, Right, Below, Above, Inside}
use Rattle.spg_radix.specs.declared.condition.TextCond.{TextCond}
use Rattle.spg_radix.specs.declared.condition.TextCond.TheVariants as text_cond
use Rattle.spg_range.specs.declared.range.RangeCond.{RangeCond}
use Rattle.spg_range.specs.declared.range.RangeCond.TheVariants as range_cond
use Rattle.spg_script.specs.declared.key_form.KeyForm.{KeyForm}
use Rattle.spg_script.specs.declared.key_form.KeyForm.TheVariants as form
use Rattle.spg_script.specs.declared.any_key.AnyKey.{AnyKey}
use Rattle.spg_script.specs.declared.any_key.AnyKey.TheVariants as any_key
use Rattle.spg_script.specs.declared.any_cond.AnyCond.{AnyCond}
use Rattle.spg_script.specs.declared.any_cond.AnyCond.TheVariants as any_cond
use Rattle.spg_script.specs.declared.any_query.AnyQuery.TheVariants.{All, Null, Where}
use Rattle.spg_script.specs.declared.command.Command.{Command}
use Rattle.spg_script.specs.declared.command.Command.TheVariants.{Insert, Delete, Find, Vacuum, Save, Stat, Near}
use Rattle.spg_script.specs.Quoted.{first_byte}
use Rattle.spg_script.specs.Line.{bare_form, is_name}

infixl 10 ◌>>=◌
abbrev pub ◌>>=◌ : {A B : Type 0} → Option A → (A → Option B) → Option B
o >>= f = option_and_then f o

-- whether a byte is another than stop
abbrev pub is_other : ℕ → ℕ → Bool
is_other stop b = if b == stop then false else true

-- how many bytes stand before the first that is stop
abbrev pub len_before : ℕ → List ℕ → ℕ
len_before stop [] = 0
len_before stop (b ∷ bytes) = if b == stop then 0 else len_before stop bytes + 1

-- the number that the digits go on to spell, below top
abbrev pub value_from : ℕ → ℕ → List ℕ → Option ℕ
value_from top value [] = Some value
value_from top value (b ∷ bytes) =
    if nat_lt b 48 || nat_lt 57 b then None else (if nat_lt (value * 10 + (b - 48)) top then value_from top (value * 10 + (b - 48)) bytes else None)

-- the parts before and after the first byte that is stop
unfoldable pub split_at : ℕ → List ℕ → Option (List ℕ × List ℕ)
split_at stop bytes = if nat_lt (len_before stop bytes) (length bytes) then Some (take (len_before stop bytes) bytes, drop (len_before stop bytes + 1) bytes) else None

-- two slices as the lists in them
abbrev pub parts_of : Option (Bor (List ℕ) × Bor (List ℕ)) → Option (List ℕ × List ℕ)
parts_of None = None
parts_of (Some parts) = Some (parts.0.now, parts.1.now)

-- a number below top without a leading zero
abbrev pub number_below : ℕ → List ℕ → Option ℕ
number_below top [] = None
number_below top (b ∷ bytes) = if b == 48 then (if length bytes == 0 then Some 0 else None) else value_from top 0 (b ∷ bytes)

abbrev pub number_of : List ℕ → Option ℕ
number_of bytes = number_below (2 ^ 32) bytes

abbrev pub positive_of : List ℕ → Option ℤ
positive_of bytes = number_of bytes >>= λ n. if nat_lt n (2 ^ 31) then Some (pos n) else None

abbrev pub negative_of : List ℕ → Option ℤ
negative_of digits = number_of digits >>= λ n. if n == 0 || nat_lt (2 ^ 31) n then None else Some (neg_ℤ (pos n))

unfoldable pub coordinate_of : List ℕ → Option ℤ
coordinate_of [] = None
coordinate_of (b ∷ bytes) = if b == 45 then negative_of bytes else positive_of (b ∷ bytes)

abbrev pub row_at : ℕ → ℕ → Option RowAt
row_at block offset = if nat_lt offset (2 ^ 16) then (if offset == 0 then None else Some (record { block = block; offset = offset })) else None

unfoldable pub row_of : List ℕ → Option RowAt
row_of bytes = do
  parts ← split_at 46 bytes
  block ← number_of parts.0
  offset ← number_of parts.1
  row_at block offset

unfoldable pub point_of : List ℕ → Option Point
point_of bytes = do
  parts ← split_at 44 bytes
  x ← coordinate_of parts.0
  y ← coordinate_of parts.1
  Some (record { x = x; y = y })

-- a rectangle whose corners are in order
abbrev pub ordered : ℤ → ℤ → ℤ → ℤ → Option PointCond
ordered x1 y1 x2 y2 = if int_le x1 x2 && int_le y1 y2 then Some (Inside x1 y1 x2 y2) else None

unfoldable pub inside_of : List ℕ → Option PointCond
inside_of bytes = do
  first ← split_at 44 bytes
  second ← split_at 44 first.1
  third ← split_at 44 second.1
  x1 ← coordinate_of first.0
  y1 ← coordinate_of second.0
  x2 ← coordinate_of third.0
  y2 ← coordinate_of third.1
  ordered x1 y1 x2 y2

-- a condition on points, of a kind
unfoldable pub cond_of : List ℕ → List ℕ → Option PointCond
cond_of kind bytes =
    if bytes_eq kind (codes "eq") then (point_of bytes >>= λ p. Some (Eq p))
    else (if bytes_eq kind (codes "left") then (coordinate_of bytes >>= λ x. Some (Left x))
    else (if bytes_eq kind (codes "right") then (coordinate_of bytes >>= λ x. Some (Right x))
    else (if bytes_eq kind (codes "below") then (coordinate_of bytes >>= λ y. Some (Below y))
    else (if bytes_eq kind (codes "above") then (coordinate_of bytes >>= λ y. Some (Above y))
    else (if bytes_eq kind (codes "in") then inside_of bytes else None)))))

-- what follows this front
abbrev pub after : List ℕ → List ℕ → Option (List ℕ)
after front bytes = if starts_with nat_eq bytes front then Some (drop (length front) bytes) else None

-- what stands between brackets, with nothing behind them
unfoldable pub bracketed : List ℕ → Option (List ℕ)
bracketed bytes = do
  inner ← after (codes "[") bytes
  parts ← split_at 93 inner
  if length parts.1 == 0 then Some parts.0 else None

-- a range whose ends are in order
abbrev pub range_from : Point → Option (Option Point)
range_from ends = if int_le ends.x ends.y then Some (Some ends) else None

unfoldable pub range_of : List ℕ → Option (Option Point)
range_of bytes = if bytes_eq bytes (codes "empty") then Some None else (bracketed bytes >>= λ inner. point_of inner >>= λ ends. range_from ends)

-- a condition on ranges, of a kind
unfoldable pub range_cond_of : List ℕ → Option Point → Option RangeCond
range_cond_of kind range =
    if bytes_eq kind (codes "eq") then Some (range_cond.Eq range)
    else (if bytes_eq kind (codes "overlap") then Some (range_cond.Overlap range)
    else (if bytes_eq kind (codes "contains") then Some (range_cond.Contains range)
    else (if bytes_eq kind (codes "within") then Some (range_cond.Within range)
    else (if bytes_eq kind (codes "left") then Some (range_cond.Left range)
    else (if bytes_eq kind (codes "right") then Some (range_cond.Right range) else None)))))

-- a byte, and the text behind it
abbrev pub byte_and_text : (List ℕ → Option (List ℕ × List ℕ)) → Option (ℕ × List ℕ) → Option (List ℕ × List ℕ)
byte_and_text read first = first >>= λ one. read one.1 >>= λ more. Some (one.0 ∷ more.0, more.1)

-- what follows a quote, where the bytes begin with one
abbrev pub after_quote : List ℕ → Option (List ℕ)
after_quote [] = None
after_quote (b ∷ bytes) = if b == 34 then Some bytes else None

-- the text that has ended, where a quote stands there, else a longer one
abbrev pub end_or : Option (List ℕ × List ℕ) → Option (List ℕ) → Option (List ℕ × List ℕ)
end_or more None = more
end_or more (Some left) = Some ([], left)

-- a text of fewer bytes than this up to a quote, and what is left
unfoldable pub text_of : ℕ → List ℕ → Option (List ℕ × List ℕ)
text_of zero bytes = None
text_of (suc n) bytes = end_or (byte_and_text (text_of n) (first_byte bytes)) (after_quote bytes)

-- bytes that stand before a text
abbrev pub put_bytes : List ℕ → Option (List ℕ × List ℕ) → Option (List ℕ × List ℕ)
put_bytes front None = None
put_bytes front (Some more) = Some (front ++ more.0, more.1)

-- a text that was read further: what is read in all is the same, and it is not too long
pub record ReadsOn (text bytes longer rest : List ℕ) : Type 0 where
  pub same : put_bytes text (text_of (3901 - length text) bytes) ≡ put_bytes longer (text_of (3901 - length longer) rest)
  pub few : length longer ≤ 3900
  pub grows : length text ≤ length longer

-- a text between quotes, and what is left
unfoldable pub quoted_of : List ℕ → Option (List ℕ × List ℕ)
quoted_of bytes = after_quote bytes >>= λ inner. text_of 3901 inner

-- a condition on keys, of a kind
unfoldable pub text_cond_of : List ℕ → List ℕ → Option TextCond
text_cond_of kind text =
    if bytes_eq kind (codes "eq") then Some (text_cond.Eq text)
    else (if bytes_eq kind (codes "lt") then Some (text_cond.Lt text)
    else (if bytes_eq kind (codes "le") then Some (text_cond.Le text)
    else (if bytes_eq kind (codes "gt") then Some (text_cond.Gt text)
    else (if bytes_eq kind (codes "ge") then Some (text_cond.Ge text)
    else (if bytes_eq kind (codes "starts") then Some (text_cond.Starts text) else None)))))

-- the first condition of a class, and what is left behind its value
unfoldable pub point_cond_then : List ℕ → Option (PointCond × List ℕ)
point_cond_then bytes = do
  parts ← split_at 32 bytes
  cond ← cond_of parts.0 (take (len_before 32 parts.1) parts.1)
  Some (cond, drop (len_before 32 parts.1) parts.1)

unfoldable pub text_cond_then : List ℕ → Option (TextCond × List ℕ)
text_cond_then bytes = do
  parts ← split_at 32 bytes
  text ← quoted_of parts.1
  cond ← text_cond_of parts.0 text.0
  Some (cond, text.1)

unfoldable pub range_cond_then : List ℕ → Option (RangeCond × List ℕ)
range_cond_then bytes = do
  parts ← split_at 32 bytes
  range ← range_of (take (len_before 32 parts.1) parts.1)
  cond ← range_cond_of parts.0 range
  Some (cond, drop (len_before 32 parts.1) parts.1)

-- a condition on keys of a form without numbers
abbrev pub bare_cond_then : KeyForm → List ℕ → Option (AnyCond × List ℕ)
bare_cond_then form.Point bytes = point_cond_then bytes >>= λ first. Some (any_cond.Point first.0, first.1)
bare_cond_then form.Text bytes = text_cond_then bytes >>= λ first. Some (any_cond.Text first.0, first.1)
bare_cond_then form.PointValue bytes = None
bare_cond_then form.TextValue bytes = None
bare_cond_then form.Range bytes = range_cond_then bytes >>= λ first. Some (any_cond.Range first.0, first.1)

unfoldable pub cond_then : KeyForm → List ℕ → Option (AnyCond × List ℕ)
cond_then keys bytes = bare_cond_then (bare_form keys) bytes

-- a condition, and what follows its `and`, where one follows
abbrev pub cond_and : AnyCond → List ℕ → Option (AnyCond × Option (List ℕ))
cond_and cond left = if length left == 0 then Some (cond, None) else (after (codes " and ") left >>= λ more. Some (cond, Some more))

unfoldable pub first_cond_of : KeyForm → List ℕ → Option (AnyCond × Option (List ℕ))
first_cond_of keys bytes = cond_then keys bytes >>= λ first. cond_and first.0 first.1

-- a slice as the list in it
abbrev pub now_of : Option (Bor (List ℕ)) → Option (List ℕ)
now_of None = None
now_of (Some slice) = Some slice.now

-- what was read, and a slice behind it as the list in it
abbrev pub told : {A : Type 0} → Option (A × Bor (List ℕ)) → Option (A × List ℕ)
told None = None
told (Some first) = Some (first.0, first.1.now)

abbrev pub told_cond : Option (AnyCond × Option (Bor (List ℕ))) → Option (AnyCond × Option (List ℕ))
told_cond None = None
told_cond (Some first) = Some (first.0, now_of first.1)

-- at most so many conditions
abbrev pub more_conds : (List ℕ → Option (List AnyCond)) → Option (AnyCond × Option (List ℕ)) → Option (List AnyCond)
more_conds read None = None
more_conds read (Some (c, None)) = Some (c ∷ [])
more_conds read (Some (c, Some more)) = read more >>= λ conds. Some (c ∷ conds)

-- conditions that stand before those of a reading
abbrev pub put_before : List AnyCond → Option (List AnyCond) → Option (List AnyCond)
put_before front None = None
put_before front (Some conds) = Some (front ++ conds)

unfoldable pub conds_of : KeyForm → ℕ → List ℕ → Option (List AnyCond)
conds_of keys zero bytes = None
conds_of keys (suc n) bytes = more_conds (conds_of keys n) (first_cond_of keys bytes)

-- a text between quotes, and nothing behind it
unfoldable pub whole_text_of : List ℕ → Option (List ℕ)
whole_text_of bytes = quoted_of bytes >>= λ text. if length text.1 == 0 then Some text.0 else None

-- the number beside a key, behind it
unfoldable pub value_behind : List ℕ → Option ℕ
value_behind bytes = after (codes " value ") bytes >>= λ digits. number_below (2 ^ 64) digits

-- a point and the number beside it
unfoldable pub point_value_of : List ℕ → Option AnyKey
point_value_of bytes = do
  point ← point_of (take (len_before 32 bytes) bytes)
  value ← value_behind (drop (len_before 32 bytes) bytes)
  Some (any_key.PointValue point value)

-- a text and the number beside it
unfoldable pub text_value_of : List ℕ → Option AnyKey
text_value_of bytes = do
  text ← quoted_of bytes
  value ← value_behind text.1
  Some (any_key.TextValue text.0 value)

unfoldable pub any_key_of : KeyForm → List ℕ → Option AnyKey
any_key_of form.Point bytes = point_of bytes >>= λ point. Some (any_key.Point point)
any_key_of form.Text bytes = whole_text_of bytes >>= λ text. Some (any_key.Text text)
any_key_of form.PointValue bytes = point_value_of bytes
any_key_of form.TextValue bytes = text_value_of bytes
any_key_of form.Range bytes = range_of bytes >>= λ range. Some (any_key.Range range)

unfoldable pub key_of : KeyForm → List ℕ → Option (Option AnyKey)
key_of keys bytes = if bytes_eq bytes (codes "null") then Some None else (any_key_of keys bytes >>= λ key. Some (Some key))

unfoldable pub insert_of : KeyForm → List ℕ → Option Command
insert_of keys bytes = do
  parts ← split_at 32 bytes
  row ← row_of parts.0
  key ← key_of keys parts.1
  Some (Insert row key)

unfoldable pub find_of : KeyForm → List ℕ → Option Command
find_of keys bytes =
    if bytes_eq bytes (codes "all") then Some (Find All)
    else (if bytes_eq bytes (codes "null") then Some (Find Null)
    else (if starts_with nat_eq bytes (codes "where ") then (conds_of keys 8 (drop 6 bytes) >>= λ conds. Some (Find (Where conds))) else None))

unfoldable pub delete_of : List ℕ → Option Command
delete_of bytes = row_of bytes >>= λ row. Some (Delete row)

unfoldable pub save_of : List ℕ → Option Command
save_of bytes = if is_name bytes then Some (Save bytes) else None

-- a search for so many rows, from 1 to 65,535
abbrev pub near_at : Point → ℕ → Option Command
near_at target limit = if limit == 0 || nat_lt 65535 limit then None else Some (Near target limit)

abbrev pub near_behind : List ℕ → Option Command
near_behind bytes = split_at 32 bytes >>= λ parts. point_of parts.0 >>= λ target. number_of parts.1 >>= λ limit. near_at target limit

-- of points without numbers alone
unfoldable pub near_of : KeyForm → List ℕ → Option Command
near_of form.Point bytes = near_behind bytes
near_of form.Text bytes = None
near_of form.PointValue bytes = None
near_of form.TextValue bytes = None
near_of form.Range bytes = None

unfoldable pub command_of : KeyForm → List ℕ → Option Command
command_of keys bytes =
    if starts_with nat_eq bytes (codes "insert ") then insert_of keys (drop 7 bytes)
    else (if starts_with nat_eq bytes (codes "find ") then find_of keys (drop 5 bytes)
    else (if starts_with nat_eq bytes (codes "delete ") then delete_of (drop 7 bytes)
    else (if starts_with nat_eq bytes (codes "near ") then near_of keys (drop 5 bytes)
    else (if starts_with nat_eq bytes (codes "save ") then save_of (drop 5 bytes)
    else (if bytes_eq bytes (codes "vacuum") then Some Vacuum
    else (if bytes_eq bytes (codes "stat") then Some Stat else None))))))
