-- How a line spells a command of a class.
use Rattle.std.specs.Prelude.{◌≡◌, ◌<◌, ◌≤◌, ◌^◌, ℕ, Bool, true, false, List, [], ◌∷◌, ◌++◌, length, Option, Some, None, codes, nat_le, ◌==◌, ◌&&◌, ◌||◌}
use Rattle.std.specs.List.{list_all}
use Rattle.spg_base.specs.Text.{row_text, point_text}
use Rattle.spg_base.specs.declared.point.Point.{Point}
use Rattle.spg_radix.specs.declared.condition.TextCond.{TextCond}
use Rattle.spg_radix.specs.declared.condition.TextCond.TheVariants.{Eq, Lt, Le, Gt, Ge, Starts}
use Rattle.spg_radix.specs.Conditions.{named}
use Rattle.spg_script.specs.declared.class_line.ClassLine.{ClassLine}
use Rattle.spg_script.specs.declared.class_line.ClassLine.TheVariants.{Quad, Kd, Radix, QuadValue, KdValue, RadixValue, Range}
use Rattle.spg_script.specs.declared.key_form.KeyForm.{KeyForm}
use Rattle.spg_script.specs.declared.key_form.KeyForm.TheVariants as form
use Rattle.spg_script.specs.declared.any_key.AnyKey.{AnyKey}
use Rattle.spg_script.specs.declared.any_key.AnyKey.TheVariants as any_key
use Rattle.spg_script.specs.declared.any_cond.AnyCond.{AnyCond}
use Rattle.spg_script.specs.declared.any_cond.AnyCond.TheVariants as any_cond
use Rattle.spg_script.specs.declared.any_query.AnyQuery.{AnyQuery}
use Rattle.spg_script.specs.declared.any_query.AnyQuery.TheVariants.{All, Null, Where}
use Rattle.spg_script.specs.declared.command.Command.{Command}
use Rattle.spg_script.specs.declared.command.Command.TheVariants.{Insert, Delete, Find, Vacuum, Save, Stat, Near}
use Rattle.spg_script.specs.Quoted.{IsQuoted}
use Rattle.spg_script.specs.Spelling.{cond_text, value_text, range_text, range_named, range_cond_text, IsRow, IsPoint, IsRange, IsCond, near_text}

-- what the keys and conditions of a class are
abbrev pub keys_of : ClassLine → KeyForm
keys_of Quad = form.Point
keys_of Kd = form.Point
keys_of Radix = form.Text
keys_of QuadValue = form.PointValue
keys_of KdValue = form.PointValue
keys_of RadixValue = form.TextValue
keys_of Range = form.Range

abbrev pub form_of : AnyKey → KeyForm
form_of (any_key.Point point) = form.Point
form_of (any_key.Text text) = form.Text
form_of (any_key.PointValue point value) = form.PointValue
form_of (any_key.TextValue text value) = form.TextValue
form_of (any_key.Range range) = form.Range

-- the form without a number beside each key: that of the conditions
abbrev pub bare_form : KeyForm → KeyForm
bare_form form.Point = form.Point
bare_form form.Text = form.Text
bare_form form.PointValue = form.Point
bare_form form.TextValue = form.Text
bare_form form.Range = form.Range

abbrev pub cond_form : AnyCond → KeyForm
cond_form (any_cond.Point cond) = form.Point
cond_form (any_cond.Text cond) = form.Text
cond_form (any_cond.Range cond) = form.Range

-- a key of any form
abbrev pub SpellsAnyKey : AnyKey → List ℕ → Type 0
SpellsAnyKey (any_key.Point point) bytes = (bytes ≡ point_text point) × IsPoint point
SpellsAnyKey (any_key.Text text) bytes = IsQuoted text bytes []
SpellsAnyKey (any_key.PointValue point value) bytes = (bytes ≡ point_text point ++ value_text value) × IsPoint point × (value < 2 ^ 64)
SpellsAnyKey (any_key.TextValue text value) bytes = IsQuoted text bytes (value_text value) × (value < 2 ^ 64)
SpellsAnyKey (any_key.Range range) bytes = (bytes ≡ range_text range) × IsRange range

-- a key of this form
abbrev pub SpellsKey : KeyForm → AnyKey → List ℕ → Type 0
SpellsKey keys key bytes = (keys ≡ form_of key) × SpellsAnyKey key bytes

-- a key or a null
abbrev pub SpellsKeyOrNull : KeyForm → Option AnyKey → List ℕ → Type 0
SpellsKeyOrNull keys None bytes = bytes ≡ codes "null"
SpellsKeyOrNull keys (Some key) bytes = SpellsKey keys key bytes

-- the word of a condition on texts
abbrev pub word_of : TextCond → List ℕ
word_of (Eq t) = codes "eq"
word_of (Lt t) = codes "lt"
word_of (Le t) = codes "le"
word_of (Gt t) = codes "gt"
word_of (Ge t) = codes "ge"
word_of (Starts t) = codes "starts"

-- a condition on keys of any form, and what is left behind it
abbrev pub SpellsAnyCond : AnyCond → List ℕ → List ℕ → Type 0
SpellsAnyCond (any_cond.Point cond) bytes left = (bytes ≡ cond_text cond ++ left) × IsCond cond
SpellsAnyCond (any_cond.Text cond) bytes left = (text : List ℕ) × (bytes ≡ word_of cond ++ 32 ∷ text) × IsQuoted (named cond) text left
SpellsAnyCond (any_cond.Range cond) bytes left = (bytes ≡ range_cond_text cond ++ left) × IsRange (range_named cond)

-- a condition on keys of this form; no condition looks at a number
abbrev pub SpellsCond : KeyForm → AnyCond → List ℕ → List ℕ → Type 0
SpellsCond keys cond bytes left = (bare_form keys ≡ cond_form cond) × SpellsAnyCond cond bytes left

-- conditions in order: the first behind this word, each further one behind `and`
abbrev pub SpellsConds : KeyForm → List ℕ → List AnyCond → List ℕ → Type 0
SpellsConds keys word [] bytes = bytes ≡ []
SpellsConds keys word (c ∷ conds) bytes = (more : List ℕ) × (left : List ℕ) × (bytes ≡ word ++ more) × SpellsCond keys c more left × SpellsConds keys (codes " and ") conds left

-- a query, with 1 to 8 conditions
abbrev pub SpellsQuery : KeyForm → AnyQuery → List ℕ → Type 0
SpellsQuery keys All bytes = bytes ≡ codes "all"
SpellsQuery keys Null bytes = bytes ≡ codes "null"
SpellsQuery keys (Where conds) bytes = SpellsConds keys (codes "where ") conds bytes × (1 ≤ length conds) × (length conds ≤ 8)

-- a letter, a digit or `_`; or one of these, `-` or a dot
abbrev pub is_first_of_name : ℕ → Bool
is_first_of_name b = (nat_le 97 b && nat_le b 122) || (nat_le 48 b && nat_le b 57) || (b == 95)

abbrev pub is_in_name : ℕ → Bool
is_in_name b = is_first_of_name b || (b == 45) || (b == 46)

-- 1 to 64 of these, the first neither `-` nor a dot
abbrev pub is_name : List ℕ → Bool
is_name [] = false
is_name (b ∷ name) = is_first_of_name b && list_all is_in_name name && nat_le (length name) 63

-- a search for the nearest rows, 1 to 65,535 of them; of points without numbers alone
abbrev pub SpellsNear : KeyForm → Point → ℕ → List ℕ → Type 0
SpellsNear keys target limit line = (keys ≡ form.Point) × (line ≡ near_text target limit) × IsPoint target × (0 < limit) × (limit < 2 ^ 16)

-- a command
abbrev pub SpellsCommand : KeyForm → Command → List ℕ → Type 0
SpellsCommand keys (Insert row key) line = (bytes : List ℕ) × (line ≡ codes "insert " ++ row_text row ++ 32 ∷ bytes) × IsRow row × SpellsKeyOrNull keys key bytes
SpellsCommand keys (Find query) line = (bytes : List ℕ) × (line ≡ codes "find " ++ bytes) × SpellsQuery keys query bytes
SpellsCommand keys (Delete row) line = (line ≡ codes "delete " ++ row_text row) × IsRow row
SpellsCommand keys Vacuum line = line ≡ codes "vacuum"
SpellsCommand keys (Save name) line = (line ≡ codes "save " ++ name) × (is_name name ≡ true)
SpellsCommand keys Stat line = line ≡ codes "stat"
SpellsCommand keys (Near target limit) line = SpellsNear keys target limit line
