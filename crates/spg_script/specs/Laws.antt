-- What a command of a script is, apart from how it is spelled.
use Rattle.std.specs.Prelude.{◌≡◌, ◌<◌, ◌^◌, ℕ, true, Option, Some, None, ⊤, ◌≤◌, length}
use Rattle.std.specs.List.{AllByRecursion}
use Rattle.spg_radix.specs.Texts.{is_text}
use Rattle.spg_radix.specs.Conditions.{named}
use Rattle.spg_base.specs.declared.point.Point.{Point}
use Rattle.spg_script.specs.declared.any_key.AnyKey.{AnyKey}
use Rattle.spg_script.specs.declared.any_key.AnyKey.TheVariants as any_key
use Rattle.spg_script.specs.declared.any_cond.AnyCond.{AnyCond}
use Rattle.spg_script.specs.declared.any_cond.AnyCond.TheVariants as any_cond
use Rattle.spg_script.specs.declared.any_query.AnyQuery.{AnyQuery}
use Rattle.spg_script.specs.declared.any_query.AnyQuery.TheVariants.{All, Null, Where}
use Rattle.spg_script.specs.declared.command.Command.{Command}
use Rattle.spg_script.specs.declared.command.Command.TheVariants.{Insert, Delete, Find, Vacuum, Save, Stat, Near}
use Rattle.spg_script.specs.declared.key_form.KeyForm.{KeyForm}
use Rattle.spg_script.specs.declared.key_form.KeyForm.TheVariants as form
use Rattle.spg_script.specs.Spelling.{range_named, IsRow, IsPoint, IsRange, IsCond}
use Rattle.spg_script.specs.Line.{form_of, bare_form, cond_form, is_name}

-- a key's numbers are in range, its text short, and its ends in order
abbrev pub IsSoundKey : AnyKey → Type 0
IsSoundKey (any_key.Point point) = IsPoint point
IsSoundKey (any_key.Text text) = is_text text ≡ true
IsSoundKey (any_key.PointValue point value) = IsPoint point × (value < 2 ^ 64)
IsSoundKey (any_key.TextValue text value) = (is_text text ≡ true) × (value < 2 ^ 64)
IsSoundKey (any_key.Range range) = IsRange range

-- such a key, of this form
abbrev pub IsAnyKey : KeyForm → AnyKey → Type 0
IsAnyKey keys key = (keys ≡ form_of key) × IsSoundKey key

abbrev pub IsKeyOrNull : KeyForm → Option AnyKey → Type 0
IsKeyOrNull keys None = ⊤
IsKeyOrNull keys (Some key) = IsAnyKey keys key

-- the same of what a condition names
abbrev pub IsSoundCond : AnyCond → Type 0
IsSoundCond (any_cond.Point cond) = IsCond cond
IsSoundCond (any_cond.Text cond) = is_text (named cond) ≡ true
IsSoundCond (any_cond.Range cond) = IsRange (range_named cond)

abbrev pub IsAnyCond : KeyForm → AnyCond → Type 0
IsAnyCond keys cond = (bare_form keys ≡ cond_form cond) × IsSoundCond cond

abbrev pub IsQuery : KeyForm → AnyQuery → Type 0
IsQuery keys All = ⊤
IsQuery keys Null = ⊤
IsQuery keys (Where conds) = AllByRecursion (IsAnyCond keys) conds × (1 ≤ length conds) × (length conds ≤ 8)

-- a search for the nearest rows, 1 to 65,535 of them; of points without numbers alone
abbrev pub IsSearch : KeyForm → Point → ℕ → Type 0
IsSearch keys target limit = (keys ≡ form.Point) × IsPoint target × (0 < limit) × (limit < 2 ^ 16)

-- a command of a script of the class
abbrev pub IsCommand : KeyForm → Command → Type 0
IsCommand keys (Insert row key) = IsRow row × IsKeyOrNull keys key
IsCommand keys (Delete row) = IsRow row
IsCommand keys (Find query) = IsQuery keys query
IsCommand keys Vacuum = ⊤
IsCommand keys (Save name) = is_name name ≡ true
IsCommand keys Stat = ⊤
IsCommand keys (Near target limit) = IsSearch keys target limit
