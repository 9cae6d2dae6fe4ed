-- How a class's keys and conditions are those of a script, and how they are spelled.
use Rattle.std.specs.Prelude.{◌≡◌, ℕ, Bool, true, List, [], ◌∷◌, ◌++◌, false, Option, Some, None, option_map, option_and_then, codes, ⊤}
use Rattle.spg_base.specs.Text.{point_text}
use Rattle.spg_base.specs.declared.point.Point.{Point}
use Rattle.spg_base.specs.declared.point.PointCond.{PointCond}
use Rattle.spg_opclass.specs.declared.included.WithKey.{WithKey}
use Rattle.spg_opclass.specs.declared.query.Query.{Query}
use Rattle.spg_opclass.specs.declared.query.Query.TheVariants as query
use Rattle.spg_radix.specs.declared.condition.TextCond.{TextCond}
use Rattle.spg_radix.specs.Conditions.{named}
use Rattle.spg_range.specs.declared.range.RangeCond.{RangeCond}
use Rattle.spg_script.specs.declared.key_form.KeyForm.{KeyForm}
use Rattle.spg_script.specs.declared.key_form.KeyForm.TheVariants as form
use Rattle.spg_script.specs.declared.any_key.AnyKey.{AnyKey}
use Rattle.spg_script.specs.declared.any_key.AnyKey.TheVariants as any_key
use Rattle.spg_script.specs.declared.any_cond.AnyCond.{AnyCond}
use Rattle.spg_script.specs.declared.any_cond.AnyCond.TheVariants as any_cond
use Rattle.spg_script.specs.declared.any_query.AnyQuery.{AnyQuery}
use Rattle.spg_script.specs.declared.any_query.AnyQuery.TheVariants.{All, Null, Where}
use Rattle.spg_script.specs.declared.command.Command.{Command}
use Rattle.spg_script.specs.declared.command.Command.TheVariants.{Insert, Delete, Find, Vacuum, Save, Stat, Near}
use Rattle.spg_script.specs.Quoted.{quoted}
use Rattle.spg_script.specs.Spelling.{cond_text, conds_text, value_text, range_text, range_cond_text}
use Rattle.spg_script.specs.Line.{word_of}
use Rattle.spg_script.specs.Laws.{IsAnyKey, IsAnyCond}

pub record Speech (Key Cond : Type 0) : Type 0 where
  -- what a script's key and condition are in the class, where it has such
  pub key_in : AnyKey → Option Key
  pub cond_in : AnyCond → Option Cond
  -- how the class's are spelled
  pub key_text : Key → List ℕ
  pub cond_text : Cond → List ℕ
  -- the number beside a key, where the class has such
  pub value_of : Key → Option ℕ

-- the key of a class, or the null, that a script names
abbrev pub key_or_null_in : {Key Cond : Type 0} → Speech Key Cond → Option AnyKey → Option (Option Key)
key_or_null_in speech None = Some None
key_or_null_in speech (Some key) = option_map (λ k. Some k) (speech.key_in key)

-- the conditions of a class that a script names
abbrev pub conds_in : {Key Cond : Type 0} → Speech Key Cond → List AnyCond → Option (List Cond)
conds_in speech [] = Some []
conds_in speech (c ∷ conds) = option_and_then (λ d. option_map (λ found. d ∷ found) (conds_in speech conds)) (speech.cond_in c)

-- the query of a class that a script asks
abbrev pub query_in : {O Key Recon Cond : Type 0} → Speech Key Cond → AnyQuery → Option (Query O Key Recon Cond)
query_in speech All = Some query.All
query_in speech Null = Some query.Null
query_in speech (Where conds) = option_map (λ found. query.Where found) (conds_in speech conds)

-- the class has the keys and conditions of a command
abbrev pub IsKnown : {Key Cond : Type 0} → Speech Key Cond → Command → Type 0
IsKnown {Key} speech (Insert row key) = (k : Option Key) × (key_or_null_in speech key ≡ Some k)
IsKnown speech (Find All) = ⊤
IsKnown speech (Find Null) = ⊤
IsKnown {Cond = Cond} speech (Find (Where conds)) = (found : List Cond) × (conds_in speech conds ≡ Some found)
IsKnown speech (Delete row) = ⊤
IsKnown speech Vacuum = ⊤
IsKnown speech (Save name) = ⊤
IsKnown speech Stat = ⊤
IsKnown {Key} speech (Near target limit) = (k : Key) × (speech.key_in (any_key.Point target) ≡ Some k)

-- a key, or a null
abbrev pub key_or_null_text : {Key Cond : Type 0} → Speech Key Cond → Option Key → List ℕ
key_or_null_text speech None = codes "null"
key_or_null_text speech (Some key) = speech.key_text key

-- a query
abbrev pub query_text : {O Key Recon Cond : Type 0} → Speech Key Cond → Query O Key Recon Cond → List ℕ
query_text speech query.All = codes "all"
query_text speech query.Null = codes "null"
query_text speech (query.Where conds) = conds_text speech.cond_text (codes "where ") conds

-- the points among a script's keys and conditions
abbrev pub point_in : AnyKey → Option Point
point_in (any_key.Point point) = Some point
point_in (any_key.Text text) = None
point_in (any_key.PointValue point value) = None
point_in (any_key.TextValue text value) = None
point_in (any_key.Range range) = None

abbrev pub point_cond_in : AnyCond → Option PointCond
point_cond_in (any_cond.Point cond) = Some cond
point_cond_in (any_cond.Text cond) = None
point_cond_in (any_cond.Range cond) = None

-- a class of points
abbrev pub point_speech : Speech Point PointCond
point_speech = record { key_in = point_in; cond_in = point_cond_in; key_text = point_text; cond_text = cond_text; value_of = λ _. None }

-- the texts among them
abbrev pub text_in : AnyKey → Option (List ℕ)
text_in (any_key.Point point) = None
text_in (any_key.Text text) = Some text
text_in (any_key.PointValue point value) = None
text_in (any_key.TextValue text value) = None
text_in (any_key.Range range) = None

abbrev pub text_cond_in : AnyCond → Option TextCond
text_cond_in (any_cond.Point cond) = None
text_cond_in (any_cond.Text cond) = Some cond
text_cond_in (any_cond.Range cond) = None

-- a condition on texts
abbrev pub text_cond_text : TextCond → List ℕ
text_cond_text cond = word_of cond ++ 32 ∷ quoted (named cond)

-- a class of texts
abbrev pub text_speech : Speech (List ℕ) TextCond
text_speech = record { key_in = text_in; cond_in = text_cond_in; key_text = quoted; cond_text = text_cond_text; value_of = λ _. None }

-- the ranges among them
abbrev pub range_in : AnyKey → Option (Option Point)
range_in (any_key.Point point) = None
range_in (any_key.Text text) = None
range_in (any_key.PointValue point value) = None
range_in (any_key.TextValue text value) = None
range_in (any_key.Range range) = Some range

abbrev pub range_cond_in : AnyCond → Option RangeCond
range_cond_in (any_cond.Point cond) = None
range_cond_in (any_cond.Text cond) = None
range_cond_in (any_cond.Range cond) = Some cond

-- a class of ranges
abbrev pub range_speech : Speech (Option Point) RangeCond
range_speech = record { key_in = range_in; cond_in = range_cond_in; key_text = range_text; cond_text = range_cond_text; value_of = λ _. None }

-- the key alone, and the number beside it
abbrev pub parted : AnyKey → Option (AnyKey × ℕ)
parted (any_key.Point point) = None
parted (any_key.Text text) = None
parted (any_key.PointValue point value) = Some (any_key.Point point, value)
parted (any_key.TextValue text value) = Some (any_key.Text text, value)
parted (any_key.Range range) = None

abbrev pub with_value : {Key : Type 0} → ℕ → Option Key → Option (WithKey Key)
with_value value None = None
with_value value (Some key) = Some (record { key = key; value = value })

abbrev pub joined : {Key : Type 0} → (AnyKey → Option Key) → Option (AnyKey × ℕ) → Option (WithKey Key)
joined key_in None = None
joined key_in (Some parts) = with_value parts.1 (key_in parts.0)

-- the class with a number beside each key
abbrev pub value_speech : {Key Cond : Type 0} → Speech Key Cond → Speech (WithKey Key) Cond
value_speech speech = record {
  key_in = λ key. joined speech.key_in (parted key);
  cond_in = speech.cond_in;
  key_text = λ k. speech.key_text k.key ++ value_text k.value;
  cond_text = speech.cond_text;
  value_of = λ k. Some k.value;
}

abbrev pub point_value_speech : Speech (WithKey Point) PointCond
point_value_speech = value_speech point_speech

abbrev pub text_value_speech : Speech (WithKey (List ℕ)) TextCond
text_value_speech = value_speech text_speech

-- ---- what `print` writes

abbrev pub any_key_text : AnyKey → List ℕ
any_key_text (any_key.Point point) = point_text point
any_key_text (any_key.Text text) = quoted text
any_key_text (any_key.PointValue point value) = point_text point ++ value_text value
any_key_text (any_key.TextValue text value) = quoted text ++ value_text value
any_key_text (any_key.Range range) = range_text range

abbrev pub any_cond_text : AnyCond → List ℕ
any_cond_text (any_cond.Point cond) = cond_text cond
any_cond_text (any_cond.Text cond) = text_cond_text cond
any_cond_text (any_cond.Range cond) = range_cond_text cond

abbrev pub any_key_or_null_text : Option AnyKey → List ℕ
any_key_or_null_text None = codes "null"
any_key_or_null_text (Some key) = any_key_text key

abbrev pub any_query_text : AnyQuery → List ℕ
any_query_text All = codes "all"
any_query_text Null = codes "null"
any_query_text (Where conds) = conds_text any_cond_text (codes "where ") conds

-- a class spells its keys and conditions as `print` does
pub record SpeaksAsPrinted {Key Cond : Type 0} (speech : Speech Key Cond) : Type 0 where
  pub key : (a : AnyKey) (k : Key) → speech.key_in a ≡ Some k → speech.key_text k ≡ any_key_text a
  pub cond : (a : AnyCond) (c : Cond) → speech.cond_in a ≡ Some c → speech.cond_text c ≡ any_cond_text a

-- scripts of a class with such keys name each key that the class has
abbrev pub NamesKeys : {Key Cond : Type 0} → KeyForm → (Key → Bool) → Speech Key Cond → Type 0
NamesKeys {Key} keys is_key speech = (k : Key) → is_key k ≡ true → (a : AnyKey) × (speech.key_in a ≡ Some k) × IsAnyKey keys a

-- the form with a number beside each key, where those without it are points or texts
abbrev pub value_form : KeyForm → KeyForm
value_form form.Point = form.PointValue
value_form form.Text = form.TextValue
value_form form.PointValue = form.PointValue
value_form form.TextValue = form.TextValue
value_form form.Range = form.Range

-- the keys are points or texts, without a number
abbrev pub takes_value : KeyForm → Bool
takes_value form.Point = true
takes_value form.Text = true
takes_value form.PointValue = false
takes_value form.TextValue = false
takes_value form.Range = false

-- no key has a number
abbrev pub HasNoValues : {Key Cond : Type 0} → Speech Key Cond → Type 0
HasNoValues {Key} speech = (k : Key) → speech.value_of k ≡ None

-- the class has each key and each condition that scripts of such keys name
pub record Knows {Key Cond : Type 0} (keys : KeyForm) (speech : Speech Key Cond) : Type 0 where
  pub key : (a : AnyKey) → IsAnyKey keys a → (k : Key) × (speech.key_in a ≡ Some k)
  pub cond : (a : AnyCond) → IsAnyCond keys a → (c : Cond) × (speech.cond_in a ≡ Some c)
