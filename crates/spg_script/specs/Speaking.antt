-- Each class spells its keys and conditions as scripts are printed, and scripts name each of its keys.
use Rattle.std.proofs.Common.{◌≡◌, ◌<◌, ◌^◌, ◌++◌, ◌∙◌, refl, sym, ap, arith, ℕ, ℤ, pos, negsuc, ◌≤ℤ◌, Bool, true, false, ◌&&◌, w32, FitsSigned, List, [], ◌∷◌, Option, None, Some}
use Rattle.std.specs.Prelude.{int_le, nat_lt}
use Rattle.std.proofs.lemmas.Bool.{ltb-true}
use Rattle.std.specs.List.{AllByRecursion}
use Rattle.std.proofs.lemmas.Int.{ints}
use Rattle.std.proofs.lemmas.Option.{same_Some}
use Rattle.spg_base.specs.Text.{point_text}
use Rattle.spg_base.specs.Points.{is_between}
use Rattle.spg_points.specs.Codec.{lowest, highest, is_coordinate, is_point}
use Rattle.spg_radix.specs.Texts.{is_text}
use Rattle.spg_base.specs.declared.point.Point.{Point}
use Rattle.spg_base.specs.declared.point.PointCond.{PointCond}
use Rattle.spg_radix.specs.declared.condition.TextCond.{TextCond}
use Rattle.spg_range.specs.declared.range.RangeCond.{RangeCond}
use Rattle.spg_range.specs.Ranges.{is_range, is_ordered}
use Rattle.spg_opclass.specs.Meaning.{Meaning}
use Rattle.spg_opclass.specs.Included.{has_room, with_meaning}
use Rattle.spg_opclass.specs.declared.included.WithKey.{WithKey}
use Rattle.spg_script.specs.declared.key_form.KeyForm.{KeyForm}
use Rattle.spg_script.specs.declared.key_form.KeyForm.TheVariants as form
use Rattle.spg_script.specs.declared.any_key.AnyKey.{AnyKey}
use Rattle.spg_script.specs.declared.any_key.AnyKey.TheVariants as any_key
use Rattle.spg_script.specs.declared.any_cond.AnyCond.{AnyCond}
use Rattle.spg_script.specs.declared.any_cond.AnyCond.TheVariants as any_cond
use Rattle.spg_script.specs.declared.any_query.AnyQuery.{AnyQuery}
use Rattle.spg_script.specs.declared.any_query.AnyQuery.TheVariants.{All, Null, Where}
use Rattle.spg_script.specs.declared.command.Command.{Command}
use Rattle.spg_script.specs.declared.command.Command.TheVariants.{Insert, Delete, Find, Vacuum, Save, Stat, Near}
use Rattle.spg_script.specs.Quoted.{quoted}
use Rattle.spg_script.specs.Spelling.{IsPoint, cond_text, value_text, range_text, range_cond_text}
use Rattle.spg_script.specs.Line.{bare_form}
use Rattle.spg_script.specs.Laws.{IsAnyKey, IsAnyCond, IsQuery, IsCommand}
use Rattle.spg_script.specs.Speech.{Speech, Knows, IsKnown, conds_in, SpeaksAsPrinted, NamesKeys, HasNoValues, value_form, takes_value, parted, with_value, joined, value_speech, range_in, range_cond_in, range_speech, point_speech, text_speech, any_key_text, any_cond_text, point_in, point_cond_in, text_in, text_cond_in, text_cond_text}

both : (a b : Bool) → (a && b) ≡ true → (a ≡ true) × (b ≡ true)
both true b is = (refl, is)
both false b is = (cc)

le_is : (a b : ℤ) → int_le a b ≡ true → a ≤ℤ b
le_is a b is = omega (arith, ints)

text_key : (a : AnyKey) (k : List ℕ) → text_in a ≡ Some k → quoted k ≡ any_key_text a
text_key (any_key.Point point) k is = cc
text_key (any_key.Text text) k is = ap quoted (sym (same_Some text k is))
text_key (any_key.PointValue point value) k is = cc
text_key (any_key.TextValue text value) k is = cc
text_key (any_key.Range range) k is = cc

text_cond : (a : AnyCond) (c : TextCond) → text_cond_in a ≡ Some c → text_cond_text c ≡ any_cond_text a
text_cond (any_cond.Point cond) c is = cc
text_cond (any_cond.Text cond) c is = ap text_cond_text (sym (same_Some cond c is))
text_cond (any_cond.Range cond) c is = cc

pub text_speaks : SpeaksAsPrinted text_speech
text_speaks = record { key = text_key; cond = text_cond }

point_key : (a : AnyKey) (k : Point) → point_in a ≡ Some k → point_text k ≡ any_key_text a
point_key (any_key.Point point) k is = ap point_text (sym (same_Some point k is))
point_key (any_key.Text text) k is = cc
point_key (any_key.PointValue point value) k is = cc
point_key (any_key.TextValue text value) k is = cc
point_key (any_key.Range range) k is = cc

point_cond : (a : AnyCond) (c : PointCond) → point_cond_in a ≡ Some c → cond_text c ≡ any_cond_text a
point_cond (any_cond.Point cond) c is = ap cond_text (sym (same_Some cond c is))
point_cond (any_cond.Text cond) c is = cc
point_cond (any_cond.Range cond) c is = cc

pub point_speaks : SpeaksAsPrinted point_speech
point_speaks = record { key = point_key; cond = point_cond }

range_key : (a : AnyKey) (k : Option Point) → range_in a ≡ Some k → range_text k ≡ any_key_text a
range_key (any_key.Point point) k is = cc
range_key (any_key.Text text) k is = cc
range_key (any_key.PointValue point value) k is = cc
range_key (any_key.TextValue text value) k is = cc
range_key (any_key.Range range) k is = ap range_text (sym (same_Some range k is))

range_cond : (a : AnyCond) (c : RangeCond) → range_cond_in a ≡ Some c → range_cond_text c ≡ any_cond_text a
range_cond (any_cond.Point cond) c is = cc
range_cond (any_cond.Text cond) c is = cc
range_cond (any_cond.Range cond) c is = ap range_cond_text (sym (same_Some cond c is))

pub range_speaks : SpeaksAsPrinted range_speech
range_speaks = record { key = range_key; cond = range_cond }

-- a class with a number beside each key speaks as the class does
joined_text : {Key Cond : Type 0} (speech : Speech Key Cond) (b a : AnyKey) (value : ℕ) (k : WithKey Key) → SpeaksAsPrinted speech → any_key_text b ++ value_text value ≡ any_key_text a → joined speech.key_in (Some (b, value)) ≡ Some k
    → speech.key_text k.key ++ value_text k.value ≡ any_key_text a
joined_text {Key} speech b a value k speaks all is = go (speech.key_in b) refl is
  where
    go : (o : Option Key) → speech.key_in b ≡ o → with_value value o ≡ Some k → speech.key_text k.key ++ value_text k.value ≡ any_key_text a
    go None e h = (cc)
    go (Some x) e h = rw (sym (same_Some _ k h)) (ap (λ l. l ++ value_text value) (speaks.key b x e) ∙ all)

value_key : {Key Cond : Type 0} (speech : Speech Key Cond) → SpeaksAsPrinted speech → (a : AnyKey) (k : WithKey Key) → joined speech.key_in (parted a) ≡ Some k → speech.key_text k.key ++ value_text k.value ≡ any_key_text a
value_key speech speaks (any_key.Point point) k is = (cc)
value_key speech speaks (any_key.Text text) k is = (cc)
value_key speech speaks (any_key.PointValue point value) k is = joined_text speech (any_key.Point point) (any_key.PointValue point value) value k speaks refl is
value_key speech speaks (any_key.TextValue text value) k is = joined_text speech (any_key.Text text) (any_key.TextValue text value) value k speaks refl is
value_key speech speaks (any_key.Range range) k is = (cc)

pub value_speaks : {Key Cond : Type 0} (speech : Speech Key Cond) → SpeaksAsPrinted speech → SpeaksAsPrinted (value_speech speech)
value_speaks speech speaks = record { key = value_key speech speaks; cond = speaks.cond }

pub no_values_point : HasNoValues point_speech
no_values_point k = refl

pub no_values_text : HasNoValues text_speech
no_values_text k = refl

pub no_values_range : HasNoValues range_speech
no_values_range k = refl

pub text_names : NamesKeys form.Text is_text text_speech
text_names k is = (any_key.Text k, refl, (refl, is))

-- a coordinate in range is one of 32 bits
between_is : (low z high : ℤ) → is_between low z high ≡ true → (low ≤ℤ z) × (z ≤ℤ high)
unfolding is_between
between_is low z high is = let c = both (int_le low z) (int_le z high) is in (le_is low z c.0, le_is z high c.1)

coordinate_fits : (z : ℤ) → is_coordinate z ≡ true → FitsSigned w32 z
coordinate_fits (pos n) is = let b = between_is lowest (pos n) highest is in record { sfits = omega (arith, ints) }
coordinate_fits (negsuc n) is = let b = between_is lowest (negsuc n) highest is in record { sfits = omega (arith, ints) }

point_fits : (k : Point) → is_point k ≡ true → IsPoint k
point_fits k is = let c = both (is_coordinate k.x) (is_coordinate k.y) is in record { x = coordinate_fits k.x c.0; y = coordinate_fits k.y c.1 }

pub point_names : NamesKeys form.Point is_point point_speech
point_names k is = (any_key.Point k, refl, (refl, point_fits k is))

pub range_names : NamesKeys form.Range is_range range_speech
range_names None is = (any_key.Range None, refl, (refl, tt))
range_names (Some ends) is = let c = both (is_point ends) (is_ordered ends) is in (any_key.Range (Some ends), refl, (refl, (point_fits ends c.0, le_is ends.x ends.y c.1)))

-- a number joins the name of a key
join_names : {Key Cond : Type 0} (keys : KeyForm) (speech : Speech Key Cond) (k : WithKey Key) (a : AnyKey) → takes_value keys ≡ true → k.value < 2 ^ 64 → speech.key_in a ≡ Some k.key → IsAnyKey keys a
    → (b : AnyKey) × ((value_speech speech).key_in b ≡ Some k) × IsAnyKey (value_form keys) b
join_names keys speech k (any_key.Point point) takes small is (same, sound) = (any_key.PointValue point k.value, rw is refl, (ap value_form same, (sound, small)))
join_names keys speech k (any_key.Text text) takes small is (same, sound) = (any_key.TextValue text k.value, rw is refl, (ap value_form same, (sound, small)))
join_names keys speech k (any_key.PointValue point value) takes small is (same, sound) = let clash : false ≡ true = sym (ap takes_value same) ∙ takes in (cc)
join_names keys speech k (any_key.TextValue text value) takes small is (same, sound) = let clash : false ≡ true = sym (ap takes_value same) ∙ takes in (cc)
join_names keys speech k (any_key.Range range) takes small is (same, sound) = let clash : false ≡ true = sym (ap takes_value same) ∙ takes in (cc)

pub value_names : {Key Recon Cond : Type 0} (keys : KeyForm) (m : Meaning Key Recon Cond) (speech : Speech Key Cond) → takes_value keys ≡ true → NamesKeys keys m.is_key speech → NamesKeys (value_form keys) (with_meaning m).is_key (value_speech speech)
value_names keys m speech takes names k is =
    let room = both (has_room m) (m.is_key k.key && nat_lt k.value (2 ^ 64)) is in
    let c = both (m.is_key k.key) (nat_lt k.value (2 ^ 64)) room.1 in
    let named = names k.key c.0 in
    join_names keys speech k named.0 takes (ltb-true k.value (2 ^ 64) c.1) named.1 named.2

-- ---- a class has what scripts name

point_has : (a : AnyKey) → IsAnyKey form.Point a → (k : Point) × (point_in a ≡ Some k)
point_has (any_key.Point point) is = (point, refl)
point_has (any_key.Text text) is = let clash : form.Point ≡ form.Text = is.0 in (cc)
point_has (any_key.PointValue point value) is = let clash : form.Point ≡ form.PointValue = is.0 in (cc)
point_has (any_key.TextValue text value) is = let clash : form.Point ≡ form.TextValue = is.0 in (cc)
point_has (any_key.Range range) is = let clash : form.Point ≡ form.Range = is.0 in (cc)

point_has_cond : (a : AnyCond) → IsAnyCond form.Point a → (c : PointCond) × (point_cond_in a ≡ Some c)
point_has_cond (any_cond.Point cond) is = (cond, refl)
point_has_cond (any_cond.Text cond) is = let clash : form.Point ≡ form.Text = is.0 in (cc)
point_has_cond (any_cond.Range cond) is = let clash : form.Point ≡ form.Range = is.0 in (cc)

pub point_knows : Knows form.Point point_speech
point_knows = record { key = point_has; cond = point_has_cond }

text_has : (a : AnyKey) → IsAnyKey form.Text a → (k : List ℕ) × (text_in a ≡ Some k)
text_has (any_key.Point point) is = let clash : form.Text ≡ form.Point = is.0 in (cc)
text_has (any_key.Text text) is = (text, refl)
text_has (any_key.PointValue point value) is = let clash : form.Text ≡ form.PointValue = is.0 in (cc)
text_has (any_key.TextValue text value) is = let clash : form.Text ≡ form.TextValue = is.0 in (cc)
text_has (any_key.Range range) is = let clash : form.Text ≡ form.Range = is.0 in (cc)

text_has_cond : (a : AnyCond) → IsAnyCond form.Text a → (c : TextCond) × (text_cond_in a ≡ Some c)
text_has_cond (any_cond.Point cond) is = let clash : form.Text ≡ form.Point = is.0 in (cc)
text_has_cond (any_cond.Text cond) is = (cond, refl)
text_has_cond (any_cond.Range cond) is = let clash : form.Text ≡ form.Range = is.0 in (cc)

pub text_knows : Knows form.Text text_speech
text_knows = record { key = text_has; cond = text_has_cond }

range_has : (a : AnyKey) → IsAnyKey form.Range a → (k : Option Point) × (range_in a ≡ Some k)
range_has (any_key.Point point) is = let clash : form.Range ≡ form.Point = is.0 in (cc)
range_has (any_key.Text text) is = let clash : form.Range ≡ form.Text = is.0 in (cc)
range_has (any_key.PointValue point value) is = let clash : form.Range ≡ form.PointValue = is.0 in (cc)
range_has (any_key.TextValue text value) is = let clash : form.Range ≡ form.TextValue = is.0 in (cc)
range_has (any_key.Range range) is = (range, refl)

range_has_cond : (a : AnyCond) → IsAnyCond form.Range a → (c : RangeCond) × (range_cond_in a ≡ Some c)
range_has_cond (any_cond.Point cond) is = let clash : form.Range ≡ form.Point = is.0 in (cc)
range_has_cond (any_cond.Text cond) is = let clash : form.Range ≡ form.Text = is.0 in (cc)
range_has_cond (any_cond.Range cond) is = (cond, refl)

pub range_knows : Knows form.Range range_speech
range_knows = record { key = range_has; cond = range_has_cond }

join_has : {Key Cond : Type 0} (keys : KeyForm) (speech : Speech Key Cond) (a : AnyKey) (value : ℕ) → Knows keys speech → IsAnyKey keys a → (k : WithKey Key) × (joined speech.key_in (Some (a, value)) ≡ Some k)
join_has keys speech a value knows is = let has = knows.key a is in (record { key = has.0; value = value }, rw has.1 refl)

value_has : {Key Cond : Type 0} (keys : KeyForm) (speech : Speech Key Cond) → takes_value keys ≡ true → Knows keys speech → (a : AnyKey) → IsAnyKey (value_form keys) a → (k : WithKey Key) × (joined speech.key_in (parted a) ≡ Some k)
value_has form.Point speech takes knows (any_key.PointValue point value) is = join_has form.Point speech (any_key.Point point) value knows (refl, is.1.0)
value_has form.Point speech takes knows (any_key.Point point) is = let clash : form.PointValue ≡ form.Point = is.0 in (cc)
value_has form.Point speech takes knows (any_key.Text text) is = let clash : form.PointValue ≡ form.Text = is.0 in (cc)
value_has form.Point speech takes knows (any_key.TextValue text value) is = let clash : form.PointValue ≡ form.TextValue = is.0 in (cc)
value_has form.Point speech takes knows (any_key.Range range) is = let clash : form.PointValue ≡ form.Range = is.0 in (cc)
value_has form.Text speech takes knows (any_key.TextValue text value) is = join_has form.Text speech (any_key.Text text) value knows (refl, is.1.0)
value_has form.Text speech takes knows (any_key.Point point) is = let clash : form.TextValue ≡ form.Point = is.0 in (cc)
value_has form.Text speech takes knows (any_key.Text text) is = let clash : form.TextValue ≡ form.Text = is.0 in (cc)
value_has form.Text speech takes knows (any_key.PointValue point value) is = let clash : form.TextValue ≡ form.PointValue = is.0 in (cc)
value_has form.Text speech takes knows (any_key.Range range) is = let clash : form.TextValue ≡ form.Range = is.0 in (cc)
value_has form.PointValue speech takes knows a is = let clash : false ≡ true = takes in (cc)
value_has form.TextValue speech takes knows a is = let clash : false ≡ true = takes in (cc)
value_has form.Range speech takes knows a is = let clash : false ≡ true = takes in (cc)

same_conds : (keys : KeyForm) → bare_form (value_form keys) ≡ bare_form keys
same_conds form.Point = refl
same_conds form.Text = refl
same_conds form.PointValue = refl
same_conds form.TextValue = refl
same_conds form.Range = refl

pub value_knows : {Key Cond : Type 0} (keys : KeyForm) (speech : Speech Key Cond) → takes_value keys ≡ true → Knows keys speech → Knows (value_form keys) (value_speech speech)
value_knows keys speech takes knows = record { key = value_has keys speech takes knows; cond = λ a is. knows.cond a (sym (same_conds keys) ∙ is.0, is.1) }

-- so it has what a command names
conds_known : {Key Cond : Type 0} (keys : KeyForm) (speech : Speech Key Cond) → Knows keys speech → (conds : List AnyCond) → AllByRecursion (IsAnyCond keys) conds → (found : List Cond) × (conds_in speech conds ≡ Some found)
conds_known keys speech knows [] are = ([], refl)
conds_known keys speech knows (c ∷ conds) are =
    let one = knows.cond c are.0 in
    let more = conds_known keys speech knows conds are.1 in
    (one.0 ∷ more.0, rw (one.1, more.1) refl)

query_known : {Key Cond : Type 0} (keys : KeyForm) (speech : Speech Key Cond) → Knows keys speech → (query : AnyQuery) → IsQuery keys query → IsKnown speech (Find query)
query_known keys speech knows All is = tt
query_known keys speech knows Null is = tt
query_known keys speech knows (Where conds) is = conds_known keys speech knows conds is.0

pub command_known : {Key Cond : Type 0} (keys : KeyForm) (speech : Speech Key Cond) → Knows keys speech → (c : Command) → IsCommand keys c → IsKnown speech c
command_known keys speech knows (Insert row None) is = (None, refl)
command_known keys speech knows (Insert row (Some key)) is = let has = knows.key key is.1 in (Some has.0, rw has.1 refl)
command_known keys speech knows (Delete row) is = tt
command_known keys speech knows (Find query) is = query_known keys speech knows query is
command_known keys speech knows Vacuum is = tt
command_known keys speech knows (Save name) is = tt
command_known keys speech knows Stat is = tt
command_known keys speech knows (Near target limit) is = knows.key (any_key.Point target) (is.0, is.1)
