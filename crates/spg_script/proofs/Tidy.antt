-- A script of bytes can be printed.
use Rattle.std.proofs.Common.{◌≡◌, ◌<◌, ◌+◌, ◌-◌, ◌*◌, ◌==◌, ◌&&◌, ℕ, Bool, true, false, cond, List, [], ◌∷◌, ◌++◌, length, map, Option, Some, None, refl, ap, ◌∙◌, subst, arith}
use Rattle.std.specs.Prelude.{codes, filter, nat_le, nat_lt, option_and_then, ⊤}
use Rattle.std.specs.List.{AllZip, AllByRecursion, flat_map}
use Rattle.std.proofs.lemmas.Option.{same_Some}
use Rattle.std.proofs.lemmas.Bool.{ltb-true, leb-true, lt-ltb, le-leb}
use Rattle.spg_radix.specs.Texts.{is_bytes, is_text}
use Rattle.spg_radix.specs.Conditions.{named}
use Rattle.spg_script.specs.declared.key_form.KeyForm.{KeyForm}
use Rattle.spg_script.specs.declared.any_key.AnyKey.{AnyKey}
use Rattle.spg_script.specs.declared.any_key.AnyKey.TheVariants as any_key
use Rattle.spg_script.specs.declared.any_cond.AnyCond.{AnyCond}
use Rattle.spg_script.specs.declared.any_cond.AnyCond.TheVariants as any_cond
use Rattle.spg_script.specs.declared.any_query.AnyQuery.{AnyQuery}
use Rattle.spg_script.specs.declared.any_query.AnyQuery.TheVariants.{All, Null, Where}
use Rattle.spg_script.specs.declared.command.Command.{Command}
use Rattle.spg_script.specs.declared.command.Command.TheVariants.{Insert, Delete, Find, Vacuum, Save, Stat, Near}
use Rattle.spg_script.specs.Blocks.{Part, Script}
use Rattle.spg_base.specs.Text.{row_text}
use Rattle.spg_script.specs.Quoted.{hex_of, is_plain, escaped, first_byte, SpellsText, IsQuoted}
use Rattle.spg_script.specs.Spelling.{cond_text, value_text, range_cond_text}
use Rattle.spg_script.specs.Line.{keys_of, word_of, SpellsAnyKey, SpellsKeyOrNull, SpellsAnyCond, SpellsConds, SpellsQuery, SpellsCommand}
use Rattle.spg_script.specs.Laws.{IsSoundKey, IsKeyOrNull, IsSoundCond, IsAnyCond, IsQuery, IsCommand}
use Rattle.spg_script.specs.Script.{onto_first, lines_of, says_something, Saying, block_opens, lane_opens, block_ends, says, lane_sayings, block_sayings, sayings, Spells, AreSpoken, IsScript, AreCommands, IsTidy}

abbrev pub AreBytes : List ℕ → Type 0
AreBytes bytes = AllByRecursion (λ b. b < 256) bytes

pub are_bytes : (bytes : List ℕ) → is_bytes bytes ≡ true → AreBytes bytes
are_bytes [] is = tt
are_bytes (b ∷ bytes) is = go (nat_lt b 256) refl is (are_bytes bytes)
  where
    go : (t : Bool) → nat_lt b 256 ≡ t → (t && is_bytes bytes) ≡ true → (is_bytes bytes ≡ true → AreBytes bytes) → AreBytes (b ∷ bytes)
    go true e h rest = (ltb-true b 256 e, rest h)
    go false e h rest = (cc)

pub bytes_are : (bytes : List ℕ) → AreBytes bytes → is_bytes bytes ≡ true
bytes_are [] are = refl
bytes_are (b ∷ bytes) are = rw (lt-ltb b 256 are.0, bytes_are bytes are.1) refl

back : (front rest : List ℕ) → AreBytes (front ++ rest) → AreBytes rest
back [] rest are = are
back (b ∷ front) rest are = back front rest are.1

-- ---- keys

both : (a b : Bool) → (a && b) ≡ true → (a ≡ true) × (b ≡ true)
both true b is = (refl, is)
both false b is = (cc)

hex_small : (b h : ℕ) → hex_of b ≡ Some h → h < 16
hex_small b h is = go (nat_le 48 b && nat_le b 57) refl (nat_le 97 b && nat_le b 102) refl (nat_le 65 b && nat_le b 70) refl is
  where
    go : (x : Bool) → (nat_le 48 b && nat_le b 57) ≡ x → (y : Bool) → (nat_le 97 b && nat_le b 102) ≡ y → (z : Bool) → (nat_le 65 b && nat_le b 70) ≡ z
        → cond x (Some (b - 48)) (cond y (Some (b - 87)) (cond z (Some (b - 55)) None)) ≡ Some h → h < 16
    go true e y f z g k = omega (arith, leb-true b 57 (both (nat_le 48 b) (nat_le b 57) e).1, same_Some (b - 48) h k)
    go false e true f z g k = omega (arith, leb-true b 102 (both (nat_le 97 b) (nat_le b 102) f).1, same_Some (b - 87) h k)
    go false e false f true g k = omega (arith, leb-true b 70 (both (nat_le 65 b) (nat_le b 70) g).1, same_Some (b - 55) h k)
    go false e false f false g k = (cc)

-- a byte that is spelled, and what follows it
record IsByteAnd (b : ℕ) (more : List ℕ) : Type 0 where
  small : b < 256
  rest : AreBytes more

pair_is : (x b : ℕ) (rest more : List ℕ) → ◌≡◌ {A = Option (ℕ × List ℕ)} (Some (x, rest)) (Some (b, more)) → x < 256 → AreBytes rest → IsByteAnd b more
pair_is x b rest more is small are =
    let same = same_Some {A = ℕ × List ℕ} (x, rest) (b, more) is in
    record { small = subst (λ (n : ℕ). n < 256) (ap (λ (q : ℕ × List ℕ). q.0) same) small; rest = subst AreBytes (ap (λ (q : ℕ × List ℕ). q.1) same) are }

escape_small : (bytes : List ℕ) (b : ℕ) (more : List ℕ) → AreBytes bytes → escaped bytes ≡ Some (b, more) → IsByteAnd b more
escape_small [] b more are is = (cc)
escape_small (x ∷ []) b more are is = (cc)
escape_small (x ∷ high ∷ []) b more are is = (cc)
escape_small (x ∷ high ∷ low ∷ rest) b more are is = go (x == 120) (hex_of high) refl (hex_of low) refl is
  where
    go : (t : Bool) (h : Option ℕ) → hex_of high ≡ h → (l : Option ℕ) → hex_of low ≡ l
        → cond t (option_and_then {U = ℕ × List ℕ} (λ a. option_and_then {U = ℕ × List ℕ} (λ c. Some (a * 16 + c, rest)) l) h) None ≡ Some (b, more) → IsByteAnd b more
    go true (Some a) e (Some c) f k = pair_is (a * 16 + c) b rest more k (omega (arith, hex_small high a e, hex_small low c f)) are.1.1.1
    go true (Some a) e None f k = (cc)
    go true None e l f k = (cc)
    go false h e l f k = (cc)

first_small : (bytes : List ℕ) (b : ℕ) (more : List ℕ) → AreBytes bytes → first_byte bytes ≡ Some (b, more) → IsByteAnd b more
first_small [] b more are is = (cc)
first_small (x ∷ bytes) b more are is = go (x == 92) (is_plain x) is
  where
    go : (t u : Bool) → cond t (escaped bytes) (cond u (Some (x, bytes)) None) ≡ Some (b, more) → IsByteAnd b more
    go true u k = escape_small bytes b more are.1 k
    go false true k = pair_is x b bytes more k are.0 are.1
    go false false k = (cc)

record IsTextAnd (text left : List ℕ) : Type 0 where
  bytes : AreBytes text
  rest : AreBytes left

text_small : (text bytes left : List ℕ) → AreBytes bytes → SpellsText text bytes left → IsTextAnd text left
text_small [] bytes left are is = record { bytes = tt; rest = (subst AreBytes is are).1 }
text_small (b ∷ text) bytes left are (more, first, is) =
    let one = first_small bytes b more are first in
    let later = text_small text more left one.rest is in
    record { bytes = (one.small, later.bytes); rest = later.rest }

record IsTextKeyAnd (text left : List ℕ) : Type 0 where
  is : is_text text ≡ true
  rest : AreBytes left

quoted_is : (text bytes left : List ℕ) → AreBytes bytes → IsQuoted text bytes left → IsTextKeyAnd text left
quoted_is text bytes left are q =
    let inner : AreBytes (34 ∷ q.inner) = subst AreBytes q.opened are in
    let one = text_small text q.inner left inner.1 q.spelled in
    record { is = rw (bytes_are text one.bytes, le-leb (length text) 3900 q.short) refl; rest = one.rest }

any_key_is : (key : AnyKey) (bytes : List ℕ) → AreBytes bytes → SpellsAnyKey key bytes → IsSoundKey key
any_key_is (any_key.Point point) bytes are is = is.1
any_key_is (any_key.Text text) bytes are is = (quoted_is text bytes [] are is).is
any_key_is (any_key.PointValue point value) bytes are is = (is.1, is.2)
any_key_is (any_key.TextValue text value) bytes are is = ((quoted_is text bytes (value_text value) are is.0).is, is.1)
any_key_is (any_key.Range range) bytes are is = is.1

key_is : (keys : KeyForm) (key : Option AnyKey) (bytes : List ℕ) → AreBytes bytes → SpellsKeyOrNull keys key bytes → IsKeyOrNull keys key
key_is keys None bytes are is = tt
key_is keys (Some key) bytes are is = (is.0, any_key_is key bytes are is.1)

record IsCondAnd (c : AnyCond) (left : List ℕ) : Type 0 where
  is : IsSoundCond c
  rest : AreBytes left

cond_is : (c : AnyCond) (bytes left : List ℕ) → AreBytes bytes → SpellsAnyCond c bytes left → IsCondAnd c left
cond_is (any_cond.Point c) bytes left are is = record { is = is.1; rest = back (cond_text c) left (subst AreBytes is.0 are) }
cond_is (any_cond.Range c) bytes left are is = record { is = is.1; rest = back (range_cond_text c) left (subst AreBytes is.0 are) }
cond_is (any_cond.Text c) bytes left are (text, all, q) =
    let one = quoted_is (named c) text left (back (word_of c) (32 ∷ text) (subst AreBytes all are)).1 q in record { is = one.is; rest = one.rest }

conds_are : (keys : KeyForm) (word : List ℕ) (conds : List AnyCond) (bytes : List ℕ) → AreBytes bytes → SpellsConds keys word conds bytes → AllByRecursion (IsAnyCond keys) conds
conds_are keys word [] bytes are is = tt
conds_are keys word (c ∷ conds) bytes are (more, left, all, one, later) =
    let first = cond_is c more left (back word more (subst AreBytes all are)) one.1 in
    ((one.0, first.is), conds_are keys (codes " and ") conds left first.rest later)

query_is : (keys : KeyForm) (query : AnyQuery) (bytes : List ℕ) → AreBytes bytes → SpellsQuery keys query bytes → IsQuery keys query
query_is keys All bytes are is = tt
query_is keys Null bytes are is = tt
query_is keys (Where conds) bytes are is = (conds_are keys (codes "where ") conds bytes are is.0, is.1, is.2)

command_is : (keys : KeyForm) (c : Command) (line : List ℕ) → AreBytes line → SpellsCommand keys c line → IsCommand keys c
command_is keys (Insert row key) line are (bytes, all, row_is, spelled) = (row_is, key_is keys key bytes (back (row_text row) (32 ∷ bytes) (back (codes "insert ") (row_text row ++ 32 ∷ bytes) (subst AreBytes (all ∙ refl) are))).1 spelled)
command_is keys (Delete row) line are is = is.1
command_is keys (Find query) line are (bytes, all, spelled) = query_is keys query bytes (back (codes "find ") bytes (subst AreBytes all are)) spelled
command_is keys Vacuum line are is = tt
command_is keys (Save name) line are is = is.1
command_is keys Stat line are is = tt
command_is keys (Near target limit) line are is = (is.0, is.2, is.3, is.4)

-- ---- scripts

lines_bytes : (bytes : List ℕ) → AreBytes bytes → AllByRecursion AreBytes (lines_of bytes)
lines_bytes [] are = tt
lines_bytes (b ∷ bytes) are = go (b == 10) (lines_of bytes) (lines_bytes bytes are.1)
  where
    go : (t : Bool) (lines : List (List ℕ)) → AllByRecursion AreBytes lines → AllByRecursion AreBytes (cond t ([] ∷ lines) (onto_first b lines))
    go true lines each = (tt, each)
    go false [] each = ((are.0, tt), tt)
    go false (line ∷ lines) each = ((are.0, each.0), each.1)

spoken_bytes : (lines : List (List ℕ)) → AllByRecursion AreBytes lines → AllByRecursion AreBytes (filter says_something lines)
spoken_bytes [] each = tt
spoken_bytes (line ∷ lines) each = go (says_something line) (spoken_bytes lines each.1)
  where
    go : (t : Bool) → AllByRecursion AreBytes (filter says_something lines) → AllByRecursion AreBytes (cond t (line ∷ filter says_something lines) (filter says_something lines))
    go true rest = (each.0, rest)
    go false rest = rest

-- what a saying names is well formed
abbrev IsSaid : KeyForm → Saying → Type 0
IsSaid keys block_opens = ⊤
IsSaid keys lane_opens = ⊤
IsSaid keys block_ends = ⊤
IsSaid keys (says c) = IsCommand keys c

said_is : (keys : KeyForm) (s : Saying) (line : List ℕ) → AreBytes line → Spells keys s line → IsSaid keys s
said_is keys block_opens line are is = tt
said_is keys lane_opens line are is = tt
said_is keys block_ends line are is = tt
said_is keys (says c) line are is = command_is keys c line are is

all_said : (keys : KeyForm) (ss : List Saying) (lines : List (List ℕ)) → AllByRecursion AreBytes lines → AllZip (Spells keys) ss lines → AllByRecursion (IsSaid keys) ss
all_said keys [] [] each all = tt
all_said keys [] (line ∷ lines) each all = absurd all
all_said keys (s ∷ ss) [] each all = absurd all
all_said keys (s ∷ ss) (line ∷ lines) each all = (said_is keys s line each.0 all.0, all_said keys ss lines each.1 all.1)

each_left : {A : Type 0} (P : A → Type 0) (xs ys : List A) → AllByRecursion P (xs ++ ys) → AllByRecursion P xs
each_left P [] ys each = tt
each_left P (x ∷ xs) ys each = (each.0, each_left P xs ys each.1)

each_right : {A : Type 0} (P : A → Type 0) (xs ys : List A) → AllByRecursion P (xs ++ ys) → AllByRecursion P ys
each_right P [] ys each = each
each_right P (x ∷ xs) ys each = each_right P xs ys each.1

lane_said : (keys : KeyForm) (lane : List Command) → AllByRecursion (IsSaid keys) (map says lane) → AllByRecursion (IsCommand keys) lane
lane_said keys [] each = tt
lane_said keys (c ∷ lane) each = (each.0, lane_said keys lane each.1)

lanes_said : (keys : KeyForm) (lanes : List (List Command)) → AllByRecursion (IsSaid keys) (lane_sayings lanes) → AllByRecursion (AllByRecursion (IsCommand keys)) lanes
lanes_said keys [] each = tt
lanes_said keys (lane ∷ lanes) each = (lane_said keys lane (each_left (IsSaid keys) (map says lane) (lane_sayings lanes) each.1), lanes_said keys lanes (each_right (IsSaid keys) (map says lane) (lane_sayings lanes) each.1))

alone_said : (keys : KeyForm) (lanes : List (List Command)) → AllByRecursion (IsSaid keys) (flat_map (map says) lanes) → AllByRecursion (AllByRecursion (IsCommand keys)) lanes
alone_said keys [] each = tt
alone_said keys (lane ∷ lanes) each = (lane_said keys lane (each_left (IsSaid keys) (map says lane) (flat_map (map says) lanes) each), alone_said keys lanes (each_right (IsSaid keys) (map says lane) (flat_map (map says) lanes) each))

block_said : (keys : KeyForm) (together : Bool) (lanes : List (List Command)) → AllByRecursion (IsSaid keys) (block_sayings together lanes) → AllByRecursion (AllByRecursion (IsCommand keys)) lanes
block_said keys true lanes each = lanes_said keys lanes (each_left (IsSaid keys) (lane_sayings lanes) (block_ends ∷ []) each.1)
block_said keys false lanes each = alone_said keys lanes each

parts_said : (keys : KeyForm) (parts : List Part) → AllByRecursion (IsSaid keys) (sayings parts) → AreCommands keys parts
parts_said keys [] each = tt
parts_said keys (p ∷ parts) each = (block_said keys p.together p.lanes (each_left (IsSaid keys) (block_sayings p.together p.lanes) (sayings parts) each), parts_said keys parts (each_right (IsSaid keys) (block_sayings p.together p.lanes) (sayings parts) each))

spoken_tidy : (lines : List (List ℕ)) (script : Script) → AllByRecursion AreBytes lines → AreSpoken lines script → IsTidy script
spoken_tidy [] script each is = absurd is
spoken_tidy (line ∷ lines) script each is = record { parts = is.1; commands = parts_said (keys_of script.class) script.parts (all_said (keys_of script.class) (sayings script.parts) lines each.1 is.2) }

pub script_tidy : (bytes : List ℕ) (script : Script) → is_bytes bytes ≡ true → IsScript bytes script → IsTidy script
script_tidy bytes script are is = spoken_tidy (filter says_something (lines_of bytes)) script (spoken_bytes (lines_of bytes) (lines_bytes bytes (are_bytes bytes are))) is
