-- Scripts are printed as they are spelled, and bytes are one script at most.
use Rattle.std.proofs.Common.{◌≡◌, inl, inr, take-append-drop, ◌+◌, ◌==◌, ◌&&◌, ◌||◌, ℕ, suc, Bool, true, false, cond, List, [], ◌∷◌, ◌++◌, drop, length, map, Some, None, refl, sym, ap, ◌∙◌, subst, arith}
use Rattle.std.specs.Prelude.{codes, filter, nat_le, ⊤}
use Rattle.std.specs.List.{AllZip, AllByRecursion, flat_map, list_all}
use Rattle.std.proofs.lemmas.Option.{same_Some}
use Rattle.std.proofs.lemmas.Bool.{cases_lt}
use Rattle.std.proofs.lemmas.Bool.Decides.{eqb_tells}
use Rattle.std.proofs.lemmas.List.{append_assoc}
use Rattle.spg_base.specs.Row.{RowAt}
use Rattle.spg_base.specs.Text.{row_text, point_text}
use Rattle.std.specs.Fmt.{decimal}
use Rattle.spg_script.specs.declared.key_form.KeyForm.{KeyForm}
use Rattle.spg_script.specs.declared.class_line.ClassLine.{ClassLine}
use Rattle.spg_script.specs.declared.class_line.ClassLine.TheVariants.{Quad, Kd, Radix, QuadValue, KdValue, RadixValue, Range}
use Rattle.spg_script.specs.declared.command.Command.{Command}
use Rattle.spg_script.specs.declared.command.Command.TheVariants.{Insert, Delete, Find, Vacuum, Save, Stat, Near}
use Rattle.spg_script.specs.Blocks.{Part, Script}
use Rattle.spg_script.specs.Spelling.{class_text, IsRow}
use Rattle.spg_script.specs.Line.{keys_of, is_first_of_name, is_in_name, is_name, SpellsCommand}
use Rattle.spg_script.specs.Reading.{len_before, command_of}
use Rattle.spg_script.specs.Speech.{any_key_or_null_text, any_query_text}
use Rattle.spg_script.specs.Laws.{IsCommand}
use Rattle.spg_script.specs.Script.{onto_first, lines_of, says_something, Saying, block_opens, lane_opens, block_ends, says, lane_sayings, block_sayings, sayings, IsBlock, IsPart, Spells, AreSpoken, IsScript, IsFirstBad, command_text, saying_text, printed_lines, printed, AreCommands, IsTidy, ScriptsAreExact}
use Rattle.spg_script.proofs.ClassLines.{same_class}
use Rattle.spg_script.proofs.Digits.{HasNo, HasNo-cons, HasNo-append, HasNo-decimal, point_apart}
use Rattle.spg_script.proofs.CommandLines.{command_of-spelled}
use Rattle.spg_script.proofs.Tidy.{script_tidy}
use Rattle.spg_script.proofs.Printed.{key_printed, query_printed, key_no_lf, query_no_lf}

-- ---- what is printed

command_printed : (keys : KeyForm) (c : Command) → IsCommand keys c → SpellsCommand keys c (command_text c)
command_printed keys (Insert row key) is = (any_key_or_null_text key, refl, is.0, key_printed keys key is.1)
command_printed keys (Delete row) is = (refl, is)
command_printed keys (Find query) is = (any_query_text query, refl, query_printed keys query is)
command_printed keys Vacuum is = refl
command_printed keys (Save name) is = (refl, is)
command_printed keys Stat is = refl
command_printed keys (Near target limit) is = (is.0, refl, is.1, is.2, is.3)

row_no_lf : (row : RowAt) → IsRow row → HasNo 10 (row_text row)
row_no_lf row is = HasNo-append 10 (decimal row.block) (46 ∷ decimal row.offset) (HasNo-decimal 10 row.block (omega arith) (omega (arith, is.block)))
    (HasNo-cons 10 46 (decimal row.offset) refl (HasNo-decimal 10 row.offset (omega arith) (omega (arith, is.offset))))

-- no name has an LF
name_byte : (b : ℕ) → is_in_name b ≡ true → (b == 10) ≡ false
name_byte b is = elim (eqb_tells b 10) [
  | inl same ↦ let clash : false ≡ true = rw same.1 at is in (cc)
  | inr other ↦ other.0
]

names_no_lf : (name : List ℕ) → list_all is_in_name name ≡ true → HasNo 10 name
names_no_lf [] is = refl
names_no_lf (b ∷ name) is = go (is_in_name b) refl is (names_no_lf name)
  where
    go : (t : Bool) → is_in_name b ≡ t → (t && list_all is_in_name name) ≡ true → (list_all is_in_name name ≡ true → HasNo 10 name) → HasNo 10 (b ∷ name)
    go true e h rest = HasNo-cons 10 b name (name_byte b e) (rest h)
    go false e h rest = (cc)

first_in_name : (b : ℕ) → is_first_of_name b ≡ true → is_in_name b ≡ true
first_in_name b is = ap (λ (t : Bool). t || (b == 45) || (b == 46)) is

name_no_lf : (name : List ℕ) → is_name name ≡ true → HasNo 10 name
name_no_lf [] is = refl
name_no_lf (b ∷ name) is = go (is_first_of_name b) refl (list_all is_in_name name) refl is
  where
    go : (t : Bool) → is_first_of_name b ≡ t → (u : Bool) → list_all is_in_name name ≡ u → (t && u && nat_le (length name) 63) ≡ true → HasNo 10 (b ∷ name)
    go true e true f h = HasNo-cons 10 b name (name_byte b (first_in_name b e)) (names_no_lf name f)
    go true e false f h = (cc)
    go false e u f h = (cc)

command_no_lf : (keys : KeyForm) (c : Command) → IsCommand keys c → HasNo 10 (command_text c)
command_no_lf keys (Insert row key) is = HasNo-append 10 (codes "insert ") (row_text row ++ 32 ∷ any_key_or_null_text key) refl
    (HasNo-append 10 (row_text row) (32 ∷ any_key_or_null_text key) (row_no_lf row is.0) (HasNo-cons 10 32 (any_key_or_null_text key) refl (key_no_lf keys key is.1)))
command_no_lf keys (Delete row) is = HasNo-append 10 (codes "delete ") (row_text row) refl (row_no_lf row is)
command_no_lf keys (Find query) is = HasNo-append 10 (codes "find ") (any_query_text query) refl (query_no_lf keys query is)
command_no_lf keys Vacuum is = refl
command_no_lf keys (Save name) is = HasNo-append 10 (codes "save ") name refl (name_no_lf name is)
command_no_lf keys Stat is = refl
command_no_lf keys (Near target limit) is = HasNo-append 10 (codes "near ") (point_text target ++ 32 ∷ decimal limit) refl
    (HasNo-append 10 (point_text target) (32 ∷ decimal limit) (point_apart 10 target (omega arith) is.1) (HasNo-cons 10 32 (decimal limit) refl (HasNo-decimal 10 limit (omega arith) (omega (arith, is.3)))))

-- a line says this as it is printed, does not end within, and says something
record IsGood (keys : KeyForm) (s : Saying) : Type 0 where
  spelled : Spells keys s (saying_text s)
  whole : HasNo 10 (saying_text s)
  something : says_something (saying_text s) ≡ true

good_command : (keys : KeyForm) (c : Command) → IsCommand keys c → IsGood keys (says c)
good_command keys c is = record { spelled = command_printed keys c is; whole = command_no_lf keys c is; something = some c }
  where
    some : (c : Command) → says_something (command_text c) ≡ true
    some (Insert row key) = refl
    some (Delete row) = refl
    some (Find query) = refl
    some Vacuum = refl
    some (Save name) = refl
    some Stat = refl
    some (Near target limit) = refl

each_append : {A : Type 0} (P : A → Type 0) (xs ys : List A) → AllByRecursion P xs → AllByRecursion P ys → AllByRecursion P (xs ++ ys)
each_append P [] ys each more = more
each_append P (x ∷ xs) ys each more = (each.0, each_append P xs ys each.1 more)

good_lane : (keys : KeyForm) (lane : List Command) → AllByRecursion (IsCommand keys) lane → AllByRecursion (IsGood keys) (map says lane)
good_lane keys [] each = tt
good_lane keys (c ∷ lane) each = (good_command keys c each.0, good_lane keys lane each.1)

good_lanes : (keys : KeyForm) (lanes : List (List Command)) → AllByRecursion (AllByRecursion (IsCommand keys)) lanes → AllByRecursion (IsGood keys) (lane_sayings lanes)
good_lanes keys [] each = tt
good_lanes keys (lane ∷ lanes) each = (record { spelled = refl; whole = refl; something = refl }, each_append (IsGood keys) (map says lane) (lane_sayings lanes) (good_lane keys lane each.0) (good_lanes keys lanes each.1))

good_alone : (keys : KeyForm) (lanes : List (List Command)) → AllByRecursion (AllByRecursion (IsCommand keys)) lanes → AllByRecursion (IsGood keys) (flat_map (map says) lanes)
good_alone keys [] each = tt
good_alone keys (lane ∷ lanes) each = each_append (IsGood keys) (map says lane) (flat_map (map says) lanes) (good_lane keys lane each.0) (good_alone keys lanes each.1)

good_block : (keys : KeyForm) (together : Bool) (lanes : List (List Command)) → AllByRecursion (AllByRecursion (IsCommand keys)) lanes → AllByRecursion (IsGood keys) (block_sayings together lanes)
good_block keys true lanes each =
    (record { spelled = refl; whole = refl; something = refl }, each_append (IsGood keys) (lane_sayings lanes) (block_ends ∷ []) (good_lanes keys lanes each) (record { spelled = refl; whole = refl; something = refl }, tt))
good_block keys false lanes each = good_alone keys lanes each

good_parts : (keys : KeyForm) (parts : List Part) → AreCommands keys parts → AllByRecursion (IsGood keys) (sayings parts)
good_parts keys [] each = tt
good_parts keys (p ∷ parts) each = each_append (IsGood keys) (block_sayings p.together p.lanes) (sayings parts) (good_block keys p.together p.lanes each.0) (good_parts keys parts each.1)

-- ---- lines

first_line : (line rest : List ℕ) → HasNo 10 line → lines_of (line ++ 10 ∷ rest) ≡ line ∷ lines_of rest
first_line [] rest apart = refl
first_line (b ∷ line) rest apart = elim (eqb_tells b 10) [
  | inl same ↦ let clash : 0 ≡ suc (length line) = rw same.0 at apart in absurd (omega arith)
  | inr other ↦ let later : len_before 10 line + 1 ≡ suc (length line) = rw other.0 at apart in
      rw other.0 (ap (onto_first b) (first_line line rest (omega arith)))
]

lines_printed : (lines : List (List ℕ)) → AllByRecursion (HasNo 10) lines → lines_of (flat_map (λ line. line ++ 10 ∷ []) lines) ≡ lines
lines_printed [] each = refl
lines_printed (line ∷ lines) each =
    ap lines_of (append_assoc line (10 ∷ []) (flat_map (λ l. l ++ 10 ∷ []) lines)) ∙ first_line line (flat_map (λ l. l ++ 10 ∷ []) lines) each.0 ∙ ap (λ l. line ∷ l) (lines_printed lines each.1)

good_lines : (keys : KeyForm) (ss : List Saying) → AllByRecursion (IsGood keys) ss → AllByRecursion (HasNo 10) (map saying_text ss)
good_lines keys [] each = tt
good_lines keys (s ∷ ss) each = (each.0.whole, good_lines keys ss each.1)

good_spells : (keys : KeyForm) (ss : List Saying) → AllByRecursion (IsGood keys) ss → AllZip (Spells keys) ss (map saying_text ss)
good_spells keys [] each = tt
good_spells keys (s ∷ ss) each = (each.0.spelled, good_spells keys ss each.1)

all_spoken : (keys : KeyForm) (ss : List Saying) → AllByRecursion (IsGood keys) ss → filter says_something (map saying_text ss) ≡ map saying_text ss
all_spoken keys [] each = refl
all_spoken keys (s ∷ ss) each = rw each.0.something (ap (λ l. saying_text s ∷ l) (all_spoken keys ss each.1))

class_no_lf : (class : ClassLine) → HasNo 10 (class_text class)
class_no_lf Quad = refl
class_no_lf Kd = refl
class_no_lf Radix = refl
class_no_lf QuadValue = refl
class_no_lf KdValue = refl
class_no_lf RadixValue = refl
class_no_lf Range = refl

class_said : (class : ClassLine) → says_something (class_text class) ≡ true
class_said Quad = refl
class_said Kd = refl
class_said Radix = refl
class_said QuadValue = refl
class_said KdValue = refl
class_said RadixValue = refl
class_said Range = refl

printed_is : (script : Script) → IsTidy script → IsScript (printed script) script
printed_is script tidy =
    let keys = keys_of script.class in
    let good = good_parts keys script.parts tidy.commands in
    let lines : lines_of (printed script) ≡ printed_lines script = lines_printed (printed_lines script) (class_no_lf script.class, good_lines keys (sayings script.parts) good) in
    let spoken : filter says_something (printed_lines script) ≡ printed_lines script =
    ap (λ (t : Bool). cond t (class_text script.class ∷ filter says_something (map saying_text (sayings script.parts))) (filter says_something (map saying_text (sayings script.parts)))) (class_said script.class)
    ∙ ap (λ l. class_text script.class ∷ l) (all_spoken keys (sayings script.parts) good) in
    subst (λ (l : List (List ℕ)). AreSpoken l script) (sym (ap (filter says_something) lines ∙ spoken)) (refl, tidy.parts, good_spells keys (sayings script.parts) good)

-- ---- one script

-- a line that is no command's says no command
no_command : (keys : KeyForm) (c : Command) (line word : List ℕ) → line ≡ word → command_of keys word ≡ None → SpellsCommand keys c line → ⊥
no_command keys c line word is none spelled = let clash : None ≡ Some c = sym none ∙ ap (command_of keys) (sym is) ∙ command_of-spelled keys c line spelled in (cc)

together_is_none : (keys : KeyForm) → command_of keys (codes "together") ≡ None
unfolding command_of
together_is_none keys = refl

lane_is_none : (keys : KeyForm) → command_of keys (codes "lane") ≡ None
unfolding command_of
lane_is_none keys = refl

end_is_none : (keys : KeyForm) → command_of keys (codes "end") ≡ None
unfolding command_of
end_is_none keys = refl

pub one_saying : (keys : KeyForm) (s t : Saying) (line : List ℕ) → Spells keys s line → Spells keys t line → s ≡ t
one_saying keys block_opens block_opens line a b = refl
one_saying keys lane_opens lane_opens line a b = refl
one_saying keys block_ends block_ends line a b = refl
one_saying keys block_opens lane_opens line a b = let clash : codes "together" ≡ codes "lane" = sym a ∙ b in (cc)
one_saying keys block_opens block_ends line a b = let clash : codes "together" ≡ codes "end" = sym a ∙ b in (cc)
one_saying keys lane_opens block_opens line a b = let clash : codes "lane" ≡ codes "together" = sym a ∙ b in (cc)
one_saying keys lane_opens block_ends line a b = let clash : codes "lane" ≡ codes "end" = sym a ∙ b in (cc)
one_saying keys block_ends block_opens line a b = let clash : codes "end" ≡ codes "together" = sym a ∙ b in (cc)
one_saying keys block_ends lane_opens line a b = let clash : codes "end" ≡ codes "lane" = sym a ∙ b in (cc)
one_saying keys block_opens (says d) line a b = absurd (no_command keys d line (codes "together") a (together_is_none keys) b)
one_saying keys lane_opens (says d) line a b = absurd (no_command keys d line (codes "lane") a (lane_is_none keys) b)
one_saying keys block_ends (says d) line a b = absurd (no_command keys d line (codes "end") a (end_is_none keys) b)
one_saying keys (says c) block_opens line a b = absurd (no_command keys c line (codes "together") b (together_is_none keys) a)
one_saying keys (says c) lane_opens line a b = absurd (no_command keys c line (codes "lane") b (lane_is_none keys) a)
one_saying keys (says c) block_ends line a b = absurd (no_command keys c line (codes "end") b (end_is_none keys) a)
one_saying keys (says c) (says d) line a b = ap says (same_Some c d (sym (command_of-spelled keys c line a) ∙ command_of-spelled keys d line b))

pub one_list : (keys : KeyForm) (ss ts : List Saying) (lines : List (List ℕ)) → AllZip (Spells keys) ss lines → AllZip (Spells keys) ts lines → ss ≡ ts
one_list keys [] [] [] a b = refl
one_list keys [] [] (line ∷ lines) a b = refl
one_list keys [] (t ∷ ts) [] a b = absurd b
one_list keys [] (t ∷ ts) (line ∷ lines) a b = absurd a
one_list keys (s ∷ ss) [] [] a b = absurd a
one_list keys (s ∷ ss) [] (line ∷ lines) a b = absurd b
one_list keys (s ∷ ss) (t ∷ ts) [] a b = absurd a
one_list keys (s ∷ ss) (t ∷ ts) (line ∷ lines) a b = ap (λ (x : Saying). x ∷ ss) (one_saying keys s t line a.0 b.0) ∙ ap (λ l. t ∷ l) (one_list keys ss ts lines a.1 b.1)

-- the front of a list is no command
abbrev pub IsNoCommand : List Saying → Type 0
IsNoCommand [] = ⊤
IsNoCommand (block_opens ∷ ss) = ⊤
IsNoCommand (lane_opens ∷ ss) = ⊤
IsNoCommand (block_ends ∷ ss) = ⊤
IsNoCommand (says c ∷ ss) = ⊥

said : Command → Saying → Command
said c block_opens = c
said c lane_opens = c
said c block_ends = c
said c (says d) = d

pub same_command : (c d : Command) → says c ≡ says d → c ≡ d
unfolding said
same_command c d is = ap (said c) is

pub first_two : (s t : Saying) (ss ts : List Saying) → s ∷ ss ≡ t ∷ ts → (s ≡ t) × (ss ≡ ts)
first_two s t ss ts is = ((cc), (cc))

pub starts_no : (c : Command) (ss ts : List Saying) → says c ∷ ss ≡ ts → IsNoCommand ts → ⊥
starts_no c ss ts is none = subst IsNoCommand (sym is) none

same_lane : (l m : List Command) (ss ts : List Saying) → IsNoCommand ss → IsNoCommand ts → map says l ++ ss ≡ map says m ++ ts → (l ≡ m) × (ss ≡ ts)
same_lane [] [] ss ts a b is = (refl, is)
same_lane [] (d ∷ m) ss ts a b is = absurd (starts_no d (map says m ++ ts) ss (sym is) a)
same_lane (c ∷ l) [] ss ts a b is = absurd (starts_no c (map says l ++ ss) ts is b)
same_lane (c ∷ l) (d ∷ m) ss ts a b is =
    let parts = first_two (says c) (says d) (map says l ++ ss) (map says m ++ ts) is in
    let rest = same_lane l m ss ts a b parts.1 in
    (ap (λ (x : Command). x ∷ l) (same_command c d parts.0) ∙ ap (λ k. d ∷ k) rest.0, rest.1)

pub lanes_no : (lanes : List (List Command)) (more : List Saying) → IsNoCommand (lane_sayings lanes ++ block_ends ∷ more)
lanes_no [] more = tt
lanes_no (lane ∷ lanes) more = tt

same_lanes : (l m : List (List Command)) (ss ts : List Saying) → lane_sayings l ++ block_ends ∷ ss ≡ lane_sayings m ++ block_ends ∷ ts → (l ≡ m) × (ss ≡ ts)
same_lanes [] [] ss ts is = (refl, (cc))
same_lanes [] (b ∷ m) ss ts is = (cc)
same_lanes (a ∷ l) [] ss ts is = (cc)
same_lanes (a ∷ l) (b ∷ m) ss ts is =
    let parts = first_two lane_opens lane_opens _ _ is in
    let grouped = sym (append_assoc (map says a) (lane_sayings l) (block_ends ∷ ss)) ∙ parts.1 ∙ append_assoc (map says b) (lane_sayings m) (block_ends ∷ ts) in
    let lane = same_lane a b (lane_sayings l ++ block_ends ∷ ss) (lane_sayings m ++ block_ends ∷ ts) (lanes_no l ss) (lanes_no m ts) grouped in
    let rest = same_lanes l m ss ts lane.1 in
    (ap (λ (x : List Command). x ∷ l) lane.0 ∙ ap (λ k. b ∷ k) rest.0, rest.1)

pub same_block : (p q : Bool) (l m : List (List Command)) (ss ts : List Saying) → IsBlock p l → IsBlock q m → block_sayings p l ++ ss ≡ block_sayings q m ++ ts → (p ≡ q) × (l ≡ m) × (ss ≡ ts)
same_block true true l m ss ts a b is =
    let parts = first_two block_opens block_opens _ _ is in
    let grouped = sym (append_assoc (lane_sayings l) (block_ends ∷ []) ss) ∙ parts.1 ∙ append_assoc (lane_sayings m) (block_ends ∷ []) ts in
    let lanes = same_lanes l m ss ts grouped in (refl, lanes.0, lanes.1)
same_block true false l m ss ts a (d, one) is = let clash : block_opens ∷ ((lane_sayings l ++ block_ends ∷ []) ++ ss) ≡ says d ∷ ts = is ∙ ap (λ k. flat_map (map says) k ++ ts) one in (cc)
same_block false true l m ss ts (c, one) b is = let clash : says c ∷ ss ≡ block_opens ∷ ((lane_sayings m ++ block_ends ∷ []) ++ ts) = ap (λ k. flat_map (map says) k ++ ss) (sym one) ∙ is in (cc)
same_block false false l m ss ts (c, one) (d, two) is =
    let both : says c ∷ ss ≡ says d ∷ ts = ap (λ k. flat_map (map says) k ++ ss) (sym one) ∙ is ∙ ap (λ k. flat_map (map says) k ++ ts) two in
    let parts = first_two (says c) (says d) ss ts both in
    (refl, one ∙ ap (λ (x : Command). (x ∷ []) ∷ []) (same_command c d parts.0) ∙ sym two, parts.1)

part_is : (p q : Part) → p.together ≡ q.together → p.lanes ≡ q.lanes → p ≡ q
part_is p q a b = ap (λ (t : Bool). record { together = t; lanes = p.lanes }) a ∙ ap (λ (l : List (List Command)). record { together = q.together; lanes = l }) b

-- a block says something
pub block_says : (t : Bool) (lanes : List (List Command)) (more : List Saying) → IsBlock t lanes → [] ≡ block_sayings t lanes ++ more → ⊥
block_says true lanes more a is = (cc)
block_says false lanes more (c, one) is = let clash : [] ≡ says c ∷ more = is ∙ ap (λ k. flat_map (map says) k ++ more) one in (cc)

same_parts : (ps qs : List Part) → AllByRecursion IsPart ps → AllByRecursion IsPart qs → sayings ps ≡ sayings qs → ps ≡ qs
same_parts [] [] a b is = refl
same_parts [] (q ∷ qs) a b is = absurd (block_says q.together q.lanes (sayings qs) b.0 is)
same_parts (p ∷ ps) [] a b is = absurd (block_says p.together p.lanes (sayings ps) a.0 (sym is))
same_parts (p ∷ ps) (q ∷ qs) a b is =
    let parts = same_block p.together q.together p.lanes q.lanes (sayings ps) (sayings qs) a.0 b.0 is in
    ap (λ (x : Part). x ∷ ps) (part_is p q parts.0 parts.1) ∙ ap (λ k. q ∷ k) (same_parts ps qs a.1 b.1 parts.2)

one_spoken : (lines : List (List ℕ)) (a b : Script) → AreSpoken lines a → AreSpoken lines b → a ≡ b
one_spoken [] a b x y = absurd x
one_spoken (line ∷ lines) a b x y =
    let class : a.class ≡ b.class = same_class a.class b.class (sym x.0 ∙ y.0) in
    let spelled : AllZip (Spells (keys_of b.class)) (sayings a.parts) lines = subst (λ (k : ClassLine). AllZip (Spells (keys_of k)) (sayings a.parts) lines) class x.2 in
    let parts : a.parts ≡ b.parts = same_parts a.parts b.parts x.1 y.1 (one_list (keys_of b.class) (sayings a.parts) (sayings b.parts) lines spelled y.2) in
    ap (λ (k : ClassLine). record { class = k; parts = a.parts }) class ∙ ap (λ (l : List Part). record { class = b.class; parts = l }) parts

-- bytes with a first bad line are no script
no_script : (bytes : List ℕ) (n : ℕ) → IsFirstBad bytes n → (script : Script) → IsScript bytes script → ⊥
no_script bytes n is script script_is = elim (cases_lt (length (lines_of bytes)) n) [
  | inl past ↦ is.ended (omega (arith, is.within)) script script_is
  | inr there ↦ is.bad there (drop n (lines_of bytes), script, rw (take-append-drop n (lines_of bytes)) script_is)
]

pub exact : ScriptsAreExact
exact = record { printed_spells = printed_is; one = λ bytes a b x y. one_spoken (filter says_something (lines_of bytes)) a b x y; not_bad = no_script; tidy = script_tidy }
