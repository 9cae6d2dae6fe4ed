-- What may follow at each place of a script.
use Rattle.std.proofs.Common.{◌≡◌, ◌⊎◌, inl, inr, ◌<◌, ◌≤◌, ◌+◌, ◌-◌, ℕ, suc, Bool, true, false, cond, List, [], ◌∷◌, ◌++◌, length, map, take, refl, sym, ap, ◌∙◌, subst, arith, append-nil, length-append}
use Rattle.std.specs.Prelude.{codes, filter}
use Rattle.std.specs.List.{AllZip, AllByRecursion, flat_map}
use Rattle.std.proofs.lemmas.List.{append_assoc, take_at, take_all}
use Rattle.spg_script.specs.declared.key_form.KeyForm.{KeyForm}
use Rattle.spg_script.specs.declared.class_line.ClassLine.{ClassLine}
use Rattle.spg_script.specs.declared.class_line.ClassLine.TheVariants.{Quad}
use Rattle.spg_script.specs.declared.command.Command.{Command}
use Rattle.spg_script.specs.Blocks.{Part, alone_part, block_part, Script}
use Rattle.spg_script.specs.Spelling.{class_text}
use Rattle.spg_script.specs.Line.{keys_of, SpellsCommand}
use Rattle.spg_script.specs.Script.{lines_of, says_something, Saying, block_opens, lane_opens, block_ends, says, lane_sayings, block_sayings, sayings, IsLaneCommand, IsBlock, IsPart, Spells, AreSpoken, IsScript, CanGoOn, IsFirstBad}
use Rattle.spg_script.specs.Reader.{Place, at_start, between, inside, SaysFrom, LeadTo, Refuses, IsEnd, script_at, ReadersFind, ReadersGoOn}
use Rattle.spg_script.proofs.ClassLines.{same_class}
use Rattle.spg_script.proofs.Scripts.{one_saying, one_list, first_two, IsNoCommand, lanes_no, same_block, block_says, same_command, starts_no}

-- ---- lines that say something

spoken_append : (xs ys : List (List ℕ)) → filter says_something (xs ++ ys) ≡ filter says_something xs ++ filter says_something ys
spoken_append [] ys = refl
spoken_append (x ∷ xs) ys = go (says_something x) (spoken_append xs ys)
  where
    go : (t : Bool) → filter says_something (xs ++ ys) ≡ filter says_something xs ++ filter says_something ys
        → cond t (x ∷ filter says_something (xs ++ ys)) (filter says_something (xs ++ ys)) ≡ cond t (x ∷ filter says_something xs) (filter says_something xs) ++ filter says_something ys
    go true rest = ap (λ l. x ∷ l) rest
    go false rest = rest

-- the lines so far, this one, and what follows
pub spoken_with : (lines : List (List ℕ)) (line : List ℕ) (more : List (List ℕ)) → says_something line ≡ true → filter says_something ((lines ++ line ∷ []) ++ more) ≡ filter says_something lines ++ line ∷ filter says_something more
spoken_with lines line more some =
    ap (filter says_something) (append_assoc lines (line ∷ []) more) ∙ spoken_append lines (line ∷ more) ∙ ap (λ (t : Bool). filter says_something lines ++ cond t (line ∷ filter says_something more) (filter says_something more)) some

-- ---- what is said so far, and next

-- the sayings of longer lines begin with those of the first of them
pub record Next (keys : KeyForm) (all ss : List Saying) (line : List ℕ) : Type 0 where
  pub next : Saying
  pub more : List Saying
  pub is : all ≡ ss ++ next ∷ more
  pub spells : Spells keys next line

next_of : (keys : KeyForm) (all ss : List Saying) (lines : List (List ℕ)) (line : List ℕ) (rest : List (List ℕ)) → AllZip (Spells keys) all (lines ++ line ∷ rest) → AllZip (Spells keys) ss lines → Next keys all ss line
next_of keys [] [] [] line rest a b = absurd a
next_of keys (s ∷ all) [] [] line rest a b = record { next = s; more = all; is = refl; spells = a.0 }
next_of keys [] [] (l ∷ lines) line rest a b = absurd b
next_of keys (s ∷ all) [] (l ∷ lines) line rest a b = absurd b
next_of keys [] (t ∷ ss) [] line rest a b = absurd b
next_of keys (s ∷ all) (t ∷ ss) [] line rest a b = absurd b
next_of keys [] (t ∷ ss) (l ∷ lines) line rest a b = absurd a
next_of keys (s ∷ all) (t ∷ ss) (l ∷ lines) line rest a b =
    let later = next_of keys all ss lines line rest a.1 b.1 in
    record { next = later.next; more = later.more; is = ap (λ (x : Saying). x ∷ all) (one_saying keys s t l a.0 b.0) ∙ ap (λ k. t ∷ k) later.is; spells = later.spells }

-- ---- blocks

-- the blocks behind the first ones
pub record Behind (all parts : List Part) (ss : List Saying) : Type 0 where
  pub later : List Part
  pub says : sayings later ≡ ss
  pub are : AllByRecursion IsPart later

behind : (all parts : List Part) (ss : List Saying) → AllByRecursion IsPart all → AllByRecursion IsPart parts → sayings all ≡ sayings parts ++ ss → Behind all parts ss
behind all [] ss a b is = record { later = all; says = is; are = a }
behind [] (p ∷ parts) ss a b is = absurd (block_says p.together p.lanes (sayings parts ++ ss) b.0 (is ∙ append_assoc (block_sayings p.together p.lanes) (sayings parts) ss))
behind (q ∷ all) (p ∷ parts) ss a b is =
    let same = same_block q.together p.together q.lanes p.lanes (sayings all) (sayings parts ++ ss) a.0 b.0 (is ∙ append_assoc (block_sayings p.together p.lanes) (sayings parts) ss) in
    let rest = behind all parts ss a.1 b.1 same.2 in record { later = rest.later; says = rest.says; are = rest.are }

-- a block begins with `together` or is a command
abbrev Begins : Saying → Type 0
Begins s = (s ≡ block_opens) ⊎ ((c : Command) × (s ≡ says c))

block_begins : (together : Bool) (lanes : List (List Command)) (rest : List Saying) (s : Saying) (more : List Saying) → IsBlock together lanes → block_sayings together lanes ++ rest ≡ s ∷ more → Begins s
block_begins true lanes rest s more is e = inl (sym (first_two block_opens s _ more e).0)
block_begins false lanes rest s more (c, one) e =
    let said : says c ∷ rest ≡ s ∷ more = ap (λ k. flat_map (map says) k ++ rest) (sym one) ∙ e in inr (c, sym (first_two (says c) s rest more said).0)

parts_begin : (parts : List Part) (s : Saying) (more : List Saying) → AllByRecursion IsPart parts → sayings parts ≡ s ∷ more → Begins s
parts_begin [] s more are e = (cc)
parts_begin (p ∷ parts) s more are e = block_begins p.together p.lanes (sayings parts) s more are.0 e

-- ---- lanes

cut : (l m : List Command) (A B : List Saying) → IsNoCommand A → AllByRecursion IsLaneCommand l → map says l ++ A ≡ map says m ++ B → ((l ≡ m) × (A ≡ B)) ⊎ ((c : Command) × (rest : List Saying) × (B ≡ says c ∷ rest) × IsLaneCommand c)
cut [] [] A B none are e = inl (refl, e)
cut [] (d ∷ m) A B none are e = absurd (starts_no d (map says m ++ B) A (sym e) none)
cut (c ∷ l) [] A B none are e = inr (c, map says l ++ A, sym e, are.0)
cut (c ∷ l) (d ∷ m) A B none are e =
    let parts = first_two (says c) (says d) (map says l ++ A) (map says m ++ B) e in
    elim (cut l m A B none are.1 parts.1) [
      | inl same ↦ inl (ap (λ (x : Command). x ∷ l) (same_command c d parts.0) ∙ ap (λ k. d ∷ k) same.0, same.1)
      | inr other ↦ inr other
    ]

-- what may follow the lanes of an open block: its end, one more lane, or a command
abbrev Follows : List (List Command) → List (List Command) → List Saying → Type 0
Follows L lanes [] = ⊥
Follows L lanes (s ∷ more) = ((s ≡ block_ends) × (L ≡ lanes)) ⊎ (((s ≡ lane_opens) × (length lanes < length L)) ⊎ ((c : Command) × (s ≡ says c) × IsLaneCommand c × (0 < length lanes)))

follows_more : (l m : List Command) (L lanes : List (List Command)) (more : List Saying) → l ≡ m → Follows L lanes more → Follows (l ∷ L) (m ∷ lanes) more
follows_more l m L lanes [] same f = absurd f
follows_more l m L lanes (s ∷ more) same (inl ends) = inl (ends.0, ap (λ (x : List Command). x ∷ L) same ∙ ap (λ k. m ∷ k) ends.1)
follows_more l m L lanes (s ∷ more) same (inr (inl opens)) = inr (inl (opens.0, omega (arith, opens.1)))
follows_more l m L lanes (s ∷ more) same (inr (inr (c, is, lane, some))) = inr (inr (c, is, lane, omega arith))

follows_command : (l m : List Command) (L lanes : List (List Command)) (more : List Saying) (c : Command) (rest : List Saying) → lane_sayings lanes ++ more ≡ says c ∷ rest → IsLaneCommand c → Follows (l ∷ L) (m ∷ lanes) more
follows_command l m L (x ∷ lanes) more c rest e lane = (cc)
follows_command l m L [] [] c rest e lane = (cc)
follows_command l m L [] (s ∷ more) c rest e lane = inr (inr (c, (first_two s (says c) more rest e).0, lane, omega arith))

lanes_next : (L lanes : List (List Command)) (X more : List Saying) → AllByRecursion (AllByRecursion IsLaneCommand) L → lane_sayings L ++ block_ends ∷ X ≡ lane_sayings lanes ++ more → Follows L lanes more
lanes_next [] [] X [] are e = (cc)
lanes_next [] [] X (s ∷ more) are e = inl (sym (first_two block_ends s X more e).0, refl)
lanes_next [] (m ∷ lanes) X more are e = (cc)
lanes_next (l ∷ L) [] X [] are e = (cc)
lanes_next (l ∷ L) [] X (s ∷ more) are e = inr (inl (sym (first_two lane_opens s _ more e).0, omega arith))
lanes_next (l ∷ L) (m ∷ lanes) X more are e =
    let parts = first_two lane_opens lane_opens _ _ e in
    let grouped = sym (append_assoc (map says l) (lane_sayings L) (block_ends ∷ X)) ∙ parts.1 ∙ append_assoc (map says m) (lane_sayings lanes) more in
    elim (cut l m (lane_sayings L ++ block_ends ∷ X) (lane_sayings lanes ++ more) (lanes_no L X) are.0 grouped) [
      | inl same ↦ follows_more l m L lanes more same.0 (lanes_next L lanes X more are.1 same.1)
      | inr other ↦ follows_command l m L lanes more other.0 other.1 other.2 other.3
    ]

-- the lanes of the block that is open
pub record Opened (lanes : List (List Command)) (more : List Saying) : Type 0 where
  pub whole : List (List Command)
  pub some : 1 ≤ length whole
  pub few : length whole ≤ 32
  pub follows : Follows whole lanes more

block_opened : (together : Bool) (L lanes : List (List Command)) (X more : List Saying) → IsBlock together L → block_sayings together L ++ X ≡ block_opens ∷ (lane_sayings lanes ++ more) → Opened lanes more
block_opened true L lanes X more is e =
    let parts = first_two block_opens block_opens _ _ e in
    record { whole = L; some = is.0; few = is.1; follows = lanes_next L lanes X more is.2 (sym (append_assoc (lane_sayings L) (block_ends ∷ []) X) ∙ parts.1) }
block_opened false L lanes X more (c, one) e =
    let said : says c ∷ X ≡ block_opens ∷ (lane_sayings lanes ++ more) = ap (λ k. flat_map (map says) k ++ X) (sym one) ∙ e in (cc)

parts_opened : (parts : List Part) (lanes : List (List Command)) (more : List Saying) → AllByRecursion IsPart parts → sayings parts ≡ block_opens ∷ (lane_sayings lanes ++ more) → Opened lanes more
parts_opened [] lanes more are e = (cc)
parts_opened (p ∷ parts) lanes more are e = block_opened p.together p.lanes lanes (sayings parts) more are.0 e

-- ---- going on

front_append : (class : ClassLine) (ss tt2 : List Saying) (lines more : List (List ℕ)) → SaysFrom class ss lines → AllZip (Spells (keys_of class)) tt2 more → SaysFrom class (ss ++ tt2) (lines ++ more)
front_append class ss tt2 [] more spoken spelled = absurd spoken
front_append class ss tt2 (line ∷ lines) more is spelled = (is.0, zip ss lines is.1)
  where
    zip : (ss : List Saying) (lines : List (List ℕ)) → AllZip (Spells (keys_of class)) ss lines → AllZip (Spells (keys_of class)) (ss ++ tt2) (lines ++ more)
    zip [] [] all = spelled
    zip [] (l ∷ lines) all = absurd all
    zip (s ∷ ss) [] all = absurd all
    zip (s ∷ ss) (l ∷ lines) all = (all.0, zip ss lines all.1)

spoken_script : (class : ClassLine) (parts : List Part) (spoken : List (List ℕ)) → SaysFrom class (sayings parts) spoken → AllByRecursion IsPart parts → AreSpoken spoken (script_at class parts)
spoken_script class parts [] spoken are = absurd spoken
spoken_script class parts (line ∷ lines) spoken are = (spoken.0, are, spoken.1)

sayings_append : (ps qs : List Part) → sayings (ps ++ qs) ≡ sayings ps ++ sayings qs
sayings_append [] qs = refl
sayings_append (p ∷ ps) qs = ap (λ l. block_sayings p.together p.lanes ++ l) (sayings_append ps qs) ∙ sym (append_assoc (block_sayings p.together p.lanes) (sayings ps) (sayings qs))

each_append : {A : Type 0} (P : A → Type 0) (xs ys : List A) → AllByRecursion P xs → AllByRecursion P ys → AllByRecursion P (xs ++ ys)
each_append P [] ys each more = more
each_append P (x ∷ xs) ys each more = (each.0, each_append P xs ys each.1 more)

-- a block that is closed by these sayings
close : (class : ClassLine) (parts : List Part) (lanes whole : List (List Command)) (lines : List (List ℕ)) (last : List Saying) (more : List (List ℕ)) → LeadTo (inside class parts lanes) (filter says_something lines)
    → lane_sayings lanes ++ last ≡ lane_sayings whole ++ block_ends ∷ [] → IsBlock true whole → AllZip (Spells (keys_of class)) last more → filter says_something more ≡ more → CanGoOn lines
close class parts lanes whole lines last more lead is block spelled all =
    let p : Part = record { together = true; lanes = whole } in
    let front = front_append class (sayings parts ++ block_opens ∷ lane_sayings lanes) last (filter says_something lines) more lead.0 spelled in
    let said : (sayings parts ++ block_opens ∷ lane_sayings lanes) ++ last ≡ sayings (parts ++ p ∷ []) =
    append_assoc (sayings parts) (block_opens ∷ lane_sayings lanes) last ∙ ap (λ l. sayings parts ++ block_opens ∷ l) is
    ∙ ap (λ l. sayings parts ++ l) (sym (append-nil (block_sayings true whole))) ∙ sym (sayings_append parts (p ∷ [])) in
    let lines_are : filter says_something (lines ++ more) ≡ filter says_something lines ++ more = spoken_append lines more ∙ ap (λ l. filter says_something lines ++ l) all in (
      more,
      script_at class (parts ++ p ∷ []),
      subst (λ (l : List (List ℕ)). AreSpoken l (script_at class (parts ++ p ∷ []))) (sym lines_are)
          (spoken_script class (parts ++ p ∷ []) (filter says_something lines ++ more) (subst (λ (ss : List Saying). SaysFrom class ss (filter says_something lines ++ more)) said front) (each_append IsPart parts (p ∷ []) lead.1 (block, tt))),
    )

goes_on : (p : Place) (lines : List (List ℕ)) → LeadTo p (filter says_something lines) → CanGoOn lines
goes_on at_start lines lead =
    (class_text Quad ∷ [], script_at Quad [], subst (λ (l : List (List ℕ)). AreSpoken l (script_at Quad [])) (sym (spoken_append lines (class_text Quad ∷ []) ∙ ap (λ l. l ++ class_text Quad ∷ []) lead)) (refl, tt, tt))
goes_on (between class parts) lines lead =
    ([], script_at class parts, subst (λ (l : List (List ℕ)). AreSpoken l (script_at class parts)) (ap (filter says_something) (sym (append-nil lines))) (spoken_script class parts (filter says_something lines) lead.0 lead.1))
goes_on (inside class parts []) lines lead =
    close class parts [] ([] ∷ []) lines (lane_opens ∷ block_ends ∷ []) (codes "lane" ∷ codes "end" ∷ []) lead refl (omega arith, omega arith, (tt, tt)) (refl, (refl, tt)) refl
goes_on (inside class parts (lane ∷ lanes)) lines lead =
    close class parts (lane ∷ lanes) (lane ∷ lanes) lines (block_ends ∷ []) (codes "end" ∷ []) lead refl (omega arith, lead.2, lead.3) (refl, tt) refl

-- ---- a line that is refused

-- the script of lines that go on has the class, and its sayings begin with what was said
pub record GoesOn (class : ClassLine) (ss : List Saying) (line : List ℕ) : Type 0 where
  pub parts : List Part
  pub are : AllByRecursion IsPart parts
  pub next : Next (keys_of class) (sayings parts) ss line

going : (class : ClassLine) (ss : List Saying) (spoken : List (List ℕ)) (line : List ℕ) (rest : List (List ℕ)) (script : Script) → SaysFrom class ss spoken → AreSpoken (spoken ++ line ∷ rest) script → GoesOn class ss line
going class ss [] line rest script said spoken = absurd said
going class ss (l ∷ lines) line rest script said spoken =
    let same : script.class ≡ class = same_class script.class class (sym spoken.0 ∙ said.0) in
    record { parts = script.parts; are = spoken.1; next = next_of (keys_of class) (sayings script.parts) ss lines line rest (subst (λ (k : ClassLine). AllZip (Spells (keys_of k)) (sayings script.parts) (lines ++ line ∷ rest)) same spoken.2) said.1 }

refused_between : (class : ClassLine) (parts : List Part) (line : List ℕ) → AllByRecursion IsPart parts → Refuses (between class parts) line → GoesOn class (sayings parts) line → ⊥
refused_between class parts line are refuses g =
    let rest = behind g.parts parts (g.next.next ∷ g.next.more) g.are are g.next.is in
    elim (parts_begin rest.later g.next.next g.next.more rest.are rest.says) [
      | inl opens ↦ refuses.0 (subst (λ (s : Saying). Spells (keys_of class) s line) opens g.next.spells)
      | inr command ↦ refuses.1 command.0 (subst (λ (s : Saying). Spells (keys_of class) s line) command.1 g.next.spells)
    ]

no_lanes : (lanes : List (List Command)) → lanes ≡ [] → 0 < length lanes → ⊥
no_lanes lanes none some = absurd (omega (arith, ap length none, some))

refused_inside : (class : ClassLine) (parts : List Part) (lanes : List (List Command)) (line : List ℕ) → AllByRecursion IsPart parts → Refuses (inside class parts lanes) line → GoesOn class (sayings parts ++ block_opens ∷ lane_sayings lanes) line → ⊥
refused_inside class parts lanes line are refuses g =
    let rest = behind g.parts parts (block_opens ∷ (lane_sayings lanes ++ g.next.next ∷ g.next.more)) g.are are (g.next.is ∙ append_assoc (sayings parts) (block_opens ∷ lane_sayings lanes) (g.next.next ∷ g.next.more)) in
    let o = parts_opened rest.later lanes (g.next.next ∷ g.next.more) rest.are rest.says in
    elim o.follows [
      | inl ends ↦ no_lanes lanes (refuses.1 (subst (λ (s : Saying). Spells (keys_of class) s line) ends.0 g.next.spells)) (subst (λ (l : List (List Command)). 0 < length l) ends.1 o.some)
      | inr other ↦ elim other [
        | inl opens ↦ absurd (omega (arith, o.few, opens.1, refuses.0 (subst (λ (s : Saying). Spells (keys_of class) s line) opens.0 g.next.spells)))
        | inr command ↦ no_lanes lanes (refuses.2 command.0 (subst (λ (s : Saying). Spells (keys_of class) s line) command.1 g.next.spells) command.2) command.3
      ]
    ]

bad : (p : Place) (lines : List (List ℕ)) (line : List ℕ) → LeadTo p (filter says_something lines) → says_something line ≡ true → Refuses p line → CanGoOn (lines ++ line ∷ []) → ⊥
bad at_start lines line lead some refuses (more, script, are) =
    let spoken = subst (λ (l : List (List ℕ)). AreSpoken l script) (spoken_with lines line more some ∙ ap (λ l. l ++ line ∷ filter says_something more) lead) are in refuses script.class spoken.0
bad (between class parts) lines line lead some refuses (more, script, are) =
    refused_between class parts line lead.1 refuses (going class (sayings parts) (filter says_something lines) line (filter says_something more) script lead.0 (subst (λ (l : List (List ℕ)). AreSpoken l script) (spoken_with lines line more some) are))
bad (inside class parts lanes) lines line lead some refuses (more, script, are) =
    refused_inside class parts lanes line lead.1 refuses (going class (sayings parts ++ block_opens ∷ lane_sayings lanes) (filter says_something lines) line (filter says_something more) script lead.0 (subst (λ (l : List (List ℕ)). AreSpoken l script) (spoken_with lines line more some) are))

-- ---- the end

open_no_script : (class : ClassLine) (parts : List Part) (lanes : List (List Command)) (spoken : List (List ℕ)) (script : Script) → AllByRecursion IsPart parts → SaysFrom class (sayings parts ++ block_opens ∷ lane_sayings lanes) spoken → AreSpoken spoken script → ⊥
open_no_script class parts lanes [] script are said spoken = said
open_no_script class parts lanes (l ∷ lines) script are said spoken =
    let same : script.class ≡ class = same_class script.class class (sym spoken.0 ∙ said.0) in
    let all : sayings script.parts ≡ sayings parts ++ block_opens ∷ lane_sayings lanes =
    one_list (keys_of class) (sayings script.parts) (sayings parts ++ block_opens ∷ lane_sayings lanes) lines (subst (λ (k : ClassLine). AllZip (Spells (keys_of k)) (sayings script.parts) lines) same spoken.2) said.1 in
    let rest = behind script.parts parts (block_opens ∷ lane_sayings lanes) spoken.1 are all in
    (parts_opened rest.later lanes [] rest.are (rest.says ∙ ap (λ l. block_opens ∷ l) (sym (append-nil (lane_sayings lanes))))).follows

unended : (p : Place) (bytes : List ℕ) → LeadTo p (filter says_something (lines_of bytes)) → (IsEnd p → ⊥) → (script : Script) → IsScript bytes script → ⊥
unended at_start bytes lead no_end script is = subst (λ (l : List (List ℕ)). AreSpoken l script) lead is
unended (between class parts) bytes lead no_end script is = no_end tt
unended (inside class parts lanes) bytes lead no_end script is = open_no_script class parts lanes (filter says_something (lines_of bytes)) script lead.1 lead.0 is

first_bad : (p : Place) (bytes : List ℕ) (lines : List (List ℕ)) (line : List ℕ) (rest : List (List ℕ)) → lines_of bytes ≡ lines ++ line ∷ rest → LeadTo p (filter says_something lines) → says_something line ≡ true → Refuses p line → IsFirstBad bytes (length lines + 1)
first_bad p bytes lines line rest is lead some refuses =
    let long : length (lines_of bytes) ≡ length lines + suc (length rest) = ap length is ∙ length-append lines (line ∷ rest) in
    let before : length lines + 1 - 1 ≡ length lines = omega arith in
    let front : take (length lines + 1 - 1) (lines_of bytes) ≡ lines = ap (λ n. take n (lines_of bytes)) before ∙ ap (take (length lines)) is ∙ take_at lines (line ∷ rest) (length lines) refl in
    let with_it : take (length lines + 1) (lines_of bytes) ≡ lines ++ line ∷ [] =
    ap (take (length lines + 1)) (is ∙ sym (append_assoc lines (line ∷ []) rest)) ∙ take_at (lines ++ line ∷ []) rest (length lines + 1) (omega (arith, length-append lines (line ∷ []))) in
    record {
      counted = omega arith;
      within = omega (arith, long);
      before = subst CanGoOn (sym front) (goes_on p lines lead);
      bad = λ there on. bad p lines line lead some refuses (subst CanGoOn with_it on);
      ended = λ at_end. absurd (omega (arith, long, at_end));
    }

early_end : (p : Place) (bytes : List ℕ) → LeadTo p (filter says_something (lines_of bytes)) → (IsEnd p → ⊥) → IsFirstBad bytes (length (lines_of bytes) + 1)
early_end p bytes lead no_end =
    let before : length (lines_of bytes) + 1 - 1 ≡ length (lines_of bytes) = omega arith in
    record {
      counted = omega arith;
      within = omega arith;
      before = subst CanGoOn (sym (ap (λ n. take n (lines_of bytes)) before ∙ take_all (length (lines_of bytes)) (lines_of bytes) (omega arith))) (goes_on p (lines_of bytes) lead);
      bad = λ there. absurd (omega (arith, there));
      ended = λ at_end script is. unended p bytes lead no_end script is;
    }

pub find : ReadersFind
find = record { goes_on = goes_on; bad = bad; is_script = λ class parts bytes lead. spoken_script class parts (filter says_something (lines_of bytes)) lead.0 lead.1; first_bad = first_bad; early_end = early_end; unended = unended }

-- ---- one more line

silent : (p : Place) (lines : List (List ℕ)) (line : List ℕ) → says_something line ≡ false → LeadTo p (filter says_something lines) → LeadTo p (filter says_something (lines ++ line ∷ []))
silent p lines line none lead =
    let same : filter says_something (lines ++ line ∷ []) ≡ filter says_something lines =
    spoken_append lines (line ∷ []) ∙ ap (λ (t : Bool). filter says_something lines ++ cond t (line ∷ []) []) none ∙ append-nil (filter says_something lines) in
    subst (LeadTo p) (sym same) lead

spoken : (p : Place) (lines : List (List ℕ)) (line : List ℕ) → says_something line ≡ true → LeadTo p (filter says_something lines ++ line ∷ []) → LeadTo p (filter says_something (lines ++ line ∷ []))
spoken p lines line some lead =
    let same : filter says_something (lines ++ line ∷ []) ≡ filter says_something lines ++ line ∷ [] = spoken_append lines (line ∷ []) ∙ ap (λ (t : Bool). filter says_something lines ++ cond t (line ∷ []) []) some in
    subst (LeadTo p) (sym same) lead

class_line : (k : ClassLine) (spoken : List (List ℕ)) → LeadTo at_start spoken → LeadTo (between k []) (spoken ++ class_text k ∷ [])
class_line k spoken lead = subst (λ (l : List (List ℕ)). LeadTo (between k []) (l ++ class_text k ∷ [])) (sym lead) ((refl, tt), tt)

command_line : (k : ClassLine) (parts : List Part) (c : Command) (spoken : List (List ℕ)) (line : List ℕ) → LeadTo (between k parts) spoken → SpellsCommand (keys_of k) c line → LeadTo (between k (parts ++ alone_part c ∷ [])) (spoken ++ line ∷ [])
command_line k parts c spoken line lead spelled = (
  subst (λ (ss : List Saying). SaysFrom k ss (spoken ++ line ∷ [])) (sym (sayings_append parts (alone_part c ∷ []))) (front_append k (sayings parts) (says c ∷ []) spoken (line ∷ []) lead.0 (spelled, tt)),
  each_append IsPart parts (alone_part c ∷ []) lead.1 ((c, refl), tt),
)

opens_line : (k : ClassLine) (parts : List Part) (spoken : List (List ℕ)) → LeadTo (between k parts) spoken → LeadTo (inside k parts []) (spoken ++ codes "together" ∷ [])
opens_line k parts spoken lead = (front_append k (sayings parts) (block_opens ∷ []) spoken (codes "together" ∷ []) lead.0 (refl, tt), lead.1, omega arith, tt)

lanes_append : (ls ms : List (List Command)) → lane_sayings (ls ++ ms) ≡ lane_sayings ls ++ lane_sayings ms
lanes_append [] ms = refl
lanes_append (l ∷ ls) ms = ap (λ k. lane_opens ∷ (map says l ++ k)) (lanes_append ls ms) ∙ ap (λ k. lane_opens ∷ k) (sym (append_assoc (map says l) (lane_sayings ls) (lane_sayings ms)))

lane_line : (k : ClassLine) (parts : List Part) (lanes : List (List Command)) (spoken : List (List ℕ)) → LeadTo (inside k parts lanes) spoken → length lanes < 32 → LeadTo (inside k parts (lanes ++ [] ∷ [])) (spoken ++ codes "lane" ∷ [])
lane_line k parts lanes spoken lead few =
    let front = front_append k (sayings parts ++ block_opens ∷ lane_sayings lanes) (lane_opens ∷ []) spoken (codes "lane" ∷ []) lead.0 (refl, tt) in
    let said : (sayings parts ++ block_opens ∷ lane_sayings lanes) ++ lane_opens ∷ [] ≡ sayings parts ++ block_opens ∷ lane_sayings (lanes ++ [] ∷ []) =
    append_assoc (sayings parts) (block_opens ∷ lane_sayings lanes) (lane_opens ∷ []) ∙ ap (λ l. sayings parts ++ block_opens ∷ l) (sym (lanes_append lanes ([] ∷ []))) in
    (subst (λ (ss : List Saying). SaysFrom k ss (spoken ++ codes "lane" ∷ [])) said front, lead.1, omega (arith, length-append lanes ([] ∷ []), few), each_append (AllByRecursion IsLaneCommand) lanes ([] ∷ []) lead.3 (tt, tt))

map_push : (lane : List Command) (c : Command) → map says (lane ++ c ∷ []) ≡ map says lane ++ says c ∷ []
map_push [] c = refl
map_push (d ∷ lane) c = ap (λ l. says d ∷ l) (map_push lane c)

in_lane_line : (k : ClassLine) (parts : List Part) (front : List (List Command)) (lane : List Command) (c : Command) (spoken : List (List ℕ)) (line : List ℕ) → LeadTo (inside k parts (front ++ lane ∷ [])) spoken → IsLaneCommand c → SpellsCommand (keys_of k) c line
    → LeadTo (inside k parts (front ++ (lane ++ c ∷ []) ∷ [])) (spoken ++ line ∷ [])
in_lane_line k parts front lane c spoken line lead is spelled =
    let longer = front_append k (sayings parts ++ block_opens ∷ lane_sayings (front ++ lane ∷ [])) (says c ∷ []) spoken (line ∷ []) lead.0 (spelled, tt) in
    let lanes_are : lane_sayings (front ++ lane ∷ []) ++ says c ∷ [] ≡ lane_sayings (front ++ (lane ++ c ∷ []) ∷ []) =
    ap (λ l. l ++ says c ∷ []) (lanes_append front (lane ∷ [])) ∙ append_assoc (lane_sayings front) (lane_opens ∷ (map says lane ++ [])) (says c ∷ [])
    ∙ ap (λ l. lane_sayings front ++ lane_opens ∷ l) (ap (λ l. l ++ says c ∷ []) (append-nil (map says lane)) ∙ sym (map_push lane c) ∙ sym (append-nil (map says (lane ++ c ∷ [])))) ∙ sym (lanes_append front ((lane ++ c ∷ []) ∷ [])) in
    let said : (sayings parts ++ block_opens ∷ lane_sayings (front ++ lane ∷ [])) ++ says c ∷ [] ≡ sayings parts ++ block_opens ∷ lane_sayings (front ++ (lane ++ c ∷ []) ∷ []) =
    append_assoc (sayings parts) (block_opens ∷ lane_sayings (front ++ lane ∷ [])) (says c ∷ []) ∙ ap (λ l. sayings parts ++ block_opens ∷ l) lanes_are in (
      subst (λ (ss : List Saying). SaysFrom k ss (spoken ++ line ∷ [])) said longer,
      lead.1,
      omega (arith, lead.2, length-append front (lane ∷ []), length-append front ((lane ++ c ∷ []) ∷ [])),
      last_lane front lead.3,
    )
  where
    last_lane : (front : List (List Command)) → AllByRecursion (AllByRecursion IsLaneCommand) (front ++ lane ∷ []) → AllByRecursion (AllByRecursion IsLaneCommand) (front ++ (lane ++ c ∷ []) ∷ [])
    last_lane [] each = (each_append IsLaneCommand lane (c ∷ []) each.0 (is, tt), tt)
    last_lane (l ∷ front) each = (each.0, last_lane front each.1)

end_line : (k : ClassLine) (parts : List Part) (lanes : List (List Command)) (spoken : List (List ℕ)) → LeadTo (inside k parts lanes) spoken → 1 ≤ length lanes → LeadTo (between k (parts ++ block_part lanes ∷ [])) (spoken ++ codes "end" ∷ [])
end_line k parts lanes spoken lead some =
    let front = front_append k (sayings parts ++ block_opens ∷ lane_sayings lanes) (block_ends ∷ []) spoken (codes "end" ∷ []) lead.0 (refl, tt) in
    let said : (sayings parts ++ block_opens ∷ lane_sayings lanes) ++ block_ends ∷ [] ≡ sayings (parts ++ block_part lanes ∷ []) =
    append_assoc (sayings parts) (block_opens ∷ lane_sayings lanes) (block_ends ∷ []) ∙ ap (λ l. sayings parts ++ l) (sym (append-nil (block_sayings true lanes))) ∙ sym (sayings_append parts (block_part lanes ∷ [])) in
    (subst (λ (ss : List Saying). SaysFrom k ss (spoken ++ codes "end" ∷ [])) said front, each_append IsPart parts (block_part lanes ∷ []) lead.1 ((some, lead.2, lead.3), tt))

pub go_on : ReadersGoOn
go_on = record { silent = silent; spoken = spoken; class = class_line; command = command_line; opens = opens_line; lane = lane_line; in_lane = in_lane_line; ends = end_line }
