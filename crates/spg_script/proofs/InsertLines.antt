-- A script of inserts is read line by line.
use Rattle.std.proofs.Common.{◌≡◌, inl, inr, ◌+◌, ◌-◌, ℕ, suc, Bool, true, false, List, [], ◌∷◌, ◌++◌, length, map, take, drop, take-append-drop, refl, sym, ap, ◌∙◌, subst, arith, append-nil, length-append}
use Rattle.std.specs.Prelude.{filter}
use Rattle.std.specs.List.{AllZip, AllByRecursion}
use Rattle.std.proofs.lemmas.Bool.{cases_lt}
use Rattle.std.proofs.lemmas.List.{append_assoc, map-append, take_at, take_all}
use Rattle.spg_script.specs.declared.key_form.KeyForm.{KeyForm}
use Rattle.spg_script.specs.declared.class_line.ClassLine.{ClassLine}
use Rattle.spg_script.specs.declared.class_line.ClassLine.TheVariants.{Quad}
use Rattle.spg_script.specs.declared.command.Command.{Command}
use Rattle.spg_script.specs.declared.command.Command.TheVariants.{Insert}
use Rattle.spg_script.specs.declared.inserts.Insert.{Insert as Inserted}
use Rattle.spg_script.specs.declared.inserts.Inserts.{Inserts}
use Rattle.spg_script.specs.declared.inserts.InsertReader.{InsertReader}
use Rattle.spg_script.specs.declared.inserts.InsertReader.TheVariants.{Start, Named}
use Rattle.spg_script.specs.declared.refused.ScriptRefused.TheVariants.{BadLine}
use Rattle.spg_script.specs.Blocks.{Part}
use Rattle.spg_script.specs.Spelling.{class_text}
use Rattle.spg_script.specs.Line.{keys_of, SpellsCommand}
use Rattle.spg_script.specs.Script.{lines_of, says_something, says, sayings, IsPart, Spells, AreSpoken, AreLines}
use Rattle.spg_script.specs.Reader.{Place, at_start, between, SaysFrom, LeadTo, script_at}
use Rattle.spg_script.specs.Inserts.{insert_part, script_of, IsInserts, CanInsertOn, IsFirstOther, IsInsertCause, insert_place, RefusesInsert, TakesInsert, StepsByInsert, GoesOnByInsert}
use Rattle.spg_script.proofs.ClassLines.{same_class}
use Rattle.spg_script.proofs.Scripts.{one_saying, same_command}
use Rattle.spg_script.proofs.Places.{spoken_with, go_on}
use Rattle.spg_script.proofs.ReadLines.{ReadSoFar}

-- ---- one line

pub insert_taken : (class : ClassLine) (rows longer : List Inserted) (i : Inserted) (line : List ℕ) → longer ≡ rows ++ i ∷ [] → SpellsCommand (keys_of class) (Insert i.row i.key) line
    → StepsByInsert (between class (map insert_part rows)) line true (between class (map insert_part longer))
insert_taken class rows longer i line pushed spelled =
    let all : map insert_part longer ≡ map insert_part rows ++ insert_part i ∷ [] = ap (map insert_part) pushed ∙ map-append insert_part rows (i ∷ []) in
    λ spoken lead. subst (λ (parts : List Part). LeadTo (between class parts) (spoken ++ line ∷ [])) (sym all) (go_on.command class (map insert_part rows) (Insert i.row i.key) spoken line lead spelled)

-- a line that says a command that is taken leads on, and one that says another is no insert
pub insert_steps : (old new : Inserts) (c : Command) (line : List ℕ) (taken : Bool) → SpellsCommand (keys_of old.class) c line → TakesInsert old c taken new → StepsByInsert (between old.class (map insert_part old.rows)) line taken (between new.class (map insert_part new.rows))
insert_steps old new c line true spelled (row, key, is, same, pushed) =
    let insert : SpellsCommand (keys_of old.class) (Insert row key) line = subst (λ (d : Command). SpellsCommand (keys_of old.class) d line) is spelled in
    subst (λ (k : ClassLine). StepsByInsert (between old.class (map insert_part old.rows)) line true (between k (map insert_part new.rows))) (sym same)
    (insert_taken old.class old.rows new.rows (record { row = row; key = key }) line pushed insert)
insert_steps old new c line false spelled other = λ row key insert. other row key (same_command c (Insert row key) (one_saying (keys_of old.class) (says c) (says (Insert row key)) line spelled insert))

pub class_taken : (class : ClassLine) (rows : List Inserted) (line : List ℕ) → rows ≡ [] → line ≡ class_text class → says_something line ≡ true → GoesOnByInsert at_start line true (between class (map insert_part rows))
class_taken class rows line none is some = λ lines lead.
    subst (λ (r : List Inserted). LeadTo (between class (map insert_part r)) (filter says_something (lines ++ line ∷ []))) (sym none)
    (go_on.spoken (between class []) lines line some (subst (λ (l : List ℕ). LeadTo (between class []) (filter says_something lines ++ l ∷ [])) (sym is) (go_on.class class (filter says_something lines) lead)))

pub goes_by : (p q : Place) (line : List ℕ) (taken : Bool) → says_something line ≡ true → StepsByInsert p line taken q → GoesOnByInsert p line taken q
goes_by p q line true some steps = λ lines lead. go_on.spoken q lines line some (steps (filter says_something lines) lead)
goes_by p q line false some steps = (some, steps)

pub takes_nothing : (p : Place) (line : List ℕ) → says_something line ≡ false → GoesOnByInsert p line true p
takes_nothing p line none = λ lines lead. go_on.silent p lines line none lead

-- ---- what some script of inserts begins with

said_script : (class : ClassLine) (parts : List Part) (spoken : List (List ℕ)) → SaysFrom class (sayings parts) spoken → AllByRecursion IsPart parts → AreSpoken spoken (script_at class parts)
said_script class parts [] said are = said
said_script class parts (line ∷ lines) said are = (said.0, are, said.1)

goes_on : (r : InsertReader) (lines : List (List ℕ)) → LeadTo (insert_place r) (filter says_something lines) → CanInsertOn lines
goes_on Start lines lead =
    let more : LeadTo (between Quad []) (filter says_something (lines ++ class_text Quad ∷ [])) = go_on.spoken (between Quad []) lines (class_text Quad) refl (go_on.class Quad (filter says_something lines) lead) in
    (class_text Quad ∷ [], record { class = Quad; rows = [] }, said_script Quad [] (filter says_something (lines ++ class_text Quad ∷ [])) more.0 more.1)
goes_on (Named i) lines lead =
    ([], i, subst (λ (l : List (List ℕ)). AreLines l (script_of i)) (sym (append-nil lines)) (said_script i.class (map insert_part i.rows) (filter says_something lines) lead.0 lead.1))

-- each line behind the class line is an insert
said_next : (keys : KeyForm) (rows : List Inserted) (lines : List (List ℕ)) (line : List ℕ) (rest : List (List ℕ)) → AllZip (Spells keys) (sayings (map insert_part rows)) (lines ++ line ∷ rest) → (i : Inserted) × SpellsCommand keys (Insert i.row i.key) line
said_next keys [] [] line rest a = absurd a
said_next keys [] (l ∷ lines) line rest a = absurd a
said_next keys (i ∷ rows) [] line rest a = (i, a.0)
said_next keys (i ∷ rows) (l ∷ lines) line rest a = said_next keys rows lines line rest a.1

bad : (r : InsertReader) (lines : List (List ℕ)) (line : List ℕ) → LeadTo (insert_place r) (filter says_something lines) → says_something line ≡ true → RefusesInsert (insert_place r) line → CanInsertOn (lines ++ line ∷ []) → ⊥
bad Start lines line lead some refuses (more, i, are) =
    let spoken = subst (λ (l : List (List ℕ)). AreSpoken l (script_of i)) (spoken_with lines line more some ∙ ap (λ l. l ++ line ∷ filter says_something more) lead) are in refuses i.class spoken.0
bad (Named x) lines line lead some refuses (more, i, are) = by (filter says_something lines) lead.0 (subst (λ (l : List (List ℕ)). AreSpoken l (script_of i)) (spoken_with lines line more some) are)
  where
    by : (spoken : List (List ℕ)) → SaysFrom x.class (sayings (map insert_part x.rows)) spoken → AreSpoken (spoken ++ line ∷ filter says_something more) (script_of i) → ⊥
    by [] said are = said
    by (l ∷ ls) said are =
        let same : i.class ≡ x.class = same_class i.class x.class (sym are.0 ∙ said.0) in
        let next = said_next (keys_of i.class) i.rows ls line (filter says_something more) are.2 in
        refuses next.0.row next.0.key (subst (λ (k : ClassLine). SpellsCommand (keys_of k) (Insert next.0.row next.0.key) line) same next.1)

first_other : (r : InsertReader) (bytes : List ℕ) (lines : List (List ℕ)) (line : List ℕ) (rest : List (List ℕ)) → lines_of bytes ≡ lines ++ line ∷ rest → LeadTo (insert_place r) (filter says_something lines) → says_something line ≡ true → RefusesInsert (insert_place r) line
    → IsFirstOther bytes (length lines + 1)
first_other r bytes lines line rest is lead some refuses =
    let long : length (lines_of bytes) ≡ length lines + suc (length rest) = ap length is ∙ length-append lines (line ∷ rest) in
    let before : length lines + 1 - 1 ≡ length lines = omega arith in
    let front : take (length lines + 1 - 1) (lines_of bytes) ≡ lines = ap (λ n. take n (lines_of bytes)) before ∙ ap (take (length lines)) is ∙ take_at lines (line ∷ rest) (length lines) refl in
    let with_it : take (length lines + 1) (lines_of bytes) ≡ lines ++ line ∷ [] =
    ap (take (length lines + 1)) (is ∙ sym (append_assoc lines (line ∷ []) rest)) ∙ take_at (lines ++ line ∷ []) rest (length lines + 1) (omega (arith, length-append lines (line ∷ []))) in
    record {
      counted = omega arith;
      within = omega (arith, long);
      before = subst CanInsertOn (sym front) (goes_on r lines lead);
      bad = λ there on. bad r lines line lead some refuses (subst CanInsertOn with_it on);
      ended = λ at_end. absurd (omega (arith, long, at_end));
    }

-- bytes with a first bad line are no script of inserts
pub no_inserts : (bytes : List ℕ) (n : ℕ) → IsFirstOther bytes n → (i : Inserts) → IsInserts bytes i → ⊥
no_inserts bytes n is i script = elim (cases_lt (length (lines_of bytes)) n) [
  | inl past ↦ is.ended (omega (arith, is.within)) i script
  | inr there ↦ is.bad there (drop n (lines_of bytes), i, rw (take-append-drop n (lines_of bytes)) script)
]

-- ---- all lines

module _ (bytes : List ℕ) (reader : InsertReader) (rest : List ℕ) (number : ℕ) (read : ReadSoFar bytes (insert_place reader) rest number) where
  pub other_line : (line after : List ℕ) (next : Place) → lines_of rest ≡ line ∷ lines_of after → GoesOnByInsert (insert_place reader) line false next → IsInsertCause bytes (BadLine (number + 1))
  other_line line after next split refused =
      let is : IsFirstOther bytes (length read.lines + 1) = first_other reader bytes read.lines line (lines_of after) (read.split ∙ ap (λ l. read.lines ++ l) split) read.lead refused.0 refused.1 in
      let first : IsFirstOther bytes (number + 1) = subst (λ (n : ℕ). IsFirstOther bytes (n + 1)) (sym read.count) is in
      (first, no_inserts bytes (number + 1) first)

  module _ (at_end : rest ≡ []) where
    all_read : lines_of bytes ≡ read.lines
    all_read = read.split ∙ ap (λ r. read.lines ++ lines_of r) at_end ∙ append-nil read.lines

    pub inserts_read : (i : Inserts) → reader ≡ Named i → IsInserts bytes i
    inserts_read i is =
        let lead : LeadTo (between i.class (map insert_part i.rows)) (filter says_something read.lines) = subst (λ (r : InsertReader). LeadTo (insert_place r) (filter says_something read.lines)) is read.lead in
        subst (λ (l : List (List ℕ)). AreLines l (script_of i)) (sym all_read) (said_script i.class (map insert_part i.rows) (filter says_something read.lines) lead.0 lead.1)

    pub no_class : reader ≡ Start → IsInsertCause bytes (BadLine (number + 1))
    no_class is =
        let lead : filter says_something (lines_of bytes) ≡ [] = ap (filter says_something) all_read ∙ subst (λ (r : InsertReader). LeadTo (insert_place r) (filter says_something read.lines)) is read.lead in
        let none : (i : Inserts) → IsInserts bytes i → ⊥ = λ i script. subst (λ (l : List (List ℕ)). AreSpoken l (script_of i)) lead script in
        let same : length (lines_of bytes) ≡ number = ap length all_read ∙ sym read.count in
        let before : length (lines_of bytes) + 1 - 1 ≡ length (lines_of bytes) = omega arith in
        let first : IsFirstOther bytes (length (lines_of bytes) + 1) = record {
          counted = omega arith;
          within = omega arith;
          before = subst CanInsertOn (sym (ap (λ n. take n (lines_of bytes)) before ∙ take_all (length (lines_of bytes)) (lines_of bytes) (omega arith))) (goes_on Start (lines_of bytes) lead);
          bad = λ there. absurd (omega (arith, there));
          ended = λ at_end. none;
        } in
        (subst (λ (n : ℕ). IsFirstOther bytes (n + 1)) same first, none)
