-- A script of commands outside lanes is read line by line.
use Rattle.std.proofs.Common.{◌≡◌, ◌<◌, inl, inr, ◌+◌, ◌-◌, ℕ, suc, Bool, true, false, List, [], ◌∷◌, ◌++◌, length, map, take, drop, take-append-drop, refl, sym, ap, ◌∙◌, subst, arith, append-nil, length-append}
use Rattle.std.specs.Prelude.{filter}
use Rattle.std.specs.List.{AllZip, AllByRecursion}
use Rattle.std.proofs.lemmas.Bool.{cases_lt}
use Rattle.std.proofs.lemmas.List.{append_assoc, map-append, take_at, take_all}
use Rattle.spg_script.specs.declared.key_form.KeyForm.{KeyForm}
use Rattle.spg_script.specs.declared.class_line.ClassLine.{ClassLine}
use Rattle.spg_script.specs.declared.class_line.ClassLine.TheVariants.{Quad}
use Rattle.spg_script.specs.declared.command.Command.{Command}
use Rattle.spg_script.specs.declared.sequence.Sequence.{Sequence}
use Rattle.spg_script.specs.declared.sequence.SequenceReader.{SequenceReader}
use Rattle.spg_script.specs.declared.sequence.SequenceReader.TheVariants.{Start, Named}
use Rattle.spg_script.specs.declared.refused.ScriptRefused.TheVariants.{BadLine}
use Rattle.spg_script.specs.Blocks.{Part, alone_part}
use Rattle.spg_script.specs.Spelling.{class_text}
use Rattle.spg_script.specs.Line.{keys_of, SpellsCommand}
use Rattle.spg_script.specs.Script.{lines_of, says_something, says, sayings, IsLaneCommand, IsPart, Spells, AreSpoken, AreLines}
use Rattle.spg_script.specs.Reader.{between, SaysFrom, LeadTo, script_at}
use Rattle.spg_script.specs.Sequences.{script_of, IsSequence, CanRunOn, IsFirstForeign, IsSequenceCause, place_between, sequence_place, commands_of, RefusesForeign, TakesOn, StepsInSequence, GoesOnInSequence}
use Rattle.spg_script.proofs.ClassLines.{same_class}
use Rattle.spg_script.proofs.Scripts.{one_saying, same_command}
use Rattle.spg_script.proofs.Places.{spoken_with, go_on}
use Rattle.spg_script.proofs.ReadLines.{ReadSoFar, read_more}

-- ---- one line

all_more : (commands : List Command) (c : Command) → AllByRecursion IsLaneCommand commands → IsLaneCommand c → AllByRecursion IsLaneCommand (commands ++ c ∷ [])
all_more [] c are is = (is, tt)
all_more (d ∷ commands) c are is = (are.0, all_more commands c are.1 is)

command_taken : (class : ClassLine) (commands longer : List Command) (c : Command) (line : List ℕ) → longer ≡ commands ++ c ∷ [] → SpellsCommand (keys_of class) c line
    → (spoken : List (List ℕ)) → LeadTo (between class (map alone_part commands)) spoken → LeadTo (between class (map alone_part longer)) (spoken ++ line ∷ [])
command_taken class commands longer c line pushed spelled =
    let all : map alone_part longer ≡ map alone_part commands ++ alone_part c ∷ [] = ap (map alone_part) pushed ∙ map-append alone_part commands (c ∷ []) in
    λ spoken lead. subst (λ (parts : List Part). LeadTo (between class parts) (spoken ++ line ∷ [])) (sym all) (go_on.command class (map alone_part commands) c spoken line lead spelled)

-- a line that says a command that is taken leads on, and one that says another is refused
pub sequence_steps : (old new : Sequence) (c : Command) (line : List ℕ) (taken : Bool) → SpellsCommand (keys_of old.class) c line → TakesOn old c taken new → StepsInSequence old line taken new
sequence_steps old new c line true spelled (is, same, pushed) = (
  subst (λ (k : ClassLine). (spoken : List (List ℕ)) → LeadTo (place_between old) spoken → LeadTo (between k (map alone_part new.commands)) (spoken ++ line ∷ [])) (sym same)
      (command_taken old.class old.commands new.commands c line pushed spelled),
  λ are. subst (λ (cs : List Command). AllByRecursion IsLaneCommand cs) (sym pushed) (all_more old.commands c are is),
)
sequence_steps old new c line false spelled other = λ d is spells. other (subst IsLaneCommand (sym (same_command c d (one_saying (keys_of old.class) (says c) (says d) line spelled spells))) is)

pub class_named : (class : ClassLine) (commands : List Command) (line : List ℕ) (reader : SequenceReader) → reader ≡ Named (record { class = class; commands = commands }) → commands ≡ [] → line ≡ class_text class → says_something line ≡ true
    → GoesOnInSequence Start line true reader
class_named class commands line reader now none is some =
    let all : reader ≡ Named (record { class = class; commands = [] }) = now ∙ ap (λ (cs : List Command). Named (record { class = class; commands = cs })) none in
    subst (λ (r : SequenceReader). GoesOnInSequence Start line true r) (sym all) (
      λ lines lead. go_on.spoken (between class []) lines line some (subst (λ (l : List ℕ). LeadTo (between class []) (filter says_something lines ++ l ∷ [])) (sym is) (go_on.class class (filter says_something lines) lead)),
      λ are. tt,
    )

pub steps_on : (old new : Sequence) (line : List ℕ) (taken : Bool) → says_something line ≡ true → StepsInSequence old line taken new → GoesOnInSequence (Named old) line taken (Named new)
steps_on old new line true some steps = (λ lines lead. go_on.spoken (place_between new) lines line some (steps.0 (filter says_something lines) lead), steps.1)
steps_on old new line false some steps = (some, steps)

pub says_nothing : (r : SequenceReader) (line : List ℕ) → says_something line ≡ false → GoesOnInSequence r line true r
says_nothing r line none = (λ lines lead. go_on.silent (sequence_place r) lines line none lead, λ are. are)

-- ---- what some such script begins with

said_script : (class : ClassLine) (parts : List Part) (spoken : List (List ℕ)) → SaysFrom class (sayings parts) spoken → AllByRecursion IsPart parts → AreSpoken spoken (script_at class parts)
said_script class parts [] said are = said
said_script class parts (line ∷ lines) said are = (said.0, are, said.1)

goes_on : (r : SequenceReader) (lines : List (List ℕ)) → LeadTo (sequence_place r) (filter says_something lines) → AllByRecursion IsLaneCommand (commands_of r) → CanRunOn lines
goes_on Start lines lead are =
    let more : LeadTo (between Quad []) (filter says_something (lines ++ class_text Quad ∷ [])) = go_on.spoken (between Quad []) lines (class_text Quad) refl (go_on.class Quad (filter says_something lines) lead) in
    (class_text Quad ∷ [], record { class = Quad; commands = [] }, said_script Quad [] (filter says_something (lines ++ class_text Quad ∷ [])) more.0 more.1, tt)
goes_on (Named s) lines lead are =
    ([], s, subst (λ (l : List (List ℕ)). AreLines l (script_of s)) (sym (append-nil lines)) (said_script s.class (map alone_part s.commands) (filter says_something lines) lead.0 lead.1), are)

-- each line behind the class line is a command
said_next : (keys : KeyForm) (commands : List Command) (lines : List (List ℕ)) (line : List ℕ) (rest : List (List ℕ)) → AllZip (Spells keys) (sayings (map alone_part commands)) (lines ++ line ∷ rest) → AllByRecursion IsLaneCommand commands
    → (c : Command) × IsLaneCommand c × SpellsCommand keys c line
said_next keys [] [] line rest a are = absurd a
said_next keys [] (l ∷ lines) line rest a are = absurd a
said_next keys (c ∷ commands) [] line rest a are = (c, are.0, a.0)
said_next keys (c ∷ commands) (l ∷ lines) line rest a are = said_next keys commands lines line rest a.1 are.1

bad : (r : SequenceReader) (lines : List (List ℕ)) (line : List ℕ) → LeadTo (sequence_place r) (filter says_something lines) → says_something line ≡ true → RefusesForeign (sequence_place r) line → CanRunOn (lines ++ line ∷ []) → ⊥
bad Start lines line lead some refuses (more, s, are, lane) =
    let spoken = subst (λ (l : List (List ℕ)). AreSpoken l (script_of s)) (spoken_with lines line more some ∙ ap (λ l. l ++ line ∷ filter says_something more) lead) are in refuses s.class spoken.0
bad (Named x) lines line lead some refuses (more, s, are, lane) = by (filter says_something lines) lead.0 (subst (λ (l : List (List ℕ)). AreSpoken l (script_of s)) (spoken_with lines line more some) are)
  where
    by : (spoken : List (List ℕ)) → SaysFrom x.class (sayings (map alone_part x.commands)) spoken → AreSpoken (spoken ++ line ∷ filter says_something more) (script_of s) → ⊥
    by [] said are = said
    by (l ∷ ls) said are =
        let same : s.class ≡ x.class = same_class s.class x.class (sym are.0 ∙ said.0) in
        let next = said_next (keys_of s.class) s.commands ls line (filter says_something more) are.2 lane in
        refuses next.0 next.1 (subst (λ (k : ClassLine). SpellsCommand (keys_of k) next.0 line) same next.2)

first_foreign : (r : SequenceReader) (bytes : List ℕ) (lines : List (List ℕ)) (line : List ℕ) (rest : List (List ℕ)) → lines_of bytes ≡ lines ++ line ∷ rest → LeadTo (sequence_place r) (filter says_something lines) → AllByRecursion IsLaneCommand (commands_of r)
    → says_something line ≡ true → RefusesForeign (sequence_place r) line → IsFirstForeign bytes (length lines + 1)
first_foreign r bytes lines line rest is lead commands some refuses =
    let long : length (lines_of bytes) ≡ length lines + suc (length rest) = ap length is ∙ length-append lines (line ∷ rest) in
    let before : length lines + 1 - 1 ≡ length lines = omega arith in
    let front : take (length lines + 1 - 1) (lines_of bytes) ≡ lines = ap (λ n. take n (lines_of bytes)) before ∙ ap (take (length lines)) is ∙ take_at lines (line ∷ rest) (length lines) refl in
    let with_it : take (length lines + 1) (lines_of bytes) ≡ lines ++ line ∷ [] =
    ap (take (length lines + 1)) (is ∙ sym (append_assoc lines (line ∷ []) rest)) ∙ take_at (lines ++ line ∷ []) rest (length lines + 1) (omega (arith, length-append lines (line ∷ []))) in
    record {
      counted = omega arith;
      within = omega (arith, long);
      before = subst CanRunOn (sym front) (goes_on r lines lead commands);
      bad = λ there on. bad r lines line lead some refuses (subst CanRunOn with_it on);
      ended = λ at_end. absurd (omega (arith, long, at_end));
    }

-- bytes with a first bad line are no such script
pub no_sequence : (bytes : List ℕ) (n : ℕ) → IsFirstForeign bytes n → (s : Sequence) → IsSequence bytes s → ⊥
no_sequence bytes n is s script = elim (cases_lt (length (lines_of bytes)) n) [
  | inl past ↦ is.ended (omega (arith, is.within)) s script
  | inr there ↦ is.bad there (drop n (lines_of bytes), s, rw (take-append-drop n (lines_of bytes)) script.is_script, script.commands)
]

-- ---- all lines

-- so far lines led to where the reader is, and each command is one that it takes
pub record ReadCommands (bytes : List ℕ) (reader : SequenceReader) (rest : List ℕ) (number : ℕ) : Type 0 where
  pub read : ReadSoFar bytes (sequence_place reader) rest number
  pub commands : AllByRecursion IsLaneCommand (commands_of reader)

module _ (bytes : List ℕ) (reader : SequenceReader) (rest : List ℕ) (number : ℕ) (so_far : ReadCommands bytes reader rest number) where
  abbrev read : ReadSoFar bytes (sequence_place reader) rest number
  read = so_far.read

  pub more_commands : (line after : List ℕ) (next : SequenceReader) → lines_of rest ≡ line ∷ lines_of after → length after < length rest → GoesOnInSequence reader line true next → ReadCommands bytes next after (number + 1)
  more_commands line after next split shorter goes = record {
    read = read_more bytes (sequence_place reader) rest number read line after split (sequence_place next) shorter goes.0;
    commands = goes.1 so_far.commands;
  }

  pub foreign_line : (line after : List ℕ) (next : SequenceReader) → lines_of rest ≡ line ∷ lines_of after → GoesOnInSequence reader line false next → IsSequenceCause bytes (BadLine (number + 1))
  foreign_line line after next split refused =
      let is : IsFirstForeign bytes (length read.lines + 1) = first_foreign reader bytes read.lines line (lines_of after) (read.split ∙ ap (λ l. read.lines ++ l) split) read.lead so_far.commands refused.0 refused.1 in
      let first : IsFirstForeign bytes (number + 1) = subst (λ (n : ℕ). IsFirstForeign bytes (n + 1)) (sym read.count) is in
      (first, no_sequence bytes (number + 1) first)

  module _ (at_end : rest ≡ []) where
    all_read : lines_of bytes ≡ read.lines
    all_read = read.split ∙ ap (λ r. read.lines ++ lines_of r) at_end ∙ append-nil read.lines

    pub sequence_read : (s : Sequence) → reader ≡ Named s → IsSequence bytes s
    sequence_read s is =
        let lead : LeadTo (place_between s) (filter says_something read.lines) = subst (λ (r : SequenceReader). LeadTo (sequence_place r) (filter says_something read.lines)) is read.lead in
        record {
          is_script = subst (λ (l : List (List ℕ)). AreLines l (script_of s)) (sym all_read) (said_script s.class (map alone_part s.commands) (filter says_something read.lines) lead.0 lead.1);
          commands = subst (λ (r : SequenceReader). AllByRecursion IsLaneCommand (commands_of r)) is so_far.commands;
        }

    pub no_class_line : reader ≡ Start → IsSequenceCause bytes (BadLine (number + 1))
    no_class_line is =
        let lead : filter says_something (lines_of bytes) ≡ [] = ap (filter says_something) all_read ∙ subst (λ (r : SequenceReader). LeadTo (sequence_place r) (filter says_something read.lines)) is read.lead in
        let none : (s : Sequence) → IsSequence bytes s → ⊥ = λ s script. subst (λ (l : List (List ℕ)). AreSpoken l (script_of s)) lead script.is_script in
        let same : length (lines_of bytes) ≡ number = ap length all_read ∙ sym read.count in
        let before : length (lines_of bytes) + 1 - 1 ≡ length (lines_of bytes) = omega arith in
        let first : IsFirstForeign bytes (length (lines_of bytes) + 1) = record {
          counted = omega arith;
          within = omega arith;
          before = subst CanRunOn (sym (ap (λ n. take n (lines_of bytes)) before ∙ take_all (length (lines_of bytes)) (lines_of bytes) (omega arith))) (goes_on Start (lines_of bytes) lead tt);
          bad = λ there. absurd (omega (arith, there));
          ended = λ at_end. none;
        } in
        (subst (λ (n : ℕ). IsFirstForeign bytes (n + 1)) same first, none)
