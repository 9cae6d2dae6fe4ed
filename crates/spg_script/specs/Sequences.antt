-- Scripts without lanes whose commands insert, delete, find or are vacuums.
use Rattle.std.specs.Prelude.{◌≡◌, ◌≤◌, ◌+◌, ◌-◌, ℕ, Bool, true, false, List, ◌∷◌, [], ◌++◌, filter, take, length, map, ⊤}
use Rattle.std.specs.List.{AllByRecursion}
use Rattle.spg_script.specs.declared.class_line.ClassLine.{ClassLine}
use Rattle.spg_script.specs.declared.command.Command.{Command}
use Rattle.spg_script.specs.declared.sequence.Sequence.{Sequence}
use Rattle.spg_script.specs.declared.sequence.SequenceReader.{SequenceReader}
use Rattle.spg_script.specs.declared.sequence.SequenceReader.TheVariants.{Start, Named}
use Rattle.spg_script.specs.declared.refused.ScriptRefused.{ScriptRefused}
use Rattle.spg_script.specs.declared.refused.ScriptRefused.TheVariants.{BadLine, Memory}
use Rattle.spg_script.specs.Blocks.{alone_part, Script}
use Rattle.spg_script.specs.Spelling.{class_text}
use Rattle.spg_script.specs.Line.{keys_of, SpellsCommand}
use Rattle.spg_script.specs.Script.{lines_of, says_something, IsLaneCommand, AreLines, IsScript}
use Rattle.spg_script.specs.Reader.{Place, at_start, between, LeadTo}

-- each command is a block, which stands outside lanes
abbrev pub script_of : Sequence → Script
script_of s = record { class = s.class; parts = map alone_part s.commands }

-- the bytes are a script of these commands, each of which a lane may have
pub record IsSequence (bytes : List ℕ) (s : Sequence) : Type 0 where
  pub is_script : IsScript bytes (script_of s)
  pub commands : AllByRecursion IsLaneCommand s.commands

-- the lines of some such script begin with these
abbrev pub CanRunOn : List (List ℕ) → Type 0
CanRunOn lines = (more : List (List ℕ)) × (s : Sequence) × AreLines (lines ++ more) (script_of s) × AllByRecursion IsLaneCommand s.commands

-- line `n`, counted from 1, is the first at which no such script can go on; where one can, but is not at its end with
-- the last line, it is the line after that
pub record IsFirstForeign (bytes : List ℕ) (n : ℕ) : Type 0 where
  pub counted : 1 ≤ n
  pub within : n ≤ length (lines_of bytes) + 1
  pub before : CanRunOn (take (n - 1) (lines_of bytes))
  pub bad : n ≤ length (lines_of bytes) → CanRunOn (take n (lines_of bytes)) → ⊥
  pub ended : n ≡ length (lines_of bytes) + 1 → (s : Sequence) → IsSequence bytes s → ⊥

-- the bytes are no such script, and this line is the first bad one; want of memory is free
abbrev pub IsSequenceCause : List ℕ → ScriptRefused → Type 0
IsSequenceCause bytes (BadLine n) = IsFirstForeign bytes n × ((s : Sequence) → IsSequence bytes s → ⊥)
IsSequenceCause bytes Memory = ⊤

-- ---- how far a reader has come

abbrev pub place_between : Sequence → Place
place_between s = between s.class (map alone_part s.commands)

abbrev pub sequence_place : SequenceReader → Place
sequence_place Start = at_start
sequence_place (Named s) = place_between s

-- the commands so far
abbrev pub commands_of : SequenceReader → List Command
commands_of Start = []
commands_of (Named s) = s.commands

-- the line names no class, or is no such command of the class that was named
abbrev pub RefusesForeign : Place → List ℕ → Type 0
RefusesForeign at_start line = (class : ClassLine) → line ≡ class_text class → ⊥
RefusesForeign (between class parts) line = (c : Command) → IsLaneCommand c → SpellsCommand (keys_of class) c line → ⊥
RefusesForeign place line = ⊥

-- the command comes behind the others; or it is none of these
abbrev pub TakesOn : Sequence → Command → Bool → Sequence → Type 0
TakesOn old c true new = IsLaneCommand c × (new.class ≡ old.class) × (new.commands ≡ old.commands ++ c ∷ [])
TakesOn old c false new = IsLaneCommand c → ⊥

-- a line that says something leads on, or is refused
abbrev pub StepsInSequence : Sequence → List ℕ → Bool → Sequence → Type 0
StepsInSequence old line true new = ((spoken : List (List ℕ)) → LeadTo (place_between old) spoken → LeadTo (place_between new) (spoken ++ line ∷ [])) × (AllByRecursion IsLaneCommand old.commands → AllByRecursion IsLaneCommand new.commands)
StepsInSequence old line false new = RefusesForeign (place_between old) line

-- any line leads on; or it says something, and is refused
abbrev pub GoesOnInSequence : SequenceReader → List ℕ → Bool → SequenceReader → Type 0
GoesOnInSequence old line true new = ((lines : List (List ℕ)) → LeadTo (sequence_place old) (filter says_something lines) → LeadTo (sequence_place new) (filter says_something (lines ++ line ∷ [])))
    × (AllByRecursion IsLaneCommand (commands_of old) → AllByRecursion IsLaneCommand (commands_of new))
GoesOnInSequence old line false new = (says_something line ≡ true) × RefusesForeign (sequence_place old) line
