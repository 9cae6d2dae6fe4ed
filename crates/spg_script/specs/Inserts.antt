-- Scripts that insert rows and do nothing else.
use Rattle.std.specs.Prelude.{◌≡◌, ◌≤◌, ◌+◌, ◌-◌, ℕ, Bool, true, false, List, ◌∷◌, [], ◌++◌, filter, take, length, map, Option, ⊤}
use Rattle.spg_base.specs.Row.{RowAt}
use Rattle.spg_script.specs.declared.any_key.AnyKey.{AnyKey}
use Rattle.spg_script.specs.declared.class_line.ClassLine.{ClassLine}
use Rattle.spg_script.specs.declared.command.Command.{Command}
use Rattle.spg_script.specs.declared.command.Command.TheVariants as command
use Rattle.spg_script.specs.declared.inserts.Insert.{Insert}
use Rattle.spg_script.specs.declared.inserts.Inserts.{Inserts}
use Rattle.spg_script.specs.declared.inserts.InsertReader.{InsertReader}
use Rattle.spg_script.specs.declared.inserts.InsertReader.TheVariants.{Start, Named}
use Rattle.spg_script.specs.declared.refused.ScriptRefused.{ScriptRefused}
use Rattle.spg_script.specs.declared.refused.ScriptRefused.TheVariants.{BadLine, Memory}
use Rattle.spg_script.specs.Blocks.{Part, alone_part, Script}
use Rattle.spg_script.specs.Spelling.{class_text}
use Rattle.spg_script.specs.Line.{keys_of, SpellsCommand}
use Rattle.spg_script.specs.Script.{lines_of, says_something, AreLines, IsScript}
use Rattle.spg_script.specs.Reader.{Place, at_start, between, LeadTo}

-- an insert is a block of one command, which stands outside lanes
abbrev pub insert_part : Insert → Part
insert_part i = alone_part (command.Insert i.row i.key)

abbrev pub script_of : Inserts → Script
script_of i = record { class = i.class; parts = map insert_part i.rows }

-- the bytes are a script that inserts these rows and does nothing else
abbrev pub IsInserts : List ℕ → Inserts → Type 0
IsInserts bytes i = IsScript bytes (script_of i)

-- the lines of some script of inserts begin with these
abbrev pub CanInsertOn : List (List ℕ) → Type 0
CanInsertOn lines = (more : List (List ℕ)) × (i : Inserts) × AreLines (lines ++ more) (script_of i)

-- line `n`, counted from 1, is the first at which no script of inserts can go on; where one can, but is not at its end
-- with the last line, it is the line after that
pub record IsFirstOther (bytes : List ℕ) (n : ℕ) : Type 0 where
  pub counted : 1 ≤ n
  pub within : n ≤ length (lines_of bytes) + 1
  pub before : CanInsertOn (take (n - 1) (lines_of bytes))
  pub bad : n ≤ length (lines_of bytes) → CanInsertOn (take n (lines_of bytes)) → ⊥
  pub ended : n ≡ length (lines_of bytes) + 1 → (i : Inserts) → IsInserts bytes i → ⊥

-- the bytes are no script of inserts, and this line is the first bad one; want of memory is free
abbrev pub IsInsertCause : List ℕ → ScriptRefused → Type 0
IsInsertCause bytes (BadLine n) = IsFirstOther bytes n × ((i : Inserts) → IsInserts bytes i → ⊥)
IsInsertCause bytes Memory = ⊤

-- ---- how far a reader has come

abbrev pub insert_place : InsertReader → Place
insert_place Start = at_start
insert_place (Named i) = between i.class (map insert_part i.rows)

-- the line names no class, or is no insert of the class that was named
abbrev pub RefusesInsert : Place → List ℕ → Type 0
RefusesInsert at_start line = (class : ClassLine) → line ≡ class_text class → ⊥
RefusesInsert (between class parts) line = (row : RowAt) (key : Option AnyKey) → SpellsCommand (keys_of class) (command.Insert row key) line → ⊥
RefusesInsert place line = ⊥

-- the command is an insert, which comes behind the others; or it is none
abbrev pub TakesInsert : Inserts → Command → Bool → Inserts → Type 0
TakesInsert old c true new = (row : RowAt) × (key : Option AnyKey) × (c ≡ command.Insert row key) × (new.class ≡ old.class) × (new.rows ≡ old.rows ++ record { row = row; key = key } ∷ [])
TakesInsert old c false new = (row : RowAt) (key : Option AnyKey) → c ≡ command.Insert row key → ⊥

-- a line that says something leads on, or is refused
abbrev pub StepsByInsert : Place → List ℕ → Bool → Place → Type 0
StepsByInsert before line true after = (spoken : List (List ℕ)) → LeadTo before spoken → LeadTo after (spoken ++ line ∷ [])
StepsByInsert before line false after = RefusesInsert before line

-- any line leads on; or it says something, and is refused
abbrev pub GoesOnByInsert : Place → List ℕ → Bool → Place → Type 0
GoesOnByInsert before line true after = (lines : List (List ℕ)) → LeadTo before (filter says_something lines) → LeadTo after (filter says_something (lines ++ line ∷ []))
GoesOnByInsert before line false after = (says_something line ≡ true) × RefusesInsert before line
