-- The grammar of scripts.
use Rattle.std.specs.Prelude.{◌≡◌, ◌≤◌, ◌+◌, ◌-◌, ◌^◌, ◌==◌, ℕ, Bool, true, false, not, List, [], ◌∷◌, ◌++◌, map, filter, take, length, codes, if◌then◌else◌, ⊤}
use Rattle.std.specs.List.{AllZip, AllByRecursion, flat_map}
use Rattle.spg_base.specs.Text.{row_text}
use Rattle.spg_radix.specs.Texts.{is_bytes}
use Rattle.spg_script.specs.declared.key_form.KeyForm.{KeyForm}
use Rattle.spg_script.specs.declared.command.Command.{Command}
use Rattle.spg_script.specs.declared.command.Command.TheVariants.{Insert, Delete, Find, Vacuum, Save, Stat, Near}
use Rattle.spg_script.specs.Blocks.{Part, Script}
use Rattle.spg_script.specs.Spelling.{class_text, near_text}
use Rattle.spg_script.specs.Line.{keys_of, SpellsCommand}
use Rattle.spg_script.specs.Speech.{any_key_or_null_text, any_query_text}
use Rattle.spg_script.specs.Laws.{IsCommand}

-- a byte joins the first line
abbrev pub onto_first : ℕ → List (List ℕ) → List (List ℕ)
onto_first b [] = (b ∷ []) ∷ []
onto_first b (line ∷ lines) = (b ∷ line) ∷ lines

-- lines end with LF, and the last may lack it
abbrev pub lines_of : List ℕ → List (List ℕ)
lines_of [] = []
lines_of (b ∷ bytes) = if b == 10 then [] ∷ lines_of bytes else onto_first b (lines_of bytes)

-- an empty line, and one that begins with `#`, says nothing
abbrev pub says_something : List ℕ → Bool
says_something [] = false
says_something (b ∷ line) = not (b == 35)

-- what a line behind the class line says
pub data Saying : Type 0 where
  block_opens : Saying
  lane_opens : Saying
  block_ends : Saying
  says : Command → Saying

abbrev pub lane_sayings : List (List Command) → List Saying
lane_sayings [] = []
lane_sayings (lane ∷ lanes) = lane_opens ∷ (map says lane ++ lane_sayings lanes)

-- a block written with `together`, or one without
abbrev pub block_sayings : Bool → List (List Command) → List Saying
block_sayings true lanes = block_opens ∷ (lane_sayings lanes ++ block_ends ∷ [])
block_sayings false lanes = flat_map (map says) lanes

abbrev pub sayings : List Part → List Saying
sayings [] = []
sayings (p ∷ parts) = block_sayings p.together p.lanes ++ sayings parts

-- a command of a lane
abbrev pub IsLaneCommand : Command → Type 0
IsLaneCommand (Insert row key) = ⊤
IsLaneCommand (Delete row) = ⊤
IsLaneCommand (Find query) = ⊤
IsLaneCommand Vacuum = ⊤
IsLaneCommand (Save name) = ⊥
IsLaneCommand Stat = ⊥
IsLaneCommand (Near target limit) = ⊥

-- 1 to 32 lanes of lane commands, or one command
abbrev pub IsBlock : Bool → List (List Command) → Type 0
IsBlock true lanes = (1 ≤ length lanes) × (length lanes ≤ 32) × AllByRecursion (AllByRecursion IsLaneCommand) lanes
IsBlock false lanes = (c : Command) × (lanes ≡ (c ∷ []) ∷ [])

abbrev pub IsPart : Part → Type 0
IsPart p = IsBlock p.together p.lanes

-- a line says this, in a script of a class with such keys
abbrev pub Spells : KeyForm → Saying → List ℕ → Type 0
Spells keys block_opens line = line ≡ codes "together"
Spells keys lane_opens line = line ≡ codes "lane"
Spells keys block_ends line = line ≡ codes "end"
Spells keys (says c) line = SpellsCommand keys c line

-- the first line that says something names the class, and the others say the blocks
abbrev pub AreSpoken : List (List ℕ) → Script → Type 0
AreSpoken [] script = ⊥
AreSpoken (line ∷ lines) script = (line ≡ class_text script.class) × AllByRecursion IsPart script.parts × AllZip (Spells (keys_of script.class)) (sayings script.parts) lines

abbrev pub AreLines : List (List ℕ) → Script → Type 0
AreLines lines script = AreSpoken (filter says_something lines) script

-- bytes are a script
abbrev pub IsScript : List ℕ → Script → Type 0
IsScript bytes script = AreLines (lines_of bytes) script

-- lines can go on: the lines of some script begin with them
abbrev pub CanGoOn : List (List ℕ) → Type 0
CanGoOn lines = (more : List (List ℕ)) × (script : Script) × AreLines (lines ++ more) script

-- line `n`, counted from 1, is the first at which no script can go on; where a script can, but is not at its end with
-- the last line, it is the line after that
pub record IsFirstBad (bytes : List ℕ) (n : ℕ) : Type 0 where
  pub counted : 1 ≤ n
  pub within : n ≤ length (lines_of bytes) + 1
  pub before : CanGoOn (take (n - 1) (lines_of bytes))
  pub bad : n ≤ length (lines_of bytes) → CanGoOn (take n (lines_of bytes)) → ⊥
  pub ended : n ≡ length (lines_of bytes) + 1 → (script : Script) → IsScript bytes script → ⊥

-- ---- what `print` writes

abbrev pub command_text : Command → List ℕ
command_text (Insert row key) = codes "insert " ++ (row_text row ++ 32 ∷ any_key_or_null_text key)
command_text (Delete row) = codes "delete " ++ row_text row
command_text (Find query) = codes "find " ++ any_query_text query
command_text Vacuum = codes "vacuum"
command_text (Save name) = codes "save " ++ name
command_text Stat = codes "stat"
command_text (Near target limit) = near_text target limit

abbrev pub saying_text : Saying → List ℕ
saying_text block_opens = codes "together"
saying_text lane_opens = codes "lane"
saying_text block_ends = codes "end"
saying_text (says c) = command_text c

abbrev pub printed_lines : Script → List (List ℕ)
printed_lines script = class_text script.class ∷ map saying_text (sayings script.parts)

abbrev pub printed : Script → List ℕ
printed script = flat_map (λ line. line ++ 10 ∷ []) (printed_lines script)

-- each command of each lane of each block
abbrev pub AreCommands : KeyForm → List Part → Type 0
AreCommands keys parts = AllByRecursion (λ (p : Part). AllByRecursion (AllByRecursion (IsCommand keys)) p.lanes) parts

-- a script that can be printed
pub record IsTidy (script : Script) : Type 0 where
  pub parts : AllByRecursion IsPart script.parts
  pub commands : AreCommands (keys_of script.class) script.parts

-- what is printed spells the script, and bytes are at most one script; so a reader that gives a script exactly where there is one gives the printed one back
pub record ScriptsAreExact : Type 0 where
  pub printed_spells : (script : Script) → IsTidy script → IsScript (printed script) script
  pub one : (bytes : List ℕ) (a b : Script) → IsScript bytes a → IsScript bytes b → a ≡ b
  pub not_bad : (bytes : List ℕ) (n : ℕ) → IsFirstBad bytes n → (script : Script) → IsScript bytes script → ⊥
  pub tidy : (bytes : List ℕ) (script : Script) → is_bytes bytes ≡ true → IsScript bytes script → IsTidy script

-- a script of some bytes, at most 2^32 - 2 of them
pub record IsWritten (script : Script) : Type 0 where
  pub bytes : List ℕ
  pub are_bytes : is_bytes bytes ≡ true
  pub short : length bytes ≤ 2 ^ 32 - 2
  pub is_script : IsScript bytes script
