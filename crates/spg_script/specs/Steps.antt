-- How far a reader of lines has come, as its code keeps it, and how it goes on by a line.
use Rattle.std.specs.Prelude.{◌≡◌, ℕ, Bool, true, false, List, [], ◌∷◌, ◌++◌, Option, Some, None, filter}
use Rattle.spg_script.specs.declared.class_line.ClassLine.{ClassLine}
use Rattle.spg_script.specs.declared.command.Command.{Command}
use Rattle.spg_script.specs.declared.open_block.OpenBlock.{OpenBlock}
use Rattle.spg_script.specs.declared.open_block.OpenBlock.TheVariants.{Empty, InLane}
use Rattle.spg_script.specs.declared.blocks.Blocks.{Blocks}
use Rattle.spg_script.specs.declared.reader.Reader.{Reader}
use Rattle.spg_script.specs.declared.reader.Reader.TheVariants.{Start, Named}
use Rattle.spg_script.specs.Blocks.{Part}
use Rattle.spg_script.specs.Script.{says_something}
use Rattle.spg_script.specs.Reader.{Place, at_start, between, inside, LeadTo, Refuses}

-- the lanes of a block that goes on
abbrev pub lanes_of : OpenBlock → List (List Command)
lanes_of Empty = []
lanes_of (InLane ended lane) = ended ++ lane ∷ []

abbrev pub place_at : ClassLine → List Part → Option OpenBlock → Place
place_at class parts None = between class parts
place_at class parts (Some block) = inside class parts (lanes_of block)

abbrev pub place_of_blocks : Blocks → Place
place_of_blocks blocks = place_at blocks.class blocks.parts blocks.unended

abbrev pub place_of : Reader → Place
place_of Start = at_start
place_of (Named blocks) = place_of_blocks blocks

-- a line that says something leads on, or is refused
abbrev pub Steps : Place → List ℕ → Bool → Place → Type 0
Steps before line true after = (spoken : List (List ℕ)) → LeadTo before spoken → LeadTo after (spoken ++ line ∷ [])
Steps before line false after = Refuses before line

-- any line leads on; or it says something, and is refused
abbrev pub GoesOn : Place → List ℕ → Bool → Place → Type 0
GoesOn before line true after = (lines : List (List ℕ)) → LeadTo before (filter says_something lines) → LeadTo after (filter says_something (lines ++ line ∷ []))
GoesOn before line false after = (says_something line ≡ true) × Refuses before line
