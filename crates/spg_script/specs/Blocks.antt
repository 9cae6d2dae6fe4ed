-- A script as contracts see it.
use Rattle.std.specs.Prelude.{Bool, true, false, List, [], ◌∷◌}
use Rattle.spg_script.specs.declared.class_line.ClassLine.{ClassLine}
use Rattle.spg_script.specs.declared.command.Command.{Command}

-- a block: whether it was written with `together`, and its lanes, of which lane i has seat i; a command outside `together` is one lane of one command
pub record Part : Type 0 where
  pub together : Bool
  pub lanes : List (List Command)

abbrev pub alone_part : Command → Part
alone_part c = record { together = false; lanes = (c ∷ []) ∷ [] }

abbrev pub block_part : List (List Command) → Part
block_part lanes = record { together = true; lanes = lanes }

-- a class, and blocks in order
pub record Script : Type 0 where
  pub class : ClassLine
  pub parts : List Part
