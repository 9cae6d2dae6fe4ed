-- What each part of the printer adds.
use Rattle.std.specs.Prelude.{ℕ, ◌+◌, Bool, true, false, List, [], ◌∷◌, ◌++◌, codes, if◌then◌else◌}
use Rattle.std.specs.List.{flat_map}
use Rattle.spg_script.specs.declared.command.Command.{Command}
use Rattle.spg_script.specs.Blocks.{Part}
use Rattle.spg_script.specs.Quoted.{is_plain}
use Rattle.spg_script.specs.Script.{command_text}

-- how many bytes stand before the first that may not stand for itself
abbrev pub plain_before : List ℕ → ℕ
plain_before [] = 0
plain_before (b ∷ bytes) = if is_plain b then plain_before bytes + 1 else 0

-- a line for each command
abbrev pub commands_text : List Command → List ℕ
commands_text commands = flat_map (λ c. command_text c ++ 10 ∷ []) commands

-- a line before each lane
abbrev pub lanes_text : List (List Command) → List ℕ
lanes_text lanes = flat_map (λ lane. codes "lane\n" ++ commands_text lane) lanes

abbrev pub block_text : Bool → List (List Command) → List ℕ
block_text true lanes = codes "together\n" ++ (lanes_text lanes ++ codes "end\n")
block_text false lanes = flat_map commands_text lanes

abbrev pub part_text : Part → List ℕ
part_text part = block_text part.together part.lanes
