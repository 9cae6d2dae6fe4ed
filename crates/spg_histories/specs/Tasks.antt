-- The commands of a script in the order of their numbers, each with its block and its seat.
use Rattle.std.specs.Prelude.{ℕ, ◌+◌, Bool, not, List, [], ◌∷◌, ◌++◌}
use Rattle.spg_script.specs.declared.command.Command.{Command}
use Rattle.spg_script.specs.Blocks.{Part, Script}

-- a command of a script: the number of its block, its seat, and whether it stands outside lanes
pub record Task : Type 0 where
  pub block : ℕ
  pub seat : ℕ
  pub alone : Bool
  pub command : Command

abbrev pub lane_tasks : ℕ → ℕ → Bool → List Command → List Task
lane_tasks block seat alone [] = []
lane_tasks block seat alone (c ∷ commands) = record { block = block; seat = seat; alone = alone; command = c } ∷ lane_tasks block seat alone commands

-- lane i of a block has seat i
abbrev pub lanes_tasks : ℕ → ℕ → Bool → List (List Command) → List Task
lanes_tasks block seat alone [] = []
lanes_tasks block seat alone (lane ∷ lanes) = lane_tasks block seat alone lane ++ lanes_tasks block (seat + 1) alone lanes

abbrev pub parts_tasks : ℕ → List Part → List Task
parts_tasks block [] = []
parts_tasks block (p ∷ parts) = lanes_tasks block 0 (not p.together) p.lanes ++ parts_tasks (block + 1) parts

abbrev pub tasks_of : Script → List Task
tasks_of script = parts_tasks 0 script.parts
