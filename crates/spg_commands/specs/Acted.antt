-- What one command of a seat does.
use Rattle.std.specs.Prelude.{◌≡◌, ◌<◌, ◌≤◌, ℕ, Bool, true, false, not, List, All, length, ⊤}
use Rattle.spg_opclass.specs.Meaning.{Meaning}
use Rattle.spg_rows.specs.Rows.{present_count}
use Rattle.spg_tree.specs.Table.{sheets_of}
use Rattle.spg_core.specs.Stage.{free}
use Rattle.spg_core.specs.Seen.{Seen, stage_at, past_of}
use Rattle.spg_script.specs.declared.command.Command.{Command}
use Rattle.spg_script.specs.declared.command.Command.TheVariants.{Insert, Delete, Find, Vacuum, Save, Stat, Near}
use Rattle.spg_script.specs.Blocks.{Part}
use Rattle.spg_script.specs.Line.{is_name}
use Rattle.spg_script.specs.Script.{IsLaneCommand}
use Rattle.spg_script.specs.Speech.{Speech, IsKnown}
use Rattle.spg_report.specs.declared.record.Record.{Record}
use Rattle.spg_histories.specs.Tasks.{Task}
use Rattle.spg_histories.specs.Blocks.{Performed}
use Rattle.spg_histories.specs.Telling.{TellsOf, LeafIs, is_quiet_command}
use Rattle.spg_histories.specs.Causes.{IsDue, IsCaused, GrewInto, PrintsPages}

-- a command of a seat, in a block, outside lanes or in one
abbrev pub task_of : ℕ → ℕ → Bool → Command → Task
task_of block seat alone command = record { block = block; seat = seat; alone = alone; command = command }

-- the name of a save is one, and a search for the nearest rows asks for some
abbrev pub HasName : Command → Type 0
HasName (Save name) = is_name name ≡ true
HasName (Insert row key) = ⊤
HasName (Delete row) = ⊤
HasName (Find query) = ⊤
HasName Vacuum = ⊤
HasName Stat = ⊤
HasName (Near target limit) = 0 < limit

-- a command that can be done: the class has its keys and conditions, and in a lane it is one of a lane
pub record CanBeDone {Key Cond : Type 0} (speech : Speech Key Cond) (alone : Bool) (c : Command) : Type 0 where
  pub known : IsKnown speech c
  pub named : HasName c
  pub in_lane : alone ≡ false → IsLaneCommand c

-- a block whose commands can be done
pub record CanBlock {Key Cond : Type 0} (speech : Speech Key Cond) (p : Part) : Type 0 where
  pub few : length p.lanes ≤ 32
  pub each : All (λ (lane : List Command). All (CanBeDone speech (not p.together)) lane) p.lanes

-- one command of a seat was done, from a state to another: its events and its outcome, why it had this outcome, and what it tells of the pages
pub record Acted {O Key Recon Cond : Type 0} (m : Meaning Key Recon Cond) (speech : Speech Key Cond) (old new : Seen O Key Recon Cond) (t : Task) (r : Record) : Type 0 where
  pub performed : Performed speech old.journal new.journal t r
  pub due : IsDue m old.origin t.command (past_of old) (past_of new) r.outcome
  pub caused : IsCaused old.origin.limit (sheets_of new.table) r.outcome
  pub grew : GrewInto (sheets_of old.table) (sheets_of new.table)
  pub made : new.origin ≡ old.origin
  pub quiet : is_quiet_command t.command ≡ true → sheets_of new.table ≡ sheets_of old.table
  pub tells : t.alone ≡ true → TellsOf O m speech (sheets_of new.table) t.command r.outcome
  pub leaf : LeafIs (present_count (past_of old)) r.outcome
  pub prints : PrintsPages (sheets_of new.table) r.outcome
  -- the seat has nothing open then
  pub free : stage_at new t.seat ≡ free

-- the same in each block
abbrev pub Acts : {O Key Recon Cond : Type 0} → Meaning Key Recon Cond → Speech Key Cond → Seen O Key Recon Cond → Seen O Key Recon Cond → ℕ → Bool → Command → Record → Type 0
Acts m speech old new seat alone command r = (block : ℕ) → Acted m speech old new (task_of block seat alone command) r
