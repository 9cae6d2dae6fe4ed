-- The calls of a lane, one after another.
use Rattle.std.specs.Prelude.{◌≡◌, ◌+◌, ◌++◌, ℕ, Bool, not, List, [], ◌∷◌, length}
use Rattle.spg_rows.specs.declared.event.Event.{Event}
use Rattle.spg_calls.specs.Calls.{Watched, Called}
use Rattle.spg_script.specs.declared.command.Command.{Command}
use Rattle.spg_script.specs.Blocks.{Part}
use Rattle.spg_script.specs.Speech.{Speech}
use Rattle.spg_report.specs.declared.record.Record.{Record}
use Rattle.spg_histories.specs.Tasks.{Task, lane_tasks, lanes_tasks, parts_tasks}
use Rattle.spg_histories.specs.Run.{Does, past_at}
use Rattle.spg_histories.specs.Blocks.{LaneRan}

-- the calls of a lane, from what its pass had seen to the whole journal
abbrev pub CallsTo : {O Key Recon Cond : Type 0} → Speech Key Cond → ℕ → List (Event O Key Recon Cond) → List Task → List Record → List (Event O Key Recon Cond) → Type 0
CallsTo speech seat seen [] [] journal = Watched seat seen journal
CallsTo speech seat seen [] (r ∷ records) journal = ⊥
CallsTo speech seat seen (t ∷ tasks) [] journal = ⊥
CallsTo {O} {Key} {Recon} {Cond} speech seat seen (t ∷ tasks) (r ∷ records) journal =
    (later : List (Event O Key Recon Cond)) × (events : List (Event O Key Recon Cond)) × Called seat seen later r.span events × Does speech t (past_at r.span.from later) events r.outcome × CallsTo speech seat later tasks records journal

pub record CallsCompose (O Key Recon Cond : Type 0) : Type 0 where
  -- the calls of a lane one after another, each over a longer journal
  pub lane : (speech : Speech Key Cond) (seen journal : List (Event O Key Recon Cond)) (block seat : ℕ) (alone : Bool) (commands : List Command) (records : List Record) → CallsTo speech seat seen (lane_tasks block seat alone commands) records journal
      → LaneRan speech (length seen) journal seat (lane_tasks block seat alone commands) records
  -- one more block
  pub tasks : (block : ℕ) (parts : List Part) (p : Part) → parts_tasks block (parts ++ p ∷ []) ≡ parts_tasks block parts ++ lanes_tasks (block + length parts) 0 (not p.together) p.lanes
