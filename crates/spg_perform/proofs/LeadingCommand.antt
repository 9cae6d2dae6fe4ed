-- Each kind of command leads on.
use Rattle.std.proofs.Common.{◌≡◌, ℕ, Bool, true, false, List, [], ◌∷◌, ◌++◌, reverse, Option, refl}
use Rattle.spg_opclass.specs.Meaning.{Meaning}
use Rattle.spg_forest.specs.Shape.{Represents}
use Rattle.spg_io.specs.Held.{Holding}
use Rattle.spg_rows.specs.History.{open_of}
use Rattle.spg_rows.specs.Present.{IsPresentWith}
use Rattle.spg_rows.specs.Right.{Right}
use Rattle.spg_tree.specs.Table.{sheets_of}
use Rattle.spg_core.specs.Stage.{IsStageOf}
use Rattle.spg_core.specs.Seen.{Seen, stage_at, past_of}
use Rattle.spg_script.specs.declared.command.Command.{Command}
use Rattle.spg_script.specs.declared.command.Command.TheVariants.{Save}
use Rattle.spg_script.specs.Script.{IsLaneCommand}
use Rattle.spg_script.specs.Speech.{Speech}
use Rattle.spg_report.specs.declared.record.Record.{Record}
use Rattle.spg_commands.specs.Acted.{Acts, task_of}
use Rattle.spg_perform.specs.Remains.{CountTells}
use Rattle.spg_perform.specs.Saved.{IsSaved}
use Rattle.spg_perform.specs.Session.{AllClosed, is_image_fault, RoseBy, StaysUnless, LeadsOn, standing}
use Rattle.spg_perform.proofs.LeadingImages.{SavesNone, Outward, inward, outward}
use Rattle.spg_perform.proofs.Leading.{closes, leads}

-- a command was done, and this it did to the images
pub record Goes {O Key Recon Cond : Type 0} (m : Meaning Key Recon Cond) (speech : Speech Key Cond) (code : ℕ) (s0 s1 : Seen O Key Recon Cond) (held held2 : Option Holding) (faults faults2 seat : ℕ) (alone : Bool) (c : Command) (r : Record) : Type 0 where
  pub acts : Acts m speech s0 s1 seat alone c r
  pub calls : (block : ℕ) → Outward m speech code s1.journal (sheets_of s0.table) held held2 faults faults2 (task_of block seat alone c) r

module _ {O Key Recon Cond : Type 0} (m : Meaning Key Recon Cond) (speech : Speech Key Cond) (code : ℕ) (seat : ℕ) where
  pub goes_inward : (s0 s1 : Seen O Key Recon Cond) (held : Option Holding) (faults : ℕ) (alone : Bool) (c : Command) (r : Record) → SavesNone c → CountTells c r.outcome → Acts m speech s0 s1 seat alone c r → Goes m speech code s0 s1 held held faults faults seat alone c r
  goes_inward s0 s1 held faults alone c r none counts acts = record {
    acts = acts;
    calls = λ block. inward m speech code s1.journal held faults r (sheets_of s0.table) (task_of block seat alone c) (reverse s0.journal) (acts block).performed.events none counts (acts block).performed.does;
  }

  pub goes_saved : (s : Seen O Key Recon Cond) (held held2 : Option Holding) (faults faults2 : ℕ) (alone : Bool) (name : List ℕ) (r : Record) → (alone ≡ false → IsLaneCommand (Save name)) → Acts m speech s s seat true (Save name) r
      → IsSaved code s.table held held2 name r.outcome → RoseBy (is_image_fault r.outcome) faults faults2 → StaysUnless r.outcome faults faults2 → Represents m (sheets_of s.table) (IsPresentWith (past_of s)) → Goes m speech code s s held held2 faults faults2 seat alone (Save name) r
  goes_saved s held held2 faults faults2 true name r lane acts is rose unless holds = record {
    acts = acts;
    calls = λ block. outward m speech code s.journal held faults r held2 faults2 s.table name block seat is rose unless (acts block).performed.from holds;
  }
  goes_saved s held held2 faults faults2 false name r lane acts is rose unless holds = absurd (lane refl)

  module _ (s0 s1 : Seen O Key Recon Cond) (held held2 : Option Holding) (faults faults2 : ℕ) (alone : Bool) (c : Command) (r : Record) (goes : Goes m speech code s0 s1 held held2 faults faults2 seat alone c r) (closed : AllClosed (past_of s0)) (stage : IsStageOf (open_of seat (past_of s1)) (stage_at s1 seat)) where
    pub goes_closed : AllClosed (past_of s1)
    goes_closed = closes m speech s0 s1 (task_of 0 seat alone c) r (goes.acts 0) closed stage

    pub goes_on : Right m s1.journal → (block : ℕ) (records : List Record) → LeadsOn m speech code (standing s0 held faults records) (standing s1 held2 faults2 (records ++ r ∷ [])) (task_of block seat alone c ∷ [])
    goes_on right block records = leads m speech s0 s1 (task_of block seat alone c) r (goes.acts block) code held held2 faults faults2 records right goes_closed (goes.calls block)
