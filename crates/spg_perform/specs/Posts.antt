-- The posts of lanes, before they run and after.
use Rattle.std.specs.Prelude.{◌≡◌, ◌≤◌, false, List, [], length, All, vec_capacity}
use Rattle.spg_opclass.specs.Meaning.{Meaning}
use Rattle.spg_rows.specs.declared.event.Event.{Event}
use Rattle.spg_calls.specs.Calls.{GrewTo}
use Rattle.spg_script.specs.declared.command.Command.{Command}
use Rattle.spg_script.specs.Speech.{Speech}
use Rattle.spg_report.specs.declared.record.Record.{Record}
use Rattle.spg_commands.specs.Acted.{CanBeDone}
use Rattle.spg_turn.specs.declared.rule.View.{View}
use Rattle.spg_desk.specs.Knowing.{own_since}
use Rattle.spg_perform.specs.declared.post.Post.{Post}
use Rattle.spg_core.specs.Seen.{Seen, past_of}
use Rattle.spg_perform.specs.Session.{AllClosed}
use Rattle.spg_perform.specs.Lanes.{LanesDone}

-- the post of a lane with these commands: no record, and room for one of each
pub record IsVacant {G : Type 0} (commands : List Command) (p : Post G) : Type 0 where
  pub lane : p.commands.now ≡ commands
  pub empty : p.records.items ≡ []
  pub room : length commands ≤ vec_capacity p.records

module _ {O Key Recon Cond : Type 0} where
  -- a seat has done just what it added
  abbrev pub IsWhole : View (Event O Key Recon Cond) → Type 0
  IsWhole v = own_since v ≡ v.mine

  -- a lane can begin at its post
  pub record IsReady {G : Type 0} (speech : Speech Key Cond) (p : Post G) (v : View (Event O Key Recon Cond)) : Type 0 where
    pub can : All (CanBeDone speech false) p.commands.now
    pub vacant : IsVacant p.commands.now p
    pub whole : IsWhole v

  -- the lanes of a block ran beside each other, from a state to another
  pub record RanBeside (m : Meaning Key Recon Cond) (speech : Speech Key Cond) (old new : Seen O Key Recon Cond) (lanes : List (List Command)) (groups : List (List Record)) : Type 0 where
    pub grew : GrewTo old.journal new.journal
    pub done : LanesDone m speech old.origin 0 old.journal new.journal lanes groups
    pub made : new.origin ≡ old.origin
    pub closed : AllClosed (past_of new)
