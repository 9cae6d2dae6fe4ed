-- The run of a script, from its beginning.
use Rattle.std.proofs.Common.{◌≡◌, ◌≤◌, ℕ, Bool, true, false, not, List, [], ◌∷◌, length, Option, Some, None, refl, sym, ap, subst, arith}
use Rattle.std.specs.List.{All, AllByRecursion}
use Rattle.std.proofs.lemmas.List.Elements.{All-from_recursion, All-same}
use Rattle.spg_opclass.specs.Meaning.{Meaning}
use Rattle.spg_io.specs.Held.{Holding}
use Rattle.spg_rows.specs.declared.event.Event.{Event}
use Rattle.spg_rows.specs.Right.{Right}
use Rattle.spg_tree.specs.Table.{sheets_of}
use Rattle.spg_core.specs.Seen.{Seen, past_of}
use Rattle.spg_script.specs.declared.command.Command.{Command}
use Rattle.spg_script.specs.declared.command.Command.TheVariants.{Insert, Delete, Find, Vacuum, Save, Stat, Near}
use Rattle.spg_script.specs.Blocks.{Part, Script}
use Rattle.spg_script.specs.Laws.{IsCommand}
use Rattle.spg_script.specs.declared.key_form.KeyForm.{KeyForm}
use Rattle.spg_script.specs.Line.{keys_of}
use Rattle.spg_script.specs.Script.{IsLaneCommand, IsBlock, IsPart, AreCommands, IsTidy, IsWritten}
use Rattle.spg_script.specs.Speech.{Speech, IsKnown}
use Rattle.spg_script.proofs.Tidy.{script_tidy}
use Rattle.spg_report.specs.declared.record.Record.{Record}
use Rattle.spg_histories.specs.Tasks.{parts_tasks}
use Rattle.spg_histories.specs.Run.{Entry, load_events, RunOf}
use Rattle.spg_histories.proofs.Blocks.{runs_grow}
use Rattle.spg_histories.proofs.Causes.{causes_grow}
use Rattle.spg_perform.specs.Session.{AllClosed, IsOfClass, Outside, StillTell, Session, standing, LeadsOn, Performs}
use Rattle.spg_commands.specs.Acted.{HasName, CanBeDone, CanBlock}

-- ---- the commands of a script can be done

named : (keys : KeyForm) (c : Command) → IsCommand keys c → HasName c
named keys (Insert row key) is = tt
named keys (Delete row) is = tt
named keys (Find query) is = tt
named keys Vacuum is = tt
named keys (Save name) is = is
named keys Stat is = tt
named keys (Near target limit) is = is.2

few_lanes : (together : Bool) (lanes : List (List Command)) → IsBlock together lanes → length lanes ≤ 32
few_lanes true lanes is = is.1
few_lanes false lanes is = omega (arith, ap length is.1)

module _ {Key Cond : Type 0} (speech : Speech Key Cond) (keys : KeyForm) (known : (c : Command) → IsCommand keys c → IsKnown speech c) where
  lane_can : (alone : Bool) (commands : List Command) → (alone ≡ false → AllByRecursion IsLaneCommand commands) → AllByRecursion (IsCommand keys) commands → AllByRecursion (CanBeDone speech alone) commands
  lane_can alone [] in_lane are = tt
  lane_can alone (c ∷ commands) in_lane are = (record { known = known c are.0; named = named keys c are.0; in_lane = λ is. (in_lane is).0 }, lane_can alone commands (λ is. (in_lane is).1) are.1)

  lanes_can : (alone : Bool) (lanes : List (List Command)) → (alone ≡ false → AllByRecursion (AllByRecursion IsLaneCommand) lanes) → AllByRecursion (AllByRecursion (IsCommand keys)) lanes
      → AllByRecursion (λ (lane : List Command). All (CanBeDone speech alone) lane) lanes
  lanes_can alone [] in_lane are = tt
  lanes_can alone (lane ∷ lanes) in_lane are =
      (All-from_recursion (CanBeDone speech alone) lane (lane_can alone lane (λ is. (in_lane is).0) are.0), lanes_can alone lanes (λ is. (in_lane is).1) are.1)

  block_can : (together : Bool) (lanes : List (List Command)) → IsBlock together lanes → AllByRecursion (AllByRecursion (IsCommand keys)) lanes → AllByRecursion (λ (lane : List Command). All (CanBeDone speech (not together)) lane) lanes
  block_can true lanes is are = lanes_can false lanes (λ q. is.2) are
  block_can false lanes is are = lanes_can true lanes (λ q. absurd (cc)) are

  parts_can : (parts : List Part) → AllByRecursion IsPart parts → AreCommands keys parts → AllByRecursion (CanBlock speech) parts
  parts_can [] are commands = tt
  parts_can (p ∷ parts) are commands = (
    record { few = few_lanes p.together p.lanes are.0; each = All-from_recursion (λ (lane : List Command). All (CanBeDone speech (not p.together)) lane) p.lanes (block_can p.together p.lanes are.0 commands.0) },
    parts_can parts are.1 commands.1,
  )

pub script_can : {Key Cond : Type 0} (speech : Speech Key Cond) (script : Script) (blocks : List Part) → IsWritten script → blocks ≡ script.parts → IsOfClass speech script.class → All (CanBlock speech) blocks
script_can speech script blocks written are known =
    let tidy : IsTidy script = script_tidy written.bytes script written.are_bytes written.is_script in
    All-same (CanBlock speech) blocks script.parts are (All-from_recursion (CanBlock speech) script.parts (parts_can speech (keys_of script.class) known script.parts tidy.parts tidy.commands))

-- ---- before the first command

still_told : (held : Option Holding) → StillTell held held
still_told None = tt
still_told (Some held) = tt

module _ {O Key Recon Cond : Type 0} (m : Meaning Key Recon Cond) (speech : Speech Key Cond) (code : ℕ) where
  begun : (loaded : List (Entry Key)) (seen : Seen O Key Recon Cond) (outside : Outside) → seen.journal ≡ load_events loaded → Right m seen.journal → AllClosed (past_of seen) → Session m speech code loaded seen.origin outside outside [] seen []
  begun loaded seen outside is right closed = record {
    run = subst (λ (j : List (Event O Key Recon Cond)). RunOf speech loaded [] j []) (sym is) ((runs_grow O Key Recon Cond).begins speech loaded);
    right = right;
    causes = (causes_grow O Key Recon Cond).begins m seen.origin (sheets_of seen.table) seen.journal;
    tells = record { end = tt; saves = λ name. refl; leaves = tt };
    remains = λ name. refl;
    counted = tt;
    closed = closed;
    made = refl;
    images = still_told outside.held;
    faults = (omega arith, omega arith);
    unfailed = λ none. refl;
  }

  pub performs : (script : Script) (blocks : List Part) (s0 s1 : Seen O Key Recon Cond) (h0 h1 : Option Holding) (f0 f1 : ℕ) (none done records : List Record)
      → blocks ≡ script.parts → none ≡ [] → records ≡ done → Right m s0.journal → AllClosed (past_of s0)
      → LeadsOn m speech code (standing s0 h0 f0 none) (standing s1 h1 f1 done) (parts_tasks 0 blocks)
      → Performs m speech code script (standing s0 h0 f0 []) (standing s1 h1 f1 records)
  performs script blocks s0 s1 h0 h1 f0 f1 none done records are empty all right closed leads = λ loaded is.
      let outside : Outside = record { held = h0; faults = f0 } in
      let start : Session m speech code loaded s0.origin outside outside [] s0 none = subst (λ (rs : List Record). Session m speech code loaded s0.origin outside outside [] s0 rs) (sym empty) (begun loaded s0 outside is right closed) in
      let end : Session m speech code loaded s0.origin outside (record { held = h1; faults = f1 }) (parts_tasks 0 blocks) s1 done = leads loaded s0.origin outside [] start in
      let run : Session m speech code loaded s0.origin outside (record { held = h1; faults = f1 }) (parts_tasks 0 script.parts) s1 done =
      subst (λ (ps : List Part). Session m speech code loaded s0.origin outside (record { held = h1; faults = f1 }) (parts_tasks 0 ps) s1 done) are end in
      subst (λ (rs : List Record). Session m speech code loaded s0.origin outside (record { held = h1; faults = f1 }) (parts_tasks 0 script.parts) s1 rs) (sym all) run
