-- A class that has the keys of the commands of a script has those of its inserts.
use Rattle.std.proofs.Common.{◌≡◌, List, [], ◌∷◌, map, sym, subst}
use Rattle.std.specs.List.{AllByRecursion}
use Rattle.spg_script.specs.declared.command.Command.{Command}
use Rattle.spg_script.specs.declared.command.Command.TheVariants as command
use Rattle.spg_script.specs.declared.inserts.Insert.{Insert}
use Rattle.spg_script.specs.declared.inserts.Inserts.{Inserts}
use Rattle.spg_script.specs.declared.key_form.KeyForm.{KeyForm}
use Rattle.spg_script.specs.Laws.{IsCommand}
use Rattle.spg_script.specs.Line.{keys_of}
use Rattle.spg_script.specs.Script.{AreCommands, IsWritten}
use Rattle.spg_script.specs.Speech.{Speech, IsKnown}
use Rattle.spg_script.specs.Inserts.{insert_part, script_of}
use Rattle.spg_script.proofs.Tidy.{script_tidy}
use Rattle.spg_create.specs.Keeps.{IsKnownInsert}

module _ {Key Cond : Type 0} (speech : Speech Key Cond) where
  each_known : (keys : KeyForm) → ((c : Command) → IsCommand keys c → IsKnown speech c) → (rows : List Insert) → AreCommands keys (map insert_part rows) → AllByRecursion (IsKnownInsert speech) rows
  each_known keys known [] are = tt
  each_known keys known (i ∷ rows) are = (known (command.Insert i.row i.key) are.0.0.0, each_known keys known rows are.1)

  pub inserts_known : (i : Inserts) (rows : List Insert) → IsWritten (script_of i) → rows ≡ i.rows → ((c : Command) → IsCommand (keys_of i.class) c → IsKnown speech c) → AllByRecursion (IsKnownInsert speech) rows
  inserts_known i rows written are known =
      let tidy = script_tidy written.bytes (script_of i) written.are_bytes written.is_script in
      subst (AllByRecursion (IsKnownInsert speech)) (sym are) (each_known (keys_of i.class) known i.rows tidy.commands)
