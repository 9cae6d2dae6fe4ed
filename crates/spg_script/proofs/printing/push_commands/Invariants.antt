use Rattle.std.proofs.Common.{◌≡◌, ◌++◌, take}
use Rattle.spg_script.specs.Printing.{commands_text}
use Rattle.spg_script.proofs.printing.push_commands.Given as goal

abbrev pub invariant-loop-command : goal.invariant-loop-command
invariant-loop-command l = l.text ≡ l.initial.text ++ commands_text (take l.command-index l.commands)
