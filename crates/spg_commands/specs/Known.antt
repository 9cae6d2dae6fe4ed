-- What a class has for the commands of scripts.
use Rattle.spg_script.specs.declared.class_line.ClassLine.{ClassLine}
use Rattle.spg_script.specs.declared.command.Command.{Command}
use Rattle.spg_script.specs.Line.{keys_of}
use Rattle.spg_script.specs.Laws.{IsCommand}
use Rattle.spg_script.specs.Speech.{Speech, IsKnown}

-- the class has the keys and conditions of every command that scripts of this class name
abbrev pub IsOfClass : {Key Cond : Type 0} → Speech Key Cond → ClassLine → Type 0
IsOfClass speech class = (c : Command) → IsCommand (keys_of class) c → IsKnown speech c
