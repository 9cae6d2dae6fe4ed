use Rattle.std.proofs.Common.{◌≡◌, List, ℕ, Option, Some, None, Result, Ok, Err, IfOk, IfSome, IfNone, sym, ◌∙◌}
use Rattle.spg_script.specs.declared.key_form.KeyForm.{KeyForm}
use Rattle.spg_script.specs.declared.command.Command.{Command}
use Rattle.spg_script.specs.declared.class_line.ClassLine.{ClassLine}
use Rattle.spg_script.specs.Line.{SpellsCommand, keys_of}
use Rattle.spg_script.specs.Reading.{command_of}
use Rattle.spg_script.proofs.CommandLines.{command_of-spelled, spelled-command_of}
use Rattle.spg_script.proofs.commands.read_command.Goals as goal

found_is : (class : ClassLine) (line : List ℕ) (found : Option Command) → found ≡ command_of (keys_of class) line → IfSome found (λ c. SpellsCommand (keys_of class) c line)
found_is class line None is = tt
found_is class line (Some c) is = spelled-command_of (keys_of class) line c (sym is)

none_is : (class : ClassLine) (line : List ℕ) (found : Option Command) → found ≡ command_of (keys_of class) line → IfNone found ((c : Command) → SpellsCommand (keys_of class) c line → ⊥)
none_is class line (Some c) is = tt
none_is class line None is = λ c spells. let clash : None ≡ Some c = is ∙ command_of-spelled (keys_of class) c line spells in (cc)

each_found : {E : Type 0} (class : ClassLine) (line : List ℕ) (keys : KeyForm) (r : Result (Option Command) E) → keys ≡ keys_of class → IfOk r (λ found. found ≡ command_of keys line) → IfOk r (λ found. IfSome found (λ c. SpellsCommand (keys_of class) c line))
each_found class line keys (Ok found) of is = found_is class line found (rw of at is)
each_found class line keys (Err e) of is = tt

each_none : {E : Type 0} (class : ClassLine) (line : List ℕ) (keys : KeyForm) (r : Result (Option Command) E) → keys ≡ keys_of class → IfOk r (λ found. found ≡ command_of keys line) → IfOk r (λ found. IfNone found ((c : Command) → SpellsCommand (keys_of class) c line → ⊥))
each_none class line keys (Ok found) of is = none_is class line found (rw of at is)
each_none class line keys (Err e) of is = tt

pub returns-clause-found : goal.returns-clause-found
returns-clause-found c = each_found c.args.class c.args.line.now c.keys.result c.command.result c.keys.ensures c.command.ensures

pub returns-clause-none : goal.returns-clause-none
returns-clause-none c = each_none c.args.class c.args.line.now c.keys.result c.command.result c.keys.ensures c.command.ensures
