use Rattle.spg_script.specs.declared.command.Command.TheVariants.{Insert}
use Rattle.spg_script.proofs.inserts.Inserts.read.Goals as goal

pub returns-in-None : goal.returns-in-None
returns-in-None c = λ row key spelled. (rw c.in-None.is at c.in_ok-command.ensures.none) (Insert row key) spelled
