use Rattle.spg_script.proofs.sequence.Sequence.read.Goals as goal

pub returns-in-None : goal.returns-in-None
returns-in-None c = λ d is spelled. (rw c.in-None.is at c.in_ok-command.ensures.none) d spelled
