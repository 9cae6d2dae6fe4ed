use Rattle.std.proofs.Common.{◌≡◌, drop}
use Rattle.spg_script.specs.Speech.{conds_in}
use Rattle.spg_commands.proofs.KnownConds.{before}
use Rattle.spg_commands.proofs.asking.conds_in.Given as goal

abbrev pub invariant-loop-cond : goal.invariant-loop-cond
invariant-loop-cond g l = conds_in g.O.Spoken.speech l.conds ≡ before g.O.Spoken.speech l.found (conds_in g.O.Spoken.speech (drop l.cond-index l.conds))
