use Rattle.spg_script.proofs.PrintLemmas.{reads_back}
use Rattle.spg_script.proofs.laws.prints_read_back.Goals as goal

pub returns : goal.returns
returns c = reads_back
