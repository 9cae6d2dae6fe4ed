use Rattle.spg_words.proofs.laws.lines_are_exact.Goals as goal
use Rattle.spg_words.proofs.Exact.{exact}

pub returns : goal.returns
returns c = exact
