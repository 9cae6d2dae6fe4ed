use Rattle.spg_descend.proofs.Starts.{new_table, puts_at_new_root, puts_first}
use Rattle.spg_descend.proofs.laws.start_laws.Goals as goal

pub returns : goal.returns
returns g c = record { new_table = new_table _; at_root = puts_at_new_root _; puts_first = puts_first _ }
