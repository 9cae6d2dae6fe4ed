use Rattle.spg_saved.proofs.Saved.{saved_good, saved_image}
use Rattle.spg_saved.proofs.Loaded.{saved_loads, saved_verifies}
use Rattle.spg_saved.proofs.saved_laws.Goals as goal

pub returns : goal.returns
returns g c = record {
  good = λ i bytes limit R e H. saved_good g.O.OpClass.meaning g.O.OpClass.code_number limit i bytes R e H;
  image = saved_image;
  loads = saved_loads g.O.OpClass.meaning g.O.OpClass.code_number;
  verifies = saved_verifies;
}
