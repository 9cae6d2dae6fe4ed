use Rattle.spg_forest.proofs.TreeSteps.{split_keeps, add_node_keeps, attach_keeps, age_keeps, sweep_keeps}
use Rattle.spg_forest.specs.Steps.{HasRow}
use Rattle.spg_forest.proofs.step_laws.Goals as goal

pub returns : goal.returns
returns c = record { split_tuple = split_keeps; add_node = add_node_keeps; put_at_empty = attach_keeps; age = age_keeps; sweep = λ C V V2 clock rows. sweep_keeps C V V2 clock (HasRow rows) }
