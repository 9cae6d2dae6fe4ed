-- Nodes that lead nowhere.
use Rattle.std.specs.Prelude.{ℕ, ℤ, List, Option, None, map, replicate}
use Rattle.spg_forest.specs.View.{Place}
use Rattle.spg_page.specs.declared.tuple.Node.{Node}

-- a downlink for each label, which leads nowhere yet
abbrev pub bare : ℕ → List (Option Place)
bare n = replicate n None

-- a node for each label, which leads nowhere
abbrev pub nodes_of : List ℤ → List Node
nodes_of labels = map (λ (l : ℤ). record { label = l; link = None }) labels
