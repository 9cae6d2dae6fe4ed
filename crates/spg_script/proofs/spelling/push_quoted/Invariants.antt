use Rattle.std.proofs.Common.{◌≡◌, ◌++◌, ◌∷◌, length}
use Rattle.std.specs.List.{flat_map}
use Rattle.spg_script.specs.Quoted.{byte_text}
use Rattle.spg_script.proofs.spelling.push_quoted.Given as goal

-- what was added, and what the rest still adds
abbrev pub invariant-loop-rest : goal.invariant-loop-rest
invariant-loop-rest l = l.text ++ flat_map byte_text l.rest ≡ l.fn.text ++ 34 ∷ flat_map byte_text l.fn.bytes

abbrev pub decreases-loop-rest : goal.decreases-loop-rest
decreases-loop-rest l = length l.rest
