-- Why bytes are not read as a script.
use Rattle.std.specs.Prelude.{◌≡◌, ◌⊎◌, ℕ, List, Result, Ok, Err, IfOk, IfErr, ⊤}
use Rattle.spg_script.specs.declared.refused.ScriptRefused.{ScriptRefused}
use Rattle.spg_script.specs.declared.refused.ScriptRefused.TheVariants.{BadLine, Memory}
use Rattle.spg_script.specs.Blocks.{Script}
use Rattle.spg_script.specs.Script.{IsScript, IsFirstBad, IsWritten, printed}

-- the bytes are no script, and this line is the first bad one; want of memory is free
abbrev pub IsCause : List ℕ → ScriptRefused → Type 0
IsCause bytes (BadLine n) = IsFirstBad bytes n × ((script : Script) → IsScript bytes script → ⊥)
IsCause bytes Memory = ⊤

-- what `parse` says of its answer
pub record Parses (bytes : List ℕ) (answer : Result Script ScriptRefused) : Type 0 where
  pub found : IfOk answer (λ script. IsScript bytes script)
  pub bad : IfErr answer (λ why. IsCause bytes why)

-- of what `print` writes it is the script, or want of memory
abbrev pub PrintsReadBack : Type 0
PrintsReadBack = (script : Script) → IsWritten script → (answer : Result Script ScriptRefused) → Parses (printed script) answer → (answer ≡ Ok script) ⊎ (answer ≡ Err Memory)
