use Rattle.std.proofs.Common.{◌≡◌, ◌<◌, ◌+◌, ℕ, List, [], ◌∷◌, length, take, drop, refl, ◌∙◌, arith}
use Rattle.std.proofs.lemmas.List.{take_rest, take_all, drop_all}
use Rattle.spg_script.specs.Script.{lines_of}
use Rattle.spg_script.specs.Reading.{len_before}
use Rattle.spg_script.proofs.LineLemmas.{lines_of-first}
use Rattle.spg_script.proofs.lines.first_line.Goals as goal

first : (bytes : List ℕ) → 0 < length bytes → lines_of bytes ≡ take (len_before 10 bytes) bytes ∷ lines_of (drop (len_before 10 bytes + 1) bytes)
first [] some = absurd (omega arith)
first (b ∷ bytes) some = lines_of-first b bytes

pub returns-then-at-bytes-clause-lines : goal.returns-then-at-bytes-clause-lines
returns-then-at-bytes-clause-lines c =
    let bytes = c.args.bytes.now in
    let at = c.line_len-at.result in
    rw (take_rest bytes (at + 1), c.line_len-at.ensures.value) (first bytes c.requires)

pub returns-else-at-bytes-clause-lines : goal.returns-else-at-bytes-clause-lines
returns-else-at-bytes-clause-lines c =
    let bytes = c.args.bytes.now in
    let at = c.line_len-at.result in
    first bytes c.requires ∙ rw (← c.line_len-at.ensures.value, take_rest bytes at, take_all at bytes (omega arith), drop_all at bytes (omega arith), drop_all (at + 1) bytes (omega arith)) refl
