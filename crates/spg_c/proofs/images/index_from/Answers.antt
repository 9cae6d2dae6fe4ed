use Rattle.std.proofs.Common.{[], ◌∷◌, ℕ, List}
use Rattle.spg_io.specs.Files.{bytes_under}
use Rattle.spg_c.proofs.Imaging.{bad_image}
use Rattle.spg_c.proofs.images.index_from.Goals as goal

pub returns-in-Err-BadImage-clause-err : goal.returns-in-Err-BadImage-clause-err
returns-in-Err-BadImage-clause-err g c =
    let name : List ℕ = 105 ∷ 109 ∷ 97 ∷ 103 ∷ 101 ∷ [] in let e = c.in-Err-BadImage in
    bad_image g.O.OpClass.meaning g.O.OpClass.code_number c.args.limit (bytes_under c.in-Ok.images name) c.args.bytes.now e.field-0 e.block e.reason c.in-Ok.ensures e.field-0-is e.ensures.value
