use Rattle.std.proofs.Common.{[], ◌∷◌, ℕ, List, subst}
use Rattle.spg_core.specs.Seen.{Seen}
use Rattle.spg_io.specs.Files.{bytes_under}
use Rattle.spg_image.specs.Image.{image_of}
use Rattle.spg_c.specs.Images.{HoldsOne, given}
use Rattle.spg_c.proofs.Imaging.{told_image}
use Rattle.spg_c.proofs.images.image_in.Goals as goal

pub returns-in-Ok : goal.returns-in-Ok
returns-in-Ok g c =
    let name : List ℕ = 105 ∷ 109 ∷ 97 ∷ 103 ∷ 101 ∷ [] in
    let held = bytes_under c.save.new.images name in
    subst (λ (s : Seen _ _ _ _). HoldsOne (image_of g.O.OpClass.code_number s.table) (given held)) c.state.ensures.value (told_image (image_of g.O.OpClass.code_number c.state.result.now.table) held c.in-Ok.ensures.saves.1.0)
