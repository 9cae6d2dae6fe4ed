use Rattle.std.proofs.Common.{◌≡◌, [], arith}
use Rattle.std.proofs.lemmas.Grind.{common_steps}
use Rattle.spg_io.specs.Files.{with_bytes}
use Rattle.spg_io.proofs.Stores.{changed_with}
use Rattle.spg_io.proofs.images.PlainImagesImages.clear.Goals as goal

pub returns-clause-bytes : goal.returns-clause-bytes
returns-clause-bytes c =
    let e : c.clear.new.self ≡ with_bytes c.args.self.now c.args.name.now [] = grind (arith, common_steps) in
    changed_with c.args.self.now c.clear.new.self c.args.name.now [] e
