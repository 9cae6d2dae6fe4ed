use Rattle.std.proofs.Common.{◌≡◌, [], arith}
use Rattle.std.proofs.lemmas.Grind.{common_steps}
use Rattle.spg_io.specs.Files.{with_bytes}
use Rattle.spg_io.proofs.Stores.{changed_with}
use Rattle.spg_io.proofs.images.FaultyImagesImages.clear.Goals as goal

pub returns-clause-bytes : goal.returns-clause-bytes
returns-clause-bytes c =
    let e : c.count_call.new.self.files ≡ with_bytes c.args.self.now.files c.args.name.now [] = grind (arith, common_steps) in
    changed_with c.args.self.now.files c.count_call.new.self.files c.args.name.now [] e
