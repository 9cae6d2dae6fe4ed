use Rattle.std.proofs.Common.{◌≡◌, ◌++◌, arith}
use Rattle.std.proofs.lemmas.Grind.{common_steps}
use Rattle.spg_io.specs.Held.{or_empty}
use Rattle.spg_io.specs.Files.{bytes_under, with_page}
use Rattle.spg_io.proofs.Stores.{changed_with}
use Rattle.spg_io.proofs.images.FaultyImagesImages.put.Goals as goal

pub returns-clause-bytes : goal.returns-clause-bytes
returns-clause-bytes c =
    let e : c.count_call.new.self.files ≡ with_page c.args.self.now.files c.args.name.now c.args.page.now = grind (arith, common_steps) in
    changed_with c.args.self.now.files c.count_call.new.self.files c.args.name.now (or_empty (bytes_under c.args.self.now.files c.args.name.now) ++ c.args.page.now) e
