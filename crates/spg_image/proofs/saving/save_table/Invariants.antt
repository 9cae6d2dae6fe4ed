use Rattle.std.proofs.Common.{◌≡◌}
use Rattle.spg_io.specs.Held.{Changes}
use Rattle.spg_image.specs.Image.{image_of}
use Rattle.spg_image.specs.Saving.{HoldsPages, PutFirst}
use Rattle.spg_image.proofs.saving.save_table.Given as goal

abbrev pub invariant-loop-block : goal.invariant-loop-block
invariant-loop-block g l = record {
  held : Changes (g.M.Images.held l.fn.images) (g.M.Images.held l.images) l.name (λ _ held. HoldsPages (image_of l.class l.table) l.block held);
  calls : PutFirst g.M.Images.clear_gives g.M.Images.put_gives (image_of l.class l.table) l.name l.fn.images l.block l.images;
  same : g.M.Images.faults l.images ≡ g.M.Images.faults l.fn.images;
}
