use Rattle.std.proofs.Common.{arith}
use Rattle.std.proofs.lemmas.Int.{to_z-of_z}
use Rattle.spg_points.specs.Codec.{point_of}
use Rattle.spg_points.proofs.codec.decode.Goals as goal

pub returns : goal.returns
unfolding point_of
returns c = grind (arith, to_z-of_z)
