use Rattle.std.proofs.Common.{arith}
use Rattle.spg_radix.specs.TextLemmas.{bytes_from}
use Rattle.spg_app.proofs.standby.sequence_of.Goals as goal

pub returns-clause-bytes : goal.returns-clause-bytes
returns-clause-bytes c = bytes_from c.args.bytes.now (λ i. omega (arith, c.type_inv.bytes i))
