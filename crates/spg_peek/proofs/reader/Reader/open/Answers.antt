use Rattle.std.proofs.Common.{◌∙◌, sym, subst, arith}
use Rattle.spg_core.specs.Seen.{Seen}
use Rattle.spg_peek.specs.Peeking.{IsScanNow}
use Rattle.spg_peek.proofs.reader.Reader.open.Goals as goal

pub returns-clause-over : goal.returns-clause-over
returns-clause-over g c = record {
  now = subst (λ (z : Seen _ _ _ _). IsScanNow g.O.OpClass.meaning z c.in_ok-scan.scan) c.state.ensures.value c.in_ok-scan.ensures.now;
  same = c.new.ensures.items ∙ sym c.in_ok-scan.ensures.none;
  told = omega arith;
}
