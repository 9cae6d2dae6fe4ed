use Rattle.std.proofs.Common.{◌-◌, sym, subst}
use Rattle.spg_desk.specs.Progress.{IsReadOn}
use Rattle.spg_desk.proofs.scan.read_on.Goals as goal

pub returns-in-Ok-Read-clause-on : goal.returns-in-Ok-Read-clause-on
returns-in-Ok-Read-clause-on g c = (c.in-Scan.held - 1, c.in-Ok-Read.field-0, c.in-Ok-Read.ensures.ok, subst (λ out. IsReadOn out) (sym c.in-Ok-Read.field-0-is) tt)

pub returns-in-Ok-Latched-clause-on : goal.returns-in-Ok-Latched-clause-on
returns-in-Ok-Latched-clause-on g c = (c.in-Scan.held - 1, c.in-Ok-Latched.field-0, c.in-Ok-Latched.ensures.ok, subst (λ out. IsReadOn out) (sym c.in-Ok-Latched.field-0-is) tt)
