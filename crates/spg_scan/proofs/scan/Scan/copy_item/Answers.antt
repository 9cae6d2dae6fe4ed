use Rattle.std.proofs.Common.{refl, subst, inl}
use Rattle.spg_scan.specs.Copying.{IsCopyOf}
use Rattle.spg_scan.proofs.Outcomes.{on_err, free_apart}
use Rattle.spg_scan.proofs.scan.Scan.copy_item.Goals as goal

pub copy_held-requires-clause-place : goal.copy_held-requires-clause-place
copy_held-requires-clause-place g c = let (x, r, a) = subst (λ z. IsCopyOf c.args.self.now c.args.item z) c.in-None.is c.in_ok-copied.ensures.ok in (x, (r, a))

pub returns-in-Some-clause-ok : goal.returns-in-Some-clause-ok
returns-in-Some-clause-ok g c = inl (subst (λ z. IsCopyOf c.args.self.now c.args.item z) c.in-Some.is c.in_ok-copied.ensures.ok, refl)

pub returns-in_err-copied-clause-latched : goal.returns-in_err-copied-clause-latched
returns-in_err-copied-clause-latched g c = on_err c.from_residual.result (free_apart c.args.self.now c.args.item c.args.table.now c.args.seat c.in_err-copied.ensures.place)
