use Rattle.std.proofs.Common.{subst}
use Rattle.spg_tree.specs.Table.{sheets_of}
use Rattle.spg_scan.specs.Reading.{Reads}
use Rattle.spg_scan.specs.Copying.{IsCopying}
use Rattle.spg_scan.proofs.Outcomes.{made, plain, none_asked}
use Rattle.spg_scan.proofs.scan.Scan.copy_at.Goals as goal

pub read_at-requires-clause-class : goal.read_at-requires-clause-class
read_at-requires-clause-class g c = λ x r a e.
    absurd (none_asked c.args.self.now c.args.item g.O.OpClass.meaning (sheets_of c.args.table.now) c.args.rows.now c.args.self.now c.args.place c.requires.place
    (subst (λ z. IsCopying (sheets_of c.args.table.now) c.args.rows.now c.args.self.now c.args.item z) c.in-None.is c.in_ok-copying.ensures) x r a e)

pub returns-in_ok-keep-in-Some-clause-ok : goal.returns-in_ok-keep-in-Some-clause-ok
returns-in_ok-keep-in-Some-clause-ok g c =
    made c.args.self.now c.args.item g.O.OpClass.meaning (sheets_of c.args.table.now) c.args.rows.now c.keep.new.self c.args.place c.requires.place c.in-Some.copying c.in_ok-keep-in-Some.field-0
    (subst (λ z. IsCopying (sheets_of c.args.table.now) c.args.rows.now c.args.self.now c.args.item z) c.in-Some.is c.in_ok-copying.ensures) c.in_ok-keep-in-Some.ensures.after c.in_ok-keep-in-Some.ensures.ok

pub returns-in_ok-read_at-in-None-clause-ok : goal.returns-in_ok-read_at-in-None-clause-ok
returns-in_ok-read_at-in-None-clause-ok g c = (
  plain c.args.self.now c.args.item g.O.OpClass.meaning (sheets_of c.args.table.now) c.args.rows.now c.read_at.new.self c.args.place c.requires.place
      (subst (λ z. IsCopying (sheets_of c.args.table.now) c.args.rows.now c.args.self.now c.args.item z) c.in-None.is c.in_ok-copying.ensures),
  subst (λ t. Reads g.O.OpClass.meaning (sheets_of c.args.table.now) t c.args.self.now c.read_at.new.self c.args.item) c.of.ensures.table c.in_ok-read_at-in-None.ensures.ok,
)
