use Rattle.std.proofs.Common.{length}
use Rattle.spg_tree.specs.Table.{sheets_of}
use Rattle.spg_clauses.specs.declared.reason.Fault.{Fault}
use Rattle.spg_clauses.specs.Order.{Holds, IsFirst, tests}
use Rattle.spg_core.specs.Seen.{Seen}
use Rattle.spg_core.specs.Loading.{IsAdopted}
use Rattle.spgist.proofs.Adopting.{roots, no_fault, of_ok, of_err}
use Rattle.spgist.proofs.builds.adopt.Goals as goal

pub adopt-requires : goal.adopt-requires
adopt-requires g c = record { roots = roots g.O.OpClass.meaning c.args.table c.requires.shape c.requires.meta; latches = c.requires.latches }

pub unreachable-requires : goal.unreachable-requires
unreachable-requires g c =
    let m = g.O.OpClass.meaning in let t = c.args.table in
    no_fault m t c.in-Err.field-0 c.requires.shape (of_err (λ (seen : Seen _ _ _ _). IsAdopted m t seen) (λ (f : Fault). IsFirst (Holds m (sheets_of t)) (tests (length t.pages)) f) c.in_ok-state.field-0 c.in-Err.field-0 c.in-Err.is c.in_ok-state.ensures.value)

pub returns : goal.returns
returns g c =
    let m = g.O.OpClass.meaning in let t = c.args.table in
    of_ok (λ (seen : Seen _ _ _ _). IsAdopted m t seen) (λ (f : Fault). IsFirst (Holds m (sheets_of t)) (tests (length t.pages)) f) c.in_ok-state.field-0 c.in-Ok.state c.in-Ok.is c.in_ok-state.ensures.value
