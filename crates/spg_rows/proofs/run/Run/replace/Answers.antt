use Rattle.std.proofs.Common.{arith}
use Rattle.spg_rows.specs.Run.{IsAt}
use Rattle.spg_rows.proofs.RunRows.{entry_set, rises_set}
use Rattle.spg_rows.proofs.run.Run.replace.Goals as goal

pub index_mut-requires : goal.index_mut-requires
index_mut-requires g c =
    let stands : IsAt c.self.inside.entries.items c.args.row c.in-Some.at = rw c.self.view_is c.in-Some.ensures.at in
    omega (arith, stands.in_range, c.self.inside.entries.ok)

pub invariant_of-self : goal.invariant_of-self
invariant_of-self g c =
    let stands : IsAt c.self.inside.entries.items c.args.row c.in-Some.at = rw c.self.view_is c.in-Some.ensures.at in
    rises_set _ c.self.invariant _ _ stands _

pub returns-in-Some-clause-taken : goal.returns-in-Some-clause-taken
returns-in-Some-clause-taken g c =
    let stands : IsAt c.self.inside.entries.items c.args.row c.in-Some.at = rw c.self.view_is c.in-Some.ensures.at in
    rw (← c.self.view_is) (entry_set _ c.self.invariant _ _ stands _)
