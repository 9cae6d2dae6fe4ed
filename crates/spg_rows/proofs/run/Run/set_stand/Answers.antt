use Rattle.std.proofs.Common.{arith}
use Rattle.spg_rows.specs.Run.{IsAt}
use Rattle.spg_rows.proofs.RunRows.{stand_set}
use Rattle.spg_rows.proofs.run.Run.set_stand.Goals as goal

pub index_mut-requires : goal.index_mut-requires
index_mut-requires g c =
    let stands : IsAt c.self.inside.entries.items c.args.row c.in-Some.at = rw c.self.view_is c.in-Some.ensures.at in
    omega (arith, stands.in_range, c.self.inside.entries.ok)

pub invariant_of-self : goal.invariant_of-self
invariant_of-self g c =
    let stands : IsAt c.self.inside.entries.items c.args.row c.in-Some.at = rw c.self.view_is c.in-Some.ensures.at in
    let set = stand_set _ c.self.invariant _ _ stands c.index_mut.result.now c.args.stand c.index_mut.ensures.value in
    set.rises

pub returns-in-Some-clause-found : goal.returns-in-Some-clause-found
returns-in-Some-clause-found g c =
    let stands : IsAt c.self.inside.entries.items c.args.row c.in-Some.at = rw c.self.view_is c.in-Some.ensures.at in
    let set = stand_set _ c.self.invariant _ _ stands c.index_mut.result.now c.args.stand c.index_mut.ensures.value in
    rw (← c.self.view_is) set.found

pub returns-in-Some-clause-set : goal.returns-in-Some-clause-set
returns-in-Some-clause-set g c =
    let stands : IsAt c.self.inside.entries.items c.args.row c.in-Some.at = rw c.self.view_is c.in-Some.ensures.at in
    let set = stand_set _ c.self.invariant _ _ stands c.index_mut.result.now c.args.stand c.index_mut.ensures.value in
    rw (← c.self.view_is) set.sets
