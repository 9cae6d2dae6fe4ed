use Rattle.std.proofs.Common.{arith}
use Rattle.spg_rows.specs.Run.{IsAt}
use Rattle.spg_rows.proofs.RunRows.{entry_removed, rises_removed}
use Rattle.spg_rows.proofs.run.Run.remove.Goals as goal
use Rattle.spg_rows.proofs.run.Run.remove.Goals.{in-Some-1, in-None-1}

pub remove-requires : goal.remove-requires
remove-requires g c =
    let stands : IsAt c.self.inside.entries.items c.args.row c.in-Some.at = rw c.self.view_is c.in-Some.ensures.at in
    omega (arith, stands.in_range, c.self.inside.entries.ok)

pub invariant_of-self : goal.invariant_of-self
invariant_of-self g c =
    let stands : IsAt c.self.inside.entries.items c.args.row c.in-Some.at = rw c.self.view_is c.in-Some.ensures.at in
    rw c.remove.ensures.items (rises_removed _ c.self.invariant _ _ stands)

pub invariant_of-self-in-Some-2 : goal.invariant_of-self-in-Some-2
invariant_of-self-in-Some-2 g c =
    let stands : IsAt c.self.inside.entries.items c.args.row c.in-Some.at = rw c.self.view_is c.in-Some.ensures.at in
    rw c.remove.ensures.items (rises_removed _ c.self.invariant _ _ stands)

pub returns-in-Some : goal.returns-in-Some
returns-in-Some g c =
    let stands : IsAt c.self.inside.entries.items c.args.row c.in-Some.at = rw c.self.view_is c.in-Some.ensures.at in
    elim c.match-remove.branch [
      | in-Some-1 w ↦ rw (w.self-is, c.remove.ensures.items, ← c.self.view_is) (entry_removed _ c.self.invariant _ _ stands)
      | in-None-1 w ↦ rw (w.self-is, c.remove.ensures.items, ← c.self.view_is) (entry_removed _ c.self.invariant _ _ stands)
    ]
