use Rattle.std.proofs.Common.{◌<◌, arith}
use Rattle.spg_page.proofs.Areas.{known}
use Rattle.spg_page.proofs.area.TupleArea.piece.Goals as goal

pub piece_at-requires-clause-pointer : goal.piece_at-requires-clause-pointer
piece_at-requires-clause-pointer c = let v = known c.self.invariant c.self.view_is in rw (c.as_slice.ensures, c.deref.ensures) (omega (arith, c.self.invariant.len, v.count, v.bound, c.requires))

pub piece_at-requires-clause-within : goal.piece_at-requires-clause-within
piece_at-requires-clause-within c = let v = known c.self.invariant c.self.view_is in
    let l : c.args.index < c.self.inside.count = omega (arith, v.count, c.requires) in
    rw (c.as_slice.ensures, c.deref.ensures) (omega (arith, c.self.invariant.len, v.within c.args.index l))

pub returns-clause-spelled : goal.returns-clause-spelled
returns-clause-spelled c = let v = known c.self.invariant c.self.view_is in
    rw (c.piece_at.ensures, c.as_slice.ensures, c.deref.ensures) (v.spelled c.args.index (omega (arith, v.count, c.requires)))

pub returns-clause-value : goal.returns-clause-value
returns-clause-value c = let v = known c.self.invariant c.self.view_is in
    rw (c.piece_at.ensures, c.as_slice.ensures, c.deref.ensures) (v.value c.args.index (omega (arith, v.count, c.requires)))
