use Rattle.std.proofs.Common.{inl, inr, reverse, refl}
use Rattle.spg_rows.specs.Present.{IsPresentWith}
use Rattle.spg_image.proofs.MetaOut.{represents_same}
use Rattle.spg_share.specs.Seats.{knows}
use Rattle.spg_share.proofs.seat.Seat.save.Goals as goal

pub returns-in-Copied-clause-did : goal.returns-in-Copied-clause-did
returns-in-Copied-clause-did g c =
    let m = g.O.OpClass.meaning in
    let did = c.in-Copied.ensures.did in
    let t = c.in-Copied.pages in (
      did.0,
      inl (
        t,
        record {
          copy = did.1;
          represents = represents_same m g.O.OpClass.code_number t (IsPresentWith (reverse (knows c.pages.new.self).seen)) did.1.stands.holds;
          saves = rw c.code-code.ensures at c.save_table.ensures.saves;
        },
      ),
    )

pub returns-in-Memory-clause-did : goal.returns-in-Memory-clause-did
returns-in-Memory-clause-did g c = (c.in-Memory.ensures.did, inr (refl, refl))
