use Rattle.std.proofs.Common.{Err, ap, sym, subst}
use Rattle.spg_core.specs.declared.look.ApplyRefused.{ApplyRefused}
use Rattle.spg_core.specs.Looking.{IsBunch}
use Rattle.spg_desk.specs.Progress.{GoesOn}
use Rattle.spg_desk.proofs.Progress.{stepped_on, refused_on}
use Rattle.spg_desk.proofs.Inserting.{refused_puts}
use Rattle.spg_desk.proofs.put.part_on.Goals as goal

pub returns-in-Err-clause-puts : goal.returns-in-Err-clause-puts
returns-in-Err-clause-puts g c = refused_puts g.O.OpClass.meaning c.args.bare.now c.insert_part.new.self c.refuse.new.bare c.args.seat c.refuse.result c.in-Err.ensures.err c.refuse.ensures.puts

pub returns-in-Ok-clause-on : goal.returns-in-Ok-clause-on
returns-in-Ok-clause-on g c =
    let m = g.O.OpClass.meaning in
    let old = c.args.bare.now in
    let new = c.insert_part.new.self in
    subst (λ e. GoesOn m old new c.args.seat (IsBunch old c.args.seat c.args.parted.now) e) (sym c.ended.ensures) (stepped_on m old new c.args.seat (IsBunch old c.args.seat c.args.parted.now) c.in-Ok.out c.in-Ok.ensures.ok.1)

pub returns-in-Err-clause-on : goal.returns-in-Err-clause-on
returns-in-Err-clause-on g c =
    let m = g.O.OpClass.meaning in
    let old = c.args.bare.now in
    let new = c.refuse.new.bare in
    subst (λ e. GoesOn m old new c.args.seat (IsBunch old c.args.seat c.args.parted.now) e) (sym c.refuse.ensures.end) (refused_on m old new c.args.seat (IsBunch old c.args.seat c.args.parted.now) c.in-Err.refused (λ is. c.in-Err.ensures.changed.0 (ap (λ (e : ApplyRefused). Err e) is)))
