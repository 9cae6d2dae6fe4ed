use Rattle.std.proofs.Common.{Some, ◌∙◌, ap, sym, subst}
use Rattle.spg_core.specs.Looking.{LooksAt}
use Rattle.spg_desk.specs.Acting.{ended_of}
use Rattle.spg_desk.specs.Progress.{LooksOn}
use Rattle.spg_desk.specs.declared.ended.Looked.TheVariants as looked
use Rattle.spg_desk.proofs.Progress.{looked_on}
use Rattle.spg_desk.proofs.Inserting.{refused_puts}
use Rattle.spg_desk.proofs.put.look_on.Goals as goal

pub returns-in-Ok-Stepped-clause-on : goal.returns-in-Ok-Stepped-clause-on
returns-in-Ok-Stepped-clause-on g c =
    let m = g.O.OpClass.meaning in
    let looks = subst (λ look. LooksAt m c.args.bare.now c.insert_look.new.self c.args.seat look) c.in-Ok-Stepped.field-0-is c.in-Ok-Stepped.ensures.ok in
    subst (λ e. LooksOn m c.args.bare.now c.insert_look.new.self c.args.seat (looked.Stepped e)) (sym (c.ended.ensures ∙ ap ended_of c.in-Ok-Stepped.out-is)) (looked_on m c.args.bare.now c.insert_look.new.self c.args.seat c.in-Ok-Stepped.out looks.1)

pub returns-in-Err-clause-puts : goal.returns-in-Err-clause-puts
returns-in-Err-clause-puts g c = refused_puts g.O.OpClass.meaning c.args.bare.now c.insert_look.new.self c.refuse_step.new.bare c.args.seat (Some c.refuse_step.result) c.in-Err.ensures.err c.refuse_step.ensures.puts
