use Rattle.std.proofs.Common.{◌≡◌, ℕ, inr, ap, ◌∙◌, subst, Result, Ok, Err}
use Rattle.std.specs.Prelude.{OnOk}
use Rattle.spg_image.specs.declared.refused.SaveRefused.{SaveRefused}
use Rattle.spg_image.specs.declared.refused.SaveRefused.TheVariants.{ImageFault, Memory}
use Rattle.spg_create.proofs.Making.{table_of, saved_as, image_verified}
use Rattle.spg_create.proofs.whole.create.Goals as goal

pub returns-in-Ok-save_table : goal.returns-in-Ok-save_table
returns-in-Ok-save_table g c =
    let made = table_of g.row.O.Denot g.O.OpClass.meaning g.O.OpClass.code_number c.in_ok-entries.entries c.in-Ok.table c.in_ok-entries.ensures.once c.in-Ok.ensures.represents c.in-Ok.ensures.at_rest c.in-Ok.ensures.few in
    let saved = saved_as c.code.result g.O.OpClass.code_number c.in-Ok.table (g.M.Images.held c.args.images.now) (g.M.Images.held c.save_table.new.images) c.args.name.now c.save_table.result (Ok c.in-Ok-save_table.pages) c.code.ensures c.in-Ok-save_table.is c.save_table.ensures.saves in
    record {
      entries = c.in_ok-entries.entries;
      kept = record { keeps = c.in_ok-entries.ensures.keeps; once = c.in_ok-entries.ensures.once };
      count = c.len-count.ensures;
      table = c.in-Ok.table;
      table_of = made;
      saved = saved;
      verified = image_verified g.O.OpClass.meaning g.O.OpClass.code_number c.in_ok-entries.entries c.in-Ok.table c.in-Ok-save_table.pages c.len-count.result c.in_ok-entries.ensures.once made c.len-count.ensures _ _ _ saved;
      same = subst (λ (r : Result ℕ SaveRefused). OnOk r (g.M.Images.faults c.save_table.new.images ≡ g.M.Images.faults c.args.images.now)) c.in-Ok-save_table.is c.save_table.ensures.cause.answered;
    }

pub returns-in-Err-ImageFault : goal.returns-in-Err-ImageFault
returns-in-Err-ImageFault g c = (
  record {
    entries = c.in_ok-entries.entries;
    skipped = c.in_ok-entries.skipped;
    kept = record { keeps = c.in_ok-entries.ensures.keeps; once = c.in_ok-entries.ensures.once };
    table = c.in-Ok.table;
    table_of = table_of g.row.O.Denot g.O.OpClass.meaning g.O.OpClass.code_number c.in_ok-entries.entries c.in-Ok.table c.in_ok-entries.ensures.once c.in-Ok.ensures.represents c.in-Ok.ensures.at_rest c.in-Ok.ensures.few;
    saved = saved_as c.code.result g.O.OpClass.code_number c.in-Ok.table (g.M.Images.held c.args.images.now) (g.M.Images.held c.save_table.new.images) c.args.name.now c.save_table.result (Err ImageFault) c.code.ensures (c.in-Err-ImageFault.is ∙ ap Err c.in-Err-ImageFault.field-0-is) c.save_table.ensures.saves;
    later = c.save_table.ensures.cause.later;
  },
  c.save_table.ensures.cause.fault (c.in-Err-ImageFault.is ∙ ap Err c.in-Err-ImageFault.field-0-is),
)

pub returns : goal.returns
returns g c = inr (
  record {
    entries = c.in_ok-entries.entries;
    skipped = c.in_ok-entries.skipped;
    kept = record { keeps = c.in_ok-entries.ensures.keeps; once = c.in_ok-entries.ensures.once };
    table = c.in-Ok.table;
    table_of = table_of g.row.O.Denot g.O.OpClass.meaning g.O.OpClass.code_number c.in_ok-entries.entries c.in-Ok.table c.in_ok-entries.ensures.once c.in-Ok.ensures.represents c.in-Ok.ensures.at_rest c.in-Ok.ensures.few;
    saved = saved_as c.code.result g.O.OpClass.code_number c.in-Ok.table (g.M.Images.held c.args.images.now) (g.M.Images.held c.save_table.new.images) c.args.name.now c.save_table.result (Err Memory) c.code.ensures (c.in-Err-Memory-save_table.is ∙ ap Err c.in-Err-Memory-save_table.field-0-is) c.save_table.ensures.saves;
    later = c.save_table.ensures.cause.later;
  },
  c.save_table.ensures.cause.memory (c.in-Err-Memory-save_table.is ∙ ap Err c.in-Err-Memory-save_table.field-0-is),
)
