use Rattle.std.proofs.Common.{◌≡◌, ◌∙◌, take, sym, subst}
use Rattle.spg_tree.specs.Table.{Table}
use Rattle.spg_records.specs.Traces.{copies_of}
use Rattle.spg_standby.specs.Pages.{TouchesWithin}
use Rattle.spg_standby.proofs.record.Record.fill_of.Goals as goal

pub returns : goal.returns
returns g c = λ within.
    let table = c.pages.ensures.value in
    let copies = subst (λ (t : Table). take c.copy_touched-count.result c.copy_touched-count.new.pages.items ≡ copies_of t t.touched) table (c.copy_touched-count.ensures.copies (subst TouchesWithin (sym table) within)) in
    c.stand_at.ensures (c.keep_behind.ensures ∙ copies)
