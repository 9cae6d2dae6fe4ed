use Rattle.std.proofs.Common.{◌∙◌, sym, ap}
use Rattle.spg_records.specs.Traces.{copies_of}
use Rattle.spg_standby.proofs.record.Record.of_none.Goals as goal

pub returns : goal.returns
returns g c = c.stand_at.ensures (c.new.ensures.items ∙ sym (ap (λ xs. copies_of c.args.state.now.table xs) c.requires))
