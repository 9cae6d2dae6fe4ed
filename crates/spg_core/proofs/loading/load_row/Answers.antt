use Rattle.std.proofs.Common.{Option, Some, subst}
use Rattle.spg_rows.specs.Table.{SetsKey}
use Rattle.spg_core.proofs.loading.load_row.Goals as goal

pub returns : goal.returns
returns g c =
    let row = c.args.entry.now.row in
    record {
      middle = c.claim.new.self;
      claimed = c.in_ok-claim.ensures.state;
      key = subst (λ (k : Option g.row.O-Key.Denot). SetsKey c.args.rows.now c.claim.new.self row (Some k)) c.in_ok-key.ensures c.in_ok-claim.ensures.key;
      put = c.put.ensures.state;
      keys = c.put.ensures.key;
    }
