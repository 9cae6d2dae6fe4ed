use Rattle.std.proofs.Common.{refl, subst}
use Rattle.spg_build.specs.Gathered.{AreFirst}
use Rattle.spg_build.proofs.Gathering.{first_more}
use Rattle.spg_build.proofs.gather.FirstRows.catch_up.Goals as goal

pub loop-index-preserved : goal.loop-index-preserved
loop-index-preserved g c =
    let A = subst (λ n. AreFirst c.loop-index.self.rows.rows n c.args.entries.now) c.loop-index.invariant.count c.loop-index.invariant.first in record {
      count = refl;
      first = first_more c.loop-index.self.rows.rows c.add.new.self.rows c.args.entries.now c.loop-index.index c.index-entries-index.result A c.loop-index-test.true c.in_ok-add.ensures.ok;
    }
