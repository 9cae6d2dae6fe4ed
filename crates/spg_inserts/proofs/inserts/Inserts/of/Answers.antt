use Rattle.std.proofs.Common.{length}
use Rattle.spg_inserts.proofs.Searches.{listed_sorted}
use Rattle.spg_inserts.proofs.inserts.Inserts.of.Goals as goal

pub invariant_of-result : goal.invariant_of-result
invariant_of-result g c = record {
  listed = listed_sorted c.args.journal.now (length c.args.journal.now) c.in_ok-openings.openings.items c.sort_unstable.new.self.items c.sort_unstable.ensures.permutation c.in_ok-openings.ensures;
  sorted = c.sort_unstable.ensures.sorted;
}
