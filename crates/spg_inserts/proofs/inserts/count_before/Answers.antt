use Rattle.std.proofs.Common.{rules}
use Rattle.std.proofs.lemmas.List.Sorted.{IsPartitionPoint-from_clause}
use Rattle.spg_inserts.specs.Openings.{is_before}
use Rattle.spg_inserts.proofs.Searches.{parted}
use Rattle.spg_inserts.proofs.inserts.count_before.Goals as goal

pub returns-clause-point : goal.returns-clause-point
returns-clause-point c = IsPartitionPoint-from_clause (is_before c.args.wanted.now) _ _ c.partition_point.ensures.partitioned (parted c.args.openings.now c.args.wanted.now c.requires) (λ a r q k. search rules)
