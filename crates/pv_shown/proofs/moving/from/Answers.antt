use Rattle.std.proofs.Common.{ltb, rules}
use Rattle.std.proofs.lemmas.List.Sorted.{IsPartitionPoint-from_clause, IsPartitionedBy-ltb}
use Rattle.pv_shown.proofs.moving.from.Goals as goal

pub returns-clause-point : goal.returns-clause-point
returns-clause-point c =
    IsPartitionPoint-from_clause (λ l. ltb l.turn c.args.n) _ _ c.partition_point.ensures.partitioned (IsPartitionedBy-ltb (λ l. l.turn) _ c.args.n c.requires) (λ a r q k. search rules)
